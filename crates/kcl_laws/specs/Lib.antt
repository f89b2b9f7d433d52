pub mod Acting
pub mod RowLines
pub mod TenureLines
pub mod Makings
pub mod Deliveries
pub mod Recorded
pub mod ShownLines
