pub mod Reads
pub mod Counting
pub mod Summing
