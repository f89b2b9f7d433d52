pub mod Closed
pub mod Holding
pub mod Leasing
pub mod Parents
