pub mod Leading
pub mod Shortest
pub mod Starts
pub mod Partitions
