pub mod Children
pub mod Errors
pub mod Bodies
pub mod Records
pub mod Room
pub mod Writing
