pub mod ManyRecords
pub mod Objects
pub mod Puts
pub mod Requests
pub mod Steps
