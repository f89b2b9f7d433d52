pub mod Readings
pub mod Responses
pub mod Stands
pub mod Texts
