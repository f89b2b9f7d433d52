pub mod Adding
pub mod Lists
pub mod Readings
pub mod Making
pub mod Tellings
pub mod Noting
