pub mod Parts
pub mod Standing
pub mod Outlook
pub mod Written
pub mod Asks
pub mod Adding
pub mod Whole
