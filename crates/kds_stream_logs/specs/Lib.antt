pub mod Logs
pub mod Batches
pub mod Rating
pub mod Routes
pub mod Saved
pub mod Steps
