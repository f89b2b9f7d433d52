pub mod Checkpoints
pub mod Circle
pub mod Hashes
pub mod Held
pub mod Moments
pub mod Names
pub mod NumberText
pub mod Span
