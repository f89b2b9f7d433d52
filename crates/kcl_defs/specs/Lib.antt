pub mod Plans
pub mod Consumers
pub mod Lives
pub mod Workers
pub mod WorkerLives
pub mod Places
