pub mod Lines
pub mod LineBuffer
pub mod Taking
pub mod Telling
pub mod Writing
