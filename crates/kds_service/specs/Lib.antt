pub mod Clocks
pub mod Keyed
pub mod Lines
pub mod Indexes
pub mod Shown
