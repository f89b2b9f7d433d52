pub mod Generated
pub mod Coming
pub mod Apart
pub mod Fed
pub mod Summed
