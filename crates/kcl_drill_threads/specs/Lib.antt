pub mod Asking
pub mod Feeding
pub mod Running
pub mod Beside
