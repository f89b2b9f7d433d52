pub mod Leased
pub mod Draining
pub mod Keys
pub mod Standing
pub mod Steps
pub mod Laws
