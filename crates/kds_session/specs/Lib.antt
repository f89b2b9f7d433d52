pub mod Messages
pub mod Text
pub mod States
pub mod Standing
pub mod Next
pub mod Steps
pub mod Laws
