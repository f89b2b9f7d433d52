pub mod Ends
pub mod Participants
pub mod Running
pub mod Told
