pub mod Audited
pub mod Progress
pub mod Stages
pub mod Text
