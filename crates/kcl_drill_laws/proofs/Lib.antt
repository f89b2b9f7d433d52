mod Accounts
pub mod AfterClose
mod Answered
mod Come
mod Counts
pub mod Drills
mod Horizons
mod Leased
pub mod Origins
mod Parents
mod Puts
