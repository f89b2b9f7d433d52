mod Accounts
mod Closed
mod Dealt
mod Drained
mod Full
mod Joined
mod Ran
