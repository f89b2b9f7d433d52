pub mod Fields
pub mod Tokens
pub mod Ids
