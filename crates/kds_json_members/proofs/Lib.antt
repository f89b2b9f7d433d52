pub mod Digests
pub mod Members
pub mod Taken
pub mod Nulls
