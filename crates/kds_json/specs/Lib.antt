pub mod Operations
pub mod Many
pub mod Asked
