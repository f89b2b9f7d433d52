pub mod Results
pub mod Member
pub mod Kinds
