pub mod Lists
pub mod Changes
pub mod Retirements
pub mod Planning
pub mod Indexes
