pub mod Passing
pub mod Feeds
