pub mod Fields
pub mod ReadEnds
pub mod Rating
pub mod Serving
pub mod Showing
pub mod Steps
pub mod Value
