pub mod Headers
pub mod Findings
pub mod Values
pub mod Table
pub mod Find
pub mod Target
pub mod Response
