pub mod Apart
pub mod Judging
pub mod Living
pub mod Order
pub mod Seconds
pub mod Standing
pub mod Verdict
