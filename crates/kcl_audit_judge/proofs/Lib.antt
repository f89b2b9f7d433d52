pub mod JudgeSteps
pub mod GoodLines
pub mod LeaseLines
pub mod LiveStreams
pub mod ReadTold
pub mod StreamsAfter
