pub mod LogLemmas
pub mod Rates
pub mod ReadLemmas
pub mod Routings
pub mod SavedWindows
pub mod ScaleSteps
