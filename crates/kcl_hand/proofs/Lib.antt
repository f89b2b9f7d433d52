pub mod Handings
mod ReadLemmas
mod Widened
mod Jointly
mod Tenancies
mod Serving
mod MarkLemmas
mod HandLemmas
mod HandedLemmas
mod Examples
pub mod Running
