mod ReadLemmas
pub mod BatchLemmas
pub mod CountLemmas
pub mod RowLookups
pub mod IteratorLemmas
pub mod SumLemmas
pub mod Totals
pub mod Surveyed
