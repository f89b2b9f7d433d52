pub mod Digests
pub mod Facts
pub mod MomentLemmas
pub mod NumberLemmas
pub mod Uniform
pub mod WideLemmas
