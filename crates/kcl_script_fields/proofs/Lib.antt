pub mod Forms
pub mod Fronts
pub mod Parts
pub mod OriginLemmas
pub mod RawLemmas
