pub mod FieldLemmas
pub mod TokenLemmas
pub mod IdLemmas
