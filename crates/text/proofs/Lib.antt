-- Lemmas of the crate's proofs.
pub mod FieldsAt
pub mod Groups
