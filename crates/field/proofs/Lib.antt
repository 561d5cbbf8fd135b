-- Laws that only the proofs of this crate use.
pub mod Wide
pub mod Numerals
pub mod FieldLaws
