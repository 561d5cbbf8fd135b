-- Laws.
pub mod LabelLaws
pub mod Search
pub mod Numerals
pub mod Filling
