-- Laws.
pub mod HandLaws
