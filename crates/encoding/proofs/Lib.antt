-- Laws.
pub mod HeldLaws
pub mod EncodingLaws
