-- Laws.
pub mod JudgingLaws
pub mod PaddingLaws
pub mod Kept
pub mod Accepted
pub mod Full
