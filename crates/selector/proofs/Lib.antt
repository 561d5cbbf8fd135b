-- Laws.
pub mod RecordLaws
pub mod MadeUpLaws
pub mod WalkLaws
pub mod GrowthLaws
pub mod SearchLaws
pub mod RunLaws
