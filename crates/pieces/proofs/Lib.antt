-- Laws.
pub mod WholeLaws
pub mod FaultLaws
pub mod ClosedForms
pub mod LineLaws
