-- Laws.
pub mod IntakeLaws
