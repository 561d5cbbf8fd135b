-- Laws.
pub mod CircuitLaws
pub mod Accepted
