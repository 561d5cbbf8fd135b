-- Laws.
pub mod PermutationLaws
pub mod Invariant
pub mod Parts
pub mod FromPlan
pub mod ChainLaws
pub mod Lengths
pub mod ColumnsLaws
pub mod Theorem
pub mod Unaffected
