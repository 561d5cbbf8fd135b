-- 01, 'Labels': definitions in 01's order, then their laws.
pub mod Refusals
pub mod Ranges
pub mod RangesLaws
pub mod Labels
pub mod Stored
pub mod Stretches
