-- 01, the ranges of the parameters and the lookup modes: definitions in 01's order, then their laws.
pub mod Lookup
pub mod Parameters
pub mod ParametersLaws
