-- Functions for C and Rust: what each call answers and leaves.
pub mod Planning
pub mod Intake
pub mod Calls
pub mod Listed
pub mod Padded
pub mod PlanningLaws
pub mod Lengths
pub mod CallsLaws
pub mod ListedLaws
pub mod PaddedLaws
mod Examples
