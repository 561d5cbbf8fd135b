-- 02, Change 1: an unpadded circuit, padded to the trace length.
pub mod Padding
pub mod Judging
pub mod Parts
pub mod Lengths
pub mod Traces
pub mod PartsLaws
pub mod Sums
mod Worked
