-- Laws that only the proofs of this crate use.
pub mod Strides
pub mod RowLoop
pub mod StageLoop
pub mod Parts
pub mod TableLoop
pub mod Tested
pub mod Standing
