-- What replaying is.
pub mod Replay
