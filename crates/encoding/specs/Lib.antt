-- Plans and states as words.
pub mod Encoding
pub mod Holding
mod Examples
