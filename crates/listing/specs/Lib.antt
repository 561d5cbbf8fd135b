pub mod Listing
pub mod Ends
pub mod Places
pub mod Cursor
pub mod EndLaws
pub mod Writing
