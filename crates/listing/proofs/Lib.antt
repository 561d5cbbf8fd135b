pub mod ReaderLaws
pub mod Worked
pub mod Written
