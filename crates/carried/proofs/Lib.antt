-- Laws.
pub mod Carried
pub mod Lists
pub mod Calls
