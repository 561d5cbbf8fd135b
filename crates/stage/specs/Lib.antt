pub mod Circuit
pub mod Planned
pub mod Steps
pub mod Listed
pub mod Worked
