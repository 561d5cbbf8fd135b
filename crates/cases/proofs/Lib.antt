-- Facts about the worked circuits.
pub mod Columns
pub mod Drawn
pub mod Listed
pub mod Markers
pub mod SaidOfCalls
pub mod SaidOfListing
pub mod SaidOfOthers
pub mod Selectors
pub mod Cases
