-- What every layer cites: definitions and laws that know nothing of fields or circuits, and limits that several layers name.
pub mod Pick
pub mod Exponent
pub mod Drops
pub mod Tables
pub mod Firsts
pub mod Copies
pub mod Modular
pub mod Powers
pub mod Roots
pub mod Fills
pub mod Cosets
pub mod Each
pub mod Digits
pub mod Limits
