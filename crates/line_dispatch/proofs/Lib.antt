pub mod Reached
pub mod Listing
pub mod Fresh
pub mod Plain
