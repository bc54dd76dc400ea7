pub mod Opened
pub mod Playing
