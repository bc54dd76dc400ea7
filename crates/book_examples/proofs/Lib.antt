pub mod Checked
pub mod Examples
pub mod Waits
pub mod Loads
