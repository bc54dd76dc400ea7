pub mod Tests
pub mod Examples
pub mod Waits
pub mod Loads
