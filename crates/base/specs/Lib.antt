pub mod Choice
pub mod Below
