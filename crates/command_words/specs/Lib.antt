pub mod Refusals
pub mod Values
pub mod Names
pub mod Options
pub mod Settings
pub mod Words
