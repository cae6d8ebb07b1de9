pub mod Numbers
pub mod Cuts
pub mod Seeds
pub mod Encodings
pub mod SettingWords
pub mod Ranges
pub mod Commands
