pub mod Keys
pub mod Encodings
pub mod Trials
