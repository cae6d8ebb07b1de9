pub mod Faults
pub mod Text
pub mod Fields
pub mod Lists
pub mod Reading
