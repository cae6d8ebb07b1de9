pub mod Lists
pub mod Starts
pub mod Encoded
pub mod Held
pub mod Pieces
