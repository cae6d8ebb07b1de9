pub mod Chains
pub mod Pushing
pub mod Linking
pub mod Layout
