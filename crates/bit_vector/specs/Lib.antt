pub mod Bits
pub mod Samples
