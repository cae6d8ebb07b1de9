pub mod Passing
pub mod Walking
pub mod Checking
