pub mod Table
pub mod Room
pub mod Marking
pub mod Stamping
pub mod Kept
pub mod Flags
pub mod Outcome
pub mod Rounds
