pub mod Rules
pub mod Shares
pub mod Marks
pub mod Starts
pub mod Gathering
pub mod KeyPieces
pub mod Answers
