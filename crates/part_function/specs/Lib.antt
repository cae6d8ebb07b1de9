pub mod Walk
pub mod Parts
pub mod PartsLaws
pub mod Answers
