pub mod Workers
pub mod Settings
