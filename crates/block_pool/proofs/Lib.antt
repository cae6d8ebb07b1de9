pub mod Made
pub mod Links
pub mod Extended
pub mod Dropped
pub mod Begun
pub mod Views
pub mod Pushed
