pub mod ByElements
pub mod Codes
pub mod Choices
pub mod Ways
pub mod Going
pub mod Under
pub mod Weighing
pub mod Putting
