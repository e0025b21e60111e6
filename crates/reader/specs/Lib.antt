pub mod Shown
pub mod Recording
