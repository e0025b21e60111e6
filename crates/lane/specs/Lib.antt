pub mod Gaps
pub mod Lanes
pub mod Passing
