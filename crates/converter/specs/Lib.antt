pub mod Passes
pub mod Passing
pub mod Runs
pub mod Stretches
pub mod Writing
