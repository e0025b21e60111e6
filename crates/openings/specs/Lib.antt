pub mod NextMatch
pub mod InBuffers
pub mod Blocks
