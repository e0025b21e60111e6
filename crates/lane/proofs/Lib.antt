pub mod EachPasses
pub mod GapItems
pub mod LaneItems
pub mod LettersPass
pub mod PlainBytes
