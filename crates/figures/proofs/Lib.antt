pub mod AddedCounts
pub mod CountingByItems
pub mod CountingOverOpenings
pub mod CountingOverRefusals
pub mod RestToCount
pub mod RunsCount
pub mod StretchEnds
