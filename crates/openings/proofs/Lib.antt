pub mod BlockThere
pub mod MatchGoesOn
pub mod PutWhole
pub mod RestThere
