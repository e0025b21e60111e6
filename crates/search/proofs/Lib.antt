pub mod OneMore
pub mod SearchOverAText
