pub mod Items
pub mod Letters
pub mod Pieces
pub mod States
