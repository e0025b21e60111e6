pub mod NextOpening
