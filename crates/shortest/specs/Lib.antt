pub mod ByteOrder
pub mod Shortest
pub mod ShortestText
pub mod Shortening
