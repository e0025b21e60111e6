pub mod PositionsOfEverySet
pub mod SizesKept
