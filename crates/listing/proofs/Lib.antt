pub mod FilledFromHere
pub mod LinesAreShort
pub mod NumbersOpened
pub mod RowsOfATest
pub mod TextOverABuffer
