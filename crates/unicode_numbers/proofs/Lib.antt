pub mod Table
pub mod OnlyPosition
