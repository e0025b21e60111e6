pub mod MeaningsKept
pub mod WordNumbers
