pub mod Conversions
pub mod Fronts
pub mod Glyphs
pub mod Limits
pub mod Pairs
