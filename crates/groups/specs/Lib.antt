pub mod Counting
pub mod Groups
pub mod Asked
pub mod Laws
