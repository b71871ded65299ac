pub mod Chosen
pub mod Picks
pub mod Columns
