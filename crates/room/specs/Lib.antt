pub mod Room
pub mod Joins
pub mod Drawn
pub mod Turned
pub mod Represents
