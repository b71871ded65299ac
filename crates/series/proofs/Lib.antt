pub mod Parsed
pub mod Ranged
pub mod Composed
pub mod Loops
