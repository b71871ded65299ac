pub mod Frames
pub mod Tables
pub mod Order
pub mod Loops
