mod Emptying
mod Rows
pub mod Started
