pub mod Laws
pub mod Keeping
pub mod Loops
mod Narrowing
mod Asking
mod Few
mod Columns
mod Gathered
mod Matches
