pub mod Woken
pub mod Walked
