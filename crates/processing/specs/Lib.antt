pub mod Endings
pub mod Rest
