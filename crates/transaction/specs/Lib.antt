pub mod Handed
pub mod Transacts
