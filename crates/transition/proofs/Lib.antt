pub mod Lookups
pub mod Effects
pub mod Drawing
pub mod Afterwards
