pub mod Moving
pub mod Inserting
pub mod Taking
