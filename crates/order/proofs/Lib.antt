pub mod Numbers
pub mod Masks
pub mod Building
