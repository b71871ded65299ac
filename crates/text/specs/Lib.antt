pub mod Tells
pub mod Texts
pub mod Determined
