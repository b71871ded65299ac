pub mod Aside
pub mod Fitting
pub mod One
pub mod Prepared
pub mod Whole
