pub mod Fits
pub mod Active
pub mod Ordered
pub mod Planning
pub mod Standing
