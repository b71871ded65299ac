mod Refused
pub mod Judged
pub mod Running
pub mod Counted
pub mod Sizes
pub mod Determined
