mod OneStep
mod Looking
mod Turns
mod Going
mod Logged
pub mod Outcomes
