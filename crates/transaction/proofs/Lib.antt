pub mod Accepted
mod Runs
