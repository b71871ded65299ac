pub mod Words
pub mod Unchanged
pub mod Few
pub mod RulePlaces
pub mod Determined
