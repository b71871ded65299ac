pub mod Cells
pub mod Columns
pub mod Values
pub mod Expressions
pub mod OneRow
pub mod Rows
