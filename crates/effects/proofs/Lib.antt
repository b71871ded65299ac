pub mod KindTable
pub mod Joining
pub mod Weaving
pub mod SpareTable
pub mod AllTables
pub mod Waking
