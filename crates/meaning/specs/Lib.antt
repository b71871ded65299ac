-- What document 01 means, one module for each of its headings, in its order. Base and Reading are tools, Values the arithmetic of
-- values; Everything unfolds all of it, for cases and proofs.
pub mod Base
pub mod Reading
pub mod Values
pub mod Covers
pub mod ByteLayouts
pub mod EntryPoints
pub mod RowOperations
pub mod Processing
pub mod CheckedRuns
pub mod Trace
pub mod Made
pub mod Runs
pub mod Theorems
pub mod Everything
