-- Where the parts of an input end
mod Parts
-- What is told of a run, and printed
mod Told
-- The contract leaves no choice
mod Determined
