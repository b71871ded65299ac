-- Why the statements of specs/Theorems.antt are true. Nobody needs to read on to believe them.
-- Tools
pub mod Lists
-- Images, and operations that fit them
pub mod Lookups
pub mod Images
-- Byte layouts (1)
pub mod Parsing
pub mod RoundTrip
pub mod WrittenRead
-- The total order (5)
pub mod Orders
pub mod Cycles
-- Net effects of operations that fit (3)
pub mod Masks
pub mod JoinTable
pub mod NetEffects
pub mod Lives
pub mod Capacity
pub mod OwnTable
pub mod Stretches
-- What operations and actions make (8)
pub mod SetColumns
pub mod ActionResults
-- The operations of a run fit
pub mod Traces
pub mod ActionsFit
pub mod StepsFit
pub mod RunsFit
-- How a run ends (2)
pub mod Ends
-- Processing (4)
pub mod Marks
pub mod States
pub mod Lawful
pub mod OnlyLawful
pub mod Joined
pub mod Conditions
-- Rows that a rule is shown, operations that an image admits (3, 6)
pub mod Meets
pub mod Shows
pub mod Masked
pub mod Admitted
-- The rows that a query chooses (7)
pub mod Chooses
-- When an operation or an action fails (8)
pub mod OnlyLog
pub mod Reasons
-- What they make where they do not fail (8)
pub mod Performs
-- What is refused, and how long what is accepted can be (1, 2)
pub mod Refusals
pub mod Takes
pub mod RuleBytes
pub mod Printed
pub mod Lengths
-- All statements
pub mod Theorems
