-- What the engine covers: its limits, and the data of an image, a rule book, a log and an answer.
use Rattle.std.specs.Prelude.{Bool, List, ℕ, ℤ}
use Rattle.std.proofs.Math.Option.{Option}

-- ---- Numbers

-- at most 64 live rows
abbrev pub most_rows : ℕ
most_rows = 64

-- at most 16 rules, numbered in the order of their creation, from 0
abbrev pub most_rules : ℕ
most_rules = 16

-- at most 4 actions a rule
abbrev pub most_actions : ℕ
most_actions = 4

-- at most 4 terms a predicate
abbrev pub most_terms : ℕ
most_terms = 4

-- at most 4 pairs a match
abbrev pub most_pairs : ℕ
most_pairs = 4

-- at most 256 log operations
abbrev pub most_operations : ℕ
most_operations = 256

-- step limit 1..1,000
abbrev pub most_steps : ℕ
most_steps = 1000

-- a next handle is 1..4294967295
abbrev pub last_handle : ℕ
last_handle = 4294967295

-- ---- Rows and images

-- a row of a table, 0..3, with a value for each column, 0 first
pub record Row : Type 0 where
  pub handle : ℕ
  pub table : ℕ
  pub values : List ℤ

-- the next handle, and the live rows by rising handle
pub record Image : Type 0 where
  pub next : ℕ
  pub rows : List Row

-- ---- Rules and books

-- =, ≠, <, ≤, >, ≥
pub data Comparison : Type 0 where
  equal unequal less at_most greater at_least : Comparison

-- where a query's rows come from: a table as it is now, or one of the four transition tables
pub data Source : Type 0 where
  current : ℕ → Source
  inserted deleted new_updated old_updated : Source

-- an own column and a source column that a match compares
pub record Pair : Type 0 where
  pub own : ℕ
  pub other : ℕ

pub data Term : Type 0 where
  constant : Comparison → ℕ → ℤ → Term
  columns : Comparison → ℕ → ℕ → Term
  match : Source → List Pair → Term
  no_match : Source → List Pair → Term

-- the rows of a source of which all the terms hold
pub record Query : Type 0 where
  pub source : Source
  pub terms : List Term

pub data Expression : Type 0 where
  fixed : ℤ → Expression
  column : ℕ → Expression
  sum : ℕ → ℤ → Expression

-- an update has a column mask, and an expression for each set bit, lowest first
pub data Action : Type 0 where
  rollback : Action
  insert_row : ℕ → List ℤ → Action
  insert_from_query : ℕ → Query → List Expression → Action
  delete_rows : ℕ → List Term → Action
  update_rows : ℕ → ℕ → List Expression → List Term → Action

-- triggers: bit 0 inserted, bit 1 deleted, bit 2 updated; columns: a mask; precedes: bit j says that this rule precedes rule j
pub record Rule : Type 0 where
  pub active : Bool
  pub table : ℕ
  pub triggers : ℕ
  pub columns : ℕ
  pub precedes : ℕ
  pub condition : Option Query
  pub actions : List Action

pub record Book : Type 0 where
  pub limit : ℕ
  pub rules : List Rule

-- ---- Logs

-- an insert names its table, a delete and an update a handle; an update has a mask, and a value for each set bit, lowest first
pub data LogOperation : Type 0 where
  insert : ℕ → List ℤ → LogOperation
  delete : ℕ → LogOperation
  update : ℕ → ℕ → List ℤ → LogOperation

-- ---- How a run ends

pub data Reason : Type 0 where
  no_such_row full handles_used_up sum_out_of_range : Reason

pub data Outcome : Type 0 where
  commit rolled_back step_limit : Outcome
  failed : Reason → Outcome
