-- What is true of the specification, by document 01's headings: statements only. proofs/Theorems.antt has a proof of each, under its name.
use Rattle.std.specs.Prelude.{◌≡◌, ◌≢◌, Bool, true, false, ◌&&◌, List, [], ◌∷◌, ◌++◌, map, ℕ, ◌*◌, ◌≤◌, ◌<◌, eqb, ltb, length, if◌then◌else◌}
use Rattle.std.proofs.Math.Option.{none, some}
use Rattle.meaning.specs.Base.{any, all}
use Rattle.meaning.specs.Reading.{read_all}
use Rattle.meaning.specs.Covers.{most_rows, Row, Image, Rule, Query, commit}
use Rattle.meaning.specs.ByteLayouts
use Rattle.meaning.specs.ByteLayouts.{image_bytes}
use Rattle.meaning.specs.EntryPoints.{verdict, outcome_number, reason_number, written}
use Rattle.meaning.specs.RowOperations.{Effect, RowOperation, NetEffect, inserts, nothing, kind, unreachable, join_kind, join, single}
use Rattle.meaning.specs.RowOperations.{net, net_effect, effect_at, row_at}
use Rattle.meaning.specs.Processing.{Event, made, run_actions, consider_rule}
use Rattle.meaning.specs.Processing.TotalOrder.{precedes_rule, total_order}
use Rattle.meaning.specs.Processing.TransitionTables.{transition}
use Rattle.meaning.specs.Processing.Queries.{chosen}
use Rattle.meaning.specs.Processing.Actions.{went}
use Rattle.meaning.specs.Trace.{operations_in, since_last, given_to, joined_in, Point, Making, masks_on, deleted_in, from_outside, Differs}
use Rattle.meaning.specs.Runs.{Accepted, ending_of, Spoken, waits_for, image_after}
-- Topics with a file of their own, by section: 1 Lengths, 2 Refusals, 3 Admitted, 4 Lawful, 6 Shows and OwnTable, 7 Chooses, 8 Reasons
-- and Performs
pub mod Lengths
pub mod Refusals
pub mod Admitted
pub mod Lawful
pub mod Shows
pub mod OwnTable
pub mod Chooses
pub mod Reasons
pub mod Performs

-- ---- 1. Byte layouts

-- an accepted image, read and written back, gives its own bytes
abbrev pub RoundTrip : Type 0
RoundTrip = (s : List ℕ) (m : Image) → read_all ByteLayouts.image s ≡ some m → image_bytes m ≡ s

-- Lengths: how long a slice of each layout is

-- ---- 2. Entry points

-- every run is refused or accepted
abbrev pub EveryRun : Type 0
EveryRun = (image book log : List ℕ) → Spoken image book log

-- Refusals: which number is given, and when

module _ {image book log : List ℕ} (a : Accepted image book log) where
  -- an accepted run ends in a known way
  pub record Ends : Type 0 where
    pub known : outcome_number (ending_of a).outcome ≤ 3
    pub reasonless : outcome_number (ending_of a).outcome ≢ 3 → reason_number (ending_of a).outcome ≡ 0
    pub reasoned : outcome_number (ending_of a).outcome ≡ 3 → reason_number (ending_of a).outcome ≢ 0
    -- unless it commits, the image handed back is the start image's bytes exactly
    pub unchanged : outcome_number (ending_of a).outcome ≢ 0 → written (verdict image book log) ≡ image

  -- runs chain: the image of a commit is itself accepted, and its next handle is no lower than before
  pub record Chains : Type 0 where
    pub reads : (ending_of a).outcome ≡ commit → read_all ByteLayouts.image (written (verdict image book log)) ≡ some (ending_of a).image
    pub onward : a.start.next ≤ (ending_of a).image.next

-- ---- 3. Row operations and net effects

-- Admitted: each row operation of a run may be made on the image as it is then

-- a net effect says of each handle what `net` says
abbrev pub SaysNet : Type 0
SaysNet = (h : ℕ) (os : List RowOperation) → effect_at h (net_effect os) ≡ net h os

-- the join is not marked
abbrev pub reachable : ℕ → ℕ → Bool
reachable a b = ltb (join_kind a b) unreachable

abbrev pub kinds : List ℕ
kinds = 0 ∷ 1 ∷ 2 ∷ 3 ∷ []

-- of three kinds, where no join is marked, it does not matter which two join first
abbrev pub associates : ℕ → ℕ → ℕ → Bool
associates a b c =
    if reachable a b && reachable b c && reachable (join_kind a b) c && reachable a (join_kind b c)
    then eqb (join_kind (join_kind a b) c) (join_kind a (join_kind b c)) else true

pub record JoinTable : Type 0 where
  -- one test over the whole table
  pub tested : all (λ a. all (λ b. all (λ c. associates a b c) kinds) kinds) kinds ≡ true
  -- the effects' kinds join by the table
  pub by_kind : (a b : Effect) → reachable (kind a) (kind b) ≡ true → kind (join a b) ≡ join_kind (kind a) (kind b)
  -- and so do effects, with masks and rows
  pub associative : (a b c : Effect) → reachable (kind a) (kind b) ≡ true → reachable (kind b) (kind c) ≡ true
      → reachable (kind (join a b)) (kind c) ≡ true → reachable (kind a) (kind (join b c)) ≡ true
      → join (join a b) c ≡ join a (join b c)

module _ {image book log : List ℕ} (a : Accepted image book log) where
  -- no run meets a marked join
  pub record Reachable : Type 0 where
    -- as an operation joins what waits for a rule
    pub single : (m : Making (ending_of a)) (k h : ℕ)
        → join_kind (kind (net h (since_last k m.before))) (kind (single h m.operation)) ≢ unreachable
    -- as what waits joins what a rule was given
    pub stretch : (p : Point (ending_of a)) (k h : ℕ)
        → join_kind (kind (joined_in h nothing (given_to k p.before))) (kind (net h (since_last k p.before))) ≢ unreachable

  -- the net effect of all operations so far, from outside
  pub record FromOutside : Type 0 where
    -- it is told by the row at the start, the row at that point, and the masks between
    pub told : (p : Point (ending_of a)) (h : ℕ)
        → net h (operations_in p.before)
        ≡ from_outside (row_at h a.start.rows) (row_at h (image_after a p.before).rows) (masks_on h (operations_in p.before))
        (λ r. deleted_in h r (operations_in p.before))
    -- the final rows are the start rows, less the deleted, plus the inserted; every other row differs at most in the columns listed
    pub rows : (h : ℕ) → Differs (net h (operations_in (ending_of a).trace)) (row_at h a.start.rows) (row_at h (ending_of a).image.rows)

  pub record Sizes : Type 0 where
    -- what waits for a rule never names more than 128 handles
    pub waiting : (p : Point (ending_of a)) (k : ℕ) → length (waits_for k p.before) ≤ 2 * most_rows
    -- no handle is given twice: an insert's is not the start image's, nor an earlier insert's
    pub fresh : (m : Making (ending_of a)) (r : Row) → m.operation ≡ inserts r → a.start.next ≤ r.handle
    pub once : (m : Making (ending_of a)) (r s : Row) (between later : List Event) → m.operation ≡ inserts r
        → m.after ≡ between ++ (made (inserts s) ∷ later) → r.handle < s.handle

-- ---- 4. Processing

-- Lawful: the sentences about a run, and that they determine it

-- at every point, what a rule was given, joined in order, joined with what still waits for it, is the net effect of all operations so far
abbrev pub Joined : {image book log : List ℕ} → Accepted image book log → Type 0
Joined a = (p : Point (ending_of a)) (k h : ℕ)
    → join (joined_in h nothing (given_to k p.before)) (effect_at h (waits_for k p.before)) ≡ net h (operations_in p.before)

-- a rule's actions run, with the transition tables of what it is given, if its condition is absent or its query yields a row, and only then
pub record Conditions : Type 0 where
  pub absent : (r : Rule) (given : NetEffect) (m : Image) → r.condition ≡ none
      → consider_rule r given m ≡ run_actions (transition r m.rows given) r.actions m
  pub yields : (r : Rule) (given : NetEffect) (m : Image) (q : Query) → r.condition ≡ some q
      → (x : Row) (xs : List Row) → chosen (transition r m.rows given) m.rows q ≡ x ∷ xs
      → consider_rule r given m ≡ run_actions (transition r m.rows given) r.actions m
  pub empty : (r : Rule) (given : NetEffect) (m : Image) (q : Query) → r.condition ≡ some q
      → chosen (transition r m.rows given) m.rows q ≡ [] → consider_rule r given m ≡ went []

-- ---- 5. Total order

-- rule i precedes rule j, or precedes one that leads to it
pub data Leads (precedes : List ℕ) : ℕ → ℕ → Type 0 where
  straight : {i j : ℕ} → precedes_rule precedes i j ≡ true → Leads precedes i j
  through : {i j k : ℕ} → precedes_rule precedes i j ≡ true → Leads precedes j k → Leads precedes i k

abbrev pub precedes_of : List Rule → List ℕ
precedes_of rules = map (λ r. r.precedes) rules

pub record Ordered (rules : List Rule) (order : List ℕ) : Type 0 where
  -- every rule once
  pub all : (k : ℕ) → k < length rules → any (eqb k) order ≡ true
  pub only : (k : ℕ) → any (eqb k) order ≡ true → k < length rules
  pub once : (xs ys : List ℕ) (k : ℕ) → order ≡ xs ++ (k ∷ ys) → any (eqb k) (xs ++ ys) ≡ false
  -- a rule comes after all its predecessors
  pub after : (xs ys : List ℕ) (k : ℕ) → order ≡ xs ++ (k ∷ ys) → (i : ℕ) → precedes_rule (precedes_of rules) i k ≡ true
      → any (eqb i) xs ≡ true
  -- a lower rule that is not taken yet still has a predecessor that is not taken
  pub lowest : (xs ys : List ℕ) (k : ℕ) → order ≡ xs ++ (k ∷ ys) → (j : ℕ) → j < k → any (eqb j) xs ≡ false
      → (i : ℕ) × (precedes_rule (precedes_of rules) i j ≡ true) × (any (eqb i) xs ≡ false)

abbrev pub TotalOrder : Type 0
TotalOrder = (rules : List Rule) (order : List ℕ) → total_order rules ≡ some order → Ordered rules order

-- ---- 6. Transition tables

-- Shows: which rows they show

-- OwnTable: only what is on a rule's own table wakes it or is shown to it

-- ---- 7. Queries

-- Chooses: which rows a query chooses, and whether it yields one

-- ---- 8. Actions

-- Reasons: when an action fails, and with which reason

-- Performs: what an action makes, and what an operation of the log makes
