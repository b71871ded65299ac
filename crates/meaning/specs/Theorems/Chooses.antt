-- Queries: when a term holds, which rows are chosen, and in which order.
use Rattle.std.specs.Prelude.{◌≡◌, ◌↔◌, ◌≢◌, true, List, ℕ, ℤ, ◌≤ℤ◌, ◌<ℤ◌}
use Rattle.std.proofs.Math.Option.{some}
use Rattle.meaning.specs.Base.{◌∈◌, Each, Picks}
use Rattle.meaning.specs.Covers.{Row, Rule, Comparison, Source, Pair, Term, Query}
use Rattle.meaning.specs.Covers.{equal, unequal, less, at_most, greater, at_least, current, inserted, deleted, new_updated, old_updated}
use Rattle.meaning.specs.Covers.{constant, columns, match, no_match}
use Rattle.meaning.specs.Processing.TransitionTables.{Transition, transition}
use Rattle.meaning.specs.Processing.Queries.{cell, source_rows, holds, chosen}
use Rattle.meaning.specs.Trace.{Point, Consideration}
use Rattle.meaning.specs.Runs.{Accepted, ending_of, numbered, image_after}
use Rattle.meaning.specs.Theorems.Shows.{RisesFrom}

-- =, ≠, <, ≤, >, ≥
abbrev pub Compares : Comparison → ℤ → ℤ → Type 0
Compares equal a b = a ≡ b
Compares unequal a b = a ≢ b
Compares less a b = a <ℤ b
Compares at_most a b = a ≤ℤ b
Compares greater a b = b <ℤ a
Compares at_least a b = b ≤ℤ a

-- own row x and source row y agree on all pairs
abbrev pub AgreeOn : List Pair → Row → Row → Type 0
AgreeOn ps x y = Each (λ p. cell x p.own ≡ cell y p.other) ps

-- by the transition tables of a consideration, and the rows that are live now
module _ (t : Transition) (rows : List Row) where
  -- some row of the source agrees on all pairs
  abbrev pub Matched : Source → List Pair → Row → Type 0
  Matched s ps x = (y : Row) × (y ∈ source_rows t rows s) × AgreeOn ps x y

  -- what a term says of a row
  abbrev pub TermSays : Row → Term → Type 0
  TermSays x (constant k c v) = Compares k (cell x c) v
  TermSays x (columns k c d) = Compares k (cell x c) (cell x d)
  TermSays x (match s ps) = Matched s ps x
  TermSays x (no_match s ps) = ¬ Matched s ps x

  pub record Chooses : Type 0 where
    -- a term holds exactly when what it says is so: "Match holds if some row of the source agrees on all pairs; no match is its opposite"
    pub term : (x : Row) (e : Term) → (holds t rows x e ≡ true) ↔ TermSays x e
    -- a query chooses exactly the rows of its source of which every term is so, in the source's order
    pub yields : (q : Query) → Picks (λ x. Each (TermSays x) q.terms) (source_rows t rows q.source) (chosen t rows q)
    -- the sources: of a table 0..3 its live rows, and the transition tables
    pub tables : (n : ℕ) → Picks (λ x. x.table ≡ n) rows (source_rows t rows (current n))
    pub of_inserted : source_rows t rows inserted ≡ t.inserted_rows
    pub of_deleted : source_rows t rows deleted ≡ t.deleted_rows
    pub of_new : source_rows t rows new_updated ≡ t.new_updated
    pub of_old : source_rows t rows old_updated ≡ t.old_updated

-- "Rows are taken by rising handle": whatever the source, what is chosen rises, so each once, by the transition tables of a consideration
-- and the rows that are live at any point of the run
abbrev pub Rises : {image book log : List ℕ} → Accepted image book log → Type 0
Rises a = (c : Consideration (ending_of a)) (r : Rule) → numbered a c.number ≡ some r → (p : Point (ending_of a)) (q : Query)
    → RisesFrom 0 (chosen (transition r (image_after a c.before).rows c.given) (image_after a p.before).rows q)
