-- What is read off a well-formed book once: where its rules stand, the own table of each active one, what each looks out for, and their
-- total order.
use Rattle.std.specs.Prelude.{◌≡◌, List, ℕ, ◌≤◌, ◌<◌, get_or, if◌then◌else◌}
use Rattle.std.proofs.Math.Option.{some}
use Rattle.std.proofs.Math.ListN.{get_elem?}
use Rattle.meaning.specs.Reading.{Read, bad, got}
use Rattle.meaning.specs.Covers.{Rule}
use Rattle.meaning.specs.ByteLayouts as ByteLayouts
use Rattle.meaning.specs.Processing.TotalOrder.{total_order}
use Rattle.words.specs.Words.{readable}
use Rattle.order.specs.Order.{order_meant}
use Rattle.plan.specs.declared.Listed.{Listed}
use Rattle.plan.specs.declared.Plan.{Plan}
use Rattle.plan.specs.declared.making.Outline.{Outline}

-- the rules of a book of n
abbrev pub rules_in : List ℕ → ℕ → List Rule
rules_in s n = readable n (ByteLayouts.rule n) s 8

-- the own table of a rule that is active; 4 for one that is not
unfoldable pub active_table : Rule → ℕ
active_table rule = if rule.active then rule.table else 4

-- an outline of a rule that was read up to a place
pub record OutlineOf (rule : Rule) (next : ℕ) (o : Outline) : Type 0 where
  pub table : o.table ≡ active_table rule
  pub triggers : o.triggers ≡ rule.triggers
  pub columns : o.columns ≡ rule.columns
  pub precedes : o.precedes ≡ rule.precedes
  pub ends : o.next ≡ next

-- where a rule was read
abbrev pub Outlined : Read Rule → Outline → Type 0
Outlined bad o = Unit {0}
Outlined (got rule next) o = OutlineOf rule next o

-- rule k stands at a place, and has an own table if it is active
pub record Placed (s : List ℕ) (n k : ℕ) (start table : ℕ) : Type 0 where
  pub rule : Rule
  pub next : ℕ
  pub read : ByteLayouts.rule n s start ≡ got rule next
  pub listed : get_elem? (rules_in s n) k ≡ some rule
  pub fits : rule.table ≤ 3
  pub is : table ≡ active_table rule

-- what is listed past the last rule
abbrev pub unlisted : Listed
unlisted = record { start = 0; triggers = 0; columns = 0 }

-- a rule looks out for its triggers, in its columns
pub record Watched (rule : Rule) (g c : ℕ) : Type 0 where
  pub triggers : g ≡ rule.triggers
  pub columns : c ≡ rule.columns

-- a plan lists the rules of a book of n, in whatever order
pub record Lists (s : List ℕ) (n : ℕ) (plan : Plan) : Type 0 where
  pub count : plan.count ≡ n
  pub placed : (k : ℕ) → k < n → Placed s n k (get_or plan.rules k unlisted).start (get_or plan.tables k 0)
  pub watched : (k : ℕ) (b : k < n)
      → Watched (placed k b).rule (get_or plan.rules k unlisted).triggers (get_or plan.rules k unlisted).columns
  pub absent : (k : ℕ) → n ≤ k → k < 16 → get_or plan.tables k 0 ≡ 5

-- a plan of a book of n rules: it lists them, and has their total order
pub record Planned (s : List ℕ) (n : ℕ) (plan : Plan) : Type 0 where
  pub lists : Lists s n plan
  pub ordered : order_meant n plan.order ≡ total_order (rules_in s n)
