-- What the decoders of actions, rules and books answer.
use Rattle.std.specs.Prelude.{◌≡◌, List, [], ℕ, ◌≤◌, ltb, length, if◌then◌else◌, Option, Some, None}
use Rattle.std.proofs.Math.Option.{Option as Maybe, none, some}
use Rattle.std.specs.Int.Count.{ones}
use Rattle.meaning.specs.Reading.{Read, bad, got, on_from, many, read_all}
use Rattle.meaning.specs.Covers as Covers
use Rattle.meaning.specs.ByteLayouts as ByteLayouts
use Rattle.meaning.specs.EntryPoints.{first_rule}
use Rattle.words.specs.Words.{option_as, read_as, readable}
use Rattle.fields.specs.Fields.{values_at}
use Rattle.terms.specs.Terms.{terms_meant, query_meant}
use Rattle.terms.specs.declared.Query.{Query}
use Rattle.book.specs.declared.Action.{Action}
use Rattle.book.specs.declared.Action.TheVariants as action
use Rattle.book.specs.declared.Actions.{Actions}
use Rattle.book.specs.declared.Head.{Head}
use Rattle.book.specs.declared.Rule.{Rule}
use Rattle.book.specs.declared.Frame.{Frame}

-- n expressions from a place on
abbrev pub expressions_at : List ℕ → ℕ → ℕ → List Covers.Expression
expressions_at s n at = readable n ByteLayouts.expression s at

-- the action that is meant, its values, expressions and terms read where they stand, in a rule with these triggers
abbrev pub action_meant : List ℕ → ℕ → Action → Covers.Action
action_meant s triggers action.Rollback = Covers.Action.rollback
action_meant s triggers (action.Insert table values) = Covers.Action.insert_row table (values_at s 4 values)
action_meant s triggers (action.InsertFromQuery table query expressions) =
    Covers.Action.insert_from_query table (query_meant s triggers query) (expressions_at s 4 expressions)
action_meant s triggers (action.Delete table terms) = Covers.Action.delete_rows table (terms_meant s triggers terms)
action_meant s triggers (action.Update table mask expressions terms) =
    Covers.Action.update_rows table mask (expressions_at s (ones mask) expressions) (terms_meant s triggers terms)

abbrev pub action_or : List ℕ → ℕ → Option (Action × ℕ) → Read Covers.Action
action_or s triggers = read_as (action_meant s triggers)

abbrev pub condition_meant : List ℕ → ℕ → Option Query → Maybe Covers.Query
condition_meant s triggers = option_as (query_meant s triggers)

abbrev pub condition_or : List ℕ → ℕ → Option (Option Query × ℕ) → Read (Maybe Covers.Query)
condition_or s triggers = read_as (condition_meant s triggers)

unfoldable pub actions_meant : List ℕ → ℕ → Actions → List Covers.Action
actions_meant s triggers a = readable a.count (ByteLayouts.action triggers) s a.first

abbrev pub actions_or : List ℕ → ℕ → Option (Actions × ℕ) → Read (List Covers.Action)
actions_or s triggers = read_as (actions_meant s triggers)

-- a rule from its head, its condition and its actions
unfoldable pub rule_of : Head → Maybe Covers.Query → List Covers.Action → Covers.Rule
rule_of h condition actions =
    record {
      active = h.active;
      table = h.table;
      triggers = h.triggers;
      columns = h.columns;
      precedes = h.precedes;
      condition = condition;
      actions = actions;
    }

-- a rule as far as its head says it: what wakes it, and its transition tables, ask no more of it
unfoldable pub head_rule : Head → Covers.Rule
head_rule h = rule_of h none []

-- the rule whose head was read: condition and actions follow
abbrev pub head_then : List ℕ → Option (Head × ℕ) → Read Covers.Rule
head_then s None = bad
head_then s (Some (h, after)) =
    on_from (ByteLayouts.condition h.triggers s after) (λ q next.
    on_from (ByteLayouts.actions h.triggers s next) (λ acts end. got (rule_of h q acts) end))

-- where a head ends
abbrev pub head_end : Option (Head × ℕ) → ℕ
head_end None = 0
head_end (Some (h, after)) = after

-- the rule that is meant, its condition and actions read where they stand
unfoldable pub rule_meant : List ℕ → Rule → Covers.Rule
rule_meant s r =
    rule_of r.head (condition_meant s r.head.triggers r.condition) (actions_meant s r.head.triggers r.actions)

abbrev pub rule_or : List ℕ → Option (Rule × ℕ) → Read Covers.Rule
rule_or s = read_as (rule_meant s)

-- the book that is meant: its rules are those that can be read
unfoldable pub book_meant : List ℕ → Frame → Covers.Book
book_meant s f = record { limit = f.limit; rules = readable f.count (ByteLayouts.rule f.count) s first_rule }

abbrev pub book_or : List ℕ → Option Frame → Maybe Covers.Book
book_or s = option_as (book_meant s)

-- the slice is a well-formed book, with this step limit and so many rules, which stand one after another up to its end
pub record WellFormed (s : List ℕ) (limit count : ℕ) : Type 0 where
  pub few : count ≤ 16
  pub read : many count (ByteLayouts.rule count) s 8 ≡ got (readable count (ByteLayouts.rule count) s 8) (length s)
  pub book : read_all ByteLayouts.book s ≡ some (record { limit = limit; rules = readable count (ByteLayouts.rule count) s 8 })

-- what an answer tells of the slice, its rule count too: a well-formed book, or nothing
abbrev pub Told : List ℕ → Option Frame → Type 0
Told s None = Unit {0}
Told s (Some f) = WellFormed s f.limit f.count

-- from a place up to where a value ends that was read there
abbrev pub span_to : {A : Type 0} → ℕ → Read A → Option (ℕ × ℕ)
span_to start bad = None
span_to start (got a end) = Some (start, end)

-- the rule after those that were read
abbrev pub span_after : {A : Type 0} → List ℕ → ℕ → Read A → Option (ℕ × ℕ)
span_after s n bad = None
span_after s n (got a start) = span_to start (ByteLayouts.rule n s start)

-- where rule k of a book of n rules stands
abbrev pub rule_span : List ℕ → ℕ → ℕ → Option (ℕ × ℕ)
rule_span s n k = if ltb k n then span_after s n (many k (ByteLayouts.rule n) s first_rule) else None

-- it stands in the slice
pub record SpanInside (s : List ℕ) (span : ℕ × ℕ) : Type 0 where
  pub rises : span.0 ≤ span.1
  pub ends : span.1 ≤ length s
