-- Refusals: a call gives the first that applies to it, and a refused call leaves what it was lent as it was.
use Rattle.std.specs.Prelude.{◌≡◌, ◌↔◌, ◌⊎◌, List, [], ℕ, ◌≤◌, ◌<◌, length}
use Rattle.std.proofs.Math.Option.{Option, none, some}
use Rattle.meaning.specs.Reading.{Parser, read_all}
use Rattle.meaning.specs.Covers.{Book}
use Rattle.meaning.specs.ByteLayouts
use Rattle.meaning.specs.EntryPoints.{run_output, working_room, check_output, Refusal, refusal_number, output_too_short, room_too_short}
use Rattle.meaning.specs.EntryPoints.{image_malformed, book_malformed, precedes_cycle, log_malformed, input_too_long}
use Rattle.meaning.specs.EntryPoints.{Answer, refused_with, ran, count_of, run, CheckAnswer, refused_check, rule_count, check_book}
use Rattle.meaning.specs.EntryPoints.{rule_bytes, refused, most_input, verdict_on, refusal_line, printed}
use Rattle.meaning.specs.Theorems.{Leads, precedes_of}

-- the bytes are not as their layout wants them
abbrev pub Malformed : {A : Type 0} → Parser A → List ℕ → Type 0
Malformed layout s = read_all layout s ≡ none

-- a rule of the book leads to itself, inactive rules included
abbrev pub HasCycle : List ℕ → Type 0
HasCycle book = (b : Book) × (read_all ByteLayouts.book book ≡ some b) × ((k : ℕ) × Leads (precedes_of b.rules) k k)

-- the book has no rule k
abbrev pub NoRule : List ℕ → ℕ → Type 0
NoRule book k = (b : Book) × (read_all ByteLayouts.book book ≡ some b) × (length b.rules ≤ k)

-- ---- A call with refusals

-- n applies, and none of a lower number does
abbrev pub FirstOf : (Refusal → Type 0) → Refusal → Type 0
FirstOf applies n = applies n × ((r : Refusal) → refusal_number r < refusal_number n → ¬ applies r)

-- by the refusals that apply to the call, the refusal in its answer, if there is one, and what stays as it was
pub record Refuses (applies : Refusal → Type 0) (answer : Option Refusal) (Stays : Type 0) : Type 0 where
  -- refusal n is given exactly when n applies and none before it does
  pub given : (n : Refusal) → (answer ≡ some n) ↔ FirstOf applies n
  -- and none is given exactly when none applies
  pub accepted : (answer ≡ none) ↔ ((n : Refusal) → ¬ applies n)
  -- what stays where one is given
  pub stays : (n : Refusal) → answer ≡ some n → Stays

-- ---- A run

-- the refusal in an answer
abbrev pub refusal_in : Answer → Option Refusal
refusal_in (refused_with n) = some n
refusal_in (ran o count) = none

module _ (image book log output room : List ℕ) where
  -- refusal 7 is the program's
  abbrev pub AppliesToRun : Refusal → Type 0
  AppliesToRun output_too_short = length output < run_output
  AppliesToRun room_too_short = length room < working_room
  AppliesToRun image_malformed = Malformed ByteLayouts.image image
  AppliesToRun book_malformed = Malformed ByteLayouts.book book
  AppliesToRun precedes_cycle = HasCycle book
  AppliesToRun log_malformed = Malformed ByteLayouts.log log
  AppliesToRun input_too_long = ⊥

  -- a refused run reports count 0 and changes no lent byte
  abbrev pub RunRefuses : Type 0
  RunRefuses =
      let left = run image book log output room in
      Refuses AppliesToRun (refusal_in left.answer) ((count_of left.answer ≡ 0) × (left.output ≡ output) × (left.room ≡ room))

-- ---- A book check

abbrev pub refusal_in_check : CheckAnswer → Option Refusal
refusal_in_check (refused_check n) = some n
refusal_in_check (rule_count count) = none

module _ (book output : List ℕ) where
  -- it answers 1, 4 or 5
  abbrev pub AppliesToCheck : Refusal → Type 0
  AppliesToCheck output_too_short = length output < check_output
  AppliesToCheck room_too_short = ⊥
  AppliesToCheck image_malformed = ⊥
  AppliesToCheck book_malformed = Malformed ByteLayouts.book book
  AppliesToCheck precedes_cycle = HasCycle book
  AppliesToCheck log_malformed = ⊥
  AppliesToCheck input_too_long = ⊥

  -- and then writes nothing
  abbrev pub CheckRefuses : Type 0
  CheckRefuses = let left = check_book book output in Refuses AppliesToCheck (refusal_in_check left.answer) (left.output ≡ output)

-- ---- All calls

pub record Refusals : Type 0 where
  pub of_run : (image book log output room : List ℕ) → RunRefuses image book log output room
  pub of_check : (book output : List ℕ) → CheckRefuses book output
  -- the bytes of rule k are empty exactly when the book has refusal 4 or 5 or there is no rule k
  pub of_rule : (book : List ℕ) (k : ℕ) → (rule_bytes book k ≡ []) ↔ (Malformed ByteLayouts.book book ⊎ (HasCycle book ⊎ NoRule book k))
  -- the program gives refusal 7, before all others, exactly when its input passes 16,384 bytes
  pub of_program : (input : List ℕ) → (printed input ≡ refusal_line input_too_long) ↔ (most_input < length input)
  -- and of any other input the refusal of image, book and log as they are cut from it
  pub of_parts : (input : List ℕ) → length input ≤ most_input
      → (n : Refusal) → (printed input ≡ refusal_line n) ↔ (verdict_on input ≡ refused n)
