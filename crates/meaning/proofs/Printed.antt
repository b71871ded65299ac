-- The line of a refusal tells its number, and begins as no run's does; so the program prints it only for that refusal, and no verdict is
-- refusal 7.
use mathlib.Core.Path.{◌≡◌, refl, ap}
use mathlib.Core.Logic.{◌↔◌}
use mathlib.Core.Bool.{Bool, true, false}
use mathlib.Core.List.{List}
use mathlib.Core.Option.{some}
use Prim.Native.Nat.{ℕ, ◌+◌, ◌≤◌, ◌<◌}
use native.Mathlib.Omega.{arith}
use lib.Dec.{ltb}
use lib.ListN.{length, get_or, replicate, length-replicate}
use borrow.Author.Tests.{ltb-true, ltb-false, le-ltb}
use Rattle.meaning.specs.Covers.{Image, Outcome, commit, rolled_back, step_limit, failed}
use Rattle.meaning.specs.EntryPoints.{run_output, working_room, most_input, Refusal, refusal_number, output_too_short, room_too_short}
use Rattle.meaning.specs.EntryPoints.{image_malformed, book_malformed, precedes_cycle, log_malformed, input_too_long, outcome_number}
use Rattle.meaning.specs.EntryPoints.{Verdict, refused, accepted, verdict, handed_back, answer_of, verdict_on, run_lines, refusal_line}
use Rattle.meaning.specs.EntryPoints.{lines, printed}
use Rattle.meaning.specs.Everything.{everything}
use Rattle.meaning.specs.Theorems.Refusals.{AppliesToRun}
use Rattle.meaning.proofs.Ends.{known-outcome}
use Rattle.meaning.proofs.Refusals.{same_number, NoneBelow, Told, first, none_yet, nor, verdict-tells}

-- no verdict is refusal 7
never-too-long : (image book log : List ℕ) → ¬ (verdict image book log ≡ refused input_too_long)
unfolding answer_of refusal_number
never-too-long image book log e =
    let output : List ℕ = replicate run_output 0 in
    let room : List ℕ = replicate working_room 0 in
    let below2 : NoneBelow (AppliesToRun image book log output room) 2
    = nor output_too_short (λ n. omega (arith, length-replicate {A = ℕ} run_output 0)) none_yet in
    let below3 = nor room_too_short (λ n. omega (arith, length-replicate {A = ℕ} working_room 0)) below2 in
    go output room (rw e at (verdict-tells image book log output room below3))
  where
    go : (output room : List ℕ) → Told (AppliesToRun image book log output room) (some input_too_long) → ⊥
    go output room (first a below) = a

-- the ninth byte of a refusal's line tells its number
line-number : (r : Refusal) → get_or (refusal_line r) 8 0 ≡ 48 + refusal_number r
unfolding everything
line-number output_too_short = refl
line-number room_too_short = refl
line-number image_malformed = refl
line-number book_malformed = refl
line-number precedes_cycle = refl
line-number log_malformed = refl
line-number input_too_long = refl

-- and the first byte, that it is no run's
run-begins : (o : Outcome) (count : ℕ) (m : Image) → get_or (run_lines o count m) 0 0 ≡ 48 + outcome_number o
unfolding everything
run-begins commit count m = refl
run-begins rolled_back count m = refl
run-begins step_limit count m = refl
run-begins (failed r) count m = refl

line-begins : (r : Refusal) → get_or (refusal_line r) 0 0 ≡ 114
unfolding everything
line-begins r = refl

lines-refused : (v : Verdict) (n : Refusal) → lines v ≡ refusal_line n → v ≡ refused n
unfolding lines
lines-refused (refused r) n q =
    let ninth = ap (λ (l : List ℕ). get_or l 8 0) q in ap refused (same_number r n (omega (arith, line-number r, line-number n)))
lines-refused (accepted start e) n q =
    let m = handed_back e.outcome start e.image in
    let one = ap (λ (l : List ℕ). get_or l 0 0) q in
    absurd (omega (arith, run-begins e.outcome e.count m, line-begins n, known-outcome e.outcome))

pub parts-refuse : (input : List ℕ) → length input ≤ most_input
    → (n : Refusal) → (printed input ≡ refusal_line n) ↔ (verdict_on input ≡ refused n)
unfolding printed lines
parts-refuse input l n =
    let short = le-ltb most_input (length input) l in (λ q. lines-refused (verdict_on input) n (rw short at q), λ e. rw (short, e))

pub program-refuses : (input : List ℕ) → (printed input ≡ refusal_line input_too_long) ↔ (most_input < length input)
unfolding printed verdict_on
program-refuses input = go (ltb most_input (length input)) refl
  where
    go : (t : Bool) → ltb most_input (length input) ≡ t → (printed input ≡ refusal_line input_too_long) ↔ (most_input < length input)
    go true e = (λ q. ltb-true most_input (length input) e, λ l. rw e)
    go false e =
        let short = ltb-false most_input (length input) e in
        (λ q. absurd (never-too-long _ _ _ ((parts-refuse input short input_too_long).0 q)), λ l. absurd (omega arith))
