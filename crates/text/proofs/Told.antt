-- What is told of a run is what is printed of it: an accepted run's image can be read back from the bytes that it wrote, and an answer
-- fixes the lines.
use mathlib.Core.Path.{◌≡◌, sym, ap, ◌∙◌}
use mathlib.Core.List.{List, [], ◌∷◌}
use mathlib.Core.Option.{none, some}
use Prim.Native.Nat.{ℕ, ◌-◌, ◌≤◌, ◌<◌}
use native.Mathlib.Omega.{arith}
use borrow.Author.Tests.{lt-ltb, le-ltb}
use lib.ListN.{length, take, drop, length-drop}
use lib.Seq.{take-append_seam, take_all}
use Rattle.std.specs.Prelude.{Option, None, Ok, Err}
use Rattle.meaning.specs.Base.{ascii}
use Rattle.meaning.specs.Reading.{read_all}
use Rattle.meaning.specs.Covers.{Image, commit, rolled_back, step_limit, failed}
use Rattle.meaning.specs.Covers as Covers
use Rattle.meaning.specs.ByteLayouts as ByteLayouts
use Rattle.meaning.specs.ByteLayouts.{image_bytes}
use Rattle.meaning.specs.Processing.{Ending}
use Rattle.meaning.specs.EntryPoints.{Verdict, refused, accepted, handed_back, verdict, answer_of, lines, run_lines}
use Rattle.meaning.specs.EntryPoints.{refusal_line, line, decimal, refusal_number, outcome_number, failure_number, reason_number}
use Rattle.meaning.specs.EntryPoints.{run, result_of, written, cleared, run_output, working_room, most_input, first_part, verdict_on, printed}
use Rattle.meaning.specs.Runs.{Accepted, ending_of, is_refused, is_accepted}
use Rattle.meaning.proofs.WrittenRead.{written_read}
use Rattle.meaning.proofs.RunsFit.{run_sound, run-end-sound, run-limit}
use Rattle.meaning.proofs.Theorems.{every-run, is_lawful}
use Rattle.image.specs.Images.{image_or}
use Rattle.image.specs.declared.Head.{Head}
use Rattle.processing.specs.declared.Ended.{Ended}
use Rattle.processing.specs.Endings.{outcome_meant}
use Rattle.engine.specs.declared.Refusal.{Refusal}
use Rattle.engine.specs.declared.Refusal.TheVariants as refusal
use Rattle.engine.specs.Answers.{Answer, refusal_meant, answer_meant, Runs}
use Rattle.lines.specs.Text.{Puts, PutsRun}
use Rattle.text.specs.Tells.{Showable, Tells, Telling, PutsLines}
use Rattle.text.specs.Texts.{Texts, run_on}
use Rattle.text.proofs.Parts.{part-image}

-- ---- Every verdict can be shown

handed-read : {image book log : List ℕ} (a : Accepted image book log) (o : Covers.Outcome)
    → let m = handed_back o a.start (ending_of a).image in read_all ByteLayouts.image (image_bytes m) ≡ some m
unfolding handed_back
handed-read a commit = written_read (run-end-sound a)
handed-read a rolled_back = written_read (run_sound a)
handed-read a step_limit = written_read (run_sound a)
handed-read a (failed r) = written_read (run_sound a)

pub showable : (image book log : List ℕ) → Showable (verdict image book log)
showable image book log = go (every-run image book log)
  where
    go : Rattle.meaning.specs.Runs.Spoken image book log → Showable (verdict image book log)
    go (is_refused r e) = rw e tt
    go (is_accepted a e) = rw e (handed-read a (ending_of a).outcome, omega (arith, (is_lawful a).within, run-limit a))

-- ---- A run's answer and output tell its verdict

pub run-tells : (image book log before after xs ys : List ℕ) {r : Answer} → run_output ≤ length before → working_room ≤ length xs
    → Runs image book log before after xs ys r → Tells after r (verdict image book log)
unfolding run result_of
run-tells image book log before after xs ys {r} o w runs =
    let v = verdict image book log in
    let same = rw (le-ltb (length before) run_output o, le-ltb (length xs) working_room w) at runs.result in
    record {
      answer = sym (ap (λ x. x.answer) same);
      rest = drop (length (written v)) before;
      output = sym (ap (λ x. x.output) same);
      showable = showable image book log;
    }

-- the image of a run stands at the front of what it wrote
pub front_read : {image : List ℕ} {r : Answer} {start : Image} {e : Ending} → Tells image r (accepted start e)
    → read_all ByteLayouts.image (take (first_part image) image) ≡ some (handed_back e.outcome start e.image)
unfolding written
front_read {start = start} {e = e} t =
    let m = handed_back e.outcome start e.image in
    let read = t.showable.0 in
    rw (t.output, part-image (image_bytes m) t.rest m read, take-append_seam (image_bytes m) t.rest) read

-- ---- Lines

module _ {image : List ℕ} {before after : List ℕ} {n : ℕ} where
  pub refused-lines : (r : Refusal) {m : ℕ} → m ≡ refusal_number (refusal_meant r)
      → Puts before after (line (ascii "refused") (decimal m ∷ [])) n → PutsLines before after image (Err r) n
  unfolding answer_meant answer_of lines refusal_line
  refused-lines r {m} e p = record { is = λ v t. go v t.answer }
    where
      go : (v : Verdict) → answer_meant (Err r) ≡ answer_of v → Puts before after (lines v) n
      go (refused x) q = let same : x ≡ refusal_meant r = cc in rw (same, ← e) p
      go (accepted start end) q = absurd (let z : ◌≡◌ {A = ℕ} 0 1 = cc in omega arith)

  pub ran-lines : (ended : Ended) {a b end : ℕ} → end ≡ first_part image → PutsRun before after (take (end - 0) image) a b ended.count n
      → a ≡ outcome_number (outcome_meant ended.outcome) → b ≡ reason_number (outcome_meant ended.outcome)
      → PutsLines before after image (Ok ended) n
  unfolding answer_meant answer_of lines run_lines
  ran-lines ended {a} {b} {end} cut p f g = record { is = λ v t. go v t t.answer }
    where
      go : (v : Verdict) → Tells image (Ok ended) v → answer_meant (Ok ended) ≡ answer_of v → Puts before after (lines v) n
      go (refused x) t q = absurd (let z : ◌≡◌ {A = ℕ} 0 1 = cc in omega arith)
      go (accepted start e) t q =
          let same : outcome_meant ended.outcome ≡ e.outcome = cc in
          let times : ended.count ≡ e.count = cc in
          let whole : end - 0 ≡ first_part image = omega (arith, cut) in
          rw (← same, ← times, ← f, ← g, same) (p.is (handed_back e.outcome start e.image) (rw whole (front_read t)))

-- ---- What a run that was not refused tells

module _ {image : List ℕ} {ended : Ended} (telling : Telling image (Ok ended)) where
  pub count_small : ended.count ≤ 4294967295
  unfolding answer_meant answer_of
  count_small = go telling.verdict telling.tells telling.tells.answer
    where
      go : (v : Verdict) → Tells image (Ok ended) v → answer_meant (Ok ended) ≡ answer_of v → ended.count ≤ 4294967295
      go (refused x) t q = absurd (let z : ◌≡◌ {A = ℕ} 0 1 = cc in omega arith)
      go (accepted start e) t q = let times : ended.count ≡ e.count = cc in omega (arith, t.showable.1)

  -- its image is not malformed
  pub not-bad : {A : Type 0} {r : Option Head} {end : ℕ} → end ≡ first_part image
      → image_or (take (end - 0) image) r ≡ read_all ByteLayouts.image (take (end - 0) image) → r ≡ None → A
  unfolding answer_meant answer_of image_or
  not-bad {A} {r} {end} cut f is = go telling.verdict telling.tells telling.tells.answer
    where
      go : (v : Verdict) → Tells image (Ok ended) v → answer_meant (Ok ended) ≡ answer_of v → A
      go (refused x) t q = absurd (let z : ◌≡◌ {A = ℕ} 0 1 = cc in omega arith)
      go (accepted start e) t q =
          let whole : end - 0 ≡ first_part image = omega (arith, cut) in
          let none-some : none ≡ some (handed_back e.outcome start e.image) = rw (is, whole) at f ∙ front_read t in
          absurd (let z : ◌≡◌ {A = ℕ} 0 1 = cc in omega arith)

-- numbers of outcomes and reasons have one digit
pub outcome-small : (o : Covers.Outcome) → outcome_number o ≤ 4294967295
unfolding outcome_number
outcome-small commit = omega arith
outcome-small rolled_back = omega arith
outcome-small step_limit = omega arith
outcome-small (failed r) = omega arith

pub failure-small : (r : Covers.Reason) → failure_number r ≤ 4294967295
unfolding failure_number
failure-small Covers.Reason.no_such_row = omega arith
failure-small Covers.Reason.full = omega arith
failure-small Covers.Reason.handles_used_up = omega arith
failure-small Covers.Reason.sum_out_of_range = omega arith

pub reason-small : (o : Covers.Outcome) → reason_number o ≤ 4294967295
unfolding reason_number
reason-small commit = omega arith
reason-small rolled_back = omega arith
reason-small step_limit = omega arith
reason-small (failed r) = failure-small r

pub refusal-small : (r : Refusal) → refusal_number (refusal_meant r) ≤ 4294967295
unfolding refusal_number refusal_meant
refusal-small refusal.Output = omega arith
refusal-small refusal.Room = omega arith
refusal-small refusal.Image = omega arith
refusal-small refusal.Book = omega arith
refusal-small refusal.Cycle = omega arith
refusal-small refusal.Log = omega arith

-- ---- The input, cut

-- a part up to a place, and one from a place on, as the language cuts them
up_to : (s : List ℕ) {end k : ℕ} → end ≡ k → take (end - 0) s ≡ take k s
up_to s {end} {k} e = let same : end - 0 ≡ k = omega (arith, e) in rw same

from_on : (s : List ℕ) {at k : ℕ} → at ≡ k → take (length s - at) (drop at s) ≡ drop k s
from_on s {at} {k} e = take_all (length s - at) (drop at s) (omega (arith, length-drop at s)) ∙ rw e

-- what is left of the input after the first part
abbrev pub left : List ℕ → ℕ → List ℕ
left input a = take (length input - a) (drop a input)

module _ (input : List ℕ) {a b : ℕ} (first : a ≡ first_part input) (second : b ≡ first_part (left input a)) {before after xs ys : List ℕ}
    {r : Answer} (runs : Runs (take (a - 0) input) (take (b - 0) (left input a)) (left (left input a) b) before after xs ys r) where
  -- the parts are cut as the specification cuts them
  cut-runs : let more = drop (first_part input) input in
      Runs (take (first_part input) input) (take (first_part more) more) (drop (first_part more) more) before after xs ys r
  cut-runs =
      let more = left input a in
      let rest : more ≡ drop (first_part input) input = from_on input first in
      let book : take (b - 0) more ≡ take (first_part more) more = up_to more second in
      let log : left more b ≡ drop (first_part more) more = from_on more second in
      rw (up_to input first, book, log, rest) at runs

  -- the run tells the verdict on the input
  pub cut-tells : run_output ≤ length before → working_room ≤ length xs → Tells after r (verdict_on input)
  unfolding verdict_on
  cut-tells o w = run-tells _ _ _ before after xs ys o w cut-runs

  -- and leaves what the run of the input leaves
  pub cut-texts : length input ≤ most_input → {out out' : List ℕ} {n : ℕ} → Puts out out' (lines (verdict_on input)) n
      → Texts input before after xs ys out out' n
  unfolding printed run_on
  cut-texts h p = record {
    puts = rw (le-ltb most_input (length input) h) p;
    image_left = rw (le-ltb most_input (length input) h, cut-runs.result);
    room_left = rw (le-ltb most_input (length input) h, cut-runs.result);
  }

-- an input that is too long is refused, and nothing is run
pub too-long-texts : (input : List ℕ) {image room out out' : List ℕ} {n : ℕ} → most_input < length input
    → Puts out out' (line (ascii "refused") (decimal 7 ∷ [])) n → Texts input image image room room out out' n
unfolding printed refusal_line refusal_number run_on result_of written cleared
too-long-texts input h p = record {
  puts = rw (lt-ltb most_input (length input) h) p;
  image_left = rw (lt-ltb most_input (length input) h);
  room_left = rw (lt-ltb most_input (length input) h);
}
