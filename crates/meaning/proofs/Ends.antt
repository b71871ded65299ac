-- Every run is refused or accepted, by cases of what is read. An accepted one ends in a known way: by cases of its outcome, and, unless it
-- commits, by the round trip of the start image.
use mathlib.Core.Path.{◌≡◌, refl, ap, ◌∙◌}
use mathlib.Core.Logic.{◌≢◌}
use mathlib.Core.List.{List}
use mathlib.Core.Option.{Option, none, some}
use Prim.Native.Nat.{ℕ, ◌≤◌}
use native.Mathlib.Omega.{arith}
use Rattle.meaning.specs.Reading.{read_all}
use Rattle.meaning.specs.Covers.{Image, Book, LogOperation, Outcome, Reason, commit, rolled_back, step_limit, failed, no_such_row}
use Rattle.meaning.specs.Covers.{full, handles_used_up, sum_out_of_range}
use Rattle.meaning.specs.ByteLayouts
use Rattle.meaning.specs.ByteLayouts.{image_bytes}
use Rattle.meaning.specs.EntryPoints.{accepted, JudgedBook, refused_book, accepted_book, judge_book, with_book, verdict, image_malformed}
use Rattle.meaning.specs.EntryPoints.{log_malformed, outcome_number, failure_number, reason_number, handed_back, written}
use Rattle.meaning.specs.Theorems.{EveryRun, Ends}
use Rattle.meaning.specs.Runs.{Accepted, ending_of, Spoken, is_refused, is_accepted}
use Rattle.meaning.proofs.RoundTrip.{round_trip}

-- ---- Refused or accepted

pub accepted-verdict : {image book log : List ℕ} (a : Accepted image book log) → verdict image book log ≡ accepted a.start (ending_of a)
unfolding verdict with_book ending_of
accepted-verdict a = rw (a.image_read, a.book_judged, a.log_read)

pub every-run : EveryRun
unfolding verdict with_book
every-run image book log = on_image (read_all ByteLayouts.image image) refl
  where
    on_log : (start : Image) (b : Book) (order : List ℕ) → read_all ByteLayouts.image image ≡ some start
        → judge_book book ≡ accepted_book b order → (r : Option (List LogOperation)) → read_all ByteLayouts.log log ≡ r → Spoken image book log
    on_log start b order e f none g = is_refused log_malformed (rw (e, f, g))
    on_log start b order e f (some operations) g =
        let a : Accepted image book log = record {
          start = start;
          rule_book = b;
          order = order;
          operations = operations;
          image_read = e;
          book_judged = f;
          log_read = g;
        } in
        is_accepted a (accepted-verdict a)

    on_book : (start : Image) → read_all ByteLayouts.image image ≡ some start → (j : JudgedBook) → judge_book book ≡ j → Spoken image book log
    on_book start e (refused_book r) f = is_refused r (rw (e, f))
    on_book start e (accepted_book b order) f = on_log start b order e f (read_all ByteLayouts.log log) refl

    on_image : (r : Option Image) → read_all ByteLayouts.image image ≡ r → Spoken image book log
    on_image none e = is_refused image_malformed (rw e)
    on_image (some start) e = on_book start e (judge_book book) refl

-- ---- The outcome

pub known-outcome : (o : Outcome) → outcome_number o ≤ 3
unfolding outcome_number
known-outcome commit = omega arith
known-outcome rolled_back = omega arith
known-outcome step_limit = omega arith
known-outcome (failed r) = omega arith

no-reason : (o : Outcome) → outcome_number o ≢ 3 → reason_number o ≡ 0
unfolding outcome_number reason_number
no-reason commit n = refl
no-reason rolled_back n = refl
no-reason step_limit n = refl
no-reason (failed r) n = absurd (n refl)

some-failure : (r : Reason) → failure_number r ≢ 0
unfolding failure_number
some-failure no_such_row e = omega arith
some-failure full e = omega arith
some-failure handles_used_up e = omega arith
some-failure sum_out_of_range e = omega arith

some-reason : (o : Outcome) → outcome_number o ≡ 3 → reason_number o ≢ 0
unfolding outcome_number reason_number
some-reason commit e = absurd (omega arith)
some-reason rolled_back e = absurd (omega arith)
some-reason step_limit e = absurd (omega arith)
some-reason (failed r) e = some-failure r

-- ---- What is handed back

pub handed-start : (o : Outcome) (start end : Image) → outcome_number o ≢ 0 → handed_back o start end ≡ start
unfolding outcome_number handed_back
handed-start commit start end n = absurd (n refl)
handed-start rolled_back start end n = refl
handed-start step_limit start end n = refl
handed-start (failed r) start end n = refl

pub every-ends : {image book log : List ℕ} (a : Accepted image book log) → Ends a
unfolding written
every-ends {image} {book} {log} a = record {
  known = known-outcome (ending_of a).outcome;
  reasonless = no-reason (ending_of a).outcome;
  reasoned = some-reason (ending_of a).outcome;
  unchanged = λ n. ap written (accepted-verdict a) ∙ ap image_bytes (handed-start (ending_of a).outcome a.start (ending_of a).image n)
      ∙ round_trip image a.start a.image_read;
}
