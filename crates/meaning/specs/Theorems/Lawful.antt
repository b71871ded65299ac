-- What document 01, "Processing", says of any ending of an accepted run, its outcome, count, image and trace: a line a sentence. None of
-- them says how an ending is worked out, and exactly one ending is lawful: the one that `process` gives.
use Rattle.std.specs.Prelude.{◌≡◌, true, false, List, ℕ, ◌≤◌}
use Rattle.std.proofs.Math.Option.{some}
use Rattle.meaning.specs.Base.{first_with}
use Rattle.meaning.specs.Covers.{Rule, commit, step_limit}
use Rattle.meaning.specs.Processing.{Ending, run_log, consider_rule}
use Rattle.meaning.specs.Trace.{considerations_in, Consideration, Makes}
use Rattle.meaning.specs.Runs.{Accepted, ending_of, waits_for, numbered, is_triggered, image_after}

module _ {image book log : List ℕ} (a : Accepted image book log) where
  pub record Lawful (e : Ending) : Type 0 where
    -- the log's operations run in order: the run begins with exactly what they make of the start image
    pub begins : Makes e (run_log a.operations a.start) e.trace
    -- the rule that is considered is the first triggered one in total order
    pub first : (c : Consideration e) → first_with (is_triggered a c.before) a.order ≡ some c.number
    -- it is given what waits for it: the net effect of exactly the operations since its last consideration, or since the start
    pub given : (c : Consideration e) → c.given ≡ waits_for c.number c.before
    -- what follows is exactly what it makes, with what it is given, of the image as it is then
    pub acts : (c : Consideration e) (r : Rule) → numbered a c.number ≡ some r
        → Makes e (consider_rule r c.given (image_after a c.before)) c.after
    -- the run commits only if no rule is triggered
    pub commits : e.outcome ≡ commit → (k : ℕ) → is_triggered a e.trace k ≡ false
    -- it stops at the limit only if a rule is triggered
    pub stops : e.outcome ≡ step_limit → (k : ℕ) × (is_triggered a e.trace k ≡ true)
    -- and the limit has been reached
    pub reached : e.outcome ≡ step_limit → e.count ≡ a.rule_book.limit
    -- the count never passes the limit
    pub within : e.count ≤ a.rule_book.limit
    -- it is the number of considerations
    pub counted : e.count ≡ considerations_in e.trace
    -- the image at the end is the start image with the operations made on it
    pub replayed : e.image ≡ image_after a e.trace

  -- what `process` gives is lawful
  abbrev pub IsLawful : Type 0
  IsLawful = Lawful (ending_of a)

  -- and nothing else is: an ending with another outcome, count, image or trace breaks a sentence
  abbrev pub OnlyLawful : Type 0
  OnlyLawful = (e : Ending) → Lawful e → e ≡ ending_of a
