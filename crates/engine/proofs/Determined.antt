-- The contracts leave no choice: they are equations with the specification, and an answer can be had back from what it stands for.
use Rattle.std.specs.Prelude.{Ok, Err}
use mathlib.Core.Path.{◌≡◌, refl, sym, ap, ◌∙◌}
use Rattle.meaning.specs.EntryPoints as EntryPoints
use Rattle.meaning.specs.EntryPoints.{CheckAnswer, refused_check, rule_count, refused_with, ran}
use Rattle.processing.specs.declared.Outcome.{Outcome}
use Rattle.processing.proofs.Outcomes.{outcome_back, outcome-back}
use Rattle.engine.specs.declared.Refusal.{Refusal}
use Rattle.engine.specs.declared.Refusal.TheVariants.{Output, Room, Image, Book, Cycle, Log}
use Rattle.engine.specs.Answers.{Answer, Checked, refusal_meant, check_meant, answer_meant}
use Rattle.engine.specs.Determined.{Determined}

-- what can be had back from its meaning is determined by it
module _ {A B : Type 0} (meant : A → B) (back : B → A) (same : (a : A) → back (meant a) ≡ a) where
  by-meaning : (a b : A) → meant a ≡ meant b → a ≡ b
  by-meaning a b e = sym (same a) ∙ ap back e ∙ same b

-- ---- Refusals, had back

-- 7 is the program's alone
refusal_back : EntryPoints.Refusal → Refusal
refusal_back EntryPoints.Refusal.output_too_short = Output
refusal_back EntryPoints.Refusal.room_too_short = Room
refusal_back EntryPoints.Refusal.image_malformed = Image
refusal_back EntryPoints.Refusal.book_malformed = Book
refusal_back EntryPoints.Refusal.precedes_cycle = Cycle
refusal_back EntryPoints.Refusal.log_malformed = Log
refusal_back EntryPoints.Refusal.input_too_long = Log

refusal-back : (r : Refusal) → refusal_back (refusal_meant r) ≡ r
unfolding refusal_meant refusal_back
refusal-back Output = refl
refusal-back Room = refl
refusal-back Image = refl
refusal-back Book = refl
refusal-back Cycle = refl
refusal-back Log = refl

-- ---- Answers, had back

answer_back : EntryPoints.Answer → Answer
answer_back (refused_with r) = Err (refusal_back r)
answer_back (ran o n) = Ok (record { outcome = outcome_back o; count = n })

answer_back_lem : (r : Answer) → answer_back (answer_meant r) ≡ r
unfolding answer_meant answer_back
answer_back_lem (Err r) = ap Err (refusal-back r)
answer_back_lem (Ok e) = ap (λ (o : Outcome). Ok (record { outcome = o; count = e.count })) (outcome-back e.outcome)

check_back : CheckAnswer → Checked
check_back (refused_check r) = Err (refusal_back r)
check_back (rule_count n) = Ok n

check-back : (r : Checked) → check_back (check_meant r) ≡ r
unfolding check_meant check_back
check-back (Err r) = ap Err (refusal-back r)
check-back (Ok n) = refl

-- ---- The contracts

pub determined : Determined
determined = record {
  of_run = λ image book log before xs (r₁, after₁, ys₁) (r₂, after₂, ys₂) one other.
      let same = sym one.result ∙ other.result in
      let answers : r₁ ≡ r₂ = by-meaning answer_meant answer_back answer_back_lem r₁ r₂ (ap (λ x. x.answer) same) in
      let outputs : after₁ ≡ after₂ = ap (λ x. x.output) same in
      let rooms : ys₁ ≡ ys₂ = ap (λ x. x.room) same in
      λ i. (answers i, outputs i, rooms i);
  of_check = λ book before (r₁, after₁) (r₂, after₂) one other.
      let same = sym one.result ∙ other.result in
      let answers : r₁ ≡ r₂ = by-meaning check_meant check_back check-back r₁ r₂ (ap (λ x. x.answer) same) in
      let outputs : after₁ ≡ after₂ = ap (λ x. x.output) same in
      λ i. (answers i, outputs i);
  of_rule = λ book k r₁ r₂ one other. one ∙ sym other;
}
