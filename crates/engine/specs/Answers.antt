-- What the answers of the entry points stand for: document 01's numbers and values for each of their cases.
use Rattle.std.specs.Prelude.{◌≡◌, List, ℕ, length, Option, Some, None, Result, Ok, Err}
use Rattle.meaning.specs.EntryPoints as EntryPoints
use Rattle.meaning.specs.EntryPoints.{JudgedBook, refused_book, accepted_book, CheckAnswer, refused_check, rule_count, check_book, rule_bytes, refused_with, ran}
use Rattle.processing.specs.Endings.{outcome_meant}
use Rattle.engine.specs.declared.Refusal.{Refusal}
use Rattle.engine.specs.declared.Refusal.TheVariants.{Output, Room, Image, Book, Cycle, Log}
use Rattle.processing.specs.declared.Ended.{Ended}

-- what a book check answers: a refusal, or the rule count
abbrev pub Checked : Type 0
Checked = Result ℕ Refusal

-- what a run answers: a refusal, or how it ended
abbrev pub Answer : Type 0
Answer = Result Ended Refusal

unfoldable pub refusal_meant : Refusal → EntryPoints.Refusal
refusal_meant Output = EntryPoints.Refusal.output_too_short
refusal_meant Room = EntryPoints.Refusal.room_too_short
refusal_meant Image = EntryPoints.Refusal.image_malformed
refusal_meant Book = EntryPoints.Refusal.book_malformed
refusal_meant Cycle = EntryPoints.Refusal.precedes_cycle
refusal_meant Log = EntryPoints.Refusal.log_malformed

unfoldable pub check_meant : Checked → CheckAnswer
check_meant (Err r) = refused_check (refusal_meant r)
check_meant (Ok n) = rule_count n

-- the answer and the output afterwards are those of the specification
pub record Checks (book before after : List ℕ) (r : Checked) : Type 0 where
  pub result : check_book book before ≡ record { answer = check_meant r; output = after }

unfoldable pub answer_meant : Answer → EntryPoints.Answer
answer_meant (Err r) = refused_with (refusal_meant r)
answer_meant (Ok e) = ran (outcome_meant e.outcome) e.count

-- the answer, every byte of the output and every byte of the working room afterwards are those of the specification
pub record Runs (image book log before after xs ys : List ℕ) (r : Answer) : Type 0 where
  pub result : EntryPoints.run image book log before xs ≡ record { answer = answer_meant r; output = after; room = ys }

-- the bytes that are given are those of the specification
abbrev pub Gives : List ℕ → ℕ → List ℕ → Type 0
Gives book k bytes = bytes ≡ rule_bytes book k

-- how many rules a judged book has, none where it is refused
unfoldable pub rule_count_in : JudgedBook → Option ℕ
rule_count_in (refused_book r) = None
rule_count_in (accepted_book b order) = Some (length b.rules)
