-- The runs that are spoken of: an accepted run, how it ends, and what is so after some of its events.
use Rattle.std.specs.Prelude.{◌≡◌, Bool, false, ◌&&◌, List, ℕ}
use Rattle.std.proofs.Math.Option.{Option, some}
use Rattle.std.proofs.Math.ListN.{get_elem?}
use Rattle.meaning.specs.Base.{maybe, any}
use Rattle.meaning.specs.Reading.{read_all}
use Rattle.meaning.specs.Covers.{Image, Book, Rule, LogOperation}
use Rattle.meaning.specs.ByteLayouts
use Rattle.meaning.specs.RowOperations.{NetEffect, net_effect, make_all}
use Rattle.meaning.specs.Processing.{Ending, Event, process}
use Rattle.meaning.specs.Processing.TransitionTables.{wakes}
use Rattle.meaning.specs.EntryPoints.{Refusal, refused, accepted, verdict, accepted_book, judge_book}
use Rattle.meaning.specs.Trace.{operations_in, since_last}

-- image, book and log are as document 01 wants them
pub record Accepted (image book log : List ℕ) : Type 0 where
  pub start : Image
  pub rule_book : Book
  pub order : List ℕ
  pub operations : List LogOperation
  pub image_read : read_all ByteLayouts.image image ≡ some start
  pub book_judged : judge_book book ≡ accepted_book rule_book order
  pub log_read : read_all ByteLayouts.log log ≡ some operations

-- how such a run ends
unfoldable pub ending_of : {image book log : List ℕ} → Accepted image book log → Ending
ending_of a = process a.rule_book.rules a.order a.rule_book.limit a.operations a.start

-- every run is refused, or accepted, and then its verdict is that ending
pub data Spoken (image book log : List ℕ) : Type 0 where
  is_refused : (r : Refusal) → verdict image book log ≡ refused r → Spoken image book log
  is_accepted : (a : Accepted image book log) → verdict image book log ≡ accepted a.start (ending_of a) → Spoken image book log

-- ---- After some events

-- what waits for rule k: the net effect of the operations since its last consideration, or since the start
unfoldable pub waits_for : ℕ → List Event → NetEffect
waits_for k past = net_effect (since_last k past)

module _ {image book log : List ℕ} (a : Accepted image book log) where
  -- the rules of its book, by their numbers
  abbrev pub numbered : ℕ → Option Rule
  numbered k = get_elem? a.rule_book.rules k

  -- an active rule is triggered if what waits for it wakes it
  unfoldable pub is_triggered : List Event → ℕ → Bool
  is_triggered past k = maybe (numbered k) false (λ r. r.active && any (λ p. wakes r p.1) (waits_for k past))

  -- the start image with the operations made on it
  unfoldable pub image_after : List Event → Image
  image_after past = make_all (operations_in past) a.start
