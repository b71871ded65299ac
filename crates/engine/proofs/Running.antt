-- What is said of a run, by the answers of its judges: each refusal in its order, which leaves output and room as they were, and else the
-- run of what was read off image, book and log.
use Rattle.std.specs.Prelude.{Option, Some, None, Ok, Err}
use mathlib.Core.Path.{◌≡◌, sym, subst}
use mathlib.Core.List.{List}
use mathlib.Core.Option.{some}
use Prim.Native.Nat.{ℕ, ◌<◌, ◌≤◌}
use borrow.Author.Tests.{lt-ltb, le-ltb}
use lib.ListN.{length, replicate}
use Rattle.meaning.specs.Base.{in_front_of}
use Rattle.meaning.specs.Reading.{read_all}
use Rattle.meaning.specs.Covers.{Image}
use Rattle.meaning.specs.ByteLayouts as ByteLayouts
use Rattle.meaning.specs.Processing.{Ending}
use Rattle.meaning.specs.EntryPoints as EntryPoints
use Rattle.meaning.specs.EntryPoints.{run, result_of, answer_of, written, cleared, working_room, verdict, with_book, refused, accepted}
use Rattle.meaning.specs.EntryPoints.{judge_book, refused_book, image_malformed, log_malformed}
use Rattle.image.specs.Images as Images
use Rattle.image.specs.Images.{image_or}
use Rattle.image.specs.declared.Head.{Head}
use Rattle.book.specs.Books as Books
use Rattle.book.specs.declared.Frame.{Frame}
use Rattle.transaction_log.specs.Log.{log_or, operations_meant}
use Rattle.plan.specs.Numbers.{numbers_in}
use Rattle.plan.specs.Plans.{Planned}
use Rattle.plan.specs.declared.Plan.{Plan}
use Rattle.trigger.specs.Triggers.{order_in}
use Rattle.processing.specs.declared.Ended.{Ended}
use Rattle.transaction.specs.Transacts.{Accepts, HandsBack, ending_from}
use Rattle.transaction.specs.declared.ReadOff.{ReadOff}
use Rattle.engine.specs.Answers.{refusal_meant, answer_meant, Runs}
use Rattle.engine.specs.declared.Refusal.{Refusal}
use Rattle.engine.specs.declared.Refusal.TheVariants.{Output, Room}
use Rattle.engine.proofs.Judged.{with-order}

-- ---- The image's judge

pub image-refused : (image book log : List ℕ) (r : Option Head) → image_or image r ≡ read_all ByteLayouts.image image → r ≡ None
    → verdict image book log ≡ refused image_malformed
unfolding verdict image_or
image-refused image book log r e is = rw (← e, is)

-- what the judge tells, by its answer
pub image-told : (s : List ℕ) {r : Option Head} {head : Head} → Images.Told s r → r ≡ Some head
    → Images.WellFormed s head.next head.count
image-told s t is = rw is at t

-- ---- A well-formed image

-- what was read off image, book and log
abbrev pub read_off : Head → Frame → Plan → ℕ → ReadOff
read_off head frame plan operations = record { image = head; book = frame; plan = plan; operations = operations }

module _ (image book log : List ℕ) (head : Head) (i : Images.WellFormed image head.next head.count) where
  pub book-refused : (r : EntryPoints.Refusal) → judge_book book ≡ refused_book r → verdict image book log ≡ refused r
  unfolding verdict with_book
  book-refused r e = rw (i.image, e)

  -- and a well-formed book, with its plan, which has an order
  module _ (frame : Frame) (plan : Plan) (b : Books.WellFormed book frame.limit frame.count) (p : Planned book frame.count plan)
      {order : List ℕ} (found : plan.order ≡ Some order) where
    pub log-refused : (r : Option ℕ) → log_or log r ≡ read_all ByteLayouts.log log → r ≡ None
        → verdict image book log ≡ refused log_malformed
    unfolding verdict with_book
    log-refused r e is = rw (i.image, with-order book frame.limit frame.count plan b p found, ← e, is)

    pub accepts : (operations : ℕ) → Accepts image book (read_off head frame plan operations)
    accepts operations = record {
      rows = i;
      planned = subst (λ (m : ℕ). Planned book m plan) (sym p.lists.count) p;
    }

    pub log-accepted : (start : Image) → read_all ByteLayouts.image image ≡ some start → (r : Option ℕ) (operations : ℕ)
        → log_or log r ≡ read_all ByteLayouts.log log → r ≡ Some operations
        → verdict image book log ≡ accepted start (ending_from book log (read_off head frame plan operations) start)
    unfolding verdict with_book operations_meant ending_from numbers_in order_in
    log-accepted start s r operations e is = rw (p.lists.count, found, s, with-order book frame.limit frame.count plan b p found, ← e, is)

-- ---- A run

module _ {image book log before xs : List ℕ} where
  pub output-refused : length before < 1355 → Runs image book log before before xs xs (Err Output)
  unfolding run result_of answer_of written cleared answer_meant refusal_meant
  output-refused h = record { result = rw (lt-ltb _ _ h) }

  pub room-refused : 1355 ≤ length before → length xs < 65536 → Runs image book log before before xs xs (Err Room)
  unfolding run result_of answer_of written cleared answer_meant refusal_meant
  room-refused o h = record { result = rw (le-ltb _ _ o, lt-ltb _ _ h) }

  -- output and room are long enough
  module _ (o : 1355 ≤ length before) (h : 65536 ≤ length xs) where
    pub run-refused : (r : Refusal) → verdict image book log ≡ refused (refusal_meant r)
        → Runs image book log before before xs xs (Err r)
    unfolding run result_of answer_of written cleared answer_meant
    run-refused r v = record { result = rw (le-ltb _ _ o, le-ltb _ _ h, v) }

    pub run-accepted : {start : Image} {e : Ending} → verdict image book log ≡ accepted start e → {after ys : List ℕ} {r : Ended}
        → HandsBack before after start e r → ys ≡ in_front_of (replicate working_room 0) xs
        → Runs image book log before after xs ys (Ok r)
    unfolding run result_of answer_of written cleared answer_meant
    run-accepted v b c = record { result = rw (le-ltb _ _ o, le-ltb _ _ h, v, b.outcome, b.count, b.output, c) }
