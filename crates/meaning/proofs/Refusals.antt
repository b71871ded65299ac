-- The tests of a call come in the order of the refusals' numbers, so where one holds no refusal before it applies; and no two refusals are
-- both the first.
use mathlib.Core.Path.{◌≡◌, refl, sym, ap, ◌∙◌, subst}
use mathlib.Core.Bool.{Bool, true, false}
use mathlib.Core.List.{List, [], ◌∷◌}
use mathlib.Core.Option.{Option, none, some}
use Prim.Native.Nat.{ℕ, suc, ◌-◌, ◌<◌}
use native.Mathlib.Omega.{arith}
use lib.Dec.{ltb}
use lib.ListN.{length, get_or}
use borrow.Author.Tests.{ltb-true, ltb-false}
use Rattle.meaning.specs.Reading.{read_all}
use Rattle.meaning.specs.Covers.{Image, Book, LogOperation}
use Rattle.meaning.specs.ByteLayouts
use Rattle.meaning.specs.Processing.TotalOrder.{total_order}
use Rattle.meaning.specs.EntryPoints.{run_output, working_room, check_output, Refusal, refusal_number, output_too_short, room_too_short}
use Rattle.meaning.specs.EntryPoints.{image_malformed, book_malformed, precedes_cycle, log_malformed, input_too_long}
use Rattle.meaning.specs.EntryPoints.{JudgedBook, refused_book, accepted_book, judge_book, Verdict, refused, accepted, with_book, verdict}
use Rattle.meaning.specs.EntryPoints.{answer_of, count_of, written, cleared, result_of, run, checked, check_book}
use Rattle.meaning.specs.Theorems.{precedes_of}
use Rattle.meaning.specs.Theorems.Refusals.{HasCycle, FirstOf, Refuses, refusal_in, AppliesToRun, RunRefuses}
use Rattle.meaning.specs.Theorems.Refusals.{refusal_in_check, AppliesToCheck, CheckRefuses}
use Rattle.meaning.proofs.Lists.{clash, same_some}
use Rattle.meaning.proofs.Cycles.{none-cycle, cycle-none}

-- ---- Refusals by their numbers

abbrev of_number : ℕ → Refusal
of_number n =
    let from1 = output_too_short ∷ room_too_short ∷ image_malformed ∷ book_malformed ∷ precedes_cycle ∷ log_malformed ∷ input_too_long ∷ [] in
    get_or from1 (n - 1) input_too_long

numbered : (r : Refusal) → (0 < refusal_number r) × (refusal_number r < 8) × (of_number (refusal_number r) ≡ r)
unfolding refusal_number
numbered output_too_short = (omega arith, omega arith, refl)
numbered room_too_short = (omega arith, omega arith, refl)
numbered image_malformed = (omega arith, omega arith, refl)
numbered book_malformed = (omega arith, omega arith, refl)
numbered precedes_cycle = (omega arith, omega arith, refl)
numbered log_malformed = (omega arith, omega arith, refl)
numbered input_too_long = (omega arith, omega arith, refl)

pub same_number : (n r : Refusal) → refusal_number n ≡ refusal_number r → n ≡ r
same_number n r e = sym (numbered n).2 ∙ ap of_number e ∙ (numbered r).2

-- ---- The first refusal that applies

-- no refusal of a number below n applies
pub record NoneBelow (applies : Refusal → Type 0) (n : ℕ) : Type 0 where
  pub lower : (r : Refusal) → refusal_number r < n → ¬ applies r

-- what an answer tells; all numbers are below 8
pub data Told (applies : Refusal → Type 0) : Option Refusal → Type 0 where
  first : {n : Refusal} → applies n → NoneBelow applies (refusal_number n) → Told applies (some n)
  accepts : NoneBelow applies 8 → Told applies none

module _ {applies : Refusal → Type 0} where
  pub none_yet : NoneBelow applies 1
  none_yet = record { lower = λ r l. absurd (let k = numbered r in omega arith) }

  pub nor : (n : Refusal) → ¬ applies n → NoneBelow applies (refusal_number n) → NoneBelow applies (suc (refusal_number n))
  nor n not below = record { lower = λ r l. go r l (ltb (refusal_number r) (refusal_number n)) refl }
    where
      go : (r : Refusal) → refusal_number r < suc (refusal_number n) → (t : Bool) → ltb (refusal_number r) (refusal_number n) ≡ t → ¬ applies r
      go r l true e = below.lower r (ltb-true (refusal_number r) (refusal_number n) e)
      go r l false e =
          let s : refusal_number n ≡ refusal_number r = omega (arith, ltb-false (refusal_number r) (refusal_number n) e) in
          subst (λ k. ¬ applies k) (same_number n r s) not

  one-first : {n k : Refusal} → FirstOf applies n → FirstOf applies k → n ≡ k
  one-first {n} {k} f g =
      let u : ¬ (refusal_number n < refusal_number k) = λ l. g.1 n l f.0 in
      let v : ¬ (refusal_number k < refusal_number n) = λ l. f.1 k l g.0 in
      same_number n k (omega arith)

  told-refuses : {answer : Option Refusal} {Stays : Type 0} → Told applies answer → ((n : Refusal) → answer ≡ some n → Stays)
      → Refuses applies answer Stays
  told-refuses (first {n = k} a below) stays = record {
    given = λ n. (λ e. subst (FirstOf applies) (same_some e) (a, below.lower), λ f. ap some (one-first (a, below.lower) f));
    accepted = (λ e. clash e refl, λ free. absurd (free k a));
    stays = stays;
  }
  told-refuses (accepts below) stays = record {
    given = λ n. (λ e. clash refl e, λ f. absurd (below.lower n (numbered n).1 f.0));
    accepted = (λ e n. below.lower n (numbered n).1, λ free. refl);
    stays = stays;
  }

-- ---- What is judged of a book

pub data Judged (book : List ℕ) : Type 0 where
  unread : read_all ByteLayouts.book book ≡ none → judge_book book ≡ refused_book book_malformed → Judged book
  cyclic : {b : Book} → read_all ByteLayouts.book book ≡ some b → HasCycle book → judge_book book ≡ refused_book precedes_cycle → Judged book
  fine : {b : Book} {order : List ℕ} → read_all ByteLayouts.book book ≡ some b → ¬ HasCycle book → judge_book book ≡ accepted_book b order
      → Judged book

pub judged : (book : List ℕ) → Judged book
unfolding judge_book total_order
judged book = on_book (read_all ByteLayouts.book book) refl
  where
    on_order : (b : Book) → read_all ByteLayouts.book book ≡ some b → (o : Option (List ℕ)) → total_order b.rules ≡ o → Judged book
    on_order b e none f = cyclic e (b, e, none-cycle (precedes_of b.rules) f) (rw (e, f))
    on_order b e (some order) f =
        fine {order = order} e (λ c.
        let same : c.0 ≡ b = same_some (sym c.1 ∙ e) in
        let g = ap (λ (d : Book). total_order d.rules) same ∙ f in
        clash (cycle-none (precedes_of c.0.rules) c.2.0 c.2.1) g) (rw (e, f))

    on_book : (o : Option Book) → read_all ByteLayouts.book book ≡ o → Judged book
    on_book none e = unread e (rw e)
    on_book (some b) e = on_order b e (total_order b.rules) refl

-- ---- A run

module _ (image book log output room : List ℕ) where
  abbrev ToRun : Refusal → Type 0
  ToRun = AppliesToRun image book log output room

  abbrev Tells : Verdict → Type 0
  Tells v = Told ToRun (refusal_in (answer_of v))

  pub verdict-tells : NoneBelow ToRun 3 → Tells (verdict image book log)
  unfolding verdict with_book answer_of refusal_number
  verdict-tells below3 = on_image (read_all ByteLayouts.image image) refl
    where
      on_log : (start : Image) (b : Book) (order : List ℕ) → read_all ByteLayouts.image image ≡ some start
          → judge_book book ≡ accepted_book b order → NoneBelow ToRun 6 → (o : Option (List LogOperation)) → read_all ByteLayouts.log log ≡ o
          → Tells (verdict image book log)
      on_log start b order e j below6 none f = rw (e, j, f) (first f below6)
      on_log start b order e j below6 (some operations) f =
          rw (e, j, f) (accepts (nor input_too_long (λ n. n) (nor log_malformed (λ n. clash n f) below6)))

      on_book : (start : Image) → read_all ByteLayouts.image image ≡ some start → NoneBelow ToRun 4 → Judged book
          → Tells (verdict image book log)
      on_book start e below4 (unread f j) = rw (e, j) (first f below4)
      on_book start e below4 (cyclic f c j) = rw (e, j) (first c (nor book_malformed (λ n. clash n f) below4))
      on_book start e below4 (fine {b = b} {order = order} f c j) =
          on_log start b order e j (nor precedes_cycle c (nor book_malformed (λ n. clash n f) below4)) (read_all ByteLayouts.log log) refl

      on_image : (o : Option Image) → read_all ByteLayouts.image image ≡ o → Tells (verdict image book log)
      on_image none e = rw e (first e below3)
      on_image (some start) e = on_book start e (nor image_malformed (λ n. clash n e) below3) (judged book)

  -- what the call leaves is what a verdict leaves, also where output or room is too short
  from-verdict : (v : Verdict) → run image book log output room ≡ result_of v output room → Tells v → RunRefuses image book log output room
  unfolding result_of answer_of count_of written cleared
  from-verdict v e t = rw e (told-refuses t (stays v))
    where
      stays : (v : Verdict) (n : Refusal) → refusal_in (answer_of v) ≡ some n
          → let left = result_of v output room in (count_of left.answer ≡ 0) × (left.output ≡ output) × (left.room ≡ room)
      stays (refused r) n q = (refl, refl, refl)
      stays (accepted start end) n q = clash refl q

  pub run-refuses : RunRefuses image book log output room
  unfolding run answer_of refusal_number
  run-refuses = on_output (ltb (length output) run_output) refl
    where
      on_room : ltb (length output) run_output ≡ false → NoneBelow ToRun 2 → (t : Bool) → ltb (length room) working_room ≡ t
          → RunRefuses image book log output room
      on_room e below2 true f = from-verdict (refused room_too_short) (rw (e, f)) (first (ltb-true (length room) working_room f) below2)
      on_room e below2 false f =
          let enough = ltb-false (length room) working_room f in
          from-verdict (verdict image book log) (rw (e, f)) (verdict-tells (nor room_too_short (λ n. omega arith) below2))

      on_output : (t : Bool) → ltb (length output) run_output ≡ t → RunRefuses image book log output room
      on_output true e = from-verdict (refused output_too_short) (rw e) (first (ltb-true (length output) run_output e) none_yet)
      on_output false e =
          let enough = ltb-false (length output) run_output e in
          on_room e (nor output_too_short (λ n. omega arith) none_yet) (ltb (length room) working_room) refl

-- ---- A book check

module _ (book output : List ℕ) where
  abbrev ToCheck : Refusal → Type 0
  ToCheck = AppliesToCheck book output

  from-judged : (j : JudgedBook) → check_book book output ≡ checked output j → Told ToCheck (refusal_in_check (checked output j).answer)
      → CheckRefuses book output
  unfolding checked
  from-judged j e t = rw e (told-refuses t (stays j))
    where
      stays : (j : JudgedBook) (n : Refusal) → refusal_in_check (checked output j).answer ≡ some n → (checked output j).output ≡ output
      stays (refused_book r) n q = refl
      stays (accepted_book b order) n q = clash refl q

  pub check-refuses : CheckRefuses book output
  unfolding check_book checked refusal_number
  check-refuses = on_output (ltb (length output) check_output) refl
    where
      on_book : ltb (length output) check_output ≡ false → NoneBelow ToCheck 4 → Judged book → CheckRefuses book output
      on_book e below4 (unread f j) = from-judged (refused_book book_malformed) (rw (e, j)) (first f below4)
      on_book e below4 (cyclic f c j) =
          from-judged (refused_book precedes_cycle) (rw (e, j)) (first c (nor book_malformed (λ n. clash n f) below4))
      on_book e below4 (fine {b = b} {order = order} f c j) =
          let below6 = nor precedes_cycle c (nor book_malformed (λ n. clash n f) below4) in
          from-judged (accepted_book b order) (rw (e, j)) (accepts (nor input_too_long (λ n. n) (nor log_malformed (λ n. n) below6)))

      on_output : (t : Bool) → ltb (length output) check_output ≡ t → CheckRefuses book output
      on_output true e = from-judged (refused_book output_too_short) (rw e) (first (ltb-true (length output) check_output e) none_yet)
      on_output false e =
          let enough = ltb-false (length output) check_output e in
          let below2 : NoneBelow ToCheck 2 = nor output_too_short (λ n. omega arith) none_yet in
          on_book e (nor image_malformed (λ n. n) (nor room_too_short (λ n. n) below2)) (judged book)
