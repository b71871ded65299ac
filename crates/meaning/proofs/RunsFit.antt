-- Every row operation of an accepted run fits the image that it is made on: the parsers give a sound image, good operations and good rules,
-- and from there on StepsFit says so. Each stretch between considerations of a rule then fits the image that it starts from.
use Rattle.std.specs.Prelude.{if◌then◌else◌}
use mathlib.Core.Path.{◌≡◌, refl, sym, ap, ◌∙◌, subst}
use mathlib.Core.Bool.{Bool, true, false}
use mathlib.Core.List.{List, [], ◌++◌}
use mathlib.Core.Option.{Option, none, some}
use Prim.Native.Nat.{ℕ, ◌^◌, ◌≤◌}
use native.Mathlib.Omega.{arith}
use borrow.Author.Tests.{leb-true}
use lib.Dec.{eqb, ltb, leb}
use lib.Count.{ones}
use lib.ListN.{length}
use Rattle.meaning.specs.Base.{maybe, within, Each}
use Rattle.meaning.specs.Reading.{Read, bad, got, Parser, ◌>>=◌, ◌>>◌, pure, malformed, must, byte_within, byte, number16, number32}
use Rattle.meaning.specs.Reading.{many, read_all}
use Rattle.meaning.specs.Covers.{most_rules, most_actions, most_operations, most_steps, Book, LogOperation}
use Rattle.meaning.specs.ByteLayouts
use Rattle.meaning.specs.ByteLayouts.{framed, value}
use Rattle.meaning.specs.RowOperations.{make_all}
use Rattle.meaning.specs.Processing.{Event}
use Rattle.meaning.specs.Processing.TotalOrder.{total_order}
use Rattle.meaning.specs.EntryPoints.{refused_book, accepted_book, judge_book, book_malformed, precedes_cycle}
use Rattle.meaning.specs.Trace.{operations_in, since_last}
use Rattle.meaning.specs.Runs.{Accepted, ending_of}
use Rattle.meaning.proofs.Lists.{and-true}
use Rattle.meaning.specs.Made.{InRange, Sound, Made}
use Rattle.meaning.proofs.Lookups.{made-front, made-back}
use Rattle.meaning.proofs.Images.{make_all-sound}
use Rattle.meaning.proofs.Parsing.{on-from-got, same-value, read-all, must-got, Reads, byte_reads, value-reads, many-each}
use Rattle.meaning.proofs.Parsing.{framed-got}
use Rattle.meaning.proofs.RoundTrip.{values-read, table-reads, image-sound}
use Rattle.meaning.proofs.Traces.{operations-append, until_last, until-last, Runs, runs}
use Rattle.meaning.proofs.ActionsFit.{IsMask, GoodOperation, good_insert, good_delete, good_update, GoodExpression, good_fixed}
use Rattle.meaning.proofs.ActionsFit.{good_column, good_sum, GoodAction, good_rollback, good_insert_row, good_insert_from, good_delete_rows}
use Rattle.meaning.proofs.ActionsFit.{good_update_rows}
use Rattle.meaning.proofs.StepsFit.{GoodRule, Replays, runs-replay}

-- ---- What a parser gives, wherever it reads

pub record Gives {A : Type 0} (p : Parser A) (P : A → Type 0) : Type 0 where
  pub fit : {s : List ℕ} {at : ℕ} {a : A} {next : ℕ} → p s at ≡ got a next → P a

pub read_all-gives : {A : Type 0} {P : A → Type 0} {p : Parser A} (s : List ℕ) (a : A) → Gives p P → read_all p s ≡ some a → P a
read_all-gives {p = p} s a g e = g.fit (read-all p s e).1

pub reads-give : {A : Type 0} {P : A → Type 0} {p : Parser A} {bytes_of : A → List ℕ} → Reads p bytes_of P → Gives p P
reads-give reads = record { fit = reads.fit }

pub bind-gives : {A B : Type 0} {P : A → Type 0} {Q : B → Type 0} {p : Parser A} {f : A → Parser B} → Gives p P
    → ((a : A) → P a → Gives (f a) Q) → Gives (p >>= f) Q
bind-gives {p = p} g k = record { fit = λ {s} {at} e. on-from-got (p s at) _ e (λ a mid one rest. (k a (g.fit one)).fit rest) }

-- after what may be anything
pub past-gives : {A B : Type 0} {Q : B → Type 0} (p : Parser A) {f : A → Parser B} → ((a : A) → Gives (f a) Q) → Gives (p >>= f) Q
past-gives p k = record { fit = λ {s} {at} e. on-from-got (p s at) _ e (λ a mid one rest. (k a).fit rest) }

module _ {A : Type 0} {P : A → Type 0} where
  pub pure-gives : {a : A} → P a → Gives (pure a) P
  pure-gives p = record { fit = λ e. subst P (same-value e) p }

  pub malformed-gives : Gives malformed P
  malformed-gives = record { fit = λ {a = a} {next = next} e. never e }
    where
      never : {a : A} {next : ℕ} → ◌≡◌ {A = Read A} bad (got a next) → P a
      never e = absurd (let z : ◌≡◌ {A = ℕ} 0 1 = cc in omega arith)

  pub if-gives : {p q : Parser A} (b : Bool) → Gives p P → Gives q P → Gives (if b then p else q) P
  if-gives true g h = g
  if-gives false g h = h

  -- after a test
  must-gives : {q : Parser A} (b : Bool) → (b ≡ true → Gives q P) → Gives (must b >> q) P
  must-gives b k =
      record { fit = λ {s} {at} e. on-from-got (must b s at) _ e (λ u mid one rest. (k (must-got b s at one).0).fit rest) }

  -- as many as were asked for, each what the parser gives
  pub many-gives : {p : Parser A} (n : ℕ) → Gives p P → Gives (many n p) (λ xs. (length xs ≡ n) × Each P xs)
  many-gives n g = record { fit = λ {s} {at} e. many-each (λ s at x next e. g.fit e) n s at e }

  -- what is given is also something else
  gives_to : {Q : A → Type 0} {p : Parser A} → ((a : A) → P a → Q a) → Gives p P → Gives p Q
  gives_to f g = record { fit = λ {a = a} e. f a (g.fit e) }

  framed-gives : {p : Parser A} → Gives p P → Gives (framed p) P
  framed-gives {p} g = record { fit = λ {s} {at} e. g.fit (framed-got p s at e).body }

pub values-give : (n : ℕ) → Gives (many n value) (λ vs. (length vs ≡ n) × InRange vs)
values-give n = reads-give (values-read n)

pub table-gives : Gives ByteLayouts.table (λ t. (0 ≤ t) × (t ≤ 3))
table-gives = reads-give table-reads

pub mask-gives : Gives ByteLayouts.mask IsMask
unfolding ByteLayouts.mask
mask-gives = reads-give (byte_reads (omega arith))

-- ---- Log

insertion-gives : Gives ByteLayouts.insertion GoodOperation
unfolding ByteLayouts.insertion
insertion-gives =
    bind-gives table-gives (λ t p. bind-gives (values-give 4) (λ vs q.
    pure-gives (good_insert p.1 (record { four = q.0; ranged = q.1 }))))

deletion-gives : Gives ByteLayouts.deletion GoodOperation
unfolding ByteLayouts.deletion
deletion-gives = past-gives number32 (λ h. pure-gives good_delete)

change-gives : Gives ByteLayouts.change GoodOperation
unfolding ByteLayouts.change
change-gives =
    past-gives number32 (λ h. bind-gives mask-gives (λ m i. bind-gives (values-give (ones m)) (λ vs q.
    pure-gives (good_update i q.0 q.1))))

pub operation-gives : Gives ByteLayouts.operation GoodOperation
unfolding ByteLayouts.operation ByteLayouts.operation_of
operation-gives =
    past-gives byte (λ n.
    if-gives (eqb n 1) insertion-gives (if-gives (eqb n 2) deletion-gives (if-gives (eqb n 3) change-gives malformed-gives)))

log-gives : Gives ByteLayouts.log (Each GoodOperation)
unfolding ByteLayouts.log
log-gives =
    framed-gives (past-gives number16 (λ n. must-gives (leb n most_operations) (λ few.
    gives_to (λ qs c. c.1) (many-gives n operation-gives))))

pub log-good : (s : List ℕ) (qs : List LogOperation) → read_all ByteLayouts.log s ≡ some qs → Each GoodOperation qs
log-good s qs e = read_all-gives s qs log-gives e

-- ---- Book

pub expression-gives : Gives ByteLayouts.expression GoodExpression
unfolding ByteLayouts.expression ByteLayouts.expression_of ByteLayouts.constant ByteLayouts.of_column ByteLayouts.sum
expression-gives =
    past-gives byte (λ n.
    if-gives (eqb n 0) (bind-gives (reads-give value-reads) (λ v l. pure-gives (good_fixed l)))
    (if-gives (eqb n 1) (past-gives ByteLayouts.column (λ c. pure-gives good_column))
    (if-gives (eqb n 2) (past-gives ByteLayouts.column (λ c. past-gives value (λ v. pure-gives good_sum))) malformed-gives)))

module _ (triggers : ℕ) where
  insert_row-gives : Gives (ByteLayouts.insert_row triggers) GoodAction
  unfolding ByteLayouts.insert_row
  insert_row-gives =
      bind-gives table-gives (λ t p. bind-gives (values-give 4) (λ vs q.
      pure-gives (good_insert_row p.1 (record { four = q.0; ranged = q.1 }))))

  insert_from_query-gives : Gives (ByteLayouts.insert_from_query triggers) GoodAction
  unfolding ByteLayouts.insert_from_query
  insert_from_query-gives =
      bind-gives table-gives (λ t p. past-gives (ByteLayouts.query triggers) (λ q.
      bind-gives (many-gives 4 expression-gives) (λ es c. pure-gives (good_insert_from p.1 c.0 c.1))))

  delete_rows-gives : Gives (ByteLayouts.delete_rows triggers) GoodAction
  unfolding ByteLayouts.delete_rows
  delete_rows-gives =
      past-gives ByteLayouts.table (λ t. past-gives (ByteLayouts.terms triggers) (λ ts. pure-gives good_delete_rows))

  update_rows-gives : Gives (ByteLayouts.update_rows triggers) GoodAction
  unfolding ByteLayouts.update_rows
  update_rows-gives =
      past-gives ByteLayouts.table (λ t. bind-gives mask-gives (λ m i.
      bind-gives (many-gives (ones m) expression-gives) (λ es c.
      past-gives (ByteLayouts.terms triggers) (λ ts. pure-gives (good_update_rows i c.0 c.1)))))

  pub action-gives : Gives (ByteLayouts.action triggers) GoodAction
  unfolding ByteLayouts.action ByteLayouts.action_of
  action-gives =
      past-gives byte (λ n.
      if-gives (eqb n 0) (pure-gives good_rollback) (if-gives (eqb n 1) insert_row-gives (if-gives (eqb n 2) insert_from_query-gives
      (if-gives (eqb n 3) delete_rows-gives (if-gives (eqb n 4) update_rows-gives malformed-gives)))))

  actions-gives : Gives (ByteLayouts.actions triggers) (Each GoodAction)
  unfolding ByteLayouts.actions
  actions-gives = past-gives (byte_within 1 most_actions) (λ n. gives_to (λ xs c. c.1) (many-gives n action-gives))

pub rule-gives : (n : ℕ) → Gives (ByteLayouts.rule n) GoodRule
unfolding ByteLayouts.rule
rule-gives n =
    past-gives (byte_within 0 1) (λ a. past-gives ByteLayouts.table (λ t. past-gives (byte_within 1 7) (λ g.
    past-gives (ByteLayouts.columns g) (λ c. past-gives number16 (λ p. must-gives (ltb p (2 ^ n)) (λ few.
    past-gives (ByteLayouts.condition g) (λ q. bind-gives (actions-gives g) (λ acts good.
    pure-gives (record { actions_good = good })))))))))

book-gives : Gives ByteLayouts.book (λ b. (b.limit ≤ most_steps) × Each GoodRule b.rules)
unfolding ByteLayouts.book
book-gives =
    framed-gives (past-gives number16 (λ l. must-gives (within 1 most_steps l) (λ few.
    past-gives (byte_within 0 most_rules) (λ n. bind-gives (many-gives n (rule-gives n)) (λ rs c.
    pure-gives (leb-true l most_steps (and-true (leb 1 l) (leb l most_steps) few).1, c.1))))))

pub book-good : (s : List ℕ) (b : Book) → read_all ByteLayouts.book s ≡ some b → (b.limit ≤ most_steps) × Each GoodRule b.rules
book-good s b e = read_all-gives s b book-gives e

-- an accepted book was read
pub judged-read : (s : List ℕ) (b : Book) (order : List ℕ) → judge_book s ≡ accepted_book b order
    → (read_all ByteLayouts.book s ≡ some b) × (total_order b.rules ≡ some order)
unfolding judge_book
judged-read s b order e = go (read_all ByteLayouts.book s) refl e
  where
    on : (c : Book) (o : Option (List ℕ)) → maybe o (refused_book precedes_cycle) (accepted_book c) ≡ accepted_book b order
        → (c ≡ b) × (o ≡ some order)
    on c none e = absurd (let z : ◌≡◌ {A = ℕ} 0 1 = cc in omega arith)
    on c (some xs) e = (cc, cc)

    go : (o : Option Book) → read_all ByteLayouts.book s ≡ o
        → maybe o (refused_book book_malformed) (λ c. maybe (total_order c.rules) (refused_book precedes_cycle) (accepted_book c))
        ≡ accepted_book b order
        → (read_all ByteLayouts.book s ≡ some b) × (total_order b.rules ≡ some order)
    go none f e = absurd (let z : ◌≡◌ {A = ℕ} 0 1 = cc in omega arith)
    go (some c) f e =
        let r = on c (total_order c.rules) e in
        (f ∙ ap some r.0, ap (λ (d : Book). total_order d.rules) (sym r.0) ∙ r.1)

-- ---- Accepted runs

module _ {image book log : List ℕ} (a : Accepted image book log) where
  pub run_sound : Sound a.start
  run_sound = image-sound image a.start a.image_read

  pub run-rules : Each GoodRule a.rule_book.rules
  run-rules = (book-good book a.rule_book (judged-read book a.rule_book a.order a.book_judged).0).1

  pub run-limit : a.rule_book.limit ≤ most_steps
  run-limit = (book-good book a.rule_book (judged-read book a.rule_book a.order a.book_judged).0).0

  pub run-order : total_order a.rule_book.rules ≡ some a.order
  run-order = (judged-read book a.rule_book a.order a.book_judged).1

  pub run-log : Each GoodOperation a.operations
  run-log = log-good log a.operations a.log_read

  -- its steps, by cases
  pub run-steps : Runs a.rule_book.rules a.order a.rule_book.limit a.operations a.start (ending_of a)
  unfolding ending_of
  run-steps = runs a.rule_book.rules a.order a.rule_book.limit a.operations a.start

  run-replays : Replays a.start [] (ending_of a)
  run-replays = runs-replay a.rule_book.rules a.order a.start run-rules run_sound run-log run-steps

  -- every operation of a run fits the image it is made on
  pub run-made : Made a.start (operations_in (ending_of a).trace)
  run-made = run-replays.fits

  -- the image at the end is the start image with the operations made on it
  pub run-replayed : (ending_of a).image ≡ make_all (operations_in (ending_of a).trace) a.start
  run-replayed = run-replays.replayed

  pub run-end-sound : Sound (ending_of a).image
  run-end-sound = rw run-replayed (make_all-sound run_sound run-made)

  -- ---- At a point of the trace

  pub made-around : (before after : List Event) → (ending_of a).trace ≡ before ++ after
      → Made a.start (operations_in before ++ operations_in after)
  made-around before after q = rw (← operations-append before after, ← q) run-made

  pub made_at : (before after : List Event) → (ending_of a).trace ≡ before ++ after → Made a.start (operations_in before)
  made_at before after q = made-front (operations_in before) (operations_in after) (made-around before after q)

  -- the operations up to a rule's last consideration, and those since then
  module _ (before after : List Event) (q : (ending_of a).trace ≡ before ++ after) (k : ℕ) where
    pub made-stretches : Made a.start (until_last k before ++ since_last k before)
    made-stretches = rw (until-last k before) (made_at before after q)

    pub sound-since : Sound (make_all (until_last k before) a.start)
    sound-since = make_all-sound run_sound (made-front (until_last k before) (since_last k before) made-stretches)

    pub made-since : Made (make_all (until_last k before) a.start) (since_last k before)
    made-since = made-back (until_last k before) (since_last k before) made-stretches
