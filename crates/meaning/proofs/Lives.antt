-- What the net effect of a stretch is, told from the rows of a handle before and after it. A handle is not given yet, at a row, or gone;
-- operations that fit lead it from one to the next and never back, and the join table follows that way.
use mathlib.Core.Path.{◌≡◌, refl, sym, ap, ◌∙◌, subst}
use mathlib.Core.Logic.{◌≢◌}
use mathlib.Core.Bool.{Bool, true, false}
use mathlib.Core.List.{List, [], ◌∷◌, ◌++◌, append_assoc}
use mathlib.Core.Option.{Option, none, some}
use Prim.Native.Nat.{ℕ, ◌≤◌, ◌<◌}
use native.Mathlib.Omega.{arith}
use lib.Dec.{eqb, ltb}
use lib.Bits.{bit_or}
use borrow.Author.Tests.{eqb-true, ltb-true, ltb-false}
use Rattle.meaning.specs.Covers.{Row, Image}
use Rattle.meaning.specs.RowOperations.{RowOperation, inserts, deletes, updates, handle_of, row_at, make, make_all, Effect, nothing}
use Rattle.meaning.specs.RowOperations.{inserted, deleted, updated, unreachable, kind, join_table, join_kind, over, joined_as, join}
use Rattle.meaning.specs.RowOperations.{effect_of, single, joined_on, net}
use Rattle.meaning.specs.Trace.{union, mask_on, masks_on, deleted_in, from_outside, OnlyIn, Differs, stays, comes, goes, changes}
use Rattle.meaning.specs.Theorems.{reachable}
use Rattle.meaning.specs.Made.{Sound, Fits, insert_fits, delete_fits, update_fits, Made, more, Made.none as none_made}
use Rattle.meaning.proofs.Lists.{clash, eqb-self}
use Rattle.meaning.proofs.Masks.{or_assoc, bit-or}
use Rattle.meaning.proofs.JoinTable.{join-nothing}
use Rattle.meaning.proofs.NetEffects.{single-other, single-own, net-one}
use Rattle.meaning.proofs.Lookups.{live_below, row_at-other, row_at-inserted, row_at-deleted, row_at-updated, next-rises, next-other}
use Rattle.meaning.proofs.Lookups.{made-front, made-back}

-- ---- The life of a handle

-- not given yet, at a row, or gone from its last row
data Life : Type 0 where
  not_given : Life
  at : Row → Life
  gone : Row → Life

-- the operations lead the handle from one to another
data Lives (h : ℕ) : Life → List RowOperation → Life → Type 0 where
  rest : {s : Life} → Lives h s [] s
  other : {s e : Life} {os : List RowOperation} (o : RowOperation) → eqb (handle_of o) h ≡ false → Lives h s os e → Lives h s (o ∷ os) e
  born : {e : Life} {os : List RowOperation} {r : Row} → eqb r.handle h ≡ true → Lives h (at r) os e
      → Lives h not_given (inserts r ∷ os) e
  turns : {e : Life} {os : List RowOperation} {mask : ℕ} {old new : Row} → eqb old.handle h ≡ true → OnlyIn mask old new
      → Lives h (at new) os e → Lives h (at old) (updates mask old new ∷ os) e
  dies : {e : Life} {os : List RowOperation} {r : Row} → eqb r.handle h ≡ true → Lives h (gone r) os e
      → Lives h (at r) (deletes r ∷ os) e

lives-append : {h : ℕ} {s t e : Life} {xs ys : List RowOperation} → Lives h s xs t → Lives h t ys e → Lives h s (xs ++ ys) e
lives-append rest m = m
lives-append (other o n l) m = other o n (lives-append l m)
lives-append (born q l) m = born q (lives-append l m)
lives-append (turns q o l) m = turns q o (lives-append l m)
lives-append (dies q l) m = dies q (lives-append l m)

-- the row, if there is one
unfoldable row_of : Life → Option Row
row_of not_given = none
row_of (at r) = some r
row_of (gone r) = none

-- the row that was deleted, if one was
unfoldable last_of : Life → Row → Row
last_of not_given r = r
last_of (at s) r = r
last_of (gone s) r = s

-- the effect from one to another, with the masks between
unfoldable between : Life → Life → Option ℕ → Effect
between s e masks = from_outside (row_of s) (row_of e) masks (last_of e)

-- where a stretch can lead, with the masks of its updates
data After : Life → Life → Option ℕ → Type 0 where
  still : After not_given not_given none
  come : {r : Row} {u : Option ℕ} → After not_given (at r) u
  passed : {r : Row} {u : Option ℕ} → After not_given (gone r) u
  same : {r : Row} → After (at r) (at r) none
  altered : {r s : Row} {m : ℕ} → OnlyIn m r s → After (at r) (at s) (some m)
  left : {r s : Row} {u : Option ℕ} → After (at r) (gone s) u
  ended : {r : Row} → After (gone r) (gone r) none

unfoldable all : Unit {0}
unfolding row_of last_of between from_outside union mask_on masks_on kind join_table join_kind over joined_as join effect_of
all = tt

after_none : (s : Life) → After s s none
after_none not_given = still
after_none (at r) = same
after_none (gone r) = ended

between_none : (s : Life) → between s s none ≡ nothing
unfolding all
between_none not_given = refl
between_none (at r) = refl
between_none (gone r) = refl

-- ---- Masks

union_assoc : (u v w : Option ℕ) → union (union u v) w ≡ union u (union v w)
unfolding union
union_assoc none v w = refl
union_assoc (some m) none w = refl
union_assoc (some m) (some n) none = refl
union_assoc (some m) (some n) (some k) = ap {B = Option ℕ} some (or_assoc m n k)

union-none : (u : Option ℕ) → union u none ≡ u
unfolding union
union-none none = refl
union-none (some m) = refl

masks-append : (h : ℕ) (xs ys : List RowOperation) → masks_on h (xs ++ ys) ≡ union (masks_on h xs) (masks_on h ys)
unfolding masks_on union
masks-append h [] ys = refl
masks-append h (o ∷ xs) ys = ap (union (mask_on h o)) (masks-append h xs ys) ∙ sym (union_assoc (mask_on h o) (masks_on h xs) (masks_on h ys))

mask-other : (h : ℕ) (o : RowOperation) → eqb (handle_of o) h ≡ false → mask_on h o ≡ none
unfolding mask_on handle_of
mask-other h (inserts r) e = refl
mask-other h (deletes r) e = refl
mask-other h (updates m old new) e = rw e

-- a row that differs in some columns, and then in others, differs at most in both
only-in-both : {m n : ℕ} {r s t : Row} → OnlyIn m r s → OnlyIn n s t → OnlyIn (bit_or m n) r t
only-in-both {m} {n} p q = record {
  same_handle = q.same_handle ∙ p.same_handle;
  same_table = q.same_table ∙ p.same_table;
  elsewhere = λ c b. let z = bit-or m n c b in q.elsewhere c z.1 ∙ p.elsewhere c z.0;
}

-- ---- One operation of the handle moves the effect on

born-step : {s : Life} {u : Option ℕ} (r : Row) → After s not_given u
    → join (between s not_given u) (inserted r.table) ≡ between s (at r) u
unfolding all
born-step r still = refl

turns-step : {s : Life} {old new : Row} {u : Option ℕ} {m : ℕ} → OnlyIn m old new → After s (at old) u
    → join (between s (at old) u) (updated m old) ≡ between s (at new) (union u (some m))
unfolding all
turns-step o come = ap inserted (sym o.same_table)
turns-step o same = refl
turns-step o (altered p) = refl

dies-step : {s : Life} {r : Row} {u : Option ℕ} → After s (at r) u → join (between s (at r) u) (deleted r) ≡ between s (gone r) u
unfolding all
dies-step come = refl
dies-step same = refl
dies-step (altered p) = refl

after-born : {s : Life} {u : Option ℕ} (r : Row) → After s not_given u → After s (at r) u
after-born r still = come

after-turns : {s : Life} {old new : Row} {u : Option ℕ} {m : ℕ} → OnlyIn m old new → After s (at old) u
    → After s (at new) (union u (some m))
unfolding union
after-turns o come = come
after-turns o same = altered o
after-turns o (altered p) = altered (only-in-both p o)

after-dies : {s : Life} {r : Row} {u : Option ℕ} → After s (at r) u → After s (gone r) u
after-dies come = passed
after-dies same = left
after-dies (altered p) = left

-- the effect w joined by the operations, and where they lead, where the masks u were before them
record Told (h : ℕ) (s e : Life) (w : Effect) (u : Option ℕ) (os : List RowOperation) : Type 0 where
  effect : joined_on h w os ≡ between s e (union u (masks_on h os))
  after : After s e (union u (masks_on h os))

told : {h : ℕ} {s t e : Life} {u : Option ℕ} {os : List RowOperation} → After s t u → Lives h t os e → Told h s e (between s t u) u os
unfolding joined_on masks_on mask_on handle_of effect_of union
told {s = s} {t = t} {u = u} a rest = record { effect = rw union-none; after = rw union-none a }
told {h = h} a (other o n l) = let i = told a l in record {
  effect = rw (single-other h o n, join-nothing, mask-other h o n) i.effect;
  after = rw (mask-other h o n) i.after;
}
told {h = h} a (born {r = r} q l) = let i = told (after-born r a) l in record {
  effect = rw (single-own h (inserts r) q, born-step r a) i.effect;
  after = i.after;
}
told {h = h} {u = u} a (turns {os = os} {mask = m} {old = old} {new = new} q o l) = let i = told (after-turns o a) l in record {
  effect = rw (single-own h (updates m old new) q, turns-step o a, q, ← union_assoc u (some m) (masks_on h os)) i.effect;
  after = rw (q, ← union_assoc u (some m) (masks_on h os)) i.after;
}
told {h = h} a (dies {r = r} q l) = let i = told (after-dies a) l in record {
  effect = rw (single-own h (deletes r) q, dies-step a) i.effect;
  after = i.after;
}

module _ {h : ℕ} {s e : Life} {os : List RowOperation} (l : Lives h s os e) where
  after : After s e (masks_on h os)
  unfolding union
  after = (told (after_none s) l).after

  net-between : net h os ≡ between s e (masks_on h os)
  unfolding net union
  net-between = ap (λ (w : Effect). joined_on h w os) (sym (between_none s)) ∙ (told (after_none s) l).effect

-- ---- Two stretches

record Joins (s t e : Life) (u v : Option ℕ) : Type 0 where
  whole : join (between s t u) (between t e v) ≡ between s e (union u v)
  unmarked : reachable (kind (between s t u)) (kind (between t e v)) ≡ true

joins : {s t e : Life} {u v : Option ℕ} → After s t u → After t e v → Joins s t e u v
unfolding all
joins still still = record { whole = refl; unmarked = refl }
joins still come = record { whole = refl; unmarked = refl }
joins still passed = record { whole = refl; unmarked = refl }
joins come same = record { whole = refl; unmarked = refl }
joins come (altered o) = record { whole = ap inserted (sym o.same_table); unmarked = refl }
joins come left = record { whole = refl; unmarked = refl }
joins passed ended = record { whole = refl; unmarked = refl }
joins same same = record { whole = refl; unmarked = refl }
joins same (altered o) = record { whole = refl; unmarked = refl }
joins same left = record { whole = refl; unmarked = refl }
joins (altered p) same = record { whole = refl; unmarked = refl }
joins (altered p) (altered o) = record { whole = refl; unmarked = refl }
joins (altered p) left = record { whole = refl; unmarked = refl }
joins left ended = record { whole = refl; unmarked = refl }
joins ended ended = record { whole = refl; unmarked = refl }

not-unreachable : (k : ℕ) → ltb k unreachable ≡ true → k ≢ unreachable
not-unreachable k t q = let l = ltb-true k unreachable t in omega arith

module _ {h : ℕ} {s t e : Life} {xs ys : List RowOperation} (l : Lives h s xs t) (m : Lives h t ys e) where
  net-joins : net h (xs ++ ys) ≡ join (net h xs) (net h ys)
  net-joins =
      rw (net-between (lives-append l m), net-between l, net-between m, masks-append h xs ys, (joins (after l) (after m)).whole)

  net-unmarked : join_kind (kind (net h xs)) (kind (net h ys)) ≢ unreachable
  net-unmarked =
      not-unreachable (join_kind (kind (net h xs)) (kind (net h ys)))
      (rw (net-between l, net-between m) (joins (after l) (after m)).unmarked)

-- ---- The rows before and after

after-differs : {s e : Life} {u : Option ℕ} → After s e u → Differs (between s e u) (row_of s) (row_of e)
unfolding all
after-differs still = stays
after-differs come = comes
after-differs passed = stays
after-differs same = stays
after-differs (altered o) = changes o
after-differs left = goes
after-differs ended = stays

stays-gone : {h : ℕ} {r : Row} {e : Life} {os : List RowOperation} → Lives h (gone r) os e → e ≡ gone r
stays-gone rest = refl
stays-gone (other o n l) = stays-gone l

-- a handle that goes was deleted with its last row
last_row : {h : ℕ} {r s : Row} {os : List RowOperation} (q : Row) → Lives h (at r) os (gone s) → deleted_in h q os ≡ s
unfolding deleted_in handle_of
last_row q (other (inserts x) n l) = last_row q l
last_row q (other (deletes x) n l) = rw n (last_row q l)
last_row q (other (updates m old new) n l) = last_row q l
last_row q (turns f o l) = last_row q l
last_row {s = s} q (dies {r = r} f l) = let g : gone s ≡ gone r = stays-gone l in rw f cc

between-outside : {h : ℕ} {s e : Life} {u : Option ℕ} {os : List RowOperation} → After s e u → Lives h s os e
    → between s e u ≡ from_outside (row_of s) (row_of e) u (λ r. deleted_in h r os)
unfolding all
between-outside still l = refl
between-outside come l = refl
between-outside passed l = refl
between-outside same l = refl
between-outside (altered o) l = refl
between-outside (left {r = r}) l = ap deleted (sym (last_row r l))
between-outside ended l = refl

-- ---- A handle in an image

data At (h : ℕ) (m : Image) : Life → Type 0 where
  here : {r : Row} → row_at h m.rows ≡ some r → h < m.next → At h m (at r)
  not_yet : row_at h m.rows ≡ none → m.next ≤ h → At h m not_given
  was_here : {r : Row} → row_at h m.rows ≡ none → h < m.next → At h m (gone r)

at_row : {h : ℕ} {m : Image} {s : Life} → At h m s → row_at h m.rows ≡ row_of s
unfolding row_of
at_row (here q l) = q
at_row (not_yet q l) = q
at_row (was_here q l) = q

-- each handle of a sound image is somewhere
record Somewhere (h : ℕ) (m : Image) : Type 0 where
  life : Life
  there : At h m life

somewhere : {m : Image} → Sound m → (h : ℕ) → Somewhere h m
somewhere {m} s h = go (row_at h m.rows) refl (ltb h m.next) refl
  where
    go : (o : Option Row) → row_at h m.rows ≡ o → (b : Bool) → ltb h m.next ≡ b → Somewhere h m
    go (some r) q b t = record { life = at r; there = here q (live_below h r s.rises q) }
    go none q true t = record { life = gone (record { handle = h; table = 0; values = [] }); there = was_here q (ltb-true h m.next t) }
    go none q false t = record { life = not_given; there = not_yet q (ltb-false h m.next t) }

-- the operations lead the handle to where it is in the image after them
record Leads (h : ℕ) (s : Life) (os : List RowOperation) (m : Image) : Type 0 where
  reached : Life
  by : Lives h s os reached
  there : At h m reached

-- an operation on another handle
leads-other : {m : Image} {o : RowOperation} {h : ℕ} {s : Life} → Fits m o → eqb (handle_of o) h ≡ false → At h m s
    → Leads h s (o ∷ []) (make o m)
leads-other {m} {o} {h} {s} f n a = record { reached = s; by = other o n rest; there = on a (row_at-other h f n) (next-rises f) }
  where
    on : {s : Life} → At h m s → row_at h (make o m).rows ≡ row_at h m.rows → m.next ≤ (make o m).next → At h (make o m) s
    on (here q l) z i = here (z ∙ q) (omega arith)
    on (not_yet q l) z i = not_yet (z ∙ q) (next-other h f n l)
    on (was_here q l) z i = was_here (z ∙ q) (omega arith)

-- an operation on the handle itself
leads-own : {m : Image} {o : RowOperation} {s : Life} → Fits m o → At (handle_of o) m s → Leads (handle_of o) s (o ∷ []) (make o m)
unfolding handle_of make
leads-own (insert_fits p q u v) (here x l) = absurd (omega arith)
leads-own (insert_fits p q u v) (was_here x l) = absurd (omega arith)
leads-own {m} (insert_fits {r = r} p q u v) (not_yet x l) =
    record { reached = at r; by = born (eqb-self r.handle) rest; there = here (row_at-inserted m r x) (omega arith) }
leads-own {m} (delete_fits {r = r} p) (here {r = s} x l) =
    let same : r ≡ s = cc in
    subst (λ (y : Row). Leads r.handle (at y) (deletes r ∷ []) (make (deletes r) m)) same
    (record { reached = gone r; by = dies (eqb-self r.handle) rest; there = was_here (row_at-deleted m r) l })
leads-own (delete_fits p) (not_yet x l) = clash x p
leads-own (delete_fits p) (was_here x l) = clash x p
leads-own {m} (update_fits {mask = mask} {old = old} {new = new} p o q) (here {r = s} x l) =
    let same : old ≡ s = cc in
    subst (λ (y : Row). Leads old.handle (at y) (updates mask old new ∷ []) (make (updates mask old new) m)) same
    (record {
      reached = at new;
      by = turns (eqb-self old.handle) o rest;
      there = here (row_at-updated m mask old new o.same_handle p) l;
    })
leads-own (update_fits p o q) (not_yet x l) = clash x p
leads-own (update_fits p o q) (was_here x l) = clash x p

leads_one : {m : Image} {o : RowOperation} {h : ℕ} {s : Life} → Fits m o → At h m s → Leads h s (o ∷ []) (make o m)
leads_one {m} {o} {h} {s} f a = go (eqb (handle_of o) h) refl
  where
    go : (b : Bool) → eqb (handle_of o) h ≡ b → Leads h s (o ∷ []) (make o m)
    go true t = subst (λ (k : ℕ). At k m s → Leads k s (o ∷ []) (make o m)) (eqb-true (handle_of o) h t) (leads-own f) a
    go false n = leads-other f n a

leads : {m : Image} {os : List RowOperation} {h : ℕ} {s : Life} → Made m os → At h m s → Leads h s os (make_all os m)
unfolding make_all
leads {s = s} none_made a = record { reached = s; by = rest; there = a }
leads (more f k) a =
    let one = leads_one f a in
    let all = leads k one.there in
    record { reached = all.reached; by = lives-append one.by all.by; there = all.there }

-- ---- The table of a handle

-- the effect, if it is something, is of the table
abbrev pub OfTable : ℕ → Effect → Type 0
OfTable t nothing = Unit {0}
OfTable t (inserted u) = u ≡ t
OfTable t (deleted r) = r.table ≡ t
OfTable t (updated m r) = r.table ≡ t

-- the row that a handle is at, or is gone from, is of the table
abbrev InTable : ℕ → Life → Type 0
InTable t not_given = Unit {0}
InTable t (at r) = r.table ≡ t
InTable t (gone r) = r.table ≡ t

-- the effect is of the table where the handle is at the end
between-table : {s e : Life} {u : Option ℕ} (t : ℕ) → After s e u → InTable t e → OfTable t (between s e u)
unfolding all
between-table t still i = tt
between-table t come i = i
between-table t passed i = tt
between-table t same i = tt
between-table t (altered o) i = sym o.same_table ∙ i
between-table t left i = i
between-table t ended i = tt

-- where the handle is in the table at the end, it was at the start
table_before : {h : ℕ} {s e : Life} {os : List RowOperation} (t : ℕ) → Lives h s os e → InTable t e → InTable t s
table_before t rest i = i
table_before t (other o n l) i = table_before t l i
table_before t (born q l) i = tt
table_before t (turns q o l) i = sym o.same_table ∙ table_before t l i
table_before t (dies q l) i = table_before t l i

-- each is in some table
some-table : (s : Life) → (t : ℕ) × InTable t s
some-table not_given = (0, tt)
some-table (at r) = (r.table, refl)
some-table (gone r) = (r.table, refl)

-- ---- The laws, of operations that fit a sound image one after another

-- the net effect of a stretch, told from outside
pub net-outside : {m : Image} {os : List RowOperation} → Sound m → Made m os → (h : ℕ)
    → net h os ≡ from_outside (row_at h m.rows) (row_at h (make_all os m).rows) (masks_on h os) (λ r. deleted_in h r os)
net-outside s k h =
    let a = somewhere s h in
    let l = leads k a.there in
    rw (at_row a.there, at_row l.there) (net-between l.by ∙ between-outside (after l.by) l.by)

-- what it says of the rows
pub differs : {m : Image} {os : List RowOperation} → Sound m → Made m os → (h : ℕ)
    → Differs (net h os) (row_at h m.rows) (row_at h (make_all os m).rows)
differs s k h =
    let a = somewhere s h in
    let l = leads k a.there in
    rw (at_row a.there, at_row l.there, net-between l.by) (after-differs (after l.by))

-- two stretches
pub net-append : {m : Image} (xs ys : List RowOperation) → Sound m → Made m (xs ++ ys) → (h : ℕ)
    → net h (xs ++ ys) ≡ join (net h xs) (net h ys)
net-append xs ys s k h =
    let l = leads (made-front xs ys k) (somewhere s h).there in net-joins l.by (leads (made-back xs ys k) l.there).by

-- no marked join: of two stretches, or of a stretch and an operation
pub never-marked-stretch : {m : Image} (xs ys : List RowOperation) → Sound m → Made m (xs ++ ys) → (h : ℕ)
    → join_kind (kind (net h xs)) (kind (net h ys)) ≢ unreachable
never-marked-stretch xs ys s k h =
    let l = leads (made-front xs ys k) (somewhere s h).there in net-unmarked l.by (leads (made-back xs ys k) l.there).by

pub never-marked : {m : Image} (xs : List RowOperation) (o : RowOperation) (ys : List RowOperation) → Sound m → Made m (xs ++ (o ∷ ys))
    → (h : ℕ) → join_kind (kind (net h xs)) (kind (single h o)) ≢ unreachable
never-marked xs o ys s k h =
    rw (← net-one h o) (never-marked-stretch xs (o ∷ []) s (made-front (xs ++ (o ∷ [])) ys (rw append_assoc k)) h)

-- what two stretches did to a handle is of one table, each and together
pub record SameTable (h : ℕ) (xs ys : List RowOperation) : Type 0 where
  pub table : ℕ
  pub first : OfTable table (net h xs)
  pub second : OfTable table (net h ys)
  pub both : OfTable table (net h (xs ++ ys))

pub same-table : {m : Image} (xs ys : List RowOperation) → Sound m → Made m (xs ++ ys) → (h : ℕ) → SameTable h xs ys
same-table xs ys s k h =
    let l = leads (made-front xs ys k) (somewhere s h).there in
    let n = leads (made-back xs ys k) l.there in
    let all = lives-append l.by n.by in
    let (t, i) = some-table n.reached in
    record {
      table = t;
      first = rw (net-between l.by) (between-table t (after l.by) (table_before t n.by i));
      second = rw (net-between n.by) (between-table t (after n.by) i);
      both = rw (net-between all) (between-table t (after all) i);
    }
