-- A net effect as a list by rising handle: what it says of each handle is `net`, and one operation more joins it at its handle. It holds
-- because a handle that no operation names has no effect, and an operation changes the effect of its own handle only.
use Rattle.std.specs.Prelude.{if◌then◌else◌}
use mathlib.Core.Path.{◌≡◌, refl, sym, ap, ◌∙◌}
use mathlib.Core.Logic.{◌≢◌}
use mathlib.Core.Bool.{Bool, true, false, ◌||◌}
use mathlib.Core.List.{List, [], ◌∷◌, ◌++◌}
use Prim.Native.Nat.{ℕ, suc, ◌≤◌, ◌<◌}
use native.Mathlib.Omega.{arith}
use lib.Dec.{eqb, ltb}
use borrow.Author.Tests.{eqb-true, eqb-false, ne_eqb, ltb-true, ltb-false, lt-ltb, le-ltb}
use Rattle.meaning.specs.RowOperations.{RowOperation, Effect, NetEffect, nothing, inserted, deleted, updated, handle_of, join}
use Rattle.meaning.specs.RowOperations.{effect_of, single, joined_on, net, place, named_on, named, entry, entries, net_effect, effect_at}
use Rattle.meaning.specs.Theorems.{SaysNet}
use Rattle.meaning.proofs.Lists.{or-false, has, eqb-self}
use Rattle.meaning.proofs.JoinTable.{nothing-join, join-nothing}

-- ---- How an operation joins a net effect

-- the effect e on the handle k joins what is there
unfoldable pub join_into : ℕ → Effect → NetEffect → NetEffect
join_into k e [] = entry k e []
join_into k e (p ∷ ps) =
    if ltb p.0 k then p ∷ join_into k e ps else if eqb p.0 k then entry k (join p.1 e) ps else entry k e (p ∷ ps)

unfoldable pub join_operation : RowOperation → NetEffect → NetEffect
join_operation o es = join_into (handle_of o) (effect_of o) es

-- by rising handle from low on, each handle once, and none with nothing
pub data Listed : ℕ → NetEffect → Type 0 where
  no_entry : {low : ℕ} → Listed low []
  one_entry : {low : ℕ} {p : ℕ × Effect} {ps : NetEffect} → low ≤ p.0 → p.1 ≢ nothing → Listed (suc p.0) ps → Listed low (p ∷ ps)

-- ---- One operation on one handle

pub single-other : (h : ℕ) (o : RowOperation) → eqb (handle_of o) h ≡ false → single h o ≡ nothing
unfolding single
single-other h o e = rw e

pub single-own : (h : ℕ) (o : RowOperation) → eqb (handle_of o) h ≡ true → single h o ≡ effect_of o
unfolding single
single-own h o e = rw e

-- an effect goes on from where it stands
pub joined_on-append : (h : ℕ) (e : Effect) (xs ys : List RowOperation) → joined_on h e (xs ++ ys) ≡ joined_on h (joined_on h e xs) ys
unfolding joined_on
joined_on-append h e [] ys = refl
joined_on-append h e (o ∷ xs) ys = joined_on-append h (join e (single h o)) xs ys

pub net-one : (h : ℕ) (o : RowOperation) → net h (o ∷ []) ≡ single h o
unfolding net joined_on
net-one h o = nothing-join (single h o)

pub net-more : (h : ℕ) (os : List RowOperation) (o : RowOperation) → net h (os ++ (o ∷ [])) ≡ join (net h os) (single h o)
unfolding net joined_on
net-more h os o = joined_on-append h nothing os (o ∷ [])

-- ---- The handles that are named, by rising handle

data Rises : ℕ → List ℕ → Type 0 where
  empty : {low : ℕ} → Rises low []
  above : {low h : ℕ} {hs : List ℕ} → low ≤ h → Rises (suc h) hs → Rises low (h ∷ hs)

place-rises : {low : ℕ} {ks : List ℕ} (k : ℕ) → low ≤ k → Rises low ks → Rises low (place k ks)
unfolding place
place-rises k l empty = above l empty
place-rises {low} k l (above {h = h} {hs = hs} a r) = go (ltb k h) refl (eqb k h) refl (λ (b : suc h ≤ k). place-rises k b r)
  where
    go : (b : Bool) → ltb k h ≡ b → (d : Bool) → eqb k h ≡ d → (suc h ≤ k → Rises (suc h) (place k hs)) → Rises low (place k (h ∷ hs))
    go true t d e ih = let u : suc k ≤ h = ltb-true k h t in rw t (above l (above u r))
    go false t true e ih = rw (t, e) (above a r)
    go false t false e ih = let u = ltb-false k h t in let v = eqb-false k h e in rw (t, e) (above a (ih (omega arith)))

named-rises : {ks : List ℕ} (os : List RowOperation) → Rises 0 ks → Rises 0 (named_on ks os)
unfolding named_on
named-rises [] r = r
named-rises {ks = ks} (o ∷ os) r = named-rises {ks = place (handle_of o) ks} os (place-rises (handle_of o) (omega arith) r)

has-place : (h k : ℕ) (ks : List ℕ) → has h (place k ks) ≡ (eqb h k || has h ks)
unfolding place
has-place h k [] = refl
has-place h k (j ∷ js) = go (ltb k j) refl (eqb k j) refl (has-place h k js)
  where
    swap : (a b c : Bool) → (a || (b || c)) ≡ (b || (a || c))
    swap true true c = refl
    swap true false c = refl
    swap false true c = refl
    swap false false c = refl

    twice : (a c : Bool) → (a || c) ≡ (a || (a || c))
    twice true c = refl
    twice false c = refl

    go : (b : Bool) → ltb k j ≡ b → (d : Bool) → eqb k j ≡ d → has h (place k js) ≡ (eqb h k || has h js)
        → has h (place k (j ∷ js)) ≡ (eqb h k || has h (j ∷ js))
    go true t d e ih = rw t
    go false t true e ih = rw (t, e, eqb-true k j e) (twice (eqb h j) (has h js))
    go false t false e ih = rw (t, e, ih) (swap (eqb h j) (eqb h k) (has h js))

-- a handle that is not named keeps its effect
not_named : (h : ℕ) (ks : List ℕ) (e : Effect) (os : List RowOperation) → has h (named_on ks os) ≡ false
    → (has h ks ≡ false) × (joined_on h e os ≡ e)
unfolding named_on joined_on
not_named h ks e [] q = (q, refl)
not_named h ks e (o ∷ os) q =
    let ih = not_named h (place (handle_of o) ks) (join e (single h o)) os q in
    let n = or-false (eqb h (handle_of o)) (has h ks) (sym (has-place h (handle_of o) ks) ∙ ih.0) in
    let other = single-other h o (ne_eqb (handle_of o) h (λ f. eqb-false h (handle_of o) n.0 (sym f))) in
    (n.1, ih.1 ∙ rw other (join-nothing e))

not_low : {low : ℕ} {hs : List ℕ} (k : ℕ) → k < low → Rises low hs → has k hs ≡ false
not_low k l empty = refl
not_low k l (above {h = h} a r) = rw (ne_eqb k h (λ q. omega arith), not_low k (omega arith) r)

-- ---- One more effect on the handle k

join-low : {low : ℕ} {hs : List ℕ} (g : ℕ → Effect) (k : ℕ) (e : Effect) → k < low → Rises low hs
    → join_into k e (entries g hs) ≡ entry k e (entries g hs)
unfolding entry entries join_into
join-low g k e l empty = refl
join-low g k e l (above {h = h} {hs = hs} a r) = go (g h) (join-low g k e (omega arith) r)
  where
    no : (f : Effect) → join_into k e ((h, f) ∷ entries g hs) ≡ entry k e ((h, f) ∷ entries g hs)
    no f = rw (le-ltb h k (omega arith), ne_eqb h k (λ q. omega arith))

    go : (f : Effect) → join_into k e (entries g hs) ≡ entry k e (entries g hs)
        → join_into k e (entry h f (entries g hs)) ≡ entry k e (entry h f (entries g hs))
    go nothing ih = ih
    go (inserted t) ih = no (inserted t)
    go (deleted x) ih = no (deleted x)
    go (updated m x) ih = no (updated m x)

same_entries : {low : ℕ} {hs : List ℕ} (g g' : ℕ → Effect) → ((h : ℕ) → low ≤ h → g' h ≡ g h) → Rises low hs → entries g' hs ≡ entries g hs
unfolding entry entries
same_entries g g' q empty = refl
same_entries g g' q (above {h = h} a r) = rw (q h a, same_entries g g' (λ k b. q k (omega arith)) r)

module _ (g g' : ℕ → Effect) (k : ℕ) (e : Effect) (here : g' k ≡ join (g k) e) (there : (h : ℕ) → eqb k h ≡ false → g' h ≡ g h) where
  join-entries : {low : ℕ} {hs : List ℕ} → Rises low hs → (has k hs ≡ false → g k ≡ nothing)
      → entries g' (place k hs) ≡ join_into k e (entries g hs)
  unfolding place entry entries join_into
  join-entries empty c = rw (here, c refl, nothing-join)
  join-entries (above {h = h} {hs = hs} a r) c = go (ltb k h) refl (eqb k h) refl (join-entries r)
    where
      over : (h : ℕ) → suc k ≤ h → g' h ≡ g h
      over h l = there h (ne_eqb k h (λ q. omega arith))

      at-k : (f : Effect) → Rises (suc k) hs → entry k (join f e) (entries g hs) ≡ join_into k e (entry k f (entries g hs))
      at-k nothing u = rw nothing-join (sym (join-low g k e (omega arith) u))
      at-k (inserted t) u = sym (rw (le-ltb k k (omega arith), eqb-self k))
      at-k (deleted x) u = sym (rw (le-ltb k k (omega arith), eqb-self k))
      at-k (updated m x) u = sym (rw (le-ltb k k (omega arith), eqb-self k))

      past : (f : Effect) → h < k → entries g' (place k hs) ≡ join_into k e (entries g hs)
          → entry h f (entries g' (place k hs)) ≡ join_into k e (entry h f (entries g hs))
      past nothing l ih = ih
      past (inserted t) l ih = rw (lt-ltb h k l, ih)
      past (deleted x) l ih = rw (lt-ltb h k l, ih)
      past (updated m x) l ih = rw (lt-ltb h k l, ih)

      go : (b : Bool) → ltb k h ≡ b → (d : Bool) → eqb k h ≡ d
          → ((has k hs ≡ false → g k ≡ nothing) → entries g' (place k hs) ≡ join_into k e (entries g hs))
          → entries g' (place k (h ∷ hs)) ≡ join_into k e (entries g (h ∷ hs))
      go true t d q ih =
          let u : suc k ≤ h = ltb-true k h t in
          let v : Rises (suc k) (h ∷ hs) = above u r in
          rw (t, here, c (not_low k (omega arith) v), nothing-join)
          (ap (entry k e) (same_entries g g' over v) ∙ sym (join-low g k e (omega arith) v))
      go false t true q ih =
          let s : k ≡ h = eqb-true k h q in
          let u : Rises (suc k) hs = rw s r in
          rw (t, q, ← s, here, same_entries g g' over u) (at-k (g k) u)
      go false t false q ih =
          let u = ltb-false k h t in let v = eqb-false k h q in
          rw (t, q, there h q) (past (g h) (omega arith) (ih (λ w. c (rw q w))))

-- ---- An operation more joins the net effect

named_more : (ks : List ℕ) (os : List RowOperation) (o : RowOperation) → named_on ks (os ++ (o ∷ [])) ≡ place (handle_of o) (named_on ks os)
unfolding named_on
named_more ks [] o = refl
named_more ks (p ∷ os) o = named_more (place (handle_of p) ks) os o

pub net_effect-none : net_effect [] ≡ []
unfolding net_effect named named_on entries
net_effect-none = refl

pub net_effect-more : (os : List RowOperation) (o : RowOperation) → net_effect (os ++ (o ∷ [])) ≡ join_operation o (net_effect os)
unfolding net_effect named net join_operation
net_effect-more os o =
    ap (entries (λ h. net h (os ++ (o ∷ [])))) (named_more [] os o)
    ∙ join-entries (λ h. net h os) (λ h. net h (os ++ (o ∷ []))) (handle_of o) (effect_of o)
    (net-more (handle_of o) os o ∙ ap (join (net (handle_of o) os)) (single-own (handle_of o) o (eqb-self (handle_of o))))
    (λ h q. net-more h os o ∙ ap (join (net h os)) (single-other h o q) ∙ join-nothing (net h os))
    (named-rises os empty)
    (λ q. (not_named (handle_of o) [] nothing os q).1)

-- ---- Its shape

eased : {low low' : ℕ} {es : NetEffect} → low' ≤ low → Listed low es → Listed low' es
eased l no_entry = no_entry
eased {low' = low'} l (one_entry {p = p} a b c) = let d : low' ≤ p.0 = omega arith in one_entry {p = p} d b c

-- an effect in front of those above it
pub entry_listed : {low k : ℕ} {es : NetEffect} (e : Effect) → low ≤ k → Listed (suc k) es → Listed low (entry k e es)
unfolding entry
entry_listed nothing a r = eased (omega arith) r
entry_listed {k = k} (inserted t) a r = one_entry {p = (k, inserted t)} a (λ q. let z : ◌≡◌ {A = ℕ} 0 1 = cc in omega arith) r
entry_listed {k = k} (deleted x) a r = one_entry {p = (k, deleted x)} a (λ q. let z : ◌≡◌ {A = ℕ} 0 1 = cc in omega arith) r
entry_listed {k = k} (updated m x) a r = one_entry {p = (k, updated m x)} a (λ q. let z : ◌≡◌ {A = ℕ} 0 1 = cc in omega arith) r

entries-listed : {low : ℕ} {hs : List ℕ} (g : ℕ → Effect) → Rises low hs → Listed low (entries g hs)
unfolding entries
entries-listed g empty = no_entry
entries-listed g (above {h = h} a r) = entry_listed (g h) a (entries-listed g r)

pub net_effect-listed : (os : List RowOperation) → Listed 0 (net_effect os)
unfolding net_effect named
net_effect-listed os = entries-listed (λ h. net h os) (named-rises os empty)

-- ---- What it says of a handle

entries_at : {low : ℕ} {hs : List ℕ} (g : ℕ → Effect) (h : ℕ) → Rises low hs
    → effect_at h (entries g hs) ≡ (if has h hs then g h else nothing)
unfolding entry entries effect_at
entries_at g h empty = refl
entries_at g h (above {h = j} {hs = hs} a r) = go (eqb j h) refl (g j) refl (entries_at g h r)
  where
    not-here : eqb j h ≡ false → eqb h j ≡ false
    not-here q = ne_eqb h j (λ e. eqb-false j h q (sym e))

    go : (b : Bool) → eqb j h ≡ b → (f : Effect) → g j ≡ f → effect_at h (entries g hs) ≡ (if has h hs then g h else nothing)
        → effect_at h (entry j f (entries g hs)) ≡ (if (eqb h j || has h hs) then g h else nothing)
    go true q nothing e ih = let s : j ≡ h = eqb-true j h q in rw (ih, not_low h (omega arith) r, ← s, eqb-self j, e)
    go true q (inserted t) e ih = rw (q, ← eqb-true j h q, eqb-self j, e)
    go true q (deleted x) e ih = rw (q, ← eqb-true j h q, eqb-self j, e)
    go true q (updated m x) e ih = rw (q, ← eqb-true j h q, eqb-self j, e)
    go false q nothing e ih = rw (not-here q) ih
    go false q (inserted t) e ih = rw (q, not-here q) ih
    go false q (deleted x) e ih = rw (q, not-here q) ih
    go false q (updated m x) e ih = rw (q, not-here q) ih

pub says-net : SaysNet
unfolding net_effect named net
says-net h os = entries_at (λ h. net h os) h (named-rises os empty) ∙ go (has h (named os)) refl
  where
    go : (b : Bool) → has h (named os) ≡ b → (if has h (named os) then net h os else nothing) ≡ net h os
    go true q = rw q
    go false q = rw q (sym (not_named h [] nothing os q).1)
