-- What two stretches say of one table: the effects of the later join those of the earlier. Lists by rising handle that say the same of each
-- handle are the same; and on each handle it holds, since a handle never changes its table while operations fit.
use Rattle.std.specs.Prelude.{if◌then◌else◌}
use mathlib.Core.Path.{◌≡◌, refl, sym, ap, ◌∙◌, subst}
use mathlib.Core.Logic.{◌≢◌}
use mathlib.Core.Bool.{Bool, true, false}
use mathlib.Core.List.{List, [], ◌∷◌, ◌++◌}
use Prim.Native.Nat.{ℕ, suc, ◌≤◌, ◌<◌}
use native.Mathlib.Omega.{arith}
use lib.Dec.{eqb, ltb}
use borrow.Author.Tests.{eqb-true, eqb-false, ne_eqb, ltb-true, ltb-false}
use Rattle.meaning.specs.Covers.{Image}
use Rattle.meaning.specs.RowOperations.{RowOperation, Effect, nothing, inserted, deleted, updated, NetEffect, join, net, entry}
use Rattle.meaning.specs.RowOperations.{net_effect, effect_at, on_table, own_of}
use Rattle.meaning.proofs.Lists.{eqb-self}
use Rattle.meaning.specs.Made.{Sound, Made}
use Rattle.meaning.proofs.JoinTable.{nothing-join, join-nothing}
use Rattle.meaning.proofs.NetEffects.{join_into, Listed, no_entry, one_entry, entry_listed, says-net, net_effect-listed}
use Rattle.meaning.proofs.Lives.{OfTable, net-append, same-table}
use Rattle.meaning.proofs.OwnTable.{own-listed}

-- ---- What a list says of a handle

-- the effect of its first entry
says_first : (p : ℕ × Effect) (ps : NetEffect) → effect_at p.0 (p ∷ ps) ≡ p.1
unfolding effect_at
says_first p ps = rw (eqb-self p.0)

-- nothing of a handle below all others
says-below : {low : ℕ} {es : NetEffect} (h : ℕ) → h < low → Listed low es → effect_at h es ≡ nothing
unfolding effect_at
says-below h l no_entry = refl
says-below h l (one_entry {p = p} a b c) = rw (ne_eqb p.0 h (λ q. omega arith)) (says-below h (omega arith) c)

not-below : {low : ℕ} {es : NetEffect} (h : ℕ) → Listed low es → effect_at h es ≢ nothing → low ≤ h
not-below {low} h l n = go (ltb h low) refl
  where
    go : (b : Bool) → ltb h low ≡ b → low ≤ h
    go true e = absurd (n (says-below h (ltb-true h low e) l))
    go false e = ltb-false h low e

-- two that say the same of each handle are the same
same-listed : {low low' : ℕ} {xs ys : NetEffect} → Listed low xs → Listed low' ys → ((h : ℕ) → effect_at h xs ≡ effect_at h ys) → xs ≡ ys
unfolding effect_at
same-listed no_entry no_entry f = refl
same-listed no_entry (one_entry {p = p} {ps = ps} a b c) f = absurd (b (sym (f p.0 ∙ says_first p ps)))
same-listed (one_entry {p = p} {ps = ps} a b c) no_entry f = absurd (b (sym (says_first p ps) ∙ f p.0))
same-listed (one_entry {p = p} {ps = ps} a b c) (one_entry {p = q} {ps = qs} d e g) f =
    let pp : p.0 ≤ p.0 = omega arith in
    let qq : q.0 ≤ q.0 = omega arith in
    let u = not-below q.0 (one_entry {p = p} pp b c) (λ z. e (sym (says_first q qs) ∙ sym (f q.0) ∙ z)) in
    let v = not-below p.0 (one_entry {p = q} qq e g) (λ z. b (sym (says_first p ps) ∙ f p.0 ∙ z)) in
    let handle : p.0 ≡ q.0 = omega arith in
    let here : effect_at p.0 (q ∷ qs) ≡ q.1 = subst (λ h. effect_at h (q ∷ qs) ≡ q.1) (sym handle) (says_first q qs) in
    let effect : p.1 ≡ q.1 = sym (says_first p ps) ∙ f p.0 ∙ here in
    let tail : ps ≡ qs = same-listed c g (λ h. go handle h (eqb p.0 h) refl) in
    λ i. (handle i, effect i) ∷ tail i
  where
    go : p.0 ≡ q.0 → (h : ℕ) (x : Bool) → eqb p.0 h ≡ x → effect_at h ps ≡ effect_at h qs
    go s h true r = let v = eqb-true p.0 h r in says-below h (omega arith) c ∙ sym (says-below h (omega arith) g)
    go s h false r = let n : eqb q.0 h ≡ false = rw (← s) r in rw (r, n) at (f h)

-- ---- Effects joined, one after another

-- the effects of a later stretch join those of an earlier one, one after another
unfoldable pub join_effects : NetEffect → NetEffect → NetEffect
join_effects [] es = es
join_effects (p ∷ ps) es = join_effects ps (join_into p.0 p.1 es)

pub join-into-listed : {low : ℕ} {es : NetEffect} (k : ℕ) (e : Effect) → low ≤ k → Listed low es → Listed low (join_into k e es)
unfolding join_into
join-into-listed k e l no_entry = entry_listed e l no_entry
join-into-listed {low} k e l (one_entry {p = p} {ps = ps} a b c) =
    go (ltb p.0 k) refl (eqb p.0 k) refl (λ (f : suc p.0 ≤ k). join-into-listed k e f c)
  where
    go : (d : Bool) → ltb p.0 k ≡ d → (x : Bool) → eqb p.0 k ≡ x → (suc p.0 ≤ k → Listed (suc p.0) (join_into k e ps))
        → Listed low (join_into k e (p ∷ ps))
    go true q x r ih = rw q (one_entry {p = p} a b (ih (ltb-true p.0 k q)))
    go false q true r ih =
        let c' : Listed (suc k) ps = rw (← eqb-true p.0 k r) c in rw (q, r) (entry_listed (join p.1 e) l c')
    go false q false r ih =
        let u = ltb-false p.0 k q in
        let v = eqb-false p.0 k r in
        let w : suc k ≤ p.0 = omega arith in
        rw (q, r) (entry_listed e l (one_entry {p = p} w b c))

join-listed : {low : ℕ} {ps es : NetEffect} → Listed low ps → Listed 0 es → Listed 0 (join_effects ps es)
unfolding join_effects
join-listed no_entry l = l
join-listed (one_entry {p = p} a b c) l = join-listed c (join-into-listed p.0 p.1 (omega arith) l)

-- ---- What they say of a handle

entry-same : {es : NetEffect} (k : ℕ) (e : Effect) → Listed (suc k) es → effect_at k (entry k e es) ≡ e
unfolding entry effect_at
entry-same k nothing l = says-below k (omega arith) l
entry-same k (inserted t) l = rw (eqb-self k)
entry-same k (deleted r) l = rw (eqb-self k)
entry-same k (updated m r) l = rw (eqb-self k)

entry_other : (h k : ℕ) (e : Effect) (es : NetEffect) → eqb k h ≡ false → effect_at h (entry k e es) ≡ effect_at h es
unfolding entry effect_at
entry_other h k nothing es n = refl
entry_other h k (inserted t) es n = rw n
entry_other h k (deleted r) es n = rw n
entry_other h k (updated m r) es n = rw n

into-same : {low : ℕ} {es : NetEffect} (k : ℕ) (e : Effect) → Listed low es → effect_at k (join_into k e es) ≡ join (effect_at k es) e
unfolding join_into effect_at
into-same k e no_entry = entry-same k e no_entry ∙ sym (nothing-join e)
into-same k e (one_entry {p = p} {ps = ps} a b c) = go (ltb p.0 k) refl (eqb p.0 k) refl (into-same k e c)
  where
    go : (d : Bool) → ltb p.0 k ≡ d → (x : Bool) → eqb p.0 k ≡ x → effect_at k (join_into k e ps) ≡ join (effect_at k ps) e
        → effect_at k (join_into k e (p ∷ ps)) ≡ join (effect_at k (p ∷ ps)) e
    go true q x r ih = let l = ltb-true p.0 k q in rw (q, ne_eqb p.0 k (λ s. omega arith)) ih
    go false q true r ih =
        let l : Listed (suc k) ps = rw (← eqb-true p.0 k r) c in rw (q, r) (entry-same k (join p.1 e) l)
    go false q false r ih =
        let u = ltb-false p.0 k q in
        let v = eqb-false p.0 k r in
        let w : suc k ≤ p.0 = omega arith in
        rw (q, r, says-below k (omega arith) c, nothing-join) (entry-same k e (one_entry {p = p} w b c))

into-other : (h k : ℕ) (e : Effect) (es : NetEffect) → eqb k h ≡ false → effect_at h (join_into k e es) ≡ effect_at h es
unfolding join_into effect_at
into-other h k e [] n = entry_other h k e [] n
into-other h k e (p ∷ ps) n = go (ltb p.0 k) refl (eqb p.0 k) refl (into-other h k e ps n)
  where
    go : (d : Bool) → ltb p.0 k ≡ d → (x : Bool) → eqb p.0 k ≡ x → effect_at h (join_into k e ps) ≡ effect_at h ps
        → effect_at h (join_into k e (p ∷ ps)) ≡ effect_at h (p ∷ ps)
    go true q x r ih = rw (q, ih)
    go false q true r ih = rw (q, r, eqb-true p.0 k r, n) (entry_other h k (join p.1 e) ps n)
    go false q false r ih = rw (q, r) (entry_other h k e (p ∷ ps) n)

-- on each handle the later effect joins the earlier one
says-joined : {low : ℕ} {ps es : NetEffect} (h : ℕ) → Listed low ps → Listed 0 es
    → effect_at h (join_effects ps es) ≡ join (effect_at h es) (effect_at h ps)
unfolding join_effects effect_at
says-joined {es = es} h no_entry l = sym (join-nothing (effect_at h es))
says-joined {es = es} h (one_entry {p = p} {ps = ps} a b c) l =
    go (eqb p.0 h) refl (says-joined h c (join-into-listed p.0 p.1 (omega arith) l))
  where
    go : (d : Bool) → eqb p.0 h ≡ d
        → effect_at h (join_effects ps (join_into p.0 p.1 es)) ≡ join (effect_at h (join_into p.0 p.1 es)) (effect_at h ps)
        → effect_at h (join_effects (p ∷ ps) es) ≡ join (effect_at h es) (effect_at h (p ∷ ps))
    go true q ih =
        let s : p.0 ≡ h = eqb-true p.0 h q in
        ih ∙ rw (says-below h (omega arith) c, join-nothing, q, ← s) (into-same p.0 p.1 l)
    go false q ih = ih ∙ rw (into-other h p.0 p.1 es q, q)

-- ---- Of one table

-- the effect, if it is on the table
abbrev part : ℕ → Effect → Effect
part t e = if on_table t e then e else nothing

says-own : {low : ℕ} {es : NetEffect} (t h : ℕ) → Listed low es → effect_at h (own_of t es) ≡ part t (effect_at h es)
unfolding on_table own_of effect_at
says-own t h no_entry = refl
says-own t h (one_entry {p = p} {ps = ps} a b c) = go (on_table t p.1) refl (eqb p.0 h) refl (says-own t h c)
  where
    go : (d : Bool) → on_table t p.1 ≡ d → (x : Bool) → eqb p.0 h ≡ x → effect_at h (own_of t ps) ≡ part t (effect_at h ps)
        → effect_at h (own_of t (p ∷ ps)) ≡ part t (effect_at h (p ∷ ps))
    go true q true r ih = rw (q, r, q)
    go true q false r ih = rw (q, r) ih
    go false q true r ih = let s = eqb-true p.0 h r in rw (q, r, q) (says-below h (omega arith) (own-listed t c))
    go false q false r ih = rw (q, r) ih

-- the part of what is of a table
part_of : (t u : ℕ) (e : Effect) → OfTable u e → part t e ≡ (if eqb u t then e else nothing)
unfolding on_table
part_of t u nothing o = go (eqb u t)
  where
    go : (b : Bool) → nothing ≡ (if b then nothing else nothing)
    go true = refl
    go false = refl
part_of t u (inserted x) o = rw o
part_of t u (deleted r) o = rw o
part_of t u (updated m r) o = rw o

part_join : (t u : ℕ) (a b : Effect) → OfTable u a → OfTable u b → OfTable u (join a b) → part t (join a b) ≡ join (part t a) (part t b)
part_join t u a b i j k = rw (part_of t u a i, part_of t u b j, part_of t u (join a b) k) (go (eqb u t))
  where
    go : (d : Bool) → (if d then join a b else nothing) ≡ join (if d then a else nothing) (if d then b else nothing)
    go true = refl
    go false = sym (join-nothing nothing)

-- ---- The law

pub own-append : {m : Image} (t : ℕ) (xs ys : List RowOperation) → Sound m → Made m (xs ++ ys)
    → own_of t (net_effect (xs ++ ys)) ≡ join_effects (own_of t (net_effect ys)) (own_of t (net_effect xs))
own-append t xs ys s k = same-listed (own (xs ++ ys)) (join-listed (own ys) (own xs)) go
  where
    own : (os : List RowOperation) → Listed 0 (own_of t (net_effect os))
    own os = own-listed t (net_effect-listed os)

    says : (h : ℕ) (os : List RowOperation) → effect_at h (own_of t (net_effect os)) ≡ part t (net h os)
    says h os = says-own t h (net_effect-listed os) ∙ ap (part t) (says-net h os)

    go : (h : ℕ) → effect_at h (own_of t (net_effect (xs ++ ys))) ≡ effect_at h (join_effects (own_of t (net_effect ys)) (own_of t (net_effect xs)))
    go h =
        let e = net-append xs ys s k h in
        let o = same-table xs ys s k h in
        rw (says h (xs ++ ys), says-joined h (own ys) (own xs), says h xs, says h ys, e)
        (part_join t o.table (net h xs) (net h ys) o.first o.second (rw (← e) o.both))
