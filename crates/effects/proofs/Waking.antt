-- Whether a slot wakes a rule, by its kind; and what `any` over the places of a table answers: whether a slot of it does.
use Rattle.std.specs.Prelude.{if◌then◌else◌}
use Rattle.std.specs.Bool.{MatchBool}
use Rattle.std.specs.List.{AllWithin, HoldsAt, range_with_len}
use Rattle.std.proofs.lemmas.List.FromFn.{length-range_with_len, get_or-range_with_len}
use mathlib.Core.Path.{◌≡◌, refl, sym, ◌∙◌}
use mathlib.Core.Bool.{Bool, true, false, not, and-true, and-false}
use mathlib.Core.List.{List, [], ◌∷◌}
use Prim.Native.Nat.{ℕ, zero, suc, ◌<◌}
use native.Mathlib.Nat.{zero-add}
use native.Mathlib.Omega.{arith}
use borrow.Author.Tests.{eq-eqb, ne_eqb}
use lib.Bits.{bit_and}
use lib.Dec.{eqb}
use lib.ListN.{length, get_or}
use Rattle.meaning.specs.Base.{any, bit}
use Rattle.meaning.specs.RowOperations.{nothing, inserted, deleted, updated}
use Rattle.meaning.specs.Processing.TransitionTables.{wakes, own_table, meets}
use Rattle.words.proofs.Laws.{split}
use Rattle.slots.specs.declared.Slot.{Slot}
use Rattle.slots.specs.Slots.{blank}
use Rattle.room.specs.declared.Watch.{Watch}
use Rattle.room.specs.Room.{watch_rule, row_meant, effect_meant, entry_meant, wait_meant}

-- ---- One slot

module _ (w : Watch) (e : Slot) where
  -- of another table
  pub wakes-other : (e.table ≡ w.table → ⊥) → false ≡ wakes (watch_rule w) (effect_meant e)
  unfolding wakes own_table watch_rule row_meant effect_meant
  wakes-other n = by (eqb e.kind 1) (eqb e.kind 2) (eqb e.kind 3) (ne_eqb e.table w.table n)
    where
      by : (t u v : Bool) → eqb e.table w.table ≡ false
          → false ≡ wakes (watch_rule w)
          (if t then inserted e.table else
          if u then deleted (row_meant e) else
          if v then updated e.mask (row_meant e) else nothing)
      by true u v q = rw q (sym (and-false (bit w.triggers 0)))
      by false true v q = rw q (sym (and-false (bit w.triggers 1)))
      by false false true q = rw (q, and-false (bit w.triggers 2))
      by false false false q = refl

  module _ (own : e.table ≡ w.table) where
    pub wakes-inserted : e.kind ≡ 1 → bit w.triggers 0 ≡ wakes (watch_rule w) (effect_meant e)
    unfolding wakes own_table watch_rule effect_meant
    wakes-inserted k = rw (eq-eqb e.kind 1 k, eq-eqb e.table w.table own) (sym (and-true (bit w.triggers 0)))

    pub wakes-deleted : e.kind ≡ 2 → bit w.triggers 1 ≡ wakes (watch_rule w) (effect_meant e)
    unfolding wakes own_table watch_rule row_meant effect_meant
    wakes-deleted k = rw (k, eq-eqb e.table w.table own) (sym (and-true (bit w.triggers 1)))

    pub wakes-updated : e.kind ≡ 3 → bit w.triggers 2 ≡ true
        → not (eqb (bit_and e.mask w.columns) 0) ≡ wakes (watch_rule w) (effect_meant e)
    unfolding wakes own_table meets watch_rule row_meant effect_meant
    wakes-updated k b = rw (k, b, eq-eqb e.table w.table own)

    pub wakes-not-updated : e.kind ≡ 3 → bit w.triggers 2 ≡ false → false ≡ wakes (watch_rule w) (effect_meant e)
    unfolding wakes watch_rule row_meant effect_meant
    wakes-not-updated k b = rw (k, b)

  pub wakes-nothing : (e.kind ≡ 1 → ⊥) → (e.kind ≡ 2 → ⊥) → (e.kind ≡ 3 → ⊥) → false ≡ wakes (watch_rule w) (effect_meant e)
  unfolding wakes watch_rule effect_meant
  wakes-nothing a b c = rw (ne_eqb e.kind 1 a, ne_eqb e.kind 2 b, ne_eqb e.kind 3 c)

-- ---- One slot after another

-- whether one of these wakes the rule
abbrev pub any_wakes : Watch → List Slot → Bool
any_wakes w l = any (λ p. wakes (watch_rule w) p.1) (wait_meant l)

any-yes : (w : Watch) (e : Slot) (l : List Slot) → wakes (watch_rule w) (effect_meant e) ≡ true → any_wakes w (e ∷ l) ≡ true
unfolding wait_meant entry_meant
any-yes w e l q = rw q

any-no : (w : Watch) (e : Slot) (l : List Slot) → wakes (watch_rule w) (effect_meant e) ≡ false → any_wakes w (e ∷ l) ≡ any_wakes w l
unfolding wait_meant entry_meant
any-no w e l q = rw q

-- whether the slot at a place does
abbrev pub slot_wakes : Watch → List Slot → ℕ → Bool
slot_wakes w l i = wakes (watch_rule w) (effect_meant (get_or l i blank))

module _ (w : Watch) where
  one-wakes : (l : List Slot) (i : ℕ) → i < length l → slot_wakes w l i ≡ true → any_wakes w l ≡ true
  one-wakes [] i h q = absurd (omega arith)
  one-wakes (e ∷ l) zero h q = any-yes w e l q
  one-wakes (e ∷ l) (suc i) h q =
      split (wakes (watch_rule w) (effect_meant e))
      (any-yes w e l)
      (λ n. any-no w e l n ∙ one-wakes l i (omega arith) q)

  none-wakes : (l : List Slot) → ((i : ℕ) → i < length l → slot_wakes w l i ≡ false) → any_wakes w l ≡ false
  unfolding wait_meant
  none-wakes [] f = refl
  none-wakes (e ∷ l) f = any-no w e l (f 0 (omega arith)) ∙ none-wakes l (λ i h. f (suc i) (omega arith))

  -- what `any` answers over the places of a table's slots
  pub any-answered : (l : List Slot) (n : ℕ) (r : Bool) → n ≡ length l
      → MatchBool r ((i : ℕ) × (i < length (range_with_len 0 n)) × HoldsAt (λ i. slot_wakes w l i ≡ true) (range_with_len 0 n) i)
      (AllWithin (λ i. slot_wakes w l i ≡ false) (range_with_len 0 n) 0 (length (range_with_len 0 n)))
      → r ≡ any_wakes w l
  any-answered l n true s (i, b, f) =
      let within : i < n = omega (arith, length-range_with_len 0 n) in
      let it : slot_wakes w l i ≡ true = rw (get_or-range_with_len 0 n i 0 within, zero-add) at (f 0) in
      sym (one-wakes l i (omega arith) it)
  any-answered l n false s f = sym (none-wakes l none)
    where
      none : (i : ℕ) → i < length l → slot_wakes w l i ≡ false
      none i h =
          let within : i < length (range_with_len 0 n) = omega (arith, length-range_with_len 0 n) in
          rw (get_or-range_with_len 0 n i 0 (omega arith), zero-add) at (f i 0 (omega arith) within)
