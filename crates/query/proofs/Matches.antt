-- Laws of a match with the rows of a source. Those are the ones that the source shows of the table where they stand; where there are none
-- the match holds of no row, and its opposite of every row.
use Rattle.std.specs.Prelude.{if◌then◌else◌}
use mathlib.Core.Path.{◌≡◌, refl, sym, ap, ◌∙◌}
use mathlib.Core.Bool.{Bool, true, false, not}
use mathlib.Core.List.{List, [], ◌∷◌, map}
use Prim.Native.Nat.{ℕ}
use native.Mathlib.Omega.{arith}
use Rattle.meaning.specs.Base.{any, select}
use Rattle.meaning.specs.Covers.{Pair}
use Rattle.meaning.specs.Processing.Queries.{agree_on}
use Rattle.slots.specs.declared.Slot.{Slot}
use Rattle.slots.specs.Slots.{table_at}
use Rattle.room.specs.Room.{row_meant, rows_meant}
use Rattle.query.specs.declared.Picked.{Picked}
use Rattle.query.specs.declared.Pairs.{Pairs}
use Rattle.query.specs.Chosen.{base_of, shows, rows_from}
use Rattle.query.specs.Picks.{slots_of, Within, PicksOut, AsPairs, match_holds}
use Rattle.query.specs.Columns.{agrees_with, kept_by}
use Rattle.query.proofs.Laws.{any-map, rows-from}

every-kept : (l : List Slot) → select (λ e. true) l ≡ l
every-kept [] = refl
every-kept (e ∷ l) = ap (λ (r : List Slot). e ∷ r) (every-kept l)

none_kept : (l : List Slot) → select (λ e. false) l ≡ []
none_kept [] = refl
none_kept (e ∷ l) = none_kept l

opposite : (b : Bool) → (if b then not false else false) ≡ b
opposite true = refl
opposite false = refl

module _ (xs : List ℕ) (source : ℕ) {from : ℕ} (based : from ≡ base_of source) {others : Picked}
    (shown : PicksOut (table_at xs from) (select (shows source) (table_at xs from)) others) where
  source-slots : rows_from xs source ≡ map row_meant (slots_of (table_at xs from) others)
  unfolding rows_meant
  source-slots = rows-from xs source ∙ rw (shown.slots, based)

  module _ {ps : List Pair} {p : Pairs} (same-pairs : AsPairs ps p) (negated : Bool) where
    some-agree : (e : Slot) → any (agree_on ps (row_meant e)) (rows_from xs source) ≡ agrees_with p (slots_of (table_at xs from) others) e
    unfolding agrees_with
    some-agree e =
        ap (any (agree_on ps (row_meant e))) source-slots
        ∙ any-map row_meant (agree_on ps (row_meant e)) (slots_of (table_at xs from) others)
        ∙ (λ i. any (λ x. sym (same-pairs.each (row_meant e) (row_meant x)) i) (slots_of (table_at xs from) others))

    match-agrees : (e : Slot) → match_holds xs ps source negated e ≡ kept_by negated (agrees_with p (slots_of (table_at xs from) others) e)
    unfolding match_holds kept_by
    match-agrees e = rw (some-agree e)

    pub match-kept : {l : List Slot} (rows : List Slot) {r : Picked}
        → PicksOut l (select (λ e. kept_by negated (agrees_with p (slots_of (table_at xs from) others) e)) rows) r
        → PicksOut l (select (match_holds xs ps source negated) rows) r
    match-kept rows k =
        record { within = k.within; slots = k.slots ∙ (λ i. select (λ e. sym (match-agrees e) i) rows) }

  -- with no row of the source
  module _ (none : others.count ≡ 0) (ps : List Pair) (negated : Bool) (l : List Slot) (rows : Picked) (within : Within l rows) where
    match_none : (e : Slot) → match_holds xs ps source negated e ≡ negated
    unfolding match_holds slots_of
    match_none e = rw (source-slots, none) (opposite negated)

    kept_by_lem : (b : Bool) → negated ≡ b → select (match_holds xs ps source negated) (slots_of l rows) ≡ select (λ e. b) (slots_of l rows)
    kept_by_lem b n i = select (λ e. (match_none e ∙ n) i) (slots_of l rows)

    pub none-every : negated ≡ true → PicksOut l (select (match_holds xs ps source negated) (slots_of l rows)) rows
    none-every n = record { within = within; slots = sym (kept_by_lem true n ∙ every-kept (slots_of l rows)) }

    pub none_any : (places : List ℕ) → negated ≡ false
        → PicksOut l (select (match_holds xs ps source negated) (slots_of l rows)) (record { count = 0; places = places })
    unfolding slots_of
    none_any places n =
        record {
          within = record { few = omega arith; inside = λ j h. absurd (omega arith) };
          slots = sym (kept_by_lem false n ∙ none_kept (slots_of l rows));
        }
