-- Terms that are asked one after another, each of the rows that are left: those of which all terms hold are, of the rows that are left,
-- those of which the terms that are left hold.
use mathlib.Core.Path.{◌≡◌, refl, sym, ap, ◌∙◌}
use mathlib.Core.Bool.{Bool, true, ◌&&◌}
use mathlib.Core.List.{List, [], ◌∷◌}
use Rattle.meaning.specs.Base.{all, select}
use Rattle.slots.specs.declared.Slot.{Slot}
use Rattle.query.specs.declared.Picked.{Picked}
use Rattle.query.specs.Picks.{slots_of, Within, PicksOut}
use Rattle.query.proofs.Laws.{select-select}

-- with no term left nothing is asked
select-each : {A : Type 0} (l : List A) → select (λ x. true) l ≡ l
select-each [] = refl
select-each {A} (x ∷ l) = ap (λ (r : List A). x ∷ r) (select-each l)

pub record Asking {T : Type 0} (p : T → Slot → Bool) (l : List Slot) (whole left : List T) (shown rows : Picked) : Type 0 where
  pub within : Within l rows
  pub list : select (λ e. all (λ t. p t e) whole) (slots_of l shown) ≡ select (λ e. all (λ t. p t e) left) (slots_of l rows)

module _ {T : Type 0} {p : T → Slot → Bool} {l : List Slot} where
  pub asking-start : (whole : List T) (shown : Picked) → Within l shown → Asking p l whole whole shown shown
  asking-start whole shown w = record { within = w; list = refl }

  module _ {whole left : List T} {shown rows : Picked} (s : Asking p l whole left shown rows) where
    pub asking-more : {t : T} {next : List T} {narrower : Picked} → left ≡ t ∷ next
        → PicksOut l (select (p t) (slots_of l rows)) narrower → Asking p l whole next shown narrower
    asking-more {t} {next} e k =
        record {
          within = k.within;
          list = s.list ∙ rw (e, k.slots) (sym (select-select (λ r. all (λ u. p u r) next) (p t) (slots_of l rows)));
        }

    -- of the rows of a table that are shown
    pub asking-done : (shows : Slot → Bool) → left ≡ [] → PicksOut l (select shows l) shown
        → PicksOut l (select (λ e. shows e && all (λ t. p t e) whole) l) rows
    asking-done shows e k =
        record {
          within = s.within;
          slots =
              sym (sym (select-select (λ r. all (λ t. p t r) whole) shows l)
              ∙ ap (select (λ r. all (λ t. p t r) whole)) (sym k.slots)
              ∙ s.list
              ∙ rw e (select-each (slots_of l rows)));
        }
