-- The loop that fills a row with what is worked out: the expressions still to come are worked out over the old row, and the row filled
-- with their values is the row wanted. One that cannot be read ends the list of them, and one whose sum leaves 32 bits ends it all.
use mathlib.Core.Path.{◌≡◌, refl, sym, ap, ◌∙◌}
use mathlib.Core.Bool.{true, false}
use mathlib.Core.List.{List, [], ◌∷◌}
use mathlib.Core.Option.{Option, none, some}
use Prim.Native.Nat.{ℕ, ◌+◌, ◌-◌, ◌≤◌, ◌<◌}
use native.Mathlib.Omega.{arith}
use lib.Count.{ones}
use lib.IntN.{ℤ}
use lib.ListN.{length}
use Rattle.meaning.specs.Base.{bit, maybe, both, each_or}
use Rattle.meaning.specs.Covers.{Row, Expression}
use Rattle.meaning.specs.Reading.{bad, got}
use Rattle.meaning.specs.Values.{signed}
use Rattle.meaning.specs.ByteLayouts.{expression}
use Rattle.meaning.specs.Processing.Queries.{work_out, work_out_all}
use Rattle.words.specs.Words.{readable}
use Rattle.words.proofs.Laws.{readable-none, readable-bad, readable-more}
use Rattle.slots.specs.declared.Slot.{Slot}
use Rattle.slots.specs.Slots.{with_value}
use Rattle.room.specs.Room.{row_meant}
use Rattle.working.specs.Working.{with_cell, worked_row}
use Rattle.working.proofs.Cells.{row-valued}
use Rattle.working.proofs.Columns.{bits_from, bits-all, bits_none, bits-set, bits-unset}
use Rattle.working.proofs.Columns.{filled, filled-all, filled_none, filled-set, filled-unset}

-- what the expressions give, filled in from column c on
unfoldable pub worked_from : List Expression → Row → ℕ → ℕ → Row → Option Row
worked_from es old mask c r = maybe (work_out_all es old) none (λ vs. some (filled mask c vs r))

module _ (old : Row) (mask c : ℕ) (r : Row) where
  from-none : worked_from [] old mask c r ≡ some r
  unfolding worked_from work_out_all
  from-none = ap some (filled_none r mask c)

  from_out : (x : Expression) (es : List Expression) → work_out old x ≡ none → worked_from (x ∷ es) old mask c r ≡ none
  unfolding worked_from work_out_all
  from_out x es e = rw e

  maybe-both : (v : ℤ) (m : Option (List ℤ)) (f g : List ℤ → Option Row) → ((vs : List ℤ) → f (v ∷ vs) ≡ g vs)
      → maybe (both (some v) m) none f ≡ maybe m none g
  maybe-both v none f g h = refl
  maybe-both v (some vs) f g h = h vs

  module _ (h : c < length r.values) where
    from-set : bit mask c ≡ true → (x : Expression) (es : List Expression) (v : ℤ) → some v ≡ work_out old x
        → worked_from (x ∷ es) old mask c r ≡ worked_from es old mask (c + 1) (with_cell r c v)
    unfolding worked_from work_out_all
    from-set e x es v q = rw (← q) (maybe-both v (each_or (work_out old) es) _ _ (λ vs. ap some (filled-set r mask c h e v vs)))

    from-unset : bit mask c ≡ false → (es : List Expression) → worked_from es old mask c r ≡ worked_from es old mask (c + 1) r
    unfolding worked_from
    from-unset e es i = maybe (work_out_all es old) none (λ vs. some (filled-unset r mask c h e vs i))

-- ---- The loop

pub record Working (book : List ℕ) (mask : ℕ) (old : Row) (whole : Option Row) (row : Slot) (here c : ℕ) : Type 0 where
  pub low : c ≤ 4
  pub is : whole ≡ worked_from (readable (bits_from mask c) expression book here) old mask c (row_meant row)

module _ (book : List ℕ) (mask : ℕ) where
  pub working-start : (at : ℕ) (e : Slot)
      → Working book mask (row_meant e) (worked_row (readable (ones mask) expression book at) mask (row_meant e)) e at 0
  unfolding worked_row worked_from
  working-start at e =
      record {
        low = omega arith;
        is = rw (bits-all mask) (λ i. maybe (work_out_all (readable (ones mask) expression book at) (row_meant e)) none
            (λ vs. some (filled-all (row_meant e) mask vs i)));
      }

  module _ {old : Row} {whole : Option Row} {row : Slot} {here c : ℕ} (w : Working book mask old whole row here c) where
    -- after the last column, and where an expression cannot be read, the row is done
    pub working-done : mask ≤ 15 → 4 ≤ c → some (row_meant row) ≡ whole
    working-done small h =
        let none : bits_from mask c ≤ 0 = omega (arith, bits_none mask c small (omega (arith, w.low))) in
        sym (w.is ∙ rw (readable-none expression (bits_from mask c) book here none) (from-none old mask c (row_meant row)))

    pub working-bad : expression book here ≡ bad → some (row_meant row) ≡ whole
    working-bad e =
        sym (w.is ∙ rw (readable-bad expression (bits_from mask c) book here e) (from-none old mask c (row_meant row)))

    module _ (h : c < 4) where
      pub working-unset : bit mask c ≡ false → Working book mask old whole row here (c + 1)
      unfolding row_meant
      working-unset e =
          record {
            low = omega arith;
            is =
                w.is
                ∙ rw (bits-unset mask c e)
                (from-unset old mask c (row_meant row) h e (readable (bits_from mask (c + 1)) expression book here));
          }

      module _ (e : bit mask c ≡ true) {x : Expression} {next : ℕ} (q : expression book here ≡ got x next) where
        first : readable (bits_from mask c) expression book here ≡ x ∷ readable (bits_from mask (c + 1)) expression book next
        first =
            let less : bits_from mask c - 1 ≡ bits_from mask (c + 1) = omega (arith, bits-set mask c e) in
            readable-more expression (bits_from mask c) book here x next (omega (arith, bits-set mask c e)) q ∙ rw less

        pub working-out : none ≡ work_out old x → none ≡ whole
        working-out n = sym (w.is ∙ rw first (from_out old mask c (row_meant row) x _ (sym n)))

        pub working-set : (v : ℕ) → some (signed v) ≡ work_out old x → Working book mask old whole (with_value row c v) next (c + 1)
        unfolding row_meant
        working-set v n =
            record {
              low = omega arith;
              is = w.is ∙ rw (first, row-valued row c v h) (from-set old mask c (row_meant row) h e x _ (signed v) n);
            }
