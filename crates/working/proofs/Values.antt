-- The loop that fills a row with values: the values still to come stand in the slice, and the row filled with them is the row wanted.
-- Where n values stand, n are read.
use Rattle.std.specs.Prelude.{None}
use mathlib.Core.Path.{◌≡◌, sym, ap, ◌∙◌}
use mathlib.Core.Bool.{true, false}
use mathlib.Core.List.{List, [], ◌∷◌}
use Prim.Native.Nat.{ℕ, suc, ◌+◌, ◌-◌, ◌*◌, ◌≤◌, ◌<◌}
use native.Mathlib.Omega.{arith}
use borrow.Author.Tests.{ltb-true, ltb-false}
use lib.Count.{ones}
use lib.Dec.{ltb}
use lib.ListN.{length}
use Rattle.meaning.specs.Base.{bit}
use Rattle.meaning.specs.Covers.{Row}
use Rattle.meaning.specs.Reading.{many}
use Rattle.meaning.specs.ByteLayouts.{value}
use Rattle.meaning.specs.Values.{signed}
use Rattle.meaning.specs.Processing.Actions.{masked, updated_row}
use Rattle.words.specs.Words.{Bytes, word32_at, end_of, readable}
use Rattle.words.proofs.Laws.{split, value_read, readable-more}
use Rattle.fields.specs.Fields.{values_at}
use Rattle.fields.proofs.Laws.{values-end-short}
use Rattle.slots.specs.declared.Slot.{Slot}
use Rattle.room.specs.Room.{row_meant}
use Rattle.working.specs.Working.{with_cell}
use Rattle.working.proofs.Columns.{bits_from, bits-all, bits-set, bits-unset}
use Rattle.working.proofs.Columns.{filled, filled-all, filled-done, filled-set, filled-unset}

-- ---- Values that stand in the slice

module _ (s : List ℕ) (b : Bytes s) where
  pub values-stand : (n at : ℕ) → (end_of (many n value s at) ≡ None → ⊥) → 0 < n → at + n * 4 ≤ length s
  values-stand n at h l =
      split (ltb (length s) (at + n * 4))
      (λ e. absurd (h (values-end-short s b n at l (ltb-true (length s) (at + n * 4) e))))
      (λ e. ltb-false (length s) (at + n * 4) e)

  values-first : (n at : ℕ) → at + 4 ≤ length s → values_at s (suc n) at ≡ signed (word32_at s at) ∷ values_at s n (at + 4)
  unfolding values_at
  values-first n at h =
      let less : suc n - 1 ≡ n = omega arith in
      readable-more value (suc n) s at (signed (word32_at s at)) (at + 4) (omega arith) (value_read s b at h)
      ∙ ap (λ (k : ℕ). signed (word32_at s at) ∷ readable k value s (at + 4)) less

  four : (at : ℕ) → at + 16 ≤ length s → values_at s 4 at
      ≡ signed (word32_at s at) ∷ signed (word32_at s (at + 4)) ∷ signed (word32_at s (at + 4 + 4)) ∷ signed (word32_at s (at + 4 + 4 + 4)) ∷ []
  unfolding values_at readable
  four at h =
      values-first 3 at (omega arith)
      ∙ rw (values-first 2 (at + 4) (omega arith), values-first 1 (at + 4 + 4) (omega arith), values-first 0 (at + 4 + 4 + 4) (omega arith))

  -- a value for each of the four columns, whatever stood there
  pub four-values : (at : ℕ) → (end_of (many 4 value s at) ≡ None → ⊥) → (e : Slot)
      → (updated_row 15 (values_at s (ones 15) at) (row_meant e)).values ≡ values_at s 4 at
  unfolding updated_row row_meant ones masked
  four-values at h e = rw (four at (values-stand 4 at h (omega arith)))

-- ---- The loop

pub record Filling (s : List ℕ) (mask : ℕ) (whole : Row) (row : Slot) (here c : ℕ) : Type 0 where
  pub fits : 0 < bits_from mask c → here + bits_from mask c * 4 ≤ length s
  pub is : whole ≡ filled mask c (values_at s (bits_from mask c) here) (row_meant row)

module _ (s : List ℕ) (b : Bytes s) (mask : ℕ) where
  pub filling-start : (at : ℕ) (e : Slot) → (end_of (many (ones mask) value s at) ≡ None → ⊥)
      → Filling s mask (updated_row mask (values_at s (ones mask) at) (row_meant e)) e at 0
  filling-start at e h =
      record {
        fits = λ l. rw (bits-all mask) (values-stand s b (ones mask) at h (rw (bits-all mask) at l));
        is = rw (bits-all mask) (filled-all (row_meant e) mask (values_at s (ones mask) at));
      }

  module _ {whole : Row} {row : Slot} {here c : ℕ} (f : Filling s mask whole row here c) where
    pub filling-done : 4 ≤ c → row_meant row ≡ whole
    unfolding row_meant
    filling-done h = sym (f.is ∙ filled-done (row_meant row) mask c (values_at s (bits_from mask c) here) h)

    pub filling-fits : bit mask c ≡ true → here + 4 ≤ length s
    filling-fits e = omega (arith, f.fits (omega (arith, bits-set mask c e)), bits-set mask c e)

    pub filling-set : {next : Slot} → c < 4 → bit mask c ≡ true → row_meant next ≡ with_cell (row_meant row) c (signed (word32_at s here))
        → Filling s mask whole next (here + 4) (c + 1)
    unfolding row_meant
    filling-set {next} h e q =
        record {
          fits = λ l. omega (arith, f.fits (omega (arith, bits-set mask c e)), bits-set mask c e);
          is =
              f.is
              ∙ rw (bits-set mask c e, values-first s b (bits_from mask (c + 1)) here (filling-fits e), q)
              (filled-set (row_meant row) mask c h e (signed (word32_at s here)) (values_at s (bits_from mask (c + 1)) (here + 4)));
        }

    pub filling-unset : c < 4 → bit mask c ≡ false → Filling s mask whole row here (c + 1)
    unfolding row_meant
    filling-unset h e =
        record {
          fits = λ l. omega (arith, f.fits (omega (arith, bits-unset mask c e)), bits-unset mask c e);
          is =
              f.is
              ∙ rw (bits-unset mask c e) (filled-unset (row_meant row) mask c h e (values_at s (bits_from mask (c + 1)) here));
        }
