-- Laws of what image, book and log share, for any fields in a frame: what the frame admits is read from place 5 on and must end where the
-- slice ends, what it refuses is bad. And n values are read where their 4 n bytes stand in the slice.
use Rattle.std.specs.Prelude.{if◌then◌else◌, Some, None}
use mathlib.Core.Path.{◌≡◌, sym, ap, ◌∙◌}
use mathlib.Core.Bool.{Bool, true, false}
use mathlib.Core.List.{List}
use mathlib.Core.Option.{none, some}
use Prim.Native.Nat.{ℕ, zero, suc, ◌+◌, ◌-◌, ◌*◌, ◌≤◌, ◌<◌}
use native.Mathlib.Omega.{arith}
use borrow.Author.Tests.{leb-true, leb-false, eqb-true, eqb-false, eq-eqb, ne_eqb, ltb-true, ltb-false}
use lib.Dec.{leb, ltb, eqb}
use lib.ListN.{length}
use Rattle.meaning.specs.Reading.{Read, bad, got, Parser, on_from, byte_at, byte_within, many, bytes_left, read_all}
use Rattle.meaning.specs.ByteLayouts.{framed, value}
use Rattle.meaning.specs.Values.{signed}
use Rattle.words.specs.Words.{Bytes, word32_at, end_of}
use Rattle.words.proofs.Laws.{split, byte-within-yes, byte-within-low, byte-within-high, number32-read, number32-short}
use Rattle.words.proofs.Laws.{value_read, value-short, ends-got, ends-none, ends-bad, ends_more, ends-readable, short-bad}
use Rattle.fields.specs.Fields.{well_framed, values_at}

-- ---- What a test says that the code negates

pub passed : {t r : Bool} → r ≡ t → r ≡ true → t ≡ true
passed e h = sym e ∙ h

pub failed : {t r : Bool} → r ≡ t → r ≡ false → t ≡ false
failed e h = sym e ∙ h

-- whether the bytes up to a place stand in the slice, as `words::has` says
module _ (s : List ℕ) (end : ℕ) {r : Bool} (e : r ≡ leb end (length s)) where
  pub stands : r ≡ true → end ≤ length s
  stands h = leb-true end (length s) (passed e h)

  pub stands-not : r ≡ false → length s < end
  stands-not h = leb-false end (length s) (failed e h)

-- ---- Values in a row

pub values-taken : (s : List ℕ) (n at next : ℕ) → end_of (many n value s at) ≡ Some next → many n value s at ≡ got (values_at s n at) next
unfolding values_at
values-taken s n at next h = ends-readable value n s at next h

-- for the attributes of decoders, which name no lemma with a dash
pub ruleset values_in_a_row = (values-taken)

module _ (s : List ℕ) (b : Bytes s) where
  -- where a value stands, the rest of them are read after it
  values-more : (n at : ℕ) → at + 4 ≤ length s → end_of (many (suc n) value s at) ≡ end_of (many n value s (at + 4))
  values-more n at h =
      let first : end_of (value s at) ≡ Some (at + 4) = ap end_of (value_read s b at h) ∙ ends-got (signed (word32_at s at)) (at + 4) in
      let less : suc n - 1 ≡ n = omega arith in
      ends_more value (suc n) s at (at + 4) (omega arith) first ∙ ap (λ (k : ℕ). end_of (many k value s (at + 4))) less

  pub values-end-read : (n at : ℕ) → at + n * 4 ≤ length s → end_of (many n value s at) ≡ Some (at + n * 4)
  values-end-read zero at h = ends-none value zero s at (omega arith) ∙ ap Some (omega arith)
  values-end-read (suc n) at h =
      let after : at + 4 + n * 4 ≡ at + suc n * 4 = omega arith in
      values-more n at (omega arith) ∙ values-end-read n (at + 4) (omega arith) ∙ ap Some after

  pub values-end-short : (n at : ℕ) → 0 < n → length s < at + n * 4 → end_of (many n value s at) ≡ None
  values-end-short zero at l h = absurd (omega arith)
  values-end-short (suc zero) at l h = ends-bad value 1 s at (omega arith) (ap end_of (value-short s b at (omega arith)))
  values-end-short (suc (suc n)) at l h =
      split (ltb (length s) (at + 4))
      (λ e. ends-bad value (suc (suc n)) s at (omega arith) (ap end_of (value-short s b at (ltb-true (length s) (at + 4) e))))
      (λ e.
      values-more (suc n) at (ltb-false (length s) (at + 4) e)
      ∙ values-end-short (suc n) (at + 4) (omega arith) (omega arith))

  -- n values stand where their bytes stand
  pub values-read : (n at : ℕ) → at + n * 4 ≤ length s → many n value s at ≡ got (values_at s n at) (at + n * 4)
  values-read n at h = values-taken s n at (at + n * 4) (values-end-read n at h)

  pub values-short : (n at : ℕ) → 0 < n → length s < at + n * 4 → many n value s at ≡ bad
  values-short n at l h = short-bad (many n value s at) (values-end-short n at l h)

-- ---- The frame

-- the version byte
version : (s : List ℕ) (at : ℕ) → byte_within 1 1 s at ≡ if eqb (byte_at s at) 1 then got (byte_at s at) (at + 1) else bad
version s at =
    split (eqb (byte_at s at) 1)
    (λ e. let q = eqb-true (byte_at s at) 1 e in rw e (byte-within-yes 1 1 s at (omega arith) (omega arith)))
    (λ e.
    split (ltb (byte_at s at) 1)
    (λ l. rw e (byte-within-low 1 1 s at (ltb-true (byte_at s at) 1 l)))
    (λ l.
    let n = eqb-false (byte_at s at) 1 e in
    let m = ltb-false (byte_at s at) 1 l in
    rw e (byte-within-high 1 1 s at (omega arith))))

module _ {A : Type 0} (p : Parser A) (s : List ℕ) (b : Bytes s) where
  -- the fields of a frame, up to the end of the slice
  fields_read : Read A
  fields_read = on_from (p s 5) (λ a next. on_from (bytes_left 0 s next) (λ _ e. got a e))

  framed-by : framed p s 0 ≡ if well_framed s then fields_read else bad
  unfolding well_framed framed bytes_left fields_read
  framed-by =
      split (leb 4 (length s))
      (λ l. rw (number32-read s b 0 (leb-true 4 (length s) l), l)
      (split (eqb (4 + word32_at s 0) (length s))
      (λ e. rw (e, version s 4)
      (split (eqb (byte_at s 4) 1) (λ v. rw v) (λ v. rw v)))
      (λ e. rw e)))
      (λ l. rw (number32-short s b 0 (leb-false 4 (length s) l), l))

  pub framed-yes : well_framed s ≡ true → framed p s 0 ≡ on_from (p s 5) (λ a next. on_from (bytes_left 0 s next) (λ _ e. got a e))
  unfolding fields_read
  framed-yes h = rw h at framed-by

  pub framed-no : well_framed s ≡ false → framed p s 0 ≡ bad
  framed-no h = rw h at framed-by

  -- what is read of a slice: nothing where the frame is wrong
  pub frame_refused : well_framed s ≡ false → read_all (framed p) s ≡ none
  unfolding read_all
  frame_refused h = rw (framed-no h)

  -- nothing where the fields are malformed
  pub fields-refused : well_framed s ≡ true → p s 5 ≡ bad → read_all (framed p) s ≡ none
  unfolding read_all
  fields-refused h e = rw (framed-yes h, e)

  -- nothing where the fields end elsewhere than the slice
  pub length-refused : well_framed s ≡ true → (a : A) (next : ℕ) → p s 5 ≡ got a next → (next ≡ length s → ⊥) → read_all (framed p) s ≡ none
  unfolding read_all bytes_left
  length-refused h a next e n = rw (framed-yes h, e, ne_eqb (next + 0) (length s) (λ q. n (omega arith)))

  -- and else the fields
  pub fields-taken : well_framed s ≡ true → (a : A) (next : ℕ) → p s 5 ≡ got a next → next ≡ length s → read_all (framed p) s ≡ some a
  unfolding read_all bytes_left
  fields-taken h a next e n = rw (framed-yes h, e, eq-eqb (next + 0) (length s) (omega arith))
