-- Laws of texts that are put. Stores from one place on, and then stores from the place after them, are the stores of both texts together;
-- so a text that is put part by part is the joined text, and one that is put from 0 on stands at the front.
use mathlib.Core.Path.{◌≡◌, refl, sym, ap, ◌∙◌}
use mathlib.Core.List.{List, [], ◌∷◌, ◌++◌, append-nil, append_assoc}
use Prim.Native.Nat.{ℕ, suc, ◌+◌, ◌-◌, ◌≤◌}
use native.Mathlib.Omega.{arith}
use borrow.Rule.Slice.PartMut.{put_mid, Post-is}
use lib.ListN.{length, take, drop, set, length-append}
use lib.Seq.{sets, sets-eq, length-sets}
use Rattle.image.proofs.Laws.{in-front-more}
use Rattle.lines.specs.Text.{Puts, PutsAt}

sets_then : (xs : List ℕ) (at : ℕ) (t u : List ℕ) → sets (sets xs at t) (at + length t) u ≡ sets xs at (t ++ u)
sets_then xs at [] u = ap (λ (k : ℕ). sets xs k u) (omega arith)
sets_then xs at (b ∷ t) u =
    ap (λ (k : ℕ). sets (sets (set xs at b) (suc at) t) k u) (omega arith) ∙ sets_then (set xs at b) (suc at) t u

pub puts-nothing : {xs : List ℕ} {at r : ℕ} → r ≡ at → PutsAt xs xs at 0 [] r
puts-nothing e = record { output = refl; kept = refl; ends = omega arith; near = omega arith }

-- two texts, one after the other
pub puts_then : {xs ys zs t u : List ℕ} {at m k a b : ℕ} → PutsAt xs ys at m t a → PutsAt ys zs a k u b → PutsAt xs zs at (m + k) (t ++ u) b
puts_then {xs} {ys} {zs} {t} {u} {at} {m} {k} {a} {b} p q = record {
  output = q.output ∙ rw (p.ends, p.output) (sets_then xs at t u);
  kept = q.kept ∙ p.kept;
  ends = omega (arith, length-append t u);
  near = omega arith;
}

-- the text in other words, within a wider bound
pub puts-as : {xs ys t u : List ℕ} {at m k r : ℕ} → t ≡ u → m ≤ k → PutsAt xs ys at m t r → PutsAt xs ys at k u r
puts-as {at = at} e h p = record {
  output = rw (← e) p.output;
  kept = p.kept;
  ends = p.ends ∙ ap (λ l. at + length l) e;
  near = omega arith;
}

-- the last of several words, after which stands nothing
pub puts-last : {xs ys t : List ℕ} {at m r : ℕ} → PutsAt xs ys at m t r → PutsAt xs ys at m (t ++ []) r
puts-last {t = t} {m = m} p = puts-as (sym (append-nil t)) (omega arith) p

-- a text from 0 on stands at the front
pub puts-front : {xs ys t : List ℕ} {m r : ℕ} → m ≤ length xs → PutsAt xs ys 0 m t r → Puts xs ys t r
puts-front {xs} {t = t} h p =
    record {
      output = p.output ∙ in-front-more [] t xs 0 refl (omega arith);
      kept = p.kept;
      ends = omega arith;
      fits = omega (arith, p.near);
    }

-- bytes that are copied to a part of the output are stored from its start on
pub puts-part : (xs s : List ℕ) (at : ℕ) → at + length s ≤ length xs
    → PutsAt xs (put_mid at (at + length s - at) xs s) at (length s) s (at + length s)
puts-part xs s at h =
    let is : put_mid at (at + length s - at) xs s ≡ sets xs at s = rw (Post-is at (at + length s) xs (omega arith), sets-eq s xs at h) (sym (append_assoc (take at xs) s (drop (at + length s) xs))) in
    record { output = is; kept = ap length is ∙ length-sets xs at s; ends = refl; near = omega arith }
