-- Which rules of a plan are active: those whose own table there is at most 3. It is then the rule's table, and for another rule it is 4.
use mathlib.Core.Path.{◌≡◌, refl, ◌∙◌}
use mathlib.Core.Bool.{Bool, true, false}
use mathlib.Core.List.{List}
use Prim.Native.Nat.{ℕ, ◌≤◌, ◌<◌}
use native.Mathlib.Omega.{arith}
use Rattle.plan.specs.Plans.{active_table, Placed}

module _ {s : List ℕ} {n k start table : ℕ} (here : Placed s n k start table) where
  active-own : here.rule.active ≡ true → table ≡ here.rule.table
  unfolding active_table
  active-own e = here.is ∙ rw e

  idle-own : here.rule.active ≡ false → table ≡ 4
  unfolding active_table
  idle-own e = here.is ∙ rw e

  pub active-low : here.rule.active ≡ true → table ≤ 3
  active-low e = omega (arith, here.fits, active-own e)

  pub low-active : table ≤ 3 → here.rule.active ≡ true
  low-active low = go here.rule.active refl
    where
      go : (b : Bool) → here.rule.active ≡ b → here.rule.active ≡ true
      go true e = e
      go false e = absurd (omega (arith, idle-own e))

  pub low-own : table ≤ 3 → table ≡ here.rule.table
  low-own low = active-own (low-active low)

  pub high-idle : 3 < table → here.rule.active ≡ false
  high-idle high = go here.rule.active refl
    where
      go : (b : Bool) → here.rule.active ≡ b → here.rule.active ≡ false
      go true e = absurd (omega (arith, active-low e))
      go false e = e

  -- of a rule that is there, it is not 5
  pub own-within : table ≤ 4
  own-within = go here.rule.active refl
    where
      go : (b : Bool) → here.rule.active ≡ b → table ≤ 4
      go true e = omega (arith, active-low e)
      go false e = omega (arith, idle-own e)
