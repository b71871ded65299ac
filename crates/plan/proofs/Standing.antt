-- The rule that is read where a plan says that it stands is the rule that is listed; so one can be read there.
use mathlib.Core.Path.{◌≡◌, sym, ap, ◌∙◌}
use mathlib.Core.List.{List}
use Prim.Native.Nat.{ℕ}
use native.Mathlib.Omega.{arith}
use Rattle.std.specs.Prelude.{Option, Some, None}
use Rattle.meaning.specs.Reading.{bad, got}
use Rattle.meaning.specs.ByteLayouts as ByteLayouts
use Rattle.book.specs.declared.Rule.{Rule as RuleStood}
use Rattle.book.specs.Books.{rule_meant, rule_or}
use Rattle.plan.specs.Plans.{Placed}

module _ {s : List ℕ} {n k start table : ℕ} (here : Placed s n k start table) {read : Option (RuleStood × ℕ)}
    (e : rule_or s read ≡ ByteLayouts.rule n s start) where
  pub read-listed : {rule : RuleStood} {after : ℕ} → read ≡ Some (rule, after) → rule_meant s rule ≡ here.rule
  read-listed {rule} {after} is =
      let both : got (rule_meant s rule) after ≡ got here.rule here.next = ap (rule_or s) (sym is) ∙ e ∙ here.read in
      cc

  pub can-read : read ≡ None → ⊥
  can-read is =
      let none : bad ≡ got here.rule here.next = ap (rule_or s) (sym is) ∙ e ∙ here.read in
      let z : ◌≡◌ {A = ℕ} 0 1 = cc in
      omega arith
