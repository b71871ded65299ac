-- A rule that was read has a table of at most 3, triggers of at most 7 and columns of at most 15: their bytes were read by layouts that
-- give no others.
use mathlib.Core.Path.{◌≡◌}
use mathlib.Core.List.{List}
use Prim.Native.Nat.{ℕ, ◌^◌, ◌≤◌, ◌<◌}
use native.Mathlib.Omega.{arith}
use lib.Dec.{ltb}
use Rattle.meaning.specs.Base.{bit}
use Rattle.meaning.specs.Reading.{got, must, byte_within, number16}
use Rattle.meaning.specs.Covers.{Rule}
use Rattle.meaning.specs.ByteLayouts as ByteLayouts
use Rattle.meaning.proofs.Parsing.{byte_reads}
use Rattle.meaning.proofs.RunsFit.{Gives, bind-gives, past-gives, pure-gives, if-gives, table-gives}

pub record Fits (rule : Rule) : Type 0 where
  pub table : rule.table ≤ 3
  pub triggers : rule.triggers ≤ 7
  pub columns : rule.columns ≤ 15

byte-gives : (lo hi most : ℕ) → hi < 256 → hi ≤ most → Gives (byte_within lo hi) (λ b. b ≤ most)
byte-gives lo hi most small low = record { fit = λ e. within ((byte_reads small).fit e) }
  where
    within : {b : ℕ} → (lo ≤ b) × (b ≤ hi) → b ≤ most
    within h = omega (arith, h)

columns-gives : (triggers : ℕ) → Gives (ByteLayouts.columns triggers) (λ c. c ≤ 15)
unfolding ByteLayouts.columns ByteLayouts.mask
columns-gives triggers =
    if-gives (bit triggers 2) (byte-gives 1 15 15 (omega arith) (omega arith)) (byte-gives 0 0 15 (omega arith) (omega arith))

rule-gives : (n : ℕ) → Gives (ByteLayouts.rule n) Fits
unfolding ByteLayouts.rule
rule-gives n =
    past-gives (byte_within 0 1) (λ a. bind-gives table-gives (λ t small.
    bind-gives (byte-gives 1 7 7 (omega arith) (omega arith)) (λ g known.
    bind-gives (columns-gives g) (λ c few. past-gives number16 (λ p. past-gives (must (ltb p (2 ^ n))) (λ named.
    past-gives (ByteLayouts.condition g) (λ q. past-gives (ByteLayouts.actions g) (λ acts.
    pure-gives (record { table = small.1; triggers = known; columns = few })))))))))

pub rule_fits : (n : ℕ) (s : List ℕ) (at : ℕ) {rule : Rule} {next : ℕ} → ByteLayouts.rule n s at ≡ got rule next → Fits rule
rule_fits n s at e = (rule-gives n).fit e
