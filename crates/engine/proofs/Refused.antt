-- How a part that is missing is refused: `ok_or(why)?` hands its reason out as it is, and so does a test for it.
use Rattle.std.specs.Prelude.{Option, Some, None, Result, Ok, Err, Bool, true, false, not, ok_or}
use Rattle.std.specs.Option.{is_some}
use Rattle.std.specs.Result.{IsErrAnd}
use mathlib.Core.Path.{◌≡◌, refl}
use Prim.Native.Nat.{ℕ}
use native.Mathlib.Omega.{arith}
use Rattle.engine.specs.declared.Refusal.{Refusal}

-- it was missing, and the reason is the answer
pub refused : {A B : Type 0} (o : Option A) {why told : Refusal} {r : Result A Refusal} (out : Result B Refusal) → r ≡ ok_or o why
    → r ≡ Err told → IsErrAnd out (λ passed. passed ≡ told) → (o ≡ None) × (out ≡ Err why)
refused o (Ok b) value was is = absurd is
refused None (Err passed) value was is = (refl, cc)
refused (Some a) (Err passed) value was is = absurd (let z : ◌≡◌ {A = ℕ} 0 1 = cc in omega arith)

-- by a test
pub none-there : {A : Type 0} (o : Option A) {t : Bool} → is_some o ≡ not t → t ≡ true → o ≡ None
none-there None e is = refl
none-there (Some a) e is = absurd (let z : ◌≡◌ {A = Bool} true (not true) = rw is at e in cc)

pub some-there : {A : Type 0} (o : Option A) {t : Bool} → is_some o ≡ not t → t ≡ false → (a : A) × (o ≡ Some a)
some-there None e is = absurd (let z : ◌≡◌ {A = Bool} false (not false) = rw is at e in cc)
some-there (Some a) e is = (a, refl)
