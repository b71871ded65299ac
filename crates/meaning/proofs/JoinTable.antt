-- The join table: one computed test shows that it is associative where no join is marked; effects join as their kinds do, with masks
-- united and the first old row kept, so they are associative there too, case by case.
use mathlib.Core.Path.{◌≡◌, refl, sym, ap, ◌∙◌}
use mathlib.Core.Bool.{true}
use Prim.Native.Nat.{ℕ}
use Rattle.meaning.specs.Base.{all}
use Rattle.meaning.specs.RowOperations.{Effect, nothing, inserted, deleted, updated, kind, join_table, join_kind, over, joined_as, join}
use Rattle.meaning.specs.Theorems.{reachable, kinds, associates, JoinTable}
use Rattle.meaning.proofs.Lists.{true-is-false}
use Rattle.meaning.proofs.Masks.{or_assoc}

-- ---- The test

pub table-tested : all (λ a. all (λ b. all (λ c. associates a b c) kinds) kinds) kinds ≡ true
unfolding join_table join_kind
table-tested = refl

-- ---- Effects

pub join-by-kind : (a b : Effect) → reachable (kind a) (kind b) ≡ true → kind (join a b) ≡ join_kind (kind a) (kind b)
unfolding kind join_table join_kind over joined_as join
join-by-kind nothing nothing t = refl
join-by-kind nothing (inserted k) t = refl
join-by-kind nothing (deleted r) t = refl
join-by-kind nothing (updated m r) t = refl
join-by-kind (inserted k) nothing t = refl
join-by-kind (inserted k) (inserted l) t = true-is-false t refl
join-by-kind (inserted k) (deleted r) t = refl
join-by-kind (inserted k) (updated m r) t = refl
join-by-kind (deleted r) nothing t = refl
join-by-kind (deleted r) (inserted k) t = true-is-false t refl
join-by-kind (deleted r) (deleted s) t = true-is-false t refl
join-by-kind (deleted r) (updated m s) t = true-is-false t refl
join-by-kind (updated m r) nothing t = refl
join-by-kind (updated m r) (inserted k) t = true-is-false t refl
join-by-kind (updated m r) (deleted s) t = refl
join-by-kind (updated m r) (updated n s) t = refl

-- nothing before, nothing after
pub nothing-join : (e : Effect) → join nothing e ≡ e
unfolding kind join_table join_kind over joined_as join
nothing-join nothing = refl
nothing-join (inserted k) = refl
nothing-join (deleted r) = refl
nothing-join (updated m r) = refl

pub join-nothing : (e : Effect) → join e nothing ≡ e
unfolding kind join_table join_kind over joined_as join
join-nothing nothing = refl
join-nothing (inserted k) = refl
join-nothing (deleted r) = refl
join-nothing (updated m r) = refl

pub join-assoc : (a b c : Effect) → reachable (kind a) (kind b) ≡ true → reachable (kind b) (kind c) ≡ true
    → reachable (kind (join a b)) (kind c) ≡ true → reachable (kind a) (kind (join b c)) ≡ true
    → join (join a b) c ≡ join a (join b c)
unfolding kind join_table join_kind over joined_as join
join-assoc nothing b c p q r s = ap (λ (e : Effect). join e c) (nothing-join b) ∙ sym (nothing-join (join b c))
join-assoc (inserted k) nothing c p q r s = sym (ap (join (inserted k)) (nothing-join c))
join-assoc (inserted k) (inserted l) c p q r s = true-is-false p refl
join-assoc (inserted k) (deleted x) nothing p q r s = refl
join-assoc (inserted k) (deleted x) (inserted l) p q r s = true-is-false q refl
join-assoc (inserted k) (deleted x) (deleted y) p q r s = true-is-false q refl
join-assoc (inserted k) (deleted x) (updated m y) p q r s = true-is-false q refl
join-assoc (inserted k) (updated m x) nothing p q r s = refl
join-assoc (inserted k) (updated m x) (inserted l) p q r s = true-is-false q refl
join-assoc (inserted k) (updated m x) (deleted y) p q r s = refl
join-assoc (inserted k) (updated m x) (updated n y) p q r s = refl
join-assoc (deleted x) nothing c p q r s = sym (ap (join (deleted x)) (nothing-join c))
join-assoc (deleted x) (inserted l) c p q r s = true-is-false p refl
join-assoc (deleted x) (deleted y) c p q r s = true-is-false p refl
join-assoc (deleted x) (updated m y) c p q r s = true-is-false p refl
join-assoc (updated m x) nothing c p q r s = sym (ap (join (updated m x)) (nothing-join c))
join-assoc (updated m x) (inserted l) c p q r s = true-is-false p refl
join-assoc (updated m x) (deleted y) nothing p q r s = refl
join-assoc (updated m x) (deleted y) (inserted l) p q r s = true-is-false q refl
join-assoc (updated m x) (deleted y) (deleted z) p q r s = true-is-false q refl
join-assoc (updated m x) (deleted y) (updated n z) p q r s = true-is-false q refl
join-assoc (updated m x) (updated n y) nothing p q r s = refl
join-assoc (updated m x) (updated n y) (inserted l) p q r s = true-is-false q refl
join-assoc (updated m x) (updated n y) (deleted z) p q r s = refl
join-assoc (updated m x) (updated n y) (updated k z) p q r s = ap (λ (u : ℕ). updated u x) (or_assoc m n k)

pub join-table : JoinTable
join-table = record { tested = table-tested; by_kind = join-by-kind; associative = join-assoc }
