-- The contracts leave no choice: each is an equation for every part of what is left.
use mathlib.Core.Path.{◌≡◌, sym, ◌∙◌}
use Rattle.mordashun_c.specs.Determined.{Determined}

pub determined : Determined
determined = record {
  of_run = λ image book log before xs (w₁, after₁, ys₁) (w₂, after₂, ys₂) one other.
      let words : w₁ ≡ w₂ = one.word ∙ sym other.word in
      let outputs : after₁ ≡ after₂ = one.output ∙ sym other.output in
      let rooms : ys₁ ≡ ys₂ = one.room ∙ sym other.room in
      λ i. (words i, outputs i, rooms i);
  of_check = λ book before (w₁, after₁) (w₂, after₂) one other.
      let words : w₁ ≡ w₂ = one.word ∙ sym other.word in
      let outputs : after₁ ≡ after₂ = one.output ∙ sym other.output in
      λ i. (words i, outputs i);
  of_rule = λ book k w₁ w₂ one other. one ∙ sym other;
}
