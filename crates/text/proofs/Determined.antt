-- The contract leaves no choice: it is an equation for each thing that is left.
use mathlib.Core.Path.{◌≡◌, sym, ◌∙◌}
use Rattle.text.specs.Determined.{Determined}

pub determined : Determined
determined = record {
  of_text = λ input image room out (n, out₁, image₁, room₁) (m, out₂, image₂, room₂) one other.
      let lengths : n ≡ m = one.puts.ends ∙ sym other.puts.ends in
      let outs : out₁ ≡ out₂ = one.puts.output ∙ sym other.puts.output in
      let images : image₁ ≡ image₂ = one.image_left ∙ sym other.image_left in
      let rooms : room₁ ≡ room₂ = one.room_left ∙ sym other.room_left in
      λ i. (lengths i, outs i, images i, rooms i);
}
