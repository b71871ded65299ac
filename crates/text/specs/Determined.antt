-- The contract of the text leaves no choice: of calls with the same entry, any two exits that meet the `ensures` are equal.
use Rattle.std.specs.Prelude.{List, ℕ}
use Rattle.engine.specs.Determined.{NoChoice}
use Rattle.text.specs.Texts.{Texts}

pub record Determined : Type 0 where
  -- its length, the output, the image and the working room
  pub of_text : (input image room out : List ℕ)
      → NoChoice {Exit = ℕ × List ℕ × List ℕ × List ℕ} (λ (n, out', image', room'). Texts input image image' room room' out out' n)
