-- The contracts of the exported calls leave no choice: of calls with the same entry, any two exits that meet the `ensures` are equal,
-- refusals too.
use Rattle.std.specs.Prelude.{List, ℕ}
use Rattle.engine.specs.Determined.{NoChoice}
use Rattle.mordashun_c.specs.Answered.{RunAnswered, CheckAnswered}
use Rattle.mordashun_c.specs.Places.{RuleAnswered}

pub record Determined : Type 0 where
  -- `mordashun_run`: word, output and working room
  pub of_run : (image book log before xs : List ℕ)
      → NoChoice {Exit = ℕ × List ℕ × List ℕ} (λ (w, after, ys). RunAnswered image book log before after xs ys w)
  -- `mordashun_check`: word and output
  pub of_check : (book before : List ℕ) → NoChoice {Exit = ℕ × List ℕ} (λ (w, after). CheckAnswered book before after w)
  -- `mordashun_rule`: the word
  pub of_rule : (book : List ℕ) (k : ℕ) → NoChoice (RuleAnswered book k)
