-- The contracts of the entry points leave no choice: of calls with the same entry, any two exits that meet the `ensures` are equal,
-- refusals too.
use Rattle.std.specs.Prelude.{◌≡◌, List, ℕ}
use Rattle.engine.specs.Answers.{Answer, Checked, Checks, Gives, Runs}

-- any two exits that meet a contract are equal
abbrev pub NoChoice : {Exit : Type 0} → (Exit → Type 0) → Type 0
NoChoice {Exit} Meets = (one other : Exit) → Meets one → Meets other → one ≡ other

pub record Determined : Type 0 where
  -- a run: answer, output and working room
  pub of_run : (image book log before xs : List ℕ)
      → NoChoice {Exit = Answer × List ℕ × List ℕ} (λ (r, after, ys). Runs image book log before after xs ys r)
  -- a book check: answer and output
  pub of_check : (book before : List ℕ) → NoChoice {Exit = Checked × List ℕ} (λ (r, after). Checks book before after r)
  -- the bytes of rule k
  pub of_rule : (book : List ℕ) (k : ℕ) → NoChoice (Gives book k)
