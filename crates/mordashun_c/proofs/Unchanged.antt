-- No refused call changes a lent byte: a word that tells a refusal is the word of one, and what is refused leaves all as it was.
use mathlib.Core.Path.{◌≡◌, refl, ◌∙◌}
use mathlib.Core.Logic.{◌≢◌}
use mathlib.Core.Option.{some}
use Prim.Native.Nat.{◌%◌}
use Rattle.meaning.specs.EntryPoints.{Refusal, Answer, refused_with, ran, run, CheckAnswer, refused_check, rule_count, check_book}
use Rattle.meaning.specs.Theorems.Refusals.{refusal_in, refusal_in_check}
use Rattle.meaning.proofs.Theorems.{refusals}
use Rattle.mordashun_c.specs.Answered.{answer_word, check_word, RefusedLeaves}
use Rattle.mordashun_c.proofs.Words.{every-word}

run-refused : (a : Answer) → answer_word a % 256 ≢ 0 → (n : Refusal) × (refusal_in a ≡ some n)
run-refused (refused_with n) h = (n, refl)
run-refused (ran o count) h = absurd (h (every-word.of_run o count).refusal_bits)

check-refused : (a : CheckAnswer) → check_word a % 256 ≢ 0 → (n : Refusal) × (refusal_in_check a ≡ some n)
check-refused (refused_check n) h = (n, refl)
check-refused (rule_count count) h = absurd (h (every-word.of_check count).refusal_bits)

pub refused-leaves : RefusedLeaves
refused-leaves = record {
  of_run = λ image book log before after xs ys w r h.
      let refusal = run-refused (run image book log before xs).answer (rw r.word at h) in
      let stays = (refusals.of_run image book log before xs).stays refusal.0 refusal.1 in
      (r.output ∙ stays.1, r.room ∙ stays.2);
  of_check = λ book before after w r h.
      let refusal = check-refused (check_book book before).answer (rw r.word at h) in
      r.output ∙ (refusals.of_check book before).stays refusal.0 refusal.1;
}
