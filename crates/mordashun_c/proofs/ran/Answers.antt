-- `mordashun_c::ran` meets its contract: outcome, reason and count each fit their bits.
use borrow.Author.Rules.{rules}
use native.Mathlib.Omega.{arith}
use Rattle.processing.specs.Endings.{outcome_meant}
use Rattle.mordashun_c.specs.Answered.{answer_word}
use Rattle.mordashun_c.proofs.Words.{outcome-small, reason-small}
use Rattle.mordashun_c.proofs.ran.Goals as goal

pub overflow_mul-result : goal.overflow_mul-result
overflow_mul-result c =
    let o = outcome_meant c.args.outcome in
    let small = outcome-small o in
    let few = reason-small o in
    omega arith

pub overflow_mul-result-2 : goal.overflow_mul-result-2
overflow_mul-result-2 c =
    let o = outcome_meant c.args.outcome in
    let small = outcome-small o in
    let few = reason-small o in
    omega arith

pub overflow_add-result : goal.overflow_add-result
overflow_add-result c =
    let o = outcome_meant c.args.outcome in
    let small = outcome-small o in
    let few = reason-small o in
    omega arith

pub overflow_add-result-2 : goal.overflow_add-result-2
overflow_add-result-2 c =
    let o = outcome_meant c.args.outcome in
    let small = outcome-small o in
    let few = reason-small o in
    omega arith

pub returns : goal.returns
unfolding answer_word
returns c = search rules
