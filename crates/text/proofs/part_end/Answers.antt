-- `text::part_end` meets its contract: fewer than four bytes are all taken, and so are those that a longer length counts.
use native.Mathlib.Omega.{arith}
use Rattle.text.proofs.Parts.{part-all, part-more, part-told}
use Rattle.text.proofs.part_end.Goals as goal

pub returns-then-s-lt4 : goal.returns-then-s-lt4
returns-then-s-lt4 c =
    record {
      value = part-all c.args.s.now (λ i. (c.type_inv.s i).fits) (omega (arith, c.if-s-lt4.true));
      upper_bound = omega arith;
    }

pub returns-then-s-told : goal.returns-then-s-told
returns-then-s-told c =
    record {
      value = part-more c.args.s.now (λ i. (c.type_inv.s i).fits) (omega (arith, c.if-s-lt4.false))
          (omega (arith, c.if-s-told.true, c.word32-told.ensures));
      upper_bound = omega arith;
    }

pub returns : goal.returns
returns c =
    let told = part-told c.args.s.now (λ i. (c.type_inv.s i).fits) (omega (arith, c.if-s-lt4.false))
    (omega (arith, c.if-s-told.false, c.word32-told.ensures)) in
    record {
      value = omega (arith, told, c.word32-told.ensures);
      upper_bound = omega (arith, c.if-s-told.false, c.if-s-lt4.false, c.word32-told.ensures);
    }
