-- `transaction_log::change` meets its contract: a mask of at most 15 has at most 4 bits, each for a value.
use lib.Count.{ones-le}
use native.Mathlib.Omega.{arith}
use Rattle.transaction_log.proofs.change.Goals as goal

pub values_end-requires : goal.values_end-requires
values_end-requires c = ones-le 4 c.in_ok-mask.mask (omega (arith, c.in_ok-mask.ensures.within.high_bound))
