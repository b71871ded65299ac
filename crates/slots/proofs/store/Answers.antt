-- `slots::store` meets its contract: six words one after another are the slot's twenty-four bytes, and each word is read as it was
-- written. That a field of the slot fits its type is what its being well formed tells, field by field.
use borrow.Author.Rules.{rules}
use native.Mathlib.Omega.{arith}
use Rattle.slots.proofs.Frames.{Fits, slot-put}
use Rattle.slots.proofs.store.Goals as goal

pub returns : goal.returns
returns c =
    let fits : Fits c.args.e =
    record {
      handle = search rules;
      kind = search rules;
      mask = search rules;
      table = search rules;
      v0 = search rules;
      v1 = search rules;
      v2 = search rules;
      v3 = search rules;
    } in
    slot-put _ _ _ fits (omega arith) c.requires
    c.put_low32.ensures c.put_low32-2.ensures c.put_low32-3.ensures c.put_low32-4.ensures c.put_low32-5.ensures c.put_low32-6.ensures
    c.joined.ensures.0 c.joined.ensures.1 c.joined.ensures.2
