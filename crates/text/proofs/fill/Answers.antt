-- `text::fill` meets its contract. The loop's invariant: what was read stands at the front of the bytes that are lent. The measure is how
-- many are left.
use Rattle.std.proofs.Common.{◌≡◌, ℕ, ◌+◌, ◌-◌, ◌≤◌, List, ◌++◌, rules, length, take, subst, sym, length-take-le}
use Rattle.std.specs.Io.KnownBytes.{Consumes}
use Rattle.std.proofs.KnownBytes.{Consumes-trans}
use borrow.Rule.Slice.PartMut.{put_mid, post_of}
use lib.Seq.{take_at, drop_at, take-add, take-append-le}
use Rattle.text.proofs.fill.Goals as goal

-- the front of the part that was lent joins what stands before the part
front-joined : (a k n : ℕ) (xs ys : List ℕ) → a ≤ length xs → n ≤ length ys → take a xs ++ take n ys ≡ take (a + n) (put_mid a k xs ys)
front-joined a k n xs ys within fits =
    let size = length-take-le a xs within in
    let rest = post_of a k xs in
    sym (rw (take-add a n (put_mid a k xs ys), take_at (take a xs) (ys ++ rest) a size, drop_at (take a xs) (ys ++ rest) a size, take-append-le n ys rest fits))

pub loop-done-preserved : goal.loop-done-preserved
loop-done-preserved g c =
    let within = c.loop-done.invariant.0 in
    let joined = front-joined c.loop-done.done (length c.loop-done.to - c.loop-done.done) c.in_ok-n.n c.loop-done.to c.read.new.buf within c.in_ok-n.ensures.bound.0 in
    (search rules, subst (Consumes _ _) joined (Consumes-trans _ _ _ _ _ c.loop-done.invariant.1 c.in_ok-n.ensures.bytes.0))
