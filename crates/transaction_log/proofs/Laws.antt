-- What a whole log is, by the tests of its judge: in a right frame the count must stand there and be at most 256, and the operations must
-- be well formed and end where the slice ends.
use mathlib.Core.Path.{◌≡◌}
use mathlib.Core.Bool.{true}
use mathlib.Core.List.{List}
use mathlib.Core.Option.{none, some}
use Prim.Native.Nat.{ℕ, ◌≤◌, ◌<◌}
use native.Mathlib.Omega.{arith}
use borrow.Author.Tests.{le-leb, lt-leb}
use lib.ListN.{length}
use Rattle.std.specs.Prelude.{Some, None}
use Rattle.meaning.specs.Reading.{bad, got, number16, many, read_all}
use Rattle.meaning.specs.ByteLayouts.{log, operation}
use Rattle.meaning.proofs.Parsing.{number16-reads, length-bytes2}
use Rattle.words.specs.Words.{Bytes, end_of, readable}
use Rattle.words.proofs.Laws.{short-bad, ends-readable}
use Rattle.fields.specs.Fields.{well_framed}
use Rattle.fields.proofs.Laws.{fields-refused, length-refused, fields-taken}

module _ (s : List ℕ) (b : Bytes s) (framed : well_framed s ≡ true) where
  pub log-no-count : number16 s 5 ≡ bad → read_all log s ≡ none
  unfolding log
  log-no-count h = fields-refused _ s b framed (rw h)

  -- a count n, and the operations after it
  module _ (n first : ℕ) (count : number16 s 5 ≡ got n first) where
    pub log-too-many : 256 < n → read_all log s ≡ none
    unfolding log
    log-too-many h = fields-refused _ s b framed (rw (count, lt-leb n 256 h))

    module _ (h : n ≤ 256) where
      pub log-malformed : end_of (many n operation s first) ≡ None → read_all log s ≡ none
      unfolding log
      log-malformed e = fields-refused _ s b framed (rw (count, le-leb n 256 h) (short-bad (many n operation s first) e))

      module _ (next : ℕ) (e : end_of (many n operation s first) ≡ Some next) where
        pub log-not-filled : (next ≡ length s → ⊥) → read_all log s ≡ none
        unfolding log
        log-not-filled other =
            let read = ends-readable operation n s first next e in
            length-refused _ s b framed (readable n operation s first) next (rw (count, le-leb n 256 h) read) other

        pub log-read : next ≡ length s → read_all log s ≡ some (readable n operation s 7)
        unfolding log
        log-read end =
            let read = ends-readable operation n s first next e in
            let seven : first ≡ 7 = omega (arith, (number16-reads.told count).ends, length-bytes2 n) in
            let all : read_all log s ≡ some (readable n operation s first) =
            fields-taken _ s b framed (readable n operation s first) next (rw (count, le-leb n 256 h) read) end
            in
            rw seven at all
