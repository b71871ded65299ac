-- A match that is read has one to four pairs: its count is a byte from 1 to 4, and as many pairs are read.
use mathlib.Core.Bool.{Bool, true, false}
use mathlib.Core.List.{List}
use Prim.Native.Nat.{ℕ, ◌≤◌}
use native.Mathlib.Omega.{arith}
use lib.Dec.{eqb, ltb}
use lib.ListN.{length}
use Rattle.meaning.specs.Reading.{byte, byte_within}
use Rattle.meaning.specs.Covers.{Source, Pair, Term, match, no_match, most_pairs}
use Rattle.meaning.specs.ByteLayouts as ByteLayouts
use Rattle.meaning.specs.ByteLayouts.{value, column}
use Rattle.meaning.proofs.Parsing.{Reads, byte_reads}
use Rattle.meaning.proofs.RunsFit.{Gives, reads-give, bind-gives, past-gives, pure-gives, malformed-gives, if-gives, many-gives}
use Rattle.terms.specs.Terms.{match_meant}
use Rattle.query.specs.Picks.{FewPairs}

module _ (triggers : ℕ) where
  matching-few : (make : Source → List Pair → Term)
      → ((s : Source) (ps : List Pair) → 1 ≤ length ps → length ps ≤ 4 → FewPairs (make s ps))
      → Gives (ByteLayouts.matching triggers make) FewPairs
  unfolding ByteLayouts.matching
  matching-few make fits =
      let count : Reads (byte_within 1 most_pairs) _ (λ n. (1 ≤ n) × (n ≤ most_pairs)) = byte_reads (omega arith) in
      past-gives (ByteLayouts.source triggers) (λ s.
      bind-gives (reads-give count) (λ n small.
      bind-gives (many-gives {P = λ p. Unit {0}} n (record { fit = λ e. tt })) (λ ps c.
      pure-gives (fits s ps (omega arith) (omega arith)))))

  pub term_few : Gives (ByteLayouts.term triggers) FewPairs
  unfolding ByteLayouts.term ByteLayouts.term_of ByteLayouts.against_constant ByteLayouts.against_column FewPairs
  term_few =
      past-gives byte (λ n.
      if-gives (ltb n 6) (past-gives column (λ c. past-gives value (λ v. pure-gives tt)))
      (if-gives (ltb n 12) (past-gives column (λ c. past-gives column (λ d. pure-gives tt)))
      (if-gives (eqb n 12) (matching-few match (λ s ps low high. (low, high)))
      (if-gives (eqb n 13) (matching-few no_match (λ s ps low high. (low, high))) malformed-gives))))

pub match-few : (negated : Bool) (s : Source) (ps : List Pair) → FewPairs (match_meant negated s ps) → (1 ≤ length ps) × (length ps ≤ 4)
unfolding FewPairs
match-few true s ps few = few
match-few false s ps few = few
