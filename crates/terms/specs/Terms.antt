-- What the decoders of terms, queries and expressions answer.
use Rattle.std.specs.Prelude.{Bool, true, false, ◌&&◌, ◌||◌, List, ℕ, eqb, ltb, if◌then◌else◌, Option}
use Rattle.meaning.specs.Base.{bit}
use Rattle.meaning.specs.Reading.{Read}
use Rattle.meaning.specs.Values.{signed}
use Rattle.meaning.specs.Covers as Covers
use Rattle.meaning.specs.ByteLayouts as ByteLayouts
use Rattle.meaning.specs.ByteLayouts.{comparison, pair}
use Rattle.words.specs.Words.{read_as, readable}
use Rattle.terms.specs.declared.Term.{Term}
use Rattle.terms.specs.declared.Term.TheVariants as term
use Rattle.terms.specs.declared.Terms.{Terms}
use Rattle.terms.specs.declared.Query.{Query}
use Rattle.terms.specs.declared.Expression.{Expression}
use Rattle.terms.specs.declared.Expression.TheVariants as expression

-- the row source with a number 0..7
unfoldable pub source_meant : ℕ → Covers.Source
source_meant n =
    if ltb n 4 then Covers.Source.current n else
    if eqb n 4 then Covers.Source.inserted else
    if eqb n 5 then Covers.Source.deleted else
    if eqb n 6 then Covers.Source.new_updated else Covers.Source.old_updated

-- a rule with these triggers may name it
unfoldable pub source_fits : ℕ → ℕ → Bool
source_fits triggers n =
    ltb n 4 || (eqb n 4 && bit triggers 0 || (eqb n 5 && bit triggers 1 || (eqb n 6 && bit triggers 2 || eqb n 7 && bit triggers 2)))

abbrev pub source_or : Option (ℕ × ℕ) → Read Covers.Source
source_or = read_as source_meant

-- match or no match
abbrev pub match_meant : Bool → Covers.Source → List Covers.Pair → Covers.Term
match_meant true = Covers.Term.no_match
match_meant false = Covers.Term.match

-- the term that is meant, its pairs read where they stand
abbrev pub term_meant : List ℕ → Term → Covers.Term
term_meant s (term.Constant op column constant) = Covers.Term.constant (comparison op) column (signed constant)
term_meant s (term.Columns op column other) = Covers.Term.columns (comparison op) column other
term_meant s (term.Match negated source count pairs) = match_meant negated (source_meant source) (readable count pair s pairs)

abbrev pub term_or : List ℕ → Option (Term × ℕ) → Read Covers.Term
term_or s = read_as (term_meant s)

-- count terms from a place on, in a rule with these triggers
unfoldable pub terms_meant : List ℕ → ℕ → Terms → List Covers.Term
terms_meant s triggers t = readable t.count (ByteLayouts.term triggers) s t.first

abbrev pub terms_or : List ℕ → ℕ → Option (Terms × ℕ) → Read (List Covers.Term)
terms_or s triggers = read_as (terms_meant s triggers)

unfoldable pub query_meant : List ℕ → ℕ → Query → Covers.Query
query_meant s triggers q = record { source = source_meant q.source; terms = terms_meant s triggers q.terms }

abbrev pub query_or : List ℕ → ℕ → Option (Query × ℕ) → Read Covers.Query
query_or s triggers = read_as (query_meant s triggers)

abbrev pub expression_meant : Expression → Covers.Expression
expression_meant (expression.Constant constant) = Covers.Expression.fixed (signed constant)
expression_meant (expression.Column column) = Covers.Expression.column column
expression_meant (expression.Sum column constant) = Covers.Expression.sum column (signed constant)

abbrev pub expression_or : Option (Expression × ℕ) → Read Covers.Expression
expression_or = read_as expression_meant
