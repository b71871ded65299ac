-- `query::term_rows` meets its contract: each kind of term is asked as the definition says, and no match is the opposite of match.
use Rattle.meaning.specs.Processing.Queries.{holds}
use Rattle.query.specs.Picks.{term_holds}
use Rattle.query.proofs.Laws.{match-holds}
use Rattle.query.proofs.Few.{match-few}
use Rattle.query.proofs.term_rows.Goals as goal

pub match_rows-requires : goal.match_rows-requires
match_rows-requires c =
    let few = match-few _ _ _ (rw c.in-Match.is at c.requires.few_pairs) in
    record {
      laid = c.requires.laid;
      stands = c.requires.stands;
      within = c.requires.within;
      in_bounds = few.0;
      pairs_len_bound = few.1;
    }

pub returns-in-Constant : goal.returns-in-Constant
unfolding term_holds holds
returns-in-Constant c = rw c.in-Constant.is c.kept.ensures

pub returns-in-Columns : goal.returns-in-Columns
unfolding term_holds holds
returns-in-Columns c = rw c.in-Columns.is c.kept-in-Columns.ensures

pub returns-in-Match : goal.returns-in-Match
returns-in-Match c = rw (c.in-Match.is, ← match-holds _ _ _ _) c.match_rows.ensures
