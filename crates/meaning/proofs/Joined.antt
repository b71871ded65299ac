-- What a rule was given, joined in order, is the net effect of all operations up to its last consideration; joined with what waits for it,
-- it is that of all operations so far. And no such join is marked: each stretch of a run is made of operations that fit, one after another.
use mathlib.Core.Path.{◌≡◌, refl, sym, ap, ◌∙◌}
use mathlib.Core.Bool.{Bool, true, false}
use mathlib.Core.List.{List, [], ◌∷◌, ◌++◌, append-nil, append_assoc}
use Prim.Native.Nat.{ℕ}
use lib.Dec.{eqb}
use lib.Seq.{append_snoc}
use borrow.Author.Tests.{eqb-true}
use Rattle.meaning.specs.RowOperations.{RowOperation, nothing, join, joined_on, net, effect_at, make_all}
use Rattle.meaning.specs.Processing.{Event, made, considered}
use Rattle.meaning.specs.Trace.{operations_in, since_last, given_to, joined_in}
use Rattle.meaning.specs.Theorems.{Joined, Reachable}
use Rattle.meaning.specs.Runs.{Accepted, ending_of, waits_for}
use Rattle.meaning.specs.Made.{Made}
use Rattle.meaning.proofs.Lookups.{made-back}
use Rattle.meaning.proofs.NetEffects.{says-net}
use Rattle.meaning.proofs.Lives.{net-append, never-marked, never-marked-stretch}
use Rattle.meaning.proofs.Traces.{until_on, until_last, until-last, until-made, until-considered, until-other, given-append}
use Rattle.meaning.proofs.Traces.{joined_in-append}
use Rattle.meaning.proofs.RunsFit.{run_sound, made-around, made-stretches, sound-since}
use Rattle.meaning.proofs.Lawful.{is_lawful}

module _ {image book log : List ℕ} (a : Accepted image book log) where
  -- ---- Joined

  module _ (k h : ℕ) where
    -- the net effects up to the rule's last consideration and since then, joined, are that of all operations
    joined-all : (past after : List Event) → (ending_of a).trace ≡ past ++ after
        → join (net h (until_last k past)) (net h (since_last k past)) ≡ net h (operations_in past)
    joined-all past after q =
        sym (net-append (until_last k past) (since_last k past) (run_sound a) (made-stretches a past after q k) h)
        ∙ ap (net h) (until-last k past)

    -- what the rule was given, joined in order, is the net effect up to its last consideration
    abbrev JoinedUntil : List Event → Type 0
    JoinedUntil past = joined_in h nothing (given_to k past) ≡ net h (until_last k past)

    joined-next : (past : List Event) (e : Event) (after : List Event) → (ending_of a).trace ≡ past ++ (e ∷ after) → JoinedUntil past
        → JoinedUntil (past ++ (e ∷ []))
    unfolding given_to joined_in waits_for
    joined-next past (made o) after q j = rw (given-append k past (made o ∷ []), append-nil, until-made k past o) j
    joined-next past (considered i g) after q j = go (eqb i k) refl
      where
        go : (b : Bool) → eqb i k ≡ b → JoinedUntil (past ++ (considered i g ∷ []))
        go true e =
            let given = (is_lawful a).given (record { before = past; number = i; given = g; after = after; place = q }) in
            let waited : effect_at h g ≡ net h (since_last k past) =
            ap (effect_at h) given ∙ says-net h (since_last i past) ∙ ap (λ (n : ℕ). net h (since_last n past)) (eqb-true i k e) in
            rw (given-append k past (considered i g ∷ []), e, joined_in-append h nothing (given_to k past) (g ∷ []), j, waited)
            (rw (until-considered k past i g e) (joined-all past (considered i g ∷ after) q))
        go false e = rw (given-append k past (considered i g ∷ []), e, append-nil, until-other k past i g e) j

    joined-on : (past es after : List Event) → (ending_of a).trace ≡ (past ++ es) ++ after → JoinedUntil past → JoinedUntil (past ++ es)
    joined-on past [] after q j = rw append-nil j
    joined-on past (e ∷ es) after q j =
        rw (← append_snoc past e es)
        (joined-on (past ++ (e ∷ [])) es after (rw (append_snoc past e es) q)
        (joined-next past e (es ++ after) (q ∙ append_assoc past (e ∷ es) after) j))

    until-at : (before after : List Event) → (ending_of a).trace ≡ before ++ after
        → joined_in h nothing (given_to k before) ≡ net h (until_last k before)
    unfolding given_to joined_in until_on until_last net joined_on
    until-at before after q = joined-on [] before after q refl

  pub joined : Joined a
  unfolding waits_for
  joined p k h = rw (until-at k h p.before p.after p.place, says-net) (joined-all k h p.before p.after p.place)

  -- ---- Not marked

  -- one operation more is made on what was made since the last consideration
  made_more : (before after : List Event) (o : RowOperation) → (ending_of a).trace ≡ before ++ (made o ∷ after) → (k : ℕ)
      → Made (make_all (until_last k before) a.start) (since_last k before ++ (o ∷ operations_in after))
  unfolding operations_in
  made_more before after o q k =
      made-back (until_last k before) (since_last k before ++ (o ∷ operations_in after))
      (rw (← append_assoc (until_last k before) (since_last k before) (o ∷ operations_in after), until-last k before)
      (made-around a before (made o ∷ after) q))

  pub reaches : Reachable a
  reaches =
      record {
        single = λ m k h.
            never-marked (since_last k m.before) m.operation (operations_in m.after)
            (sound-since a m.before (made m.operation ∷ m.after) m.place k)
            (made_more m.before m.after m.operation m.place k) h;
        stretch = λ p k h.
            rw (until-at k h p.before p.after p.place)
            (never-marked-stretch (until_last k p.before) (since_last k p.before) (run_sound a)
            (made-stretches a p.before p.after p.place k) h);
      }
