-- Each statement of specs/Theorems.antt, proved, under its name: what the other files prove, put together.
use mathlib.Core.Path.{◌≡◌, ap, ◌∙◌}
use mathlib.Core.List.{List, ◌∷◌, ◌++◌, append_assoc}
use Prim.Native.Nat.{ℕ}
use native.Mathlib.Omega.{arith}
use Rattle.meaning.specs.Covers.{Row, commit}
use Rattle.meaning.specs.ByteLayouts.{image_bytes}
use Rattle.meaning.specs.RowOperations.{inserts, own_of}
use Rattle.meaning.specs.Processing.{made}
use Rattle.meaning.specs.Processing.TransitionTables.{Transition, transition}
use Rattle.meaning.specs.EntryPoints.{handed_back, verdict, written}
use Rattle.meaning.specs.Trace.{operations_in}
use Rattle.meaning.specs.Runs.{Accepted, ending_of, waits_for, image_after}
use Rattle.meaning.specs.Theorems as Stated
use Rattle.meaning.proofs.WrittenRead.{written_read}
use Rattle.meaning.proofs.Lookups.{all-next-rises, given-fresh, given-once}
use Rattle.meaning.proofs.Images.{make_all-sound}
use Rattle.meaning.proofs.Lives.{net-outside, differs}
use Rattle.meaning.proofs.Capacity.{capacity}
use Rattle.meaning.proofs.Traces.{operations-append}
use Rattle.meaning.proofs.RunsFit.{run_sound, run-made, run-replayed, run-end-sound, made-around, made_at, sound-since, made-since}
use Rattle.meaning.proofs.OwnTable.{own-wakes, own-transition}
use Rattle.meaning.proofs.Shows.{at-consideration}
use Rattle.meaning.proofs.Shows as Shows
use Rattle.meaning.proofs.Admitted as Admitted
use Rattle.meaning.proofs.Ends as Ends
use Rattle.meaning.proofs.Lawful as Lawful
use Rattle.meaning.proofs.OnlyLawful as OnlyLawful
use Rattle.meaning.proofs.Joined as Joined
use Rattle.meaning.proofs.Conditions as Conditions
use Rattle.meaning.proofs.RoundTrip as RoundTrip
use Rattle.meaning.proofs.NetEffects as NetEffects
use Rattle.meaning.proofs.Orders as Orders
use Rattle.meaning.proofs.Refusals.{run-refuses, check-refuses}
use Rattle.meaning.proofs.RuleBytes.{rule-empty}
use Rattle.meaning.proofs.Printed.{program-refuses, parts-refuse}
use Rattle.meaning.proofs.Lengths as Lengths
use Rattle.meaning.proofs.JoinTable as JoinTable
use Rattle.meaning.proofs.Chooses as Chooses
use Rattle.meaning.proofs.Reasons as Reasons
use Rattle.meaning.proofs.Performs as Performs

-- ---- 1. Byte layouts

pub round_trip : Stated.RoundTrip
round_trip = RoundTrip.round_trip

pub lengths : Stated.Lengths.Lengths
lengths = Lengths.lengths

-- ---- 2. Entry points

pub every-run : Stated.EveryRun
every-run = Ends.every-run

pub refusals : Stated.Refusals.Refusals
refusals =
    record { of_run = run-refuses; of_check = check-refuses; of_rule = rule-empty; of_program = program-refuses; of_parts = parts-refuse }

module _ {image book log : List ℕ} (a : Accepted image book log) where
  pub ends : Stated.Ends a
  ends = Ends.every-ends a

  hands_end : (ending_of a).outcome ≡ commit → written (verdict image book log) ≡ image_bytes (ending_of a).image
  unfolding written handed_back
  hands_end q = ap written (Ends.accepted-verdict a) ∙ rw q

  pub chains : Stated.Chains a
  chains =
      record {
        reads = λ q. rw (hands_end q) (written_read (run-end-sound a));
        onward = rw (run-replayed a) (all-next-rises (run-made a));
      }

-- ---- 3. Row operations and net effects

pub says-net : Stated.SaysNet
says-net = NetEffects.says-net

pub join-table : Stated.JoinTable
join-table = JoinTable.join-table

module _ {image book log : List ℕ} (a : Accepted image book log) where
  pub admitted : Stated.Admitted.Admitted a
  admitted = Admitted.admitted a

  pub reachable : Stated.Reachable a
  reachable = Joined.reaches a

  pub from-outside : Stated.FromOutside a
  unfolding image_after
  from-outside =
      record {
        told = λ p h. net-outside (run_sound a) (made_at a p.before p.after p.place) h;
        rows = λ h. rw (run-replayed a) (differs (run_sound a) (run-made a) h);
      }

  pub sizes : Stated.Sizes a
  unfolding operations_in waits_for image_after
  sizes =
      record {
        waiting = λ p k.
            let s = sound-since a p.before p.after p.place k in
            let d = made-since a p.before p.after p.place k in
            omega (arith, capacity s d, s.rows_fit, (make_all-sound s d).rows_fit);
        fresh = λ m r o.
            given-fresh (operations_in m.before) r (operations_in m.after)
            (made-around a m.before (made (inserts r) ∷ m.after) (rw (← o) m.place));
        once = λ m r s between later o q.
            given-once {m = a.start} (operations_in m.before) r (operations_in between) s (operations_in later)
            (rw (← operations-append m.before (made (inserts r) ∷ between))
            (made-around a (m.before ++ (made (inserts r) ∷ between)) (made (inserts s) ∷ later)
            (rw (append_assoc, ← o, ← q) m.place)));
      }

-- ---- 4. Processing

module _ {image book log : List ℕ} (a : Accepted image book log) where
  pub is_lawful : Stated.Lawful.IsLawful a
  is_lawful = Lawful.is_lawful a

  pub only-lawful : Stated.Lawful.OnlyLawful a
  only-lawful = OnlyLawful.only-lawful a

  pub joined : Stated.Joined a
  joined = Joined.joined a

pub conditions : Stated.Conditions
conditions = Conditions.conditions

-- ---- 5. Total order

pub total-order : Stated.TotalOrder
total-order = Orders.total-order

-- ---- 6. Transition tables

module _ {image book log : List ℕ} (a : Accepted image book log) where
  pub shows : Stated.Shows.Shows a
  shows = Shows.shows a

  pub own-table : Stated.OwnTable.OwnTable a
  own-table =
      record {
        wakes = own-wakes;
        shows = λ c r q.
            at-consideration a (λ n rows. transition r rows (own_of r.table n) ≡ transition r rows n) (λ m os. own-transition r os) c;
      }

-- ---- 7. Queries

pub chooses : (t : Transition) (rows : List Row) → Stated.Chooses.Chooses t rows
chooses = Chooses.chooses

module _ {image book log : List ℕ} (a : Accepted image book log) where
  pub rises : Stated.Chooses.Rises a
  rises = Chooses.rises a

  -- ---- 8. Actions

  pub reasons : Stated.Reasons.Reasons a
  reasons = Reasons.reasons a

  pub performs : Stated.Performs.Performs a
  performs = Performs.performs a
