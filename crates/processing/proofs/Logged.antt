-- A run by its log: it ends there, or goes on to the steps from the state that the log leads to, for every start that the room represents.
use Rattle.std.specs.Prelude.{Ok, Err}
use mathlib.Core.Path.{◌≡◌, ap}
use mathlib.Core.List.{List, map}
use Prim.Native.Nat.{ℕ}
use lib.ListN.{length, length-replicate}
use Rattle.meaning.specs.Covers as Covers
use Rattle.meaning.specs.Covers.{Image, Rule, LogOperation}
use Rattle.meaning.specs.ByteLayouts.{operation}
use Rattle.meaning.specs.RowOperations.{RowOperation, make_all}
use Rattle.meaning.specs.Processing.{run_log, ended, after_events, after_log, steps, process, made}
use Rattle.meaning.specs.Processing.Actions.{went, ends, onward}
use Rattle.meaning.specs.Made.{Sound}
use Rattle.words.specs.Words.{readable}
use Rattle.room.specs.Represents.{Represents, Running, made_all, starting}
use Rattle.room.proofs.Kept.{kept_trans}
use Rattle.room.proofs.Marks.{starting-log, reached-starting}
use Rattle.changes.specs.declared.Stop.{Stop}
use Rattle.changes.specs.Steps.{Step, Follows, Acts}
use Rattle.series.proofs.Composed.{After, acts-after}
use Rattle.series.proofs.Loops.{log-makes}
use Rattle.plan.specs.declared.Plan.{Plan}
use Rattle.plan.specs.Plans.{rules_in}
use Rattle.trigger.specs.Triggers.{order_in}
use Rattle.processing.specs.declared.Ended.{Ended}
use Rattle.processing.specs.Endings.{outcome_meant, stopped, Starts, Processes}
use Rattle.processing.specs.Rest.{Reaches, Midway, Steps}
use Rattle.processing.proofs.Turns.{Led, led-ends, after-ends, ends_there}

-- ---- What the log results in

module _ (rules : List Rule) (order : List ℕ) (limit : ℕ) (log : List LogOperation) (start : Image) (new : List RowOperation) where
  process-went : run_log log start ≡ went new
      → process rules order limit log start ≡ after_events (map made new) (steps rules order limit 0 (after_log rules order start new))
  unfolding process onward
  process-went e = rw e

  process-ends : (o : Covers.Outcome) → run_log log start ≡ ends o new
      → process rules order limit log start ≡ ended o 0 (make_all new start) (map made new)
  unfolding process onward
  process-ends o e = rw e

-- ---- The room

pub starts-running : {xs tables : List ℕ} (rules : List Rule) → Starts xs tables rules → Running xs
starts-running {tables = tables} rules b =
    record {
      tables = tables;
      start = b.start;
      state = starting rules b.start;
      reached = reached-starting rules b.sound;
      represents = b.represents;
    }

module _ (book log : List ℕ) (plan : Plan) (n : ℕ) {xs ys : List ℕ} {step : Step}
    (a : Acts xs ys (run_log (readable n operation log 7)) step) where
  -- what it leaves, from a start
  followed : (start : Image) → Sound start → Represents xs plan.tables (starting (rules_in book plan.count) start)
      → Follows ys plan.tables (starting (rules_in book plan.count) start) (run_log (readable n operation log 7) start) step
  unfolding starting
  followed start sound p = a.follows plan.tables start _ (reached-starting (rules_in book plan.count) sound) p

  -- the run ends there
  ends-run : (limit : ℕ) {r : Ended} {o : Covers.Outcome} → outcome_meant r.outcome ≡ o → r.count ≡ 0
      → ((start : Image) → Sound start → Represents xs plan.tables (starting (rules_in book plan.count) start)
      → Led ys plan.tables (starting (rules_in book plan.count) start) (run_log (readable n operation log 7) start) (ends o))
      → Processes xs ys book log plan limit n r
  unfolding made_all starting
  ends-run limit {o = o} out none_made led =
      record {
        beyond = a.beyond;
        ends = λ start sound p.
            rw (process-ends (rules_in book plan.count) (order_in plan) limit (readable n operation log 7) start (led start sound p).new o
            (led start sound p).is)
            (ends_there _ (led start sound p).represents out none_made);
      }

  pub log-ends : (limit : ℕ) {r : Ended} {stop : Stop} → step ≡ Err stop → (r.outcome ≡ stopped stop) × (r.count ≡ 0)
      → Processes xs ys book log plan limit n r
  log-ends limit e told =
      ends-run limit (ap outcome_meant told.0) told.1 (λ start sound p. led-ends (followed start sound p) e)

  module _ (e : step ≡ Ok tt) where
    after : (start : Image) → Sound start → Represents xs plan.tables (starting (rules_in book plan.count) start)
        → After start (starting (rules_in book plan.count) start) ys plan.tables (run_log (readable n operation log 7) start)
    unfolding starting
    after start sound p = acts-after (log-makes log n 7) (rw e at a) (reached-starting (rules_in book plan.count) sound) p

    -- it goes on from a state that is reached
    reaches-on : (start : Image) (sound : Sound start) (p : Represents xs plan.tables (starting (rules_in book plan.count) start))
        → Reaches ys book plan start (after_log (rules_in book plan.count) (order_in plan) start (after start sound p).new)
    unfolding after_log starting
    reaches-on start sound p =
        let rules = rules_in book plan.count in
        let way = after start sound p in
        record {
          reached = rw (← starting-log rules (order_in plan) start way.new) way.reached;
          represents = rw (← starting-log rules (order_in plan) start way.new) way.represents;
          marks = length-replicate (length rules) 0;
        }

    pub log-midway : Starts xs plan.tables (rules_in book plan.count) → Midway ys book plan
    log-midway b = record { start = b.start; state = _; reaches = reaches-on b.start b.sound b.represents }

    -- what the steps end as, the run ends as
    pub log-on : {zs : List ℕ} {limit : ℕ} {r : Ended} → Steps ys zs book plan limit r → Processes xs zs book log plan limit n r
    log-on {limit = limit} s =
        record {
          beyond = kept_trans a.beyond (rw a.beyond.len at s.beyond);
          ends = λ start sound p.
              rw (process-went (rules_in book plan.count) (order_in plan) limit (readable n operation log 7) start
              (after start sound p).new (after start sound p).is)
              (after-ends _ (s.from.ends start _ (reaches-on start sound p)));
        }
