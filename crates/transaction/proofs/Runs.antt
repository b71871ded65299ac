-- An accepted run over the bytes that it leaves one after another. A loaded room represents the start of the specification's run, so that
-- the processed room holds its end, and what is handed back are the bytes of the specification's image; past the tables nothing changes.
use mathlib.Core.Path.{◌≡◌, refl, sym, ap, ◌∙◌}
use mathlib.Core.Bool.{Bool, true, false}
use mathlib.Core.List.{List, ◌++◌}
use mathlib.Core.Option.{some}
use Prim.Native.Nat.{ℕ, ◌+◌, ◌-◌, ◌≤◌, ◌<◌}
use native.Mathlib.Omega.{arith}
use lib.Dec.{ltb}
use lib.ListN.{length, get_or, drop, replicate, length-drop, length-replicate}
use lib.Seq.{ext_get_or, get_or-drop}
use borrow.Author.Tests.{ltb-true, ltb-false}
use Rattle.meaning.specs.Base.{in_front_of}
use Rattle.meaning.specs.Reading.{read_all}
use Rattle.meaning.specs.Covers.{Image}
use Rattle.meaning.specs.ByteLayouts as ByteLayouts
use Rattle.meaning.specs.ByteLayouts.{image_bytes}
use Rattle.meaning.specs.EntryPoints.{handed_back}
use Rattle.meaning.specs.Processing.{Ending}
use Rattle.meaning.proofs.RoundTrip.{image-sound, round_trip}
use Rattle.words.specs.Words.{Bytes, low32_at}
use Rattle.slots.specs.Slots.{Stands}
use Rattle.room.specs.Room.{NEXT, LIVE, END, ROWS, Kept, live_rows}
use Rattle.room.specs.Joins as Joins
use Rattle.room.specs.Represents.{Represents, starting}
use Rattle.room.proofs.Kept.{kept_trans}
use Rattle.plan.specs.declared.Plan.{Plan}
use Rattle.plan.specs.Plans.{rules_in, Lists}
use Rattle.plan.proofs.Active.{own-within}
use Rattle.loading.specs.Loads.{Loads}
use Rattle.loading.proofs.Started.{loaded-represents}
use Rattle.processing.specs.declared.Outcome.{Outcome}
use Rattle.processing.specs.declared.Outcome.TheVariants.{Commit, RolledBack, StepLimit, Failed}
use Rattle.processing.specs.declared.Ended.{Ended}
use Rattle.processing.specs.Endings.{outcome_meant, Starts, EndsAs, Processes}
use Rattle.transaction.specs.declared.ReadOff.{ReadOff}
use Rattle.transaction.specs.Handed.{committed, handed}
use Rattle.transaction.specs.Transacts.{Runnable, Transacts, ending_from}

-- ---- What stands past the tables

-- from a place past the tables on, two rooms are one
rest-kept : {lo : ℕ} {xs ys : List ℕ} → Kept lo (length xs) xs ys → (n : ℕ) → lo ≤ n → drop n ys ≡ drop n xs
rest-kept {lo} {xs} {ys} k n h =
    ext_get_or 0 (drop n ys) (drop n xs) (simp length-drop (ap (λ (m : ℕ). m - n) k.len))
    (λ i b. rw (get_or-drop n ys i 0, get_or-drop n xs i 0) (k.same (n + i) (omega arith) (omega (arith, length-drop n ys, k.len))))

-- a room whose first n bytes were cleared, at least those of the tables
cleared-rest : {xs ys zs : List ℕ} → Kept END (length xs) xs ys → (n : ℕ) → END ≤ n → zs ≡ replicate n 0 ++ drop n ys
    → zs ≡ in_front_of (replicate n 0) xs
cleared-rest k n h e = e ∙ rw (rest-kept k n h, length-replicate {A = ℕ} n 0)

-- ---- What is handed back

pub other-outcome : (o : Outcome) → (o ≡ Commit → ⊥) → false ≡ committed o
unfolding committed
other-outcome Commit other = absurd (other refl)
other-outcome RolledBack other = refl
other-outcome StepLimit other = refl
other-outcome (Failed r) other = refl

-- for an ending whose image stands in the room, the bytes of the image that the specification hands back
handed-meant : (o : Outcome) (image ys : List ℕ) (start : Image) (e : Ending) → outcome_meant o ≡ e.outcome
    → low32_at ys NEXT ≡ e.image.next → live_rows ys ≡ e.image.rows → image_bytes start ≡ image
    → handed (committed o) image ys ≡ image_bytes (handed_back e.outcome start e.image)
unfolding committed handed handed_back
handed-meant Commit image ys start e is next rows given = rw (← is, next, rows)
handed-meant RolledBack image ys start e is next rows given = rw (← is) (sym given)
handed-meant StepLimit image ys start e is next rows given = rw (← is) (sym given)
handed-meant (Failed r) image ys start e is next rows given = rw (← is) (sym given)

-- ---- The tables of a plan

-- the rules of a plan have their own table, or 4, and past them stands 5
planned-ended : {book : List ℕ} {plan : Plan} → Lists book plan.count plan → Joins.RulesEnd plan.tables
planned-ended {plan = plan} p = record { stays = λ j k le few past. go j k le few past (ltb j plan.count) refl }
  where
    go : (j k : ℕ) → j ≤ k → k < 16 → 4 < get_or plan.tables j 0 → (b : Bool) → ltb j plan.count ≡ b → 4 < get_or plan.tables k 0
    go j k le few past true e = absurd (omega (arith, own-within (p.placed j (ltb-true j plan.count e))))
    go j k le few past false e =
        let beyond = ltb-false j plan.count e in
        rw (p.absent k (omega arith) few) (omega arith)

-- ---- The run

module _ {image book : List ℕ} {a : ReadOff} (ok : Runnable image book a) where
  -- the start image
  start_image : Image
  start_image = record { next = a.image.next; rows = ok.rows.rows }

  module _ {xs ys : List ℕ} (loads : Loads image xs ys) (bytes : Bytes ys) where
    represents-start : (start : Image) → read_all ByteLayouts.image image ≡ some start
        → Represents ys a.plan.tables (starting (rules_in book a.plan.count) start)
    represents-start start e =
        loaded-represents (rules_in book a.plan.count) (loads.is start e) bytes (planned-ended ok.lists)

    pub starts : Starts ys a.plan.tables (rules_in book a.plan.count)
    unfolding start_image
    starts =
        record {
          start = start_image;
          sound = image-sound image start_image ok.rows.image;
          represents = represents-start start_image ok.rows.image;
        }

    module _ {zs log : List ℕ} {r : Ended} (p : Processes ys zs book log a.plan a.book.limit a.operations r) where
      ends : (start : Image) → read_all ByteLayouts.image image ≡ some start → EndsAs zs (ending_from book log a start) r
      unfolding ending_from
      ends start e = p.ends start (image-sound image start e) (represents-start start e)

      pub live-stands : Stands LIVE ROWS zs
      unfolding start_image
      live-stands = (ends start_image ok.rows.image).laid.live

      same-beyond : Kept END (length xs) xs zs
      unfolding start_image
      same-beyond =
          let l = (loads.is start_image ok.rows.image).beyond in
          kept_trans l (rw l.len at p.beyond)

      pub transacts : {before after ws : List ℕ} → after ≡ in_front_of (handed (committed r.outcome) image zs) before
          → ws ≡ replicate 65536 0 ++ drop 65536 zs → Transacts image book log a before after xs ws r
      transacts {before} out clear =
          record {
            hands_back = λ start e.
                let ended = ends start e in
                let ending = ending_from book log a start in
                let given = round_trip image start e in
                let same = handed-meant r.outcome image zs start ending ended.outcome ended.next ended.rows given in
                record { outcome = ended.outcome; count = ended.count; output = out ∙ ap (λ (l : List ℕ). in_front_of l before) same };
            cleared = cleared-rest same-beyond 65536 (omega arith) clear;
          }
