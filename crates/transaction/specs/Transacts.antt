-- What an accepted run answers and leaves.
use Rattle.std.specs.Prelude.{◌≡◌, List, ℕ, replicate}
use Rattle.std.proofs.Math.Option.{some}
use Rattle.meaning.specs.Base.{in_front_of}
use Rattle.meaning.specs.Reading.{read_all}
use Rattle.meaning.specs.Covers.{Image}
use Rattle.meaning.specs.ByteLayouts as ByteLayouts
use Rattle.meaning.specs.ByteLayouts.{operation, image_bytes}
use Rattle.meaning.specs.Processing.{Ending, process}
use Rattle.meaning.specs.EntryPoints.{handed_back, working_room}
use Rattle.words.specs.Words.{readable}
use Rattle.image.specs.Images as Images
use Rattle.plan.specs.Plans.{rules_in, Lists, Planned}
use Rattle.trigger.specs.Triggers.{order_in}
use Rattle.processing.specs.declared.Ended.{Ended}
use Rattle.processing.specs.Endings.{outcome_meant}
use Rattle.transaction.specs.declared.ReadOff.{ReadOff}

-- image and book are well formed, and have what was read off them
pub record Accepts (image book : List ℕ) (a : ReadOff) : Type 0 where
  pub rows : Images.WellFormed image a.image.next a.image.count
  pub planned : Planned book a.plan.count a.plan

-- A run asks for less: it follows the order that a plan has, whatever it is.
pub record Runnable (image book : List ℕ) (a : ReadOff) : Type 0 where
  pub rows : Images.WellFormed image a.image.next a.image.count
  pub lists : Lists book a.plan.count a.plan

-- the run that the specification says
unfoldable pub ending_from : List ℕ → List ℕ → ReadOff → Image → Ending
ending_from book log a start =
    process (rules_in book a.plan.count) (order_in a.plan) a.book.limit (readable a.operations operation log 7) start

-- outcome and count are those of an ending, and the image that it hands back stands at the front of the output
pub record HandsBack (before after : List ℕ) (start : Image) (e : Ending) (r : Ended) : Type 0 where
  pub outcome : outcome_meant r.outcome ≡ e.outcome
  pub count : r.count ≡ e.count
  pub output : after ≡ in_front_of (image_bytes (handed_back e.outcome start e.image)) before

-- The first 65,536 bytes of working room are zero, the rest untouched.
pub record Transacts (image book log : List ℕ) (a : ReadOff) (before after xs ys : List ℕ) (r : Ended) : Type 0 where
  pub hands_back : (start : Image) → read_all ByteLayouts.image image ≡ some start
      → HandsBack before after start (ending_from book log a start) r
  pub cleared : ys ≡ in_front_of (replicate working_room 0) xs
