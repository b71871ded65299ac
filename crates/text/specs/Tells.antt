-- What a run's answer, and the image that it wrote, tell of its verdict.
use Rattle.std.specs.Prelude.{◌≡◌, List, ◌++◌, ℕ, ◌≤◌}
use Rattle.std.proofs.Math.Option.{some}
use Rattle.meaning.specs.Reading.{read_all}
use Rattle.meaning.specs.ByteLayouts as ByteLayouts
use Rattle.meaning.specs.ByteLayouts.{image_bytes}
use Rattle.meaning.specs.EntryPoints.{Verdict, refused, accepted, handed_back, answer_of, written, lines}
use Rattle.engine.specs.Answers.{Answer, answer_meant}
use Rattle.lines.specs.Text.{Puts}

-- the image of an accepted run can be read back from its bytes, and its count has at most ten digits
abbrev pub Showable : Verdict → Type 0
Showable (refused r) = Unit {0}
Showable (accepted start e) =
    let m = handed_back e.outcome start e.image in
    (read_all ByteLayouts.image (image_bytes m) ≡ some m) × (e.count ≤ 4294967295)

pub record Tells (image : List ℕ) (r : Answer) (v : Verdict) : Type 0 where
  pub answer : answer_meant r ≡ answer_of v
  pub rest : List ℕ
  pub output : image ≡ written v ++ rest
  pub showable : Showable v

-- they tell some verdict
pub record Telling (image : List ℕ) (r : Answer) : Type 0 where
  pub verdict : Verdict
  pub tells : Tells image r verdict

-- the lines of whatever verdict they tell stand at the front of the output
pub record PutsLines (before after image : List ℕ) (r : Answer) (n : ℕ) : Type 0 where
  pub is : (v : Verdict) → Tells image r v → Puts before after (lines v) n
