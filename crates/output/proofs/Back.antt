-- An image that was read and stands in the room is written back as its own bytes: the room holds its next handle and its rows, and an
-- image's bytes are those it was read from.
use Rattle.meaning.proofs.Theorems.{round_trip}
use Rattle.output.specs.Outputs.{WritesBack}

pub writes-back : WritesBack
writes-back s room before after m read next rows put = rw (next, rows, round_trip s m read) at put
