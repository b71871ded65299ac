-- What the log's decoders answer.
use Rattle.std.specs.Prelude.{List, ℕ, Option}
use Rattle.std.proofs.Math.Option.{Option as Maybe}
use Rattle.std.specs.Int.Count.{ones}
use Rattle.meaning.specs.Reading.{Read}
use Rattle.meaning.specs.Covers.{LogOperation, insert, delete, update}
use Rattle.meaning.specs.ByteLayouts.{operation}
use Rattle.words.specs.Words.{option_as, read_as, readable}
use Rattle.fields.specs.Fields.{values_at}
use Rattle.transaction_log.specs.declared.Operation.{Operation}
use Rattle.transaction_log.specs.declared.Operation.TheVariants.{Insert, Delete, Update}

-- the operation that is meant, its values read where they stand
abbrev pub operation_meant : List ℕ → Operation → LogOperation
operation_meant s (Insert table values) = insert table (values_at s 4 values)
operation_meant s (Delete handle) = delete handle
operation_meant s (Update handle mask values) = update handle mask (values_at s (ones mask) values)

abbrev pub operation_or : List ℕ → Option (Operation × ℕ) → Read LogOperation
operation_or s = read_as (operation_meant s)

-- the operations stand after the operation count
abbrev pub first_operation : ℕ
first_operation = 7

-- as many operations as a log has
unfoldable pub operations_meant : List ℕ → ℕ → List LogOperation
operations_meant s count = readable count operation s first_operation

abbrev pub log_or : List ℕ → Option ℕ → Maybe (List LogOperation)
log_or s = option_as (operations_meant s)
