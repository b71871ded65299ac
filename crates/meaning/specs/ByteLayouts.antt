-- Byte layouts: image, book and log as they are read, each refusing exactly what is malformed, and the bytes of an image.
use Rattle.std.specs.Prelude.{Bool, true, ◌&&◌, List, [], ◌∷◌, ◌++◌, ℕ, ◌/◌, ◌%◌, ◌^◌, ◌-◌, ℤ, eqb, leb, ltb, length, if◌then◌else◌}
use Rattle.std.proofs.Math.Option.{Option, none, some}
use Rattle.std.specs.Int.Count.{ones}
use Rattle.meaning.specs.Base.{bit, within}
use Rattle.meaning.specs.Reading.{Parser, ◌>>=◌, ◌>>◌, pure, malformed, must, byte, byte_within, number16, number32, many, bytes_left}
use Rattle.meaning.specs.Values.{signed, unsigned}
use Rattle.meaning.specs.Covers.{most_rows, most_rules, most_actions, most_terms, most_pairs, most_operations, most_steps}
use Rattle.meaning.specs.Covers.{Row, Image, Comparison, Source, Pair, Term, Query, Expression, Action, Rule, Book, LogOperation}

-- "All start with a 4-byte length, then a version byte of 1": the length accounts for the slice, and the fields fill it, exactly
unfoldable pub framed : {A : Type 0} → Parser A → Parser A
framed fields = do
  n ← number32
  bytes_left n
  byte_within 1 1
  a ← fields
  bytes_left 0
  pure a

unfoldable pub value : Parser ℤ
value = do
  n ← number32
  pure (signed n)

unfoldable pub table : Parser ℕ
table = byte_within 0 3

unfoldable pub column : Parser ℕ
column = byte_within 0 3

-- of columns, at least one
unfoldable pub mask : Parser ℕ
mask = byte_within 1 15

-- ---- Image

unfoldable pub row : Parser Row
row = do
  h ← number32
  t ← table
  vs ← many 4 value
  pure (record { handle = h; table = t; values = vs })

-- the first handle is above `low`, each other above the one before it, and all are below `high`
unfoldable pub rising : ℕ → ℕ → List Row → Bool
rising low high [] = true
rising low high (r ∷ rs) = ltb low r.handle && ltb r.handle high && rising r.handle high rs

-- next handle, row count, rows: handles rise strictly, are at least 1 and below the next handle
unfoldable pub image : Parser Image
image = framed do
  next ← number32
  must (leb 1 next)
  n ← number16
  must (leb n most_rows)
  rs ← many n row
  must (rising 0 next rs)
  pure (record { next = next; rows = rs })

-- ---- Book

-- the six comparisons by their number
unfoldable pub comparison : ℕ → Comparison
comparison n =
    if eqb n 0 then Comparison.equal else
    if eqb n 1 then Comparison.unequal else
    if eqb n 2 then Comparison.less else
    if eqb n 3 then Comparison.at_most else
    if eqb n 4 then Comparison.greater else Comparison.at_least

unfoldable pub constant : Parser Expression
constant = do
  v ← value
  pure (Expression.fixed v)

unfoldable pub of_column : Parser Expression
of_column = do
  c ← column
  pure (Expression.column c)

unfoldable pub sum : Parser Expression
sum = do
  c ← column
  v ← value
  pure (Expression.sum c v)

unfoldable pub expression_of : ℕ → Parser Expression
expression_of n = if eqb n 0 then constant else if eqb n 1 then of_column else if eqb n 2 then sum else malformed

unfoldable pub expression : Parser Expression
expression = byte >>= expression_of

unfoldable pub pair : Parser Pair
pair = do
  own ← column
  other ← column
  pure (record { own = own; other = other })

-- within a rule, by its triggers
module _ (triggers : ℕ) where
  -- 0..3 tables; source 4 needs trigger bit 0, 5 needs bit 1, 6 and 7 need bit 2
  unfoldable pub source_of : ℕ → Parser Source
  source_of n =
      if ltb n 4 then pure (Source.current n) else
      if eqb n 4 && bit triggers 0 then pure Source.inserted else
      if eqb n 5 && bit triggers 1 then pure Source.deleted else
      if eqb n 6 && bit triggers 2 then pure Source.new_updated else
      if eqb n 7 && bit triggers 2 then pure Source.old_updated else malformed

  unfoldable pub source : Parser Source
  source = byte >>= source_of

  unfoldable pub against_constant : ℕ → Parser Term
  against_constant n = do
    c ← column
    v ← value
    pure (Term.constant (comparison n) c v)

  unfoldable pub against_column : ℕ → Parser Term
  against_column n = do
    c ← column
    d ← column
    pure (Term.columns (comparison n) c d)

  unfoldable pub matching : (Source → List Pair → Term) → Parser Term
  matching make = do
    s ← source
    n ← byte_within 1 most_pairs
    ps ← many n pair
    pure (make s ps)

  -- 0..5 column against constant, 6..11 column against column, 12 match, 13 no match
  unfoldable pub term_of : ℕ → Parser Term
  term_of n =
      if ltb n 6 then against_constant n else
      if ltb n 12 then against_column (n - 6) else
      if eqb n 12 then matching Term.match else
      if eqb n 13 then matching Term.no_match else malformed

  unfoldable pub term : Parser Term
  term = byte >>= term_of

  unfoldable pub terms : Parser (List Term)
  terms = do
    n ← byte_within 0 most_terms
    many n term

  unfoldable pub query : Parser Query
  query = do
    s ← source
    ts ← terms
    pure (record { source = s; terms = ts })

  unfoldable pub insert_row : Parser Action
  insert_row = do
    t ← table
    vs ← many 4 value
    pure (Action.insert_row t vs)

  unfoldable pub insert_from_query : Parser Action
  insert_from_query = do
    t ← table
    q ← query
    es ← many 4 expression
    pure (Action.insert_from_query t q es)

  unfoldable pub delete_rows : Parser Action
  delete_rows = do
    t ← table
    ts ← terms
    pure (Action.delete_rows t ts)

  -- one expression for each set bit of the column mask
  unfoldable pub update_rows : Parser Action
  update_rows = do
    t ← table
    m ← mask
    es ← many (ones m) expression
    ts ← terms
    pure (Action.update_rows t m es ts)

  unfoldable pub action_of : ℕ → Parser Action
  action_of n =
      if eqb n 0 then pure Action.rollback else
      if eqb n 1 then insert_row else
      if eqb n 2 then insert_from_query else
      if eqb n 3 then delete_rows else
      if eqb n 4 then update_rows else malformed

  unfoldable pub action : Parser Action
  action = byte >>= action_of

  unfoldable pub some_query : Parser (Option Query)
  some_query = do
    q ← query
    pure (some q)

  -- 0, or 1 and a query
  unfoldable pub condition : Parser (Option Query)
  condition = do
    n ← byte_within 0 1
    if eqb n 0 then pure none else some_query

  unfoldable pub actions : Parser (List Action)
  actions = do
    n ← byte_within 1 most_actions
    many n action

-- a mask 1..15 if bit 2 of the triggers is set, else 0
unfoldable pub columns : ℕ → Parser ℕ
columns triggers = if bit triggers 2 then mask else byte_within 0 0

-- a rule of a book of n rules
unfoldable pub rule : ℕ → Parser Rule
rule n = do
  a ← byte_within 0 1
  t ← table
  g ← byte_within 1 7
  c ← columns g
  p ← number16
  must (ltb p (2 ^ n))
  q ← condition g
  acts ← actions g
  pure (record { active = eqb a 1; table = t; triggers = g; columns = c; precedes = p; condition = q; actions = acts })

-- step limit, rule count, rules
unfoldable pub book : Parser Book
book = framed do
  l ← number16
  must (within 1 most_steps l)
  n ← byte_within 0 most_rules
  rs ← many n (rule n)
  pure (record { limit = l; rules = rs })

-- ---- Log

unfoldable pub insertion : Parser LogOperation
insertion = do
  t ← table
  vs ← many 4 value
  pure (LogOperation.insert t vs)

unfoldable pub deletion : Parser LogOperation
deletion = do
  h ← number32
  pure (LogOperation.delete h)

-- one value for each set bit of the mask
unfoldable pub change : Parser LogOperation
change = do
  h ← number32
  m ← mask
  vs ← many (ones m) value
  pure (LogOperation.update h m vs)

unfoldable pub operation_of : ℕ → Parser LogOperation
operation_of n = if eqb n 1 then insertion else if eqb n 2 then deletion else if eqb n 3 then change else malformed

unfoldable pub operation : Parser LogOperation
operation = byte >>= operation_of

-- operation count, operations
unfoldable pub log : Parser (List LogOperation)
log = framed do
  n ← number16
  must (leb n most_operations)
  many n operation

-- ---- And back: the bytes of an image

unfoldable pub bytes2 : ℕ → List ℕ
bytes2 n = n / 256 % 256 ∷ n % 256 ∷ []

unfoldable pub bytes4 : ℕ → List ℕ
bytes4 n = n / 16777216 % 256 ∷ n / 65536 % 256 ∷ n / 256 % 256 ∷ n % 256 ∷ []

unfoldable pub value_bytes : List ℤ → List ℕ
value_bytes [] = []
value_bytes (v ∷ vs) = bytes4 (unsigned v) ++ value_bytes vs

unfoldable pub row_bytes : Row → List ℕ
row_bytes r = bytes4 r.handle ++ (r.table ∷ value_bytes r.values)

unfoldable pub rows_bytes : List Row → List ℕ
rows_bytes [] = []
rows_bytes (r ∷ rs) = row_bytes r ++ rows_bytes rs

unfoldable pub image_bytes : Image → List ℕ
image_bytes m =
    let fields : List ℕ = 1 ∷ (bytes4 m.next ++ bytes2 (length m.rows) ++ rows_bytes m.rows) in
    bytes4 (length fields) ++ fields
