-- Where the bytes of rule k stand in the caller's book: the steps are those of `EntryPoints.rule_bytes`, and the place is 0 wherever those
-- give no bytes. The place and the number of bytes are told as one word.
use Rattle.std.specs.Prelude.{◌≡◌, List, [], ℕ, ◌+◌, ◌*◌, ◌/◌, ◌%◌, ◌≤◌, ◌<◌, ltb, length, take, drop, if◌then◌else◌}
use Rattle.meaning.specs.Reading.{Read, bad, got, many}
use Rattle.meaning.specs.Covers.{Book}
use Rattle.meaning.specs.ByteLayouts as ByteLayouts
use Rattle.meaning.specs.EntryPoints.{Refusal, JudgedBook, refused_book, accepted_book, judge_book, first_rule, rule_after, rule_bytes}

-- a place from which a value was read
unfoldable pub start_read : {A : Type 0} → ℕ → Read A → ℕ
start_read from bad = 0
start_read from (got a end) = from

-- after k rules of a book of n rules
unfoldable pub start_after : {A : Type 0} → List ℕ → ℕ → Read A → ℕ
start_after book n bad = 0
start_after book n (got a from) = start_read from (ByteLayouts.rule n book from)

-- rule k of a book of n rules: 0 if there is none
abbrev pub start_of : List ℕ → ℕ → ℕ → ℕ
start_of book n k = if ltb k n then start_after book n (many k (ByteLayouts.rule n) book first_rule) else 0

-- 0 if the book has refusal 4 or 5
unfoldable pub start_in : List ℕ → ℕ → JudgedBook → ℕ
start_in book k (refused_book r) = 0
start_in book k (accepted_book b order) = start_of book (length b.rules) k

unfoldable pub rule_start : List ℕ → ℕ → ℕ
rule_start book k = start_in book k (judge_book book)

-- bits 0..31 how many bytes, 32..63 where the first stands
abbrev pub place_word : ℕ → List ℕ → ℕ
place_word start bytes = start * 4294967296 + length bytes

-- the bytes of rule k: 0 if the book has refusal 4 or 5 or there is no rule k
unfoldable pub rule_word : List ℕ → ℕ → ℕ
rule_word book k = place_word (rule_start book k) (rule_bytes book k)

-- the word is that of rule k
abbrev pub RuleAnswered : List ℕ → ℕ → ℕ → Type 0
RuleAnswered book k w = w ≡ rule_word book k

-- the same of a book of n rules, whatever else is said of the book
abbrev pub word_among : List ℕ → ℕ → ℕ → ℕ
word_among book n k =
    place_word (start_of book n k) (if ltb k n then rule_after book n (many k (ByteLayouts.rule n) book first_rule) else [])

-- what a caller relies on, with the start and the size read off a word
pub record RuleAt (book : List ℕ) (k w : ℕ) : Type 0 where
  -- from the start on, so many bytes of the book as the size says are those of rule k, and they end inside the book
  pub bytes : take (w % 4294967296) (drop (w / 4294967296) book) ≡ rule_bytes book k
  pub inside : w / 4294967296 + w % 4294967296 ≤ length book
  -- 0 if the book has refusal 4 or 5
  pub refused : (r : Refusal) → judge_book book ≡ refused_book r → w ≡ 0
  -- or there is no rule k
  pub missing : (b : Book) (order : List ℕ) → judge_book book ≡ accepted_book b order → length b.rules ≤ k → w ≡ 0
  -- and never else: any rule has at least 9 bytes
  pub found : (b : Book) (order : List ℕ) → judge_book book ≡ accepted_book b order → k < length b.rules → 9 ≤ w % 4294967296

-- the word of every rule of every book, be it refused or not
abbrev pub EveryRule : Type 0
EveryRule = (book : List ℕ) (k : ℕ) → RuleAt book k (rule_word book k)
