-- The plan while it is made: the rules of the book are those done, whose tables, masks and what is listed are stored, and
-- those that are read from here on. Each turn reads one more, since all that are left can be read.
use Rattle.std.specs.Prelude.{Option, Some}
use mathlib.Core.Logic.{◌≢◌}
use mathlib.Core.Path.{◌≡◌, refl, ap, ◌∙◌}
use mathlib.Core.Bool.{Bool, true, false}
use mathlib.Core.List.{List, [], ◌∷◌, ◌++◌, map, map-append, append_assoc, append-nil}
use mathlib.Core.Option.{some}
use Prim.Native.Nat.{ℕ, ◌+◌, ◌-◌, ◌≤◌, ◌<◌}
use native.Mathlib.Nat.{sub-zero}
use native.Mathlib.Numerals.{add-one}
use native.Mathlib.Omega.{arith}
use borrow.Author.Tests.{eqb-true, eqb-false}
use lib.Dec.{eqb}
use lib.ListN.{length, get_or, get_elem?, take, set, replicate, length-set, length-append, get_or-replicate}
use lib.Seq.{get_or-set_same, get_or-set_other, take-suc-set}
use Rattle.meaning.specs.Reading.{Read, got, many}
use Rattle.meaning.specs.Covers.{Rule}
use Rattle.meaning.specs.ByteLayouts as ByteLayouts
use Rattle.meaning.specs.Processing.TotalOrder.{order_of, total_order}
use Rattle.words.specs.Words.{readable}
use Rattle.words.proofs.Laws.{FirstOf, first_of, readable-many, readable-more, readable-none}
use Rattle.book.specs.declared.Rule.{Rule as RuleStood}
use Rattle.book.specs.Books.{rule_or, rule_meant, rule_of, head_rule}
use Rattle.order.specs.Order.{order_meant}
use Rattle.plan.specs.Plans.{rules_in, active_table, OutlineOf, Outlined, unlisted, Placed, Watched, Planned}
use Rattle.plan.specs.Numbers.{Numbers}
use Rattle.plan.specs.declared.Listed.{Listed}
use Rattle.plan.specs.declared.making.Outline.{Outline}
use Rattle.plan.proofs.Fits.{rule_fits}
use Rattle.plan.proofs.Ordered.{numbers-of-rules}

-- the element behind those in front
element-behind : {A : Type 0} (xs ys : List A) (x : A) (k : ℕ) → length xs ≡ k → get_elem? (xs ++ (x ∷ ys)) k ≡ some x
element-behind [] ys x k e = rw (← e)
element-behind (y ∷ xs) ys x k e = rw (← e) (element-behind xs ys x (length xs) refl)

-- ---- An outline of a rule

-- what the decoder read is the rule, and its head is that rule's
module _ (s : List ℕ) {read : Read Rule} {r : Option (RuleStood × ℕ)} {rule : RuleStood} {next : ℕ} (e : rule_or s r ≡ read)
    (is : r ≡ Some (rule, next)) where
  pub rule-read : read ≡ got (rule_meant s rule) next
  rule-read = rw (← e, is)

  pub outlined : {o : Outline} → OutlineOf (head_rule rule.head) next o → Outlined read o
  unfolding rule_meant rule_of head_rule active_table
  outlined made =
      rw rule-read
      (record {
        table = made.table;
        triggers = made.triggers;
        columns = made.columns;
        precedes = made.precedes;
        ends = made.ends;
      })

-- ---- The plan while it is made

-- what is stored of rule k
pub record Stored (s : List ℕ) (n k : ℕ) (table : ℕ) (listed : Listed) : Type 0 where
  pub placed : Placed s n k listed.start table
  pub watched : Watched placed.rule listed.triggers listed.columns

-- k rules are done, the others are still to be read from here on, and all of them can be
pub record Planning (s : List ℕ) (n : ℕ) (tables : List ℕ) (listed : List Listed) (masks : List ℕ) (here k : ℕ) : Type 0 where
  pub few : n ≤ 16
  pub places_tables : length tables ≡ 16
  pub places_listed : length listed ≡ 16
  pub places_masks : length masks ≡ 16
  pub done : List Rule
  pub counted : length done ≡ k
  pub rules : rules_in s n ≡ done ++ readable (n - k) (ByteLayouts.rule n) s here
  pub end : ℕ
  pub rest : many (n - k) (ByteLayouts.rule n) s here ≡ got (readable (n - k) (ByteLayouts.rule n) s here) end
  pub stored : (j : ℕ) → j < k → Stored s n j (get_or tables j 0) (get_or listed j unlisted)
  pub absent : (j : ℕ) → k ≤ j → j < 16 → get_or tables j 0 ≡ 5
  pub masked : take k masks ≡ map (λ r. r.precedes) done

pub nothing-planned : (s : List ℕ) (n : ℕ) → n ≤ 16 → many n (ByteLayouts.rule n) s 8 ≡ got (rules_in s n) (length s)
    → Planning s n (replicate 16 5) (replicate 16 unlisted) (replicate 16 0) 8 0
nothing-planned s n h e = record {
  few = h;
  places_tables = refl;
  places_listed = refl;
  places_masks = refl;
  done = [];
  counted = refl;
  rules = rw (sub-zero n);
  end = length s;
  rest = rw (sub-zero n) e;
  stored = λ j l. absurd (omega arith);
  absent = λ j l b. get_or-replicate 16 j 5 0 b;
  masked = refl;
}

-- what is listed of a rule with this outline that stands here
abbrev pub listed_of : ℕ → Outline → Listed
listed_of here o = record { start = here; triggers = o.triggers; columns = o.columns }

module _ {s : List ℕ} {n : ℕ} {tables : List ℕ} {listed : List Listed} {masks : List ℕ} {here k : ℕ}
    (p : Planning s n tables listed masks here k) where
  one-planned-of : {rs : List Rule} → k < n → (t : FirstOf (ByteLayouts.rule n) (n - k) s here rs p.end) (o : Outline)
      → OutlineOf t.first t.next o
      → Planning s n (set tables k o.table) (set listed k (listed_of here o)) (set masks k o.precedes) o.next (k + 1)
  one-planned-of h t o is =
      let less : n - k - 1 ≡ n - (k + 1) = omega arith in
      let in_tables : k < length tables = omega (arith, p.places_tables, p.few) in
      let in_listed : k < length listed = omega (arith, p.places_listed, p.few) in
      let in_masks : k < length masks = omega (arith, p.places_masks, p.few) in
      let more = readable-more (ByteLayouts.rule n) (n - k) s here t.first t.next (omega arith) t.read in
      let others = rw less at t.more in
      record {
        few = p.few;
        places_tables = simp length-set p.places_tables;
        places_listed = simp length-set p.places_listed;
        places_masks = simp length-set p.places_masks;
        done = p.done ++ (t.first ∷ []);
        counted = rw (length-append p.done (t.first ∷ [])) (omega (arith, p.counted));
        rules = p.rules ∙ rw (more, less, is.ends, append_assoc);
        end = p.end;
        rest = rw (is.ends, readable-many (ByteLayouts.rule n) (n - (k + 1)) s t.next t.others p.end others) others;
        stored = λ j l. store j (omega arith) in_tables in_listed more (eqb j k) refl;
        absent = λ j l b.
            let other : j ≢ k = λ e. omega arith in
            rw (get_or-set_other tables k j o.table 0 other) (p.absent j (omega arith) b);
        masked = rw (add-one k, take-suc-set masks k o.precedes in_masks, p.masked, is.precedes, map-append);
      }
    where
      store : (j : ℕ) → j ≤ k → k < length tables → k < length listed
          → readable (n - k) (ByteLayouts.rule n) s here ≡ t.first ∷ readable (n - k - 1) (ByteLayouts.rule n) s t.next
          → (b : Bool) → eqb j k ≡ b
          → Stored s n j (get_or (set tables k o.table) j 0) (get_or (set listed k (listed_of here o)) j unlisted)
      store j l in_tables in_listed more true e =
          let same = eqb-true j k e in
          rw (same, get_or-set_same tables k o.table 0 in_tables, get_or-set_same listed k (listed_of here o) unlisted in_listed)
          (record {
            placed = record {
              rule = t.first;
              next = t.next;
              read = t.read;
              listed = rw (p.rules, more) (element-behind p.done _ t.first k p.counted);
              fits = (rule_fits n s here t.read).table;
              is = is.table;
            };
            watched = record { triggers = is.triggers; columns = is.columns };
          })
      store j l in_tables in_listed more false e =
          let other = eqb-false j k e in
          rw (get_or-set_other tables k j o.table 0 other, get_or-set_other listed k j (listed_of here o) unlisted other)
          (p.stored j (omega arith))

  pub one-planned : k < n → (o : Outline) → Outlined (ByteLayouts.rule n s here) o
      → Planning s n (set tables k o.table) (set listed k (listed_of here o)) (set masks k o.precedes) o.next (k + 1)
  one-planned h o is =
      let t = first_of (ByteLayouts.rule n) (n - k) s here (omega arith) p.rest in
      one-planned-of h t o (rw t.read at is)

module _ {s : List ℕ} {n : ℕ} {tables : List ℕ} {listed : List Listed} {masks : List ℕ} {here : ℕ}
    (p : Planning s n tables listed masks here n) (order : Option (List ℕ)) (e : order_meant n order ≡ order_of (take n masks)) where
  rules-done : rules_in s n ≡ p.done
  rules-done =
      let behind : readable (n - n) (ByteLayouts.rule n) s here ≡ [] = readable-none (ByteLayouts.rule n) (n - n) s here (omega arith) in
      p.rules ∙ rw (behind, append-nil)

  -- the order is that of the rules
  ordered : order_meant n order ≡ total_order (rules_in s n)
  unfolding total_order
  ordered = e ∙ ap order_of (rw rules-done p.masked)

  pub numbers-planned : Numbers n order
  numbers-planned = numbers-of-rules (rules_in s n) (ap length rules-done ∙ p.counted) order ordered

  pub all-planned : (few : n ≤ 16) (numbers : Numbers n order)
      → Planned s n (record { count = n; tables = tables; rules = listed; order = order; few = few; numbers = numbers })
  all-planned few numbers =
      record {
        lists = record {
          count = refl;
          placed = λ j l. (p.stored j l).placed;
          watched = λ j l. (p.stored j l).watched;
          absent = p.absent;
        };
        ordered = ordered;
      }
