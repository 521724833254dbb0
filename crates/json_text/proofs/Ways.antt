-- What is said of a row: texts and numbers, its path, its destination. Assumes nothing.
use mathlib.Core.Path.{◌≡◌, sym, ap}
use mathlib.Core.Bool.{not}
use mathlib.Core.List.{List, [], ◌∷◌, ◌++◌}
use mathlib.Core.Option.{none, some}
use Prim.Native.Nat.{ℕ, zero, suc, ◌+◌, ◌*◌, ◌/◌, ◌%◌, ◌^◌, ◌≤◌, ◌<◌}
use Prim.Native.String.{String}
use native.Mathlib.Omega.{arith}
use lib.Dec.{eqb, ltb}
use lib.ListN.{length, length-append}
use Rattle.spec.specs.Json.{ascii, decimal, digits}
use Rattle.laws.proofs.Branch.{both, if-true, if-false}
use Rattle.lent.specs.Bytes.{Holds}
use Rattle.std.specs.Prelude as std
use Rattle.std.specs.Prelude.{Some, None}
use Rattle.layout.specs.Edges.{goal_of}
use Rattle.layout.specs.Marks.{NOWHERE}
use Rattle.tables.specs.Addrs.{addrs}
use Rattle.entries.specs.declared.found.Span.{Span}
use Rattle.entries.specs.Rows.{steps_of}
use Rattle.output.specs.declared.Output.{Output}
use Rattle.output.specs.Promises.{Puts, PutsFew}
use Rattle.entries.specs.Families.{led_to}
use Rattle.entries.specs.Promises.{PathOf, GoalOf}
use Rattle.output.proofs.Puts.{puts_none, few-join, few-less}
use Rattle.entries.proofs.Paths.{addrs-snoc}
use Rattle.json_text.specs.Rows.{lined, mark, goal_to, said_of, goal_text, way_of, way_text}
use Rattle.json_text.proofs.Lines.{lined-more}
use Rattle.json_text.proofs.Pieces.{way-pieces}

-- ---- texts and numbers

-- a literal was put
abbrev pub Says : String → Output → Output → Type 0
Says s o o' = Puts (length (ascii s)) o (ascii s) o'

-- a literal and a number were put
abbrev pub Names : String → ℕ → Output → Output → Type 0
Names s v o o' = PutsFew (length (ascii s) + 5) o (ascii s ++ decimal v) o'

pub said : {bs : List ℕ} {o o' : Output} → Puts (length bs) o bs o' → PutsFew (length bs) o bs o'
said p = record { puts = p; few = omega arith }

digits-some : (k n : ℕ) → 1 ≤ length (digits k n)
digits-some zero n = omega arith
digits-some (suc k) n =
    both (λ (l : List ℕ). 1 ≤ length l) (ltb n 10) (λ _. omega arith) (λ _. omega (arith, length-append (digits k (n / 10)) ((0x30 + n % 10) ∷ [])))

decimal-some : (n : ℕ) → 1 ≤ length (decimal n)
unfolding decimal
decimal-some n = digits-some n n

-- ---- a path: the loop over its addresses

pub address-put : (begin v : ℕ) {o o₁ o₂ : Output} → PutsFew 1 o (mark begin o.end) o₁ → PutsFew 5 o₁ (decimal v) o₂
    → PutsFew 6 o (mark begin o.end ++ decimal v) o₂
address-put begin v p q = few-join p q

pub record Pathing (q : List ℕ) (from n : ℕ) (o₀ o : Output) (i : ℕ) : Type 0 where
  pub inside : i ≤ n
  pub puts : PutsFew (6 * i) o₀ (lined decimal (addrs q from i)) o

pub path-start : (q : List ℕ) (from n : ℕ) (o : Output) → Pathing q from n o o 0
unfolding addrs lined
path-start q from n o = record { inside = omega arith; puts = record { puts = puts_none o; few = omega arith } }

module _ {q : List ℕ} {from n i : ℕ} {o₀ o : Output} (g : Pathing q from n o₀ o i) where
  pub path_room : i < n → o₀.end + 6 * n ≤ 2 ^ 62 → o.end + 6 ≤ 2 ^ 62
  path_room h f = omega (arith, g.puts.few, g.puts.puts.next)

  pub path-turn : {x : ℕ} {o' : Output} → i < n → Holds 2 q (2 * (from + i)) x → PutsFew 6 o (mark o₀.end o.end ++ decimal x) o'
      → Pathing q from n o₀ o' (i + 1)
  path-turn {x} h v p =
      let done : List ℕ = lined decimal (addrs q from i) in
      let more : lined decimal (addrs q from (i + 1)) ≡ done ++ (mark o₀.end o.end ++ decimal x)
      = rw (addrs-snoc q from i, ← v.is, g.puts.puts.next) (lined-more decimal decimal-some (addrs q from i) x o₀.end) in
      record { inside = omega arith; puts = rw more (few-less (few-join g.puts p) (omega arith)) }

  pub path-done : n ≤ i → PutsFew (6 * n) o₀ (lined decimal (addrs q from n)) o
  path-done h = let all : i ≡ n = omega (arith, g.inside) in rw all at g.puts

-- ---- a destination

pub goal-none : {g : std.Option ℕ} {o o' : Output} → g ≡ None → Says "],\"to\":null}" o o' → PutsFew 13 o (goal_text (said_of g)) o'
unfolding goal_text
goal-none e p = rw e (few-less (said p) (omega arith))

pub goal-some : {g : std.Option ℕ} (to : ℕ) {o o₁ o₂ : Output} → g ≡ Some to → Names "],\"to\":" to o o₁ → Says "}" o₁ o₂
    → PutsFew 13 o (goal_text (said_of g)) o₂
unfolding goal_text
goal-some to e p q = rw e (few-less (few-join p (said q)) (omega arith))

-- as a row's number says it
goal-said : (to : ℕ) → said_of (led_to to) ≡ goal_to to
unfolding led_to goal_to
goal-said to =
    both (λ (t : std.Option ℕ). said_of t ≡ goal_to to) (eqb to NOWHERE) (λ e. sym (if-false (not (eqb to NOWHERE)) (some to) none (ap not e)))
    (λ e. sym (if-true (not (eqb to NOWHERE)) (some to) none (ap not e)))

-- ---- a row

module _ {i : ℕ} {r : List ℕ} {s : Span} (f : PathOf r i s) where
  pub way-put : (q : List ℕ) {t : std.Option ℕ} {o o₁ o₂ o₃ : Output} → GoalOf r i t
      → Says "{\"path\":[" o o₁ → PutsFew (6 * s.steps) o₁ (lined decimal (addrs q s.from s.steps)) o₂
      → PutsFew 13 o₂ (goal_text (said_of t)) o₃ → PutsFew (22 + 6 * steps_of r i) o (way_text r q i) o₃
  unfolding way_text lined
  way-put q h p t u =
      rw (way-pieces (way_of r q i), ← f.steps, ← f.begins, ← goal-said (goal_of r i), ← h.is) (few-less (few-join (few-join (said p) t) u) (omega arith))

-- a row's text has some byte
pub way-some : (r q : List ℕ) (i : ℕ) → 1 ≤ length (way_text r q i)
unfolding way_text
way-some r q i = rw (way-pieces (way_of r q i)) (omega arith)
