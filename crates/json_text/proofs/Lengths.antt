-- How many bytes the text has at most: by how many addresses are flagged, how many rows there are, and where their paths end. Assumes nothing.
use mathlib.Core.Path.{◌≡◌, ap}
use mathlib.Core.Bool.{true, false}
use mathlib.Core.List.{List, [], ◌∷◌, ◌++◌, map}
use mathlib.Core.Option.{Option}
use Prim.Native.Nat.{ℕ, zero, suc, ◌+◌, ◌*◌, ◌/◌, ◌%◌, ◌^◌, ◌≤◌, ◌<◌}
use native.Mathlib.Nat.{pow-suc}
use native.Mathlib.Omega.{arith}
use lib.Dec.{eqb, ltb}
use lib.ListN.{length, length-append}
use borrow.Author.Tests.{ltb-false}
use Rattle.spec.specs.Lists.{keep, gather, total}
use Rattle.spec.specs.Blocks.{Kind, terminate, jump, jumpi, dynamic_jump, dynamic_jumpi}
use Rattle.spec.specs.Json.{ascii, decimal, digits, nullable}
use Rattle.laws.proofs.Branch.{both}
use Rattle.laws.proofs.Members.{In, here, there, in-keep}
use Rattle.laws.proofs.Totals.{total-keep, total-less}
use Rattle.lent.specs.Bytes.{num_at}
use Rattle.lent.proofs.Numbers.{num-small}
use Rattle.lent.proofs.Once.{Bytes}
use Rattle.layout.specs.Edges.{end_at, goal_of}
use Rattle.layout.specs.Parts.{row_place}
use Rattle.layout.specs.Rows.{END, TO, OTHER, tag_at, typed}
use Rattle.layout.specs.declared.row.BlockType.{BlockType}
use Rattle.initial.specs.Rows.{kind_of, kind_at}
use Rattle.tables.specs.Addrs.{addrs}
use Rattle.reachable.specs.Marks.{flagged}
use Rattle.entries.specs.Rows.{upto, steps_of, mine, listed, chosen, entries_at, kept, kept_below}
use Rattle.entries.specs.Promises.{RowsIn}
use Rattle.entries.proofs.Most.{blocks-most}
use Rattle.json_text.specs.Rows.{lined, goal_to, goal_text, way_of, way_text, type_for, block_text, front, tail, tail_of, map_text}
use Rattle.json_text.proofs.Pieces.{way-pieces, block-pieces, map-pieces}
use Rattle.json_text.proofs.Types.{ways-are}
use Rattle.json_text.proofs.Walked.{weight}

long-three : (x y z : List ℕ) → length (x ++ y ++ z) ≡ length x + length y + length z
long-three x y z = omega (arith, length-append (x ++ y) z, length-append x y)

-- ---- a number

digits-few : (j k n : ℕ) → n < 10 ^ suc k → length (digits j n) ≤ suc k
digits-few zero k n h = omega arith
digits-few (suc j) zero n h =
    both (λ (l : List ℕ). length l ≤ 1) (ltb n 10) (λ _. omega arith) (λ off. absurd (omega (arith, ltb-false n 10 off)))
digits-few (suc j) (suc k) n h =
    let less : n / 10 < 10 ^ suc k = omega (arith, pow-suc 10 (suc k)) in
    both (λ (l : List ℕ). length l ≤ suc (suc k)) (ltb n 10) (λ _. omega arith)
    (λ _. omega (arith, digits-few j k (n / 10) less, length-append (digits j (n / 10)) ((0x30 + n % 10) ∷ [])))

decimal-few : (n : ℕ) → n < 65536 → length (decimal n) ≤ 5
unfolding decimal
decimal-few n h = digits-few n 4 n (omega arith)

-- one that stands in two bytes
number-few : {b : List ℕ} → Bytes b → (at : ℕ) → length (decimal (num_at 2 b at)) ≤ 5
number-few {b} s at = decimal-few (num_at 2 b at) (num-small 2 b at s.small)

-- ---- a list

-- each has a comma, or the first has none
lined-few : (f : ℕ → List ℕ) (is : List ℕ) → length (lined f is) ≤ total (λ (i : ℕ). 1 + length (f i)) is
unfolding lined
lined-few f [] = omega arith
lined-few f (i ∷ is) = omega (arith, rest (i ∷ is))
  where
    rest : (is : List ℕ) → length (gather (λ (y : List ℕ). ascii "," ++ y) (map f is)) ≤ total (λ (i : ℕ). 1 + length (f i)) is
    rest [] = omega arith
    rest (i ∷ is) = omega (arith, length-append (f i) (gather (λ (y : List ℕ). ascii "," ++ y) (map f is)), rest is)

-- ---- a row

path-few : {q : List ℕ} → Bytes q → (k at : ℕ) → total (λ (x : ℕ). 1 + length (decimal x)) (addrs q at k) ≤ 6 * k
unfolding addrs
path-few s zero at = omega arith
path-few s (suc k) at = omega (arith, number-few s (2 * at), path-few s k (at + 1))

goal-few : (to : ℕ) → length (decimal to) ≤ 5 → length (goal_text (goal_to to)) ≤ 13
unfolding goal_text goal_to
goal-few to h =
    both (λ (o : Option ℕ). length (ascii "],\"to\":" ++ nullable o ++ ascii "}") ≤ 13) _
    (λ _. omega (arith, long-three (ascii "],\"to\":") (decimal to) (ascii "}")))
    (λ _. omega arith)

module _ {r q : List ℕ} (rs : Bytes r) (qs : Bytes q) where
  way-few : (i : ℕ) → 1 + length (way_text r q i) ≤ weight r i
  unfolding way_text lined
  way-few i =
      rw (way-pieces (way_of r q i))
      (omega (
        arith,
        long-three (ascii "{\"path\":[") (lined decimal (addrs q (end_at r i) (steps_of r i))) (goal_text (goal_to (goal_of r i))),
        lined-few decimal (addrs q (end_at r i) (steps_of r i)),
        path-few qs (steps_of r i) (end_at r i),
        goal-few (goal_of r i) (number-few rs _),
      ))

  ways-few : (is : List ℕ) → length (lined (way_text r q) is) ≤ total (weight r) is
  ways-few is = omega (arith, lined-few (way_text r q) is, total-less (λ (i : ℕ). 1 + length (way_text r q i)) (weight r) is (λ i _. way-few i))

-- ---- a block

front-few : (a end : ℕ) → length (decimal a) ≤ 5 → length (decimal end) ≤ 5 → length (front a end) ≤ 37
unfolding front
front-few a end h g =
    omega (
      arith,
      long-three (ascii "{\"id\":" ++ decimal a) (ascii ",\"start\":" ++ decimal a) (ascii ",\"end\":" ++ decimal end),
      length-append (ascii "{\"id\":") (decimal a),
      length-append (ascii ",\"start\":") (decimal a),
      length-append (ascii ",\"end\":") (decimal end),
    )

-- the rows that a block lists are its own
entries-few : (r : List ℕ) (m a tag : ℕ) → total (weight r) (entries_at r m a tag) ≤ total (weight r) (keep (mine r a) (upto 0 m))
unfolding entries_at chosen
entries-few r m a tag =
    both (λ (l : List ℕ). total (weight r) l ≤ total (weight r) (keep (mine r a) (upto 0 m))) (ltb tag 5)
    (λ _. omega arith)
    (λ _. total-keep (weight r) (listed r tag) (keep (mine r a) (upto 0 m)))

-- the numbers that a kind names have few digits
abbrev Few : Kind → Type 0
Few (terminate success) = Unit
Few (jump t) = length (decimal t) ≤ 5
Few (jumpi t f) = (length (decimal t) ≤ 5) × (length (decimal f) ≤ 5)
Few dynamic_jump = Unit
Few (dynamic_jumpi f) = length (decimal f) ≤ 5

kind-few : (k to f : ℕ) → length (decimal to) ≤ 5 → length (decimal f) ≤ 5 → Few (kind_of (typed k to f))
unfolding typed
kind-few k to f h g =
    let F : BlockType → Type 0 = λ t. Few (kind_of t) in
    both F (eqb k 1) (λ _. tt)
    (λ _. both F (eqb k 2) (λ _. tt)
    (λ _. both F (eqb k 3) (λ _. h)
    (λ _. both F (eqb k 4) (λ _. (h, g))
    (λ _. both F (eqb k 5) (λ _. tt) (λ _. g)))))

module _ {r q : List ℕ} (rs : Bytes r) (qs : Bytes q) where
  -- without its rows the longest is a DynamicJumpi
  tail-few : (is : List ℕ) (k : Kind) → Few k → length (tail_of (map (way_of r q) is) k) ≤ 62 + total (weight r) is
  unfolding tail
  tail-few is (terminate true) h = omega arith
  tail-few is (terminate false) h = omega arith
  tail-few is (jump t) h = omega (arith, long-three (ascii ",\"type\":\"Jump\",\"data\":{\"to\":") (decimal t) (ascii "}}"))
  tail-few is (jumpi t f) h =
      omega (
        arith,
        long-three (ascii ",\"type\":\"Jumpi\",\"data\":{\"true_to\":" ++ decimal t) (ascii ",\"false_to\":" ++ decimal f) (ascii "}}"),
        length-append (ascii ",\"type\":\"Jumpi\",\"data\":{\"true_to\":") (decimal t),
        length-append (ascii ",\"false_to\":") (decimal f),
      )
  tail-few is dynamic_jump h =
      rw (ways-are r q is) (omega (arith, long-three (ascii ",\"type\":\"DynamicJump\",\"data\":{\"to\":[") (lined (way_text r q) is) (ascii "]}}"), ways-few rs qs is))
  tail-few is (dynamic_jumpi f) h =
      let list : List ℕ = lined (way_text r q) is in
      rw (ways-are r q is)
      (omega (
        arith,
        long-three (ascii ",\"type\":\"DynamicJumpi\",\"data\":{\"true_to\":[" ++ list) (ascii "],\"false_to\":" ++ decimal f) (ascii "}}"),
        length-append (ascii ",\"type\":\"DynamicJumpi\",\"data\":{\"true_to\":[") list,
        length-append (ascii "],\"false_to\":") (decimal f),
        ways-few rs qs is,
      ))

  block-few : {w : List ℕ} → Bytes w → (m a : ℕ) → a < 65536 → length (block_text w r q m a) ≤ 99 + total (weight r) (keep (mine r a) (upto 0 m))
  unfolding block_text
  block-few {w} ws m a h =
      let end : ℕ = num_at 2 w (row_place a + END) in
      let is : List ℕ = entries_at r m a (tag_at w a) in
      rw (block-pieces a end (type_for (map (way_of r q) is) (kind_at w a)))
      (omega (
        arith,
        length-append (front a end) (tail_of (map (way_of r q) is) (kind_at w a)),
        front-few a end (decimal-few a h) (number-few ws (row_place a + END)),
        tail-few is (kind_at w a) (kind-few (tag_at w a) _ _ (number-few ws (row_place a + TO)) (number-few ws (row_place a + OTHER))),
        entries-few r m a (tag_at w a),
      ))

-- ---- the whole

in-upto : {x : ℕ} (k i : ℕ) → In x (upto i k) → x < i + k
unfolding upto
in-upto (suc k) i here = omega arith
in-upto (suc k) i (there m) = omega (arith, in-upto k (suc i) m)
in-upto zero i x'' = elim x'' [ ]

pub text-few : {w r q : List ℕ} (n : ℕ) {m : ℕ} → Bytes w → Bytes r → Bytes q → RowsIn r q m → n < 65536
    → length (map_text w r q n m) ≤ 2 + 100 * length (flagged w n) + 23 * m + 6 * end_at r m
unfolding kept_below
text-few {w} {r} {q} n {m} ws rs qs rows h =
    let starts : List ℕ = kept_below w n (n + 1) in
    let list : List ℕ = lined (block_text w r q m) starts in
    let most : ℕ → ℕ = λ (a : ℕ). 100 + total (weight r) (keep (mine r a) (upto 0 m)) in
    let each : (a : ℕ) → In a starts → 1 + length (block_text w r q m a) ≤ most a
    = λ a i. let low = in-upto (n + 1) 0 (in-keep (kept w n) (upto 0 (n + 1)) i).1 in omega (arith, block-few rs qs ws m a (omega arith)) in
    omega (
      arith,
      ap length (map-pieces w r q n m),
      long-three (ascii "[") list (ascii "]"),
      lined-few (block_text w r q m) starts,
      total-less (λ (a : ℕ). 1 + length (block_text w r q m a)) most starts each,
      blocks-most rows w n 100 23 6,
    )
