-- Document 02, No. 1: the reader gives back what was written. Assumes nothing.
use Prim.Native.Nat.{ℕ, zero, suc, ◌+◌, ◌*◌, ◌/◌, ◌%◌, ◌≤◌, ◌<◌}
use native.Mathlib.Omega.{arith}
use mathlib.Core.Path.{◌≡◌, refl, sym, ap, ◌∙◌}
use mathlib.Core.Bool.{true, false}
use mathlib.Core.List.{List, [], ◌∷◌, ◌++◌, map, append_assoc, append-nil}
use mathlib.Core.Option.{Option, none, some}
use lib.Dec.{ltb}
use lib.ListN.{length, length-append}
use borrow.Author.Tests.{ltb-true, ltb-false, le-leb}
use Rattle.spec.specs.Lists.{if, gather}
use Rattle.spec.specs.Json.{Way, BlockType, Terminate, Jump, Jumpi, DynamicJump, DynamicJumpi, Shown, ascii, digits, decimal, nullable, array, way_json, type_json, block_json, json}
use Rattle.laws.proofs.Branch.{both, if-true, if-false}
use Rattle.laws.proofs.Members.{and-true}
use Rattle.theorems.proofs.Readers.{Reader, whole}
use Rattle.theorems.proofs.JsonReader.{digit?, digit-first?, reads_on, number, destination, values, list, way, btype, block, blocks-in}

-- ---- numbers

digit-is : (d : ℕ) → d < 10 → digit? (0x30 + d) ≡ true
digit-is d h = and-true _ _ (le-leb 0x30 (0x30 + d) (omega arith)) (le-leb (0x30 + d) 0x39 (omega arith))

one-digit : (n d : ℕ) → d < 10 → (rest : List ℕ) → reads_on n ((0x30 + d) ∷ rest) ≡ reads_on (10 * n + d) rest
one-digit n d h rest = if-true _ _ _ (digit-is d h) ∙ ap (λ (x : ℕ). reads_on x rest) (omega arith)

first-is : (k n : ℕ) (rest : List ℕ) → n ≤ k → digit-first? (digits k n ++ rest) ≡ true
first-is zero n rest h = digit-is n (omega arith)
first-is (suc k) n rest h =
    both (λ (l : List ℕ). digit-first? (l ++ rest) ≡ true) (ltb n 10) (λ on. digit-is n (ltb-true _ _ on))
    (λ off. rw append_assoc (first-is k (n / 10) _ (omega (arith, ltb-false n 10 off))))

reads-digits : (k n : ℕ) (rest : List ℕ) → n ≤ k → reads_on 0 (digits k n ++ rest) ≡ reads_on n rest
reads-digits zero n rest h = one-digit 0 n (omega arith) rest ∙ ap (λ (x : ℕ). reads_on x rest) (omega arith)
reads-digits (suc k) n rest h =
    both (λ (l : List ℕ). reads_on 0 (l ++ rest) ≡ reads_on n rest) (ltb n 10)
    (λ on. one-digit 0 n (ltb-true _ _ on) rest ∙ ap (λ (x : ℕ). reads_on x rest) (omega arith))
    (λ off. rw append_assoc (reads-digits k (n / 10) _ (omega (arith, ltb-false n 10 off)))
    ∙ one-digit (n / 10) (n % 10) (omega arith) rest ∙ ap (λ (x : ℕ). reads_on x rest) (omega arith))

pub number-reads : (n c : ℕ) (rest : List ℕ) → digit? c ≡ false → number (decimal n ++ c ∷ rest) ≡ some (n, c ∷ rest)
unfolding number decimal
number-reads n c rest h = if-true _ _ _ (first-is n n (c ∷ rest) (omega arith)) ∙ reads-digits n n (c ∷ rest) (omega arith) ∙ if-false _ _ _ h

-- ---- lists

-- p reads what f writes, where no digit follows; and no bracket
pub record Inverse {A : Type 0} (p : Reader A) (f : A → List ℕ) : Type 0 where
  pub reads : (x : A) (c : ℕ) (rest : List ℕ) → digit? c ≡ false → p (f x ++ c ∷ rest) ≡ some (x, c ∷ rest)
  pub stops : (rest : List ℕ) → p (0x5D ∷ rest) ≡ none

module _ {A : Type 0} (p : Reader A) (f : A → List ℕ) (i : Inverse p f) where
  -- the values behind the first, and the bracket
  abbrev behind : List A → List ℕ → List ℕ
  behind xs rest = gather (λ (y : List ℕ). ascii "," ++ y) (map f xs) ++ 0x5D ∷ rest

  behind-next : (y : A) (xs : List A) (rest : List ℕ) → behind (y ∷ xs) rest ≡ 0x2C ∷ (f y ++ behind xs rest)
  behind-next y xs rest = ap (λ (l : List ℕ). 0x2C ∷ l) (append_assoc (f y) _ _)

  values-read : (n : ℕ) (x : A) (xs : List A) (rest : List ℕ) → length xs < n → values p n (f x ++ behind xs rest) ≡ some (x ∷ xs, rest)
  unfolding if
  values-read zero x xs rest h = absurd (omega arith)
  values-read (suc k) x [] rest h = rw (i.reads x 0x5D rest refl)
  values-read (suc k) x (y ∷ xs) rest h =
      let later = values-read k y xs rest (omega arith) in
      rw (behind-next y xs rest, i.reads x 0x2C (f y ++ behind xs rest) refl, later)

  long : (xs : List A) (rest : List ℕ) → length xs < length (behind xs rest)
  long [] rest = omega arith
  long (x ∷ xs) rest = omega (arith, ap length (behind-next x xs rest), length-append (f x) (behind xs rest), long xs rest)

  pub list-reads : (xs : List A) (rest : List ℕ) → list p (array (map f xs) ++ rest) ≡ some (xs, rest)
  unfolding list array if
  list-reads [] rest = rw (i.stops rest)
  list-reads (x ∷ xs) rest =
      let all = values-read (length (f x ++ behind xs rest)) x xs rest (omega (arith, length-append (f x) (behind xs rest), long xs rest)) in
      simp append_assoc (rw all)

-- ---- paths, blocks, the text

number-inverse : Inverse number decimal
unfolding number if
number-inverse = record { reads = number-reads; stops = λ rest. refl }

destination-reads : (d : Option ℕ) (c : ℕ) (rest : List ℕ) → digit? c ≡ false → destination (nullable d ++ c ∷ rest) ≡ some (d, c ∷ rest)
unfolding destination number if
destination-reads none c rest h = refl
destination-reads (some n) c rest h = rw (number-reads n c rest h)

-- texts, bracketed as they are read

two_fields : (a k v l w b rest : List ℕ) → (a ++ ((k ++ v) ++ ((l ++ w) ++ [])) ++ b) ++ rest ≡ a ++ (k ++ (v ++ (l ++ (w ++ (b ++ rest)))))
two_fields a k v l w b rest = simp append_assoc

way-text : (w : Way) (rest : List ℕ)
    → way_json w ++ rest ≡ ascii "{\"path\":" ++ (array (map decimal w.path) ++ (ascii ",\"to\":" ++ (nullable w.to ++ 0x7D ∷ rest)))
unfolding way_json
way-text w rest = two_fields (ascii "{") (ascii "\"path\":") (array (map decimal w.path)) (ascii ",\"to\":") (nullable w.to) (ascii "}") rest

way-reads : (w : Way) (rest : List ℕ) → way (way_json w ++ rest) ≡ some (w, rest)
unfolding way if
way-reads w rest =
    ap way (way-text w rest) ∙ rw (list-reads number decimal number-inverse w.path, destination-reads w.to 0x7D rest refl)

way-inverse : Inverse way way_json
unfolding way if
way-inverse = record { reads = λ w c rest h. way-reads w (c ∷ rest); stops = λ rest. refl }

-- a type's field of data, with one or two fields
data-one : (p k v b rest : List ℕ) → ((p ++ (((k ++ v) ++ []) ++ b)) ++ []) ++ rest ≡ p ++ (k ++ (v ++ (b ++ rest)))
data-one p k v b rest = simp append_assoc

data-two : (p k v l w b rest : List ℕ) → ((p ++ (((k ++ v) ++ ((l ++ w) ++ [])) ++ b)) ++ []) ++ rest ≡ p ++ (k ++ (v ++ (l ++ (w ++ (b ++ rest)))))
data-two p k v l w b rest = simp append_assoc

-- the two fields of the type, behind the block's others
abbrev type-text : BlockType → List ℕ
type-text b = gather (λ (y : List ℕ). ascii "," ++ y) (type_json b)

type_reads : (b : BlockType) (rest : List ℕ) → btype (type-text b ++ 0x7D ∷ rest) ≡ some (b, 0x7D ∷ 0x7D ∷ rest)
unfolding btype if
type_reads (Terminate true) rest = refl
type_reads (Terminate false) rest = refl
type_reads (Jump t) rest =
    ap btype (data-one (ascii ",\"type\":\"Jump\",\"data\":{") (ascii "\"to\":") (decimal t) (ascii "}") (0x7D ∷ rest)) ∙ rw (number-reads t 0x7D (0x7D ∷ rest) refl)
type_reads (Jumpi t f) rest =
    ap btype (data-two (ascii ",\"type\":\"Jumpi\",\"data\":{") (ascii "\"true_to\":") (decimal t) (ascii ",\"false_to\":") (decimal f) (ascii "}") (0x7D ∷ rest))
    ∙ rw (number-reads t 0x2C _ refl, number-reads f 0x7D (0x7D ∷ rest) refl)
type_reads (DynamicJump ws) rest =
    ap btype (data-one (ascii ",\"type\":\"DynamicJump\",\"data\":{") (ascii "\"to\":") (array (map way_json ws)) (ascii "}") (0x7D ∷ rest)) ∙ rw (list-reads way way_json way-inverse ws)
type_reads (DynamicJumpi ws f) rest =
    ap btype (data-two (ascii ",\"type\":\"DynamicJumpi\",\"data\":{") (ascii "\"true_to\":") (array (map way_json ws)) (ascii ",\"false_to\":") (decimal f) (ascii "}") (0x7D ∷ rest))
    ∙ rw (list-reads way way_json way-inverse ws, number-reads f 0x7D (0x7D ∷ rest) refl)

-- three fields, and those behind them
three-fields : (a k u l v m w more b rest : List ℕ)
    → (a ++ ((k ++ u) ++ ((l ++ v) ++ ((m ++ w) ++ more))) ++ b) ++ rest ≡ a ++ (k ++ (u ++ (l ++ (v ++ (m ++ (w ++ (more ++ (b ++ rest))))))))
three-fields a k u l v m w more b rest = simp append_assoc

block-text : (b : Shown) (rest : List ℕ)
    → block_json b ++ rest
    ≡ ascii "{\"id\":" ++ (decimal b.id ++ (ascii ",\"start\":" ++ (decimal b.start ++ (ascii ",\"end\":" ++ (decimal b.end ++ (type-text b.btype ++ 0x7D ∷ rest))))))
unfolding block_json
block-text b rest =
    three-fields (ascii "{") (ascii "\"id\":") (decimal b.id) (ascii ",\"start\":") (decimal b.start) (ascii ",\"end\":") (decimal b.end) (type-text b.btype) (ascii "}") rest

-- the type's text begins with a comma
comma-first : (b : BlockType) (rest : List ℕ) → (more : List ℕ) × (type-text b ++ rest ≡ 0x2C ∷ more)
comma-first (Terminate s) rest = (_, refl)
comma-first (Jump t) rest = (_, refl)
comma-first (Jumpi t f) rest = (_, refl)
comma-first (DynamicJump ws) rest = (_, refl)
comma-first (DynamicJumpi ws f) rest = (_, refl)

block_reads : (b : Shown) (rest : List ℕ) → block (block_json b ++ rest) ≡ some (b, rest)
unfolding block if
block_reads b rest =
    let t = comma-first b.btype (0x7D ∷ rest) in
    ap block (block-text b rest)
    ∙ rw (number-reads b.id 0x2C _ refl, number-reads b.start 0x2C _ refl, t.1, number-reads b.end 0x2C t.0 refl, ← t.1, type_reads b.btype rest)

block-inverse : Inverse block block_json
unfolding block if
block-inverse = record { reads = λ b c rest h. block_reads b (c ∷ rest); stops = λ rest. refl }

-- ---- the whole text

-- Reading the text gives exactly the blocks that it was written from.
pub text-reads : (bs : List Shown) → blocks-in (json bs) ≡ some bs
unfolding blocks-in json
text-reads bs = ap whole (ap (list block) (sym (append-nil _)) ∙ list-reads block block_json block-inverse bs [])
