-- What stands in a row before the first stage, and what a block's own run makes of it. Assumes nothing.
use mathlib.Core.Path.{◌≡◌, refl, ap, ◌∙◌}
use mathlib.Core.Bool.{true, false}
use mathlib.Core.Option.{Option, none, some}
use mathlib.Core.List.{List, [], ◌∷◌}
use Prim.Native.Nat.{ℕ, ◌+◌, ◌≤◌, ◌<◌}
use native.Mathlib.Nat.{add-zero, zero-add}
use native.Mathlib.Numerals.{add-one}
use native.Mathlib.Omega.{arith}
use lib.Dec.{ltb}
use lib.ListN.{length, take, drop, replicate}
use Rattle.spec.specs.Lists.{if, little}
use Rattle.spec.specs.Blocks.{Kind, terminate, jump, jumpi, dynamic_jump, dynamic_jumpi, Block, block}
use Rattle.spec.specs.Stacks.{Sym, before, constant, jumpdest, other, Stack}
use Rattle.spec.specs.Search.{Node, settled, node, takers}
use Rattle.lent.proofs.Parts.{part-within}
use Rattle.layout.specs.Parts.{ROW, row_place}
use Rattle.layout.specs.Rows.{FIRST, NEXT, TAKER, LINKS, tag_of}
use Rattle.initial.specs.Rows.{type_of, row_blocks, row_of, Laid}
use Rattle.parents.specs.Rows.{own_bytes, link_bytes, taker_in, own_of}
use Rattle.parents.specs.Writes.{many_past}
use Rattle.parents.proofs.Slots.{own, links, slot, own_placed, entries_placed}

-- ---- a row as `initial_blocks` leaves it

module _ {w : List ℕ} {n : ℕ} (l : Laid w n) (a : ℕ) (h : a ≤ n) where
  row-part : (bs : List Block) → row_blocks w a ≡ bs → (k o : ℕ) → o + k ≤ ROW → take k (drop (row_place a + o) w) ≡ take k (drop o (row_of bs))
  row-part bs e k o g = rw zero-add at (part-within w (row_of bs) ROW (row_place a) 0 (l.row a h ∙ ap row_of e ∙ whole bs) k o g)
    where
      whole : (cs : List Block) → row_of cs ≡ take ROW (drop 0 (row_of cs))
      whole [] = refl
      whole (c ∷ cs) = refl

  pub none-own : row_blocks w a ≡ [] → own w a ≡ replicate FIRST 0
  none-own e = rw add-zero at (row-part [] e FIRST 0 (omega arith))

  pub none-links : row_blocks w a ≡ [] → links w a ≡ link_bytes 0 0
  none-links e = row-part [] e LINKS NEXT (omega arith)

  pub slot-zero : (o : ℕ) → o + 2 ≤ ROW → ((bs : List Block) → take 2 (drop o (row_of bs)) ≡ little 2 0) → slot o w a ≡ little 2 0
  slot-zero o h zeros = row-part (row_blocks w a) refl 2 o h ∙ zeros (row_blocks w a)

  module _ {b : Block} (e : row_blocks w a ≡ b ∷ []) where
    pub block-own : own w a ≡ own_bytes b.end (type_of b.kind) 0
    block-own = rw add-zero at (row-part (b ∷ []) e FIRST 0 (omega arith))

    pub block-links : links w a ≡ link_bytes 0 0
    block-links = row-part (b ∷ []) e LINKS NEXT (omega arith)

pub no-first : (bs : List Block) → take 2 (drop FIRST (row_of bs)) ≡ little 2 0
no-first [] = refl
no-first (b ∷ bs) = refl

pub no-entry : (bs : List Block) → take 2 (drop TAKER (row_of bs)) ≡ little 2 0
no-entry [] = refl
no-entry (b ∷ bs) = refl

-- ---- what a run settles

-- a block of this kind, with a run that goes so
abbrev pub node_of : ℕ → ℕ → Kind → Stack → Option Sym → Node
node_of a e k s g = node (block a a e k) (record { stack = s; goes = g })

-- what settles the block: a run is looked at where the kind is dynamic
abbrev pub looks : Kind → Option Sym → Option Sym
looks k g = if (ltb (tag_of (type_of k)) 5) none g

pub record Settles (a e : ℕ) (k : Kind) (s : Stack) (g : Option Sym) (rs : List Node) : Type 0 where
  pub own_is : own_placed (type_of k) e (looks k g) ≡ own_of (node_of a e k s g ∷ [])
  pub entries_are : (x : ℕ) → entries_placed (looks k g) a (length (takers rs)) (λ y. taker_in y (takers rs)) x ≡ taker_in x (takers (node_of a e k s g ∷ rs))
  pub count_is : many_past (looks k g) (length (takers rs)) ≡ length (takers (node_of a e k s g ∷ rs))

-- a static kind stays
static_stays : (g : Option Sym) (k : Kind) → tag_of (type_of k) < 5 → settled g k ≡ k
static_stays none k h = refl
static_stays (some (before p)) k h = refl
static_stays (some (constant v)) k h = refl
static_stays (some (other pc)) k h = refl
static_stays (some (jumpdest t)) (terminate success) h = refl
static_stays (some (jumpdest t)) (jump u) h = refl
static_stays (some (jumpdest t)) (jumpi u f) h = refl
static_stays (some (jumpdest t)) dynamic_jump h = absurd (omega arith)
static_stays (some (jumpdest t)) (dynamic_jumpi f) h = absurd (omega arith)

module _ (a e : ℕ) (s : Stack) (rs : List Node) where
  pub settles : (k : Kind) (g : Option Sym) → Settles a e k s g rs
  unfolding if taker_in
  settles (terminate false) g = let q = static_stays g (terminate false) (omega arith) in record { own_is = rw q; entries_are = λ x. rw q; count_is = rw q }
  settles (terminate true) g = let q = static_stays g (terminate true) (omega arith) in record { own_is = rw q; entries_are = λ x. rw q; count_is = rw q }
  settles (jump u) g = let q = static_stays g (jump u) (omega arith) in record { own_is = rw q; entries_are = λ x. rw q; count_is = rw q }
  settles (jumpi u f) g = let q = static_stays g (jumpi u f) (omega arith) in record { own_is = rw q; entries_are = λ x. rw q; count_is = rw q }
  settles dynamic_jump none = record { own_is = refl; entries_are = λ x. refl; count_is = refl }
  settles dynamic_jump (some (before p)) = record { own_is = refl; entries_are = λ x. refl; count_is = add-one (length (takers rs)) }
  settles dynamic_jump (some (constant v)) = record { own_is = refl; entries_are = λ x. refl; count_is = refl }
  settles dynamic_jump (some (jumpdest t)) = record { own_is = refl; entries_are = λ x. refl; count_is = refl }
  settles dynamic_jump (some (other pc)) = record { own_is = refl; entries_are = λ x. refl; count_is = refl }
  settles (dynamic_jumpi f) none = record { own_is = refl; entries_are = λ x. refl; count_is = refl }
  settles (dynamic_jumpi f) (some (before p)) = record { own_is = refl; entries_are = λ x. refl; count_is = add-one (length (takers rs)) }
  settles (dynamic_jumpi f) (some (constant v)) = record { own_is = refl; entries_are = λ x. refl; count_is = refl }
  settles (dynamic_jumpi f) (some (jumpdest t)) = record { own_is = refl; entries_are = λ x. refl; count_is = refl }
  settles (dynamic_jumpi f) (some (other pc)) = record { own_is = refl; entries_are = λ x. refl; count_is = refl }
