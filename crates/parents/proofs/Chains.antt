-- The rows hold the blocks that take turns, and the direct parents of each address, in order. Assumes nothing.
use mathlib.Core.Path.{◌≡◌, refl, sym, ap, ◌∙◌, subst}
use mathlib.Core.Option.{Option, none, some}
use mathlib.Core.List.{List, [], ◌∷◌, ◌++◌, map}
use Prim.Native.Nat.{ℕ, ◌+◌, ◌-◌, ◌≤◌, ◌<◌}
use native.Mathlib.Omega.{arith}
use native.Mathlib.Decide.{ℕ_discrete}
use native.Mathlib.Nat.{zero-add}
use native.Mathlib.Numerals.{add-one}
use lib.ListN.{length, length-append}
use lib.Dec.{eqb}
use borrow.Author.Tests.{eq-eqb, ne_eqb}
use Rattle.spec.specs.Lists.{if, keep, little}
use Rattle.spec.specs.Blocks.{Kind, terminate, jump, jumpi, dynamic_jump, dynamic_jumpi}
use Rattle.spec.specs.Stacks.{Sym, before, constant, jumpdest, other, Stack}
use Rattle.spec.specs.Search.{Node, Taker, taker, takes, takers, sides, Parent, parent, direct}
use Rattle.spec.specs.Rooms.{longest}
use Rattle.lent.specs.Bytes.{num_at}
use Rattle.laws.proofs.Branch.{if-true, if-false}
use Rattle.lent.proofs.Numbers.{num-within, number-little, num-prefix}
use Rattle.layout.specs.Parts.{ROW, row_place, rows_end, SameRows}
use Rattle.layout.specs.Rows.{TO, POSITION, NEXT, NEXT-OTHER, TAKER, LINKS, to_of, position_at, taker_at, start_of, next_of, next_at}
use Rattle.initial.specs.Rows.{type_of}
use Rattle.layout.specs.declared.row.BlockType.{BlockType}
use Rattle.parents.specs.Links.{Parents, no_parent, next_parent, Turn, turn, turn_of, Takers, no_taker, next_taker, direct_to, from_of}
use Rattle.parents.specs.Rows.{own_bytes, link_bytes, positioned, taker_in, edge_to, first_to, to_past, other_past}
use Rattle.theorems.proofs.Sides.{Within}
use Rattle.parents.proofs.Slots.{own, links, entry, slot_is, own-position}

-- ---- how a list is walked, one by one

pub record NextParent (w : List ℕ) (n t link : ℕ) (starts : List ℕ) : Type 0 where
  pub rest : List ℕ
  pub is : starts ≡ start_of link ∷ rest
  pub later : Parents w n t (next_at w t link) rest
  pub inside : start_of link ≤ n

pub walk-parents : {w : List ℕ} {n t link : ℕ} {starts : List ℕ} → Parents w n t link starts → (link ≡ 0 → ⊥) → NextParent w n t link starts
walk-parents no_parent h = absurd (h refl)
walk-parents (next_parent {a} {starts} i p) h =
    let e : a + 1 - 1 ≡ a = omega arith in
    record { rest = starts; is = rw e; later = rw e p; inside = rw e i }

pub end-parents : {w : List ℕ} {n t link : ℕ} {starts : List ℕ} → Parents w n t link starts → link ≡ 0 → starts ≡ []
end-parents no_parent e = refl
end-parents (next_parent i p) e = absurd (omega arith)

pub record NextTaker (w : List ℕ) (n left : ℕ) (ks : List Turn) : Type 0 where
  pub rest : List Turn
  pub is : ks ≡ turn (taker_at w (left - 1)) (position_at w (taker_at w (left - 1))) ∷ rest
  pub later : Takers w n (left - 1) rest
  pub row : left - 1 ≤ n
  pub inside : taker_at w (left - 1) ≤ n

pub walk-takers : {w : List ℕ} {n left : ℕ} {ks : List Turn} → Takers w n left ks → (left ≡ 0 → ⊥) → NextTaker w n left ks
walk-takers no_taker h = absurd (h refl)
walk-takers (next_taker {i} {ks} r s p) h =
    let e : i + 1 - 1 ≡ i = omega arith in
    record { rest = ks; is = rw e; later = rw e p; row = rw e r; inside = rw e s }

pub end-takers : {w : List ℕ} {n left : ℕ} {ks : List Turn} → Takers w n left ks → left ≡ 0 → ks ≡ []
end-takers no_taker e = refl
end-takers (next_taker r s p) e = absurd (omega arith)

-- ---- links are small

pub small-parents : {w : List ℕ} {n t link : ℕ} {starts : List ℕ} → Parents w n t link starts → link ≤ n + 1
small-parents no_parent = omega arith
small-parents (next_parent i p) = omega arith

-- ---- they depend on the rows alone

module _ (w v : List ℕ) (n : ℕ) (e : SameRows n v w) where
  pub parents-prefix : {t link : ℕ} {starts : List ℕ} → Parents w n t link starts → Parents v n t link starts
  parents-prefix no_parent = no_parent
  parents-prefix {t} (next_parent {a} {starts} i p) =
      let same : (o : ℕ) → o + 2 ≤ ROW → num_at 2 w (row_place a + o) ≡ num_at 2 v (row_place a + o) = λ o h. num-prefix w v (rows_end n) e 2 (row_place a + o) (omega arith) in
      let q : next_of w t a ≡ next_of v t a = rw (same TO (omega arith), same NEXT (omega arith), same NEXT-OTHER (omega arith)) in
      next_parent i (subst (λ (l : ℕ). Parents v n t l starts) q (parents-prefix p))

  pub takers-prefix : {left : ℕ} {ks : List Turn} → Takers w n left ks → Takers v n left ks
  takers-prefix no_taker = no_taker
  takers-prefix (next_taker {i} {ks} r s p) =
      let q : taker_at w i ≡ taker_at v i = num-prefix w v (rows_end n) e 2 (row_place i + TAKER) (omega arith) in
      let f : position_at w (taker_at w i) ≡ position_at v (taker_at w i) = num-prefix w v (rows_end n) e 4 (row_place (taker_at w i) + POSITION) (omega arith) in
      rw (f, q) (next_taker r (rw q at s) (takers-prefix p))

-- ---- one block more in front

module _ (w : List ℕ) (a x y : ℕ) (e : links w a ≡ link_bytes x y) where
  at : (o : ℕ) → o + 2 ≤ LINKS → num_at 2 w (row_place a + NEXT + o) ≡ num_at 2 (link_bytes x y) o
  at o h = rw zero-add at (num-within w (link_bytes x y) LINKS (row_place a + NEXT) 0 e 2 o h)

  to-next : x < 65536 → num_at 2 w (row_place a + NEXT) ≡ x
  unfolding num_at
  to-next h =
      let p : row_place a + NEXT ≡ row_place a + NEXT + 0 = omega arith in
      rw p (at 0 (omega arith) ∙ number-little 2 x h)

  other-next : y < 65536 → num_at 2 w (row_place a + NEXT-OTHER) ≡ y
  unfolding num_at
  other-next h =
      let p : row_place a + NEXT-OTHER ≡ row_place a + NEXT + 2 = omega arith in
      rw p (at 2 (omega arith) ∙ number-little 2 y h)

-- a block takes turns or not
pub data Shape (r : Node) : List Taker → Type 0 where
  takes_none : Shape r []
  takes_one : (p : ℕ) → r.own.goes ≡ some (before p) → Shape r (record { start = r.block.start; position = p; first = r.own.stack } ∷ [])

shape-taker : (r : Node) (g : Option Sym) → r.own.goes ≡ g → Shape r (taker r g)
shape-taker r none e = takes_none
shape-taker r (some (before p)) e = takes_one p e
shape-taker r (some (constant v)) e = takes_none
shape-taker r (some (jumpdest v)) e = takes_none
shape-taker r (some (other pc)) e = takes_none

pub shape : (r : Node) (k : Kind) → Shape r (takes r k)
shape r (terminate success) = takes_none
shape r (jump u) = takes_none
shape r (jumpi u f) = takes_none
shape r dynamic_jump = shape-taker r r.own.goes refl
shape r (dynamic_jumpi f) = shape-taker r r.own.goes refl

-- each of some takers has its entry
abbrev pub Entered : List ℕ → ℕ → List Taker → Type 0
Entered w n ks = (x : ℕ) → x < length ks → (x ≤ n) × (entry w x ≡ little 2 (taker_in x ks))

-- entries of the later ones stay where others come in front
entry-later : (ks more : List Taker) (x : ℕ) → x < length more → taker_in x (ks ++ more) ≡ taker_in x more
unfolding taker_in
entry-later [] more x h = refl
entry-later (k ∷ ks) more x h =
    let low : x < length (ks ++ more) = simp length-append (omega arith) in
    if-false _ _ _ (ne_eqb x (length (ks ++ more)) (λ e. omega arith)) ∙ entry-later ks more x h

pub entered-later : (w : List ℕ) (n : ℕ) (ks more : List Taker) → Entered w n (ks ++ more) → Entered w n more
entered-later w n ks more e x h =
    let low : x < length (ks ++ more) = simp length-append (omega arith) in
    ((e x low).0, (e x low).1 ∙ ap (little 2) (entry-later ks more x h))

module _ (w : List ℕ) (n : ℕ) (short : n ≤ longest) (r : Node) (inside : r.block.start ≤ n) (later : List Node) where
  pub more-takers : {ks : List Taker} → Shape r ks → ((p : ℕ) → r.own.goes ≡ some (before p) → p < 4294967296) → (t : BlockType) (e : ℕ)
      → own w r.block.start ≡ own_bytes e t (positioned ks)
      → Entered w n (ks ++ takers later)
      → Takers w n (length (takers later)) (map turn_of (takers later))
      → Takers w n (length (ks ++ takers later)) (map turn_of (ks ++ takers later))
  unfolding taker_in
  more-takers takes_none small t e o l more = more
  more-takers (takes_one p g) small t e o l more =
      let a : ℕ = r.block.start in
      let i : ℕ = length (takers later) in
      let at = l i (omega arith) in
      let q : taker_at w i ≡ a = slot_is TAKER w i a (omega arith) (at.1 ∙ ap (little 2) (if-true _ _ _ (eq-eqb i i refl))) in
      let f : position_at w a ≡ p = own-position w a t e p o (small p g) in
      let one : Takers w n (i + 1) (turn (taker_at w i) (position_at w (taker_at w i)) ∷ map turn_of (takers later)) = next_taker at.0 (rw q inside) more in
      rw (q, f, add-one) at one

module _ (w : List ℕ) (n : ℕ) (short : n ≤ longest) (a : ℕ) (inside : a ≤ n) (s : Stack) (later : List Node)
    (more : (t : ℕ) → Parents w n t (first_to t later) (map from_of (direct_to t later))) where
  -- the parents of t from a block of this kind on
  Goal : ℕ → Kind → Type 0
  Goal t k = Parents w n t (edge_to t a k (first_to t later)) (map from_of (keep (λ (p : Parent). eqb t p.to) (map (λ (x : ℕ). parent x (a ∷ []) s) (sides k) ++ direct later)))

  small : (t : ℕ) → first_to t later < 65536
  small t = omega (arith, small-parents (more t))

  hit : (t x : ℕ) → t ≡ x → next_of w t a ≡ first_to x later → Parents w n t (a + 1) (a ∷ map from_of (direct_to t later))
  hit t x e q =
      let m : Parents w n t (next_of w t a) (map from_of (direct_to t later)) = rw (q, ← e) (more t) in
      next_parent inside m

  -- the link past the true side is read where this is t, and past the false side where it is not
  hit-to : (t x y : ℕ) → links w a ≡ link_bytes (first_to x later) y → num_at 2 w (row_place a + TO) ≡ x → t ≡ x → Parents w n t (a + 1) (a ∷ map from_of (direct_to t later))
  hit-to t x y e z q = hit t x q (if-true _ _ _ (eq-eqb _ _ (z ∙ sym q)) ∙ to-next w a _ y e (small x))

  hit_other : (t x y : ℕ) → links w a ≡ link_bytes x (first_to y later) → (num_at 2 w (row_place a + TO) ≡ t → ⊥) → t ≡ y → Parents w n t (a + 1) (a ∷ map from_of (direct_to t later))
  hit_other t x y e z q = hit t y q (if-false _ _ _ (ne_eqb _ _ z) ∙ other-next w a x _ e (small y))

  one-to : (t x y : ℕ) → links w a ≡ link_bytes (first_to x later) y → num_at 2 w (row_place a + TO) ≡ x → Dec (t ≡ x) → Goal t (jump x)
  unfolding Goal if
  one-to t x y e z (yes q) = rw (eq-eqb t x q) (hit-to t x y e z q)
  one-to t x y e z (no n) = rw (ne_eqb t x n) (more t)

  one-other : (t y x : ℕ) → links w a ≡ link_bytes x (first_to y later) → num_at 2 w (row_place a + TO) ≡ 0 → 1 ≤ y → Dec (t ≡ y) → Goal t (dynamic_jumpi y)
  unfolding Goal if
  one-other t y x e z h (yes q) = rw (eq-eqb t y q) (hit_other t x y e (λ d. omega (arith, d, z, q, h)) q)
  one-other t y x e z h (no n) = rw (ne_eqb t y n) (more t)

  same_once : (t x f : ℕ) → links w a ≡ link_bytes (first_to x later) (if (eqb x f) 0 (first_to f later)) → num_at 2 w (row_place a + TO) ≡ x → x ≡ f → Dec (t ≡ x) → Goal t (jumpi x f)
  unfolding Goal if
  same_once t x f e z d (yes q) = rw (eq-eqb x f d, eq-eqb t x q) (hit-to t x _ e z q)
  same_once t x f e z d (no n) = rw (eq-eqb x f d, ne_eqb t x n, ne_eqb t f (λ q. n (q ∙ sym d))) (more t)

  both-sides : (t x f : ℕ) → links w a ≡ link_bytes (first_to x later) (if (eqb x f) 0 (first_to f later)) → num_at 2 w (row_place a + TO) ≡ x → (x ≡ f → ⊥) → Dec (t ≡ x) → Dec (t ≡ f)
      → Goal t (jumpi x f)
  unfolding Goal if
  both-sides t x f e z d (yes q) o = rw (ne_eqb x f d, eq-eqb t x q, ne_eqb t f (λ v. d (sym q ∙ v))) (hit-to t x _ e z q)
  both-sides t x f e z d (no n) (yes q) =
      rw (ne_eqb x f d, ne_eqb t x n, eq-eqb t f q) (hit_other t _ f (rw (ne_eqb x f d) at e) (λ v. n (sym v ∙ z)) q)
  both-sides t x f e z d (no n) (no m) = rw (ne_eqb x f d, ne_eqb t x n, ne_eqb t f m) (more t)

  pub more-parents : (k : Kind) → Within n k → num_at 2 w (row_place a + TO) ≡ to_of (type_of k) → links w a ≡ link_bytes (to_past k later) (other_past k later) → (t : ℕ)
      → Parents w n t (edge_to t a k (first_to t later)) (map from_of (keep (λ (p : Parent). eqb t p.to) (map (λ (x : ℕ). parent x (a ∷ []) s) (sides k) ++ direct later)))
  unfolding Goal
  more-parents (terminate success) h z e t = more t
  more-parents (jump x) h z e t = one-to t x 0 e z (ℕ_discrete t x)
  more-parents (jumpi x f) h z e t = go (ℕ_discrete x f)
    where
      go : Dec (x ≡ f) → Goal t (jumpi x f)
      go (yes d) = same_once t x f e z d (ℕ_discrete t x)
      go (no d) = both-sides t x f e z d (ℕ_discrete t x) (ℕ_discrete t f)
  more-parents dynamic_jump h z e t = more t
  more-parents (dynamic_jumpi f) h z e t = one-other t f 0 e z h.0 (ℕ_discrete t f)
