-- The four parts of a row, and what each write does to them: own (12 bytes), first (2), links (4) and entry (2). Assumes nothing.
use mathlib.Core.Path.{◌≡◌, refl, sym, ap, ◌∙◌}
use mathlib.Core.Bool.{true, false}
use mathlib.Core.Option.{Option, none, some}
use mathlib.Core.List.{List}
use Prim.Native.Nat.{ℕ, ◌+◌, ◌-◌, ◌*◌, ◌≤◌, ◌<◌}
use native.Mathlib.Nat.{add-zero, zero-add, le_of_lt}
use native.Mathlib.Omega.{arith}
use native.Mathlib.Decide.{ℕ_discrete}
use lib.Dec.{eqb}
use lib.ListN.{length, take, drop, replicate}
use borrow.Author.Tests.{eq-eqb, ne_eqb}
use Rattle.spec.specs.Lists.{if, little}
use Rattle.spec.specs.Blocks.{Kind, terminate, jump, jumpi, dynamic_jump, dynamic_jumpi}
use Rattle.spec.specs.Stacks.{Sym, before, constant, jumpdest, other}
use Rattle.spec.specs.Search.{Node}
use Rattle.lent.specs.Bytes.{number, num_at, patch, Stored}
use Rattle.lent.proofs.Parts.{part-prefix}
use Rattle.lent.proofs.Numbers.{num-within, num-zeros, number-little}
use Rattle.lent.proofs.Stored.{stored, kept-drop, kept-part, read_all}
use Rattle.laws.proofs.Branch.{if-true, if-false}
use Rattle.layout.specs.Parts.{row_place, rows_end}
use Rattle.layout.specs.Rows.{END, TO, OTHER, POSITION, FIRST, NEXT, TAKER, LINKS, BLOCK, tag_of, to_of, other_of, tag_at, type_at, numbers_of, numbers_at, head_of, first_at}
use Rattle.layout.specs.declared.row.BlockType.{BlockType}
use Rattle.layout.proofs.Types.{typed-back, tag-range}
use Rattle.initial.specs.Rows.{type_of}
use Rattle.theorems.proofs.Sides.{Within}
use Rattle.parents.specs.Rows.{own_bytes, link_bytes, edge_to, first_to, to_past, other_past}
use Rattle.parents.specs.Writes.{link, link_sides, take_turn, static_type, make_static, place}
use Rattle.exec.specs.Owns.{room_of}
use Rattle.parents.specs.Promises.{Beside, Ran}
use Rattle.parents.proofs.Parts.{part-stored}

abbrev pub own : List ℕ → ℕ → List ℕ
own w a = take FIRST (drop (row_place a) w)

-- the two bytes at a place of the row
abbrev pub slot : ℕ → List ℕ → ℕ → List ℕ
slot o w a = take 2 (drop (row_place a + o) w)

abbrev pub first : List ℕ → ℕ → List ℕ
first = slot FIRST

abbrev pub links : List ℕ → ℕ → List ℕ
links w a = take LINKS (drop (row_place a + NEXT) w)

abbrev pub entry : List ℕ → ℕ → List ℕ
entry = slot TAKER

-- ---- numbers that are read in them

pub slot_is : (o : ℕ) (w : List ℕ) (a v : ℕ) → v < 65536 → slot o w a ≡ little 2 v → num_at 2 w (row_place a + o) ≡ v
unfolding num_at
slot_is o w a v h e = ap number e ∙ number-little 2 v h

-- one of them is written
slot-put : {n : ℕ} (o t v : ℕ) {w w' : List ℕ} (F : ℕ → ℕ) → Stored 2 w (row_place t + o) (little 2 v) w' → ((x : ℕ) → x ≤ n → slot o w x ≡ little 2 (F x))
    → (x : ℕ) → x ≤ n → slot o w' x ≡ little 2 (if (eqb x t) v (F x))
slot-put {n} o t v {w} {w'} F s f x h = at (ℕ_discrete x t)
  where
    at : Dec (x ≡ t) → slot o w' x ≡ little 2 (if (eqb x t) v (F x))
    at (yes e) = rw (if-true (eqb x t) v (F x) (eq-eqb x t e), e) (read_all s)
    at (no m) = rw (if-false (eqb x t) v (F x) (ne_eqb x t m)) (kept-part s 2 (row_place x + o) (λ q. omega arith) ∙ f x h)

module _ (w : List ℕ) (a : ℕ) where
  module _ (t : BlockType) (e p : ℕ) (q : own w a ≡ own_bytes e t p) where
    at : (k o : ℕ) → o + k ≤ FIRST → num_at k w (row_place a + o) ≡ num_at k (own_bytes e t p) o
    at k o h = rw zero-add at (num-within w (own_bytes e t p) FIRST (row_place a) 0 q k o h)

    pub own-tag : tag_at w a ≡ tag_of t
    unfolding num_at
    own-tag = rw add-zero at (at 1 0 (omega arith)) ∙ number-little 1 (tag_of t) (omega (arith, (tag-range t).1))

    pub own-to : to_of t < 65536 → num_at 2 w (row_place a + TO) ≡ to_of t
    unfolding num_at
    own-to h = at 2 TO (omega arith) ∙ number-little 2 (to_of t) h

    pub own-side : other_of t < 65536 → num_at 2 w (row_place a + OTHER) ≡ other_of t
    unfolding num_at
    own-side h = at 2 OTHER (omega arith) ∙ number-little 2 (other_of t) h

    pub own-end : e < 65536 → num_at 2 w (row_place a + END) ≡ e
    unfolding num_at
    own-end h = at 2 END (omega arith) ∙ number-little 2 e h

    pub own-type : to_of t < 65536 → other_of t < 65536 → type_at w a ≡ t
    own-type i j = rw (own-tag, own-to i, own-side j) (typed-back t)

    pub own-numbers : to_of t < 65536 → other_of t < 65536 → numbers_at w a ≡ numbers_of t
    own-numbers i j = rw (own-tag, own-to i, own-side j)

    pub own-position : p < 4294967296 → num_at 4 w (row_place a + POSITION) ≡ p
    unfolding num_at
    own-position h = at 4 POSITION (omega arith) ∙ number-little 4 p h

-- a row that holds no block
module _ (w : List ℕ) (a : ℕ) (q : own w a ≡ replicate FIRST 0) where
  none-at : (k o : ℕ) → o + k ≤ FIRST → num_at k w (row_place a + o) ≡ num_at k (replicate FIRST 0) o
  none-at k o h = rw zero-add at (num-within w (replicate FIRST 0) FIRST (row_place a) 0 q k o h)

  pub none-tag : tag_at w a ≡ 0
  none-tag = rw add-zero at (none-at 1 0 (omega arith)) ∙ num-zeros 1 FIRST 0

  pub none-to : num_at 2 w (row_place a + TO) ≡ 0
  none-to = none-at 2 TO (omega arith) ∙ num-zeros 2 FIRST TO

  pub none-side : num_at 2 w (row_place a + OTHER) ≡ 0
  none-side = none-at 2 OTHER (omega arith) ∙ num-zeros 2 FIRST OTHER

-- ---- the rows while that of a is written: the other rows are as they were in w, F says which links are first, and G which entries there are

module _ (code w₀ : List ℕ) (end a : ℕ) (w : List ℕ) where
  pub record Rows (w' o l : List ℕ) (F G : ℕ → ℕ) : Type 0 where
    pub own_here : own w' a ≡ o
    pub links-here : links w' a ≡ l
    pub own-other : (x : ℕ) → x ≤ length code → (x ≡ a → ⊥) → own w' x ≡ own w x
    pub links-other : (x : ℕ) → x ≤ length code → (x ≡ a → ⊥) → links w' x ≡ links w x
    pub firsts : (x : ℕ) → x ≤ length code → first w' x ≡ little 2 (F x)
    pub entries : (x : ℕ) → x ≤ length code → entry w' x ≡ little 2 (G x)
    pub beside : Beside code w₀ end w'

module _ {code w₀ : List ℕ} {end : ℕ} (room : rows_end (length code) + room_of code ≤ end) (inside : end ≤ length w₀) where
  beside-row : {w w' bs : List ℕ} {m at : ℕ} → Beside code w₀ end w → Stored m w at bs w' → at + m ≤ rows_end (length code) → Beside code w₀ end w'
  beside-row {w} {w'} b s h =
      record {
        between = ap (λ (v : List ℕ). take (end - room_of code - rows_end (length code)) v) (kept-drop s (rows_end (length code)) h) ∙ b.between;
        past = kept-drop s end (omega arith) ∙ b.past;
        kept = s.kept ∙ b.kept;
      }

  pub beside-ran : {w w' : List ℕ} → Beside code w₀ end w → Ran code w end w' → Beside code w₀ end w'
  beside-ran {w} {w'} b r =
      let k : ℕ = end - room_of code - rows_end (length code) in
      record {
        between = part-prefix w' w (end - room_of code) r.front k (rows_end (length code)) (omega arith) ∙ b.between;
        past = r.back ∙ b.past;
        kept = r.kept ∙ b.kept;
      }

  module _ {a : ℕ} {w : List ℕ} (here : a ≤ length code) where
    pub rows-ran : {w' : List ℕ} {F G : ℕ → ℕ} → Beside code w₀ end w → ((x : ℕ) → x ≤ length code → first w x ≡ little 2 (F x))
        → ((x : ℕ) → x ≤ length code → entry w x ≡ little 2 (G x)) → Ran code w end w' → Rows code w₀ end a w w' (own w a) (links w a) F G
    rows-ran {w'} b f g r =
        let part : (k i : ℕ) → i + k ≤ rows_end (length code) → take k (drop i w') ≡ take k (drop i w) =
        λ k i h. part-prefix w' w (end - room_of code) r.front k i (omega arith) in
        record {
          own_here = part FIRST (row_place a) (omega arith);
          links-here = part LINKS (row_place a + NEXT) (omega arith);
          own-other = λ x h _. part FIRST (row_place x) (omega arith);
          links-other = λ x h _. part LINKS (row_place x + NEXT) (omega arith);
          firsts = λ x h. part 2 (row_place x + FIRST) (omega arith) ∙ f x h;
          entries = λ x h. part 2 (row_place x + TAKER) (omega arith) ∙ g x h;
          beside = beside-ran b r;
        }

    module _ {w₁ o l : List ℕ} {F G : ℕ → ℕ} (r : Rows code w₀ end a w w₁ o l F G) where
      long : rows_end (length code) ≤ length w₁
      long = omega (arith, r.beside.kept)

      -- a run in the row's own part, in its links, and the link to the first parent of t
      pub put-own : (i : ℕ) {m : ℕ} {bs w₂ : List ℕ} → Stored m w₁ (row_place a + i) bs w₂ → i + m ≤ FIRST → Rows code w₀ end a w w₂ (patch o i bs) l F G
      put-own i {m} {bs} s h =
          record {
            own_here = part-stored (row_place a) i s FIRST h (omega (arith, long)) ∙ ap (λ (v : List ℕ). patch v i bs) r.own_here;
            links-here = kept-part s LINKS (row_place a + NEXT) (λ q. omega arith) ∙ r.links-here;
            own-other = λ x g n. kept-part s FIRST (row_place x) (λ q. omega arith) ∙ r.own-other x g n;
            links-other = λ x g n. kept-part s LINKS (row_place x + NEXT) (λ q. omega arith) ∙ r.links-other x g n;
            firsts = λ x g. kept-part s 2 (row_place x + FIRST) (λ q. omega arith) ∙ r.firsts x g;
            entries = λ x g. kept-part s 2 (row_place x + TAKER) (λ q. omega arith) ∙ r.entries x g;
            beside = beside-row r.beside s (omega arith);
          }

      pub put-links : (i : ℕ) {m : ℕ} {bs w₂ : List ℕ} → Stored m w₁ (row_place a + NEXT + i) bs w₂ → i + m ≤ LINKS → Rows code w₀ end a w w₂ o (patch l i bs) F G
      put-links i {m} {bs} s h =
          record {
            own_here = kept-part s FIRST (row_place a) (λ q. omega arith) ∙ r.own_here;
            links-here = part-stored (row_place a + NEXT) i s LINKS h (omega (arith, long)) ∙ ap (λ (v : List ℕ). patch v i bs) r.links-here;
            own-other = λ x g n. kept-part s FIRST (row_place x) (λ q. omega arith) ∙ r.own-other x g n;
            links-other = λ x g n. kept-part s LINKS (row_place x + NEXT) (λ q. omega arith) ∙ r.links-other x g n;
            firsts = λ x g. kept-part s 2 (row_place x + FIRST) (λ q. omega arith) ∙ r.firsts x g;
            entries = λ x g. kept-part s 2 (row_place x + TAKER) (λ q. omega arith) ∙ r.entries x g;
            beside = beside-row r.beside s (omega arith);
          }

      pub put_first : (t v : ℕ) {w₂ : List ℕ} → t ≤ length code → Stored 2 w₁ (row_place t + FIRST) (little 2 v) w₂ → Rows code w₀ end a w w₂ o l (λ x. if (eqb x t) v (F x)) G
      put_first t v h s =
          record {
            own_here = kept-part s FIRST (row_place a) (λ q. omega arith) ∙ r.own_here;
            links-here = kept-part s LINKS (row_place a + NEXT) (λ q. omega arith) ∙ r.links-here;
            own-other = λ x g n. kept-part s FIRST (row_place x) (λ q. omega arith) ∙ r.own-other x g n;
            links-other = λ x g n. kept-part s LINKS (row_place x + NEXT) (λ q. omega arith) ∙ r.links-other x g n;
            firsts = slot-put FIRST t v F s r.firsts;
            entries = λ x g. kept-part s 2 (row_place x + TAKER) (λ q. omega arith) ∙ r.entries x g;
            beside = beside-row r.beside s (omega arith);
          }

      -- the entry of the row t
      pub put-entry : (t v : ℕ) {w₂ : List ℕ} → t ≤ length code → Stored 2 w₁ (row_place t + TAKER) (little 2 v) w₂ → Rows code w₀ end a w w₂ o l F (λ x. if (eqb x t) v (G x))
      put-entry t v h s =
          record {
            own_here = kept-part s FIRST (row_place a) (λ q. omega arith) ∙ r.own_here;
            links-here = kept-part s LINKS (row_place a + NEXT) (λ q. omega arith) ∙ r.links-here;
            own-other = λ x g n. kept-part s FIRST (row_place x) (λ q. omega arith) ∙ r.own-other x g n;
            links-other = λ x g n. kept-part s LINKS (row_place x + NEXT) (λ q. omega arith) ∙ r.links-other x g n;
            firsts = λ x g. kept-part s 2 (row_place x + FIRST) (λ q. omega arith) ∙ r.firsts x g;
            entries = slot-put TAKER t v G s r.entries;
            beside = beside-row r.beside s (omega arith);
          }

      pub rows_as : (F' G' : ℕ → ℕ) → ((x : ℕ) → F x ≡ F' x) → ((x : ℕ) → G x ≡ G' x) → Rows code w₀ end a w w₁ o l F' G'
      rows_as F' G' e f =
          record {
            own_here = r.own_here;
            links-here = r.links-here;
            own-other = r.own-other;
            links-other = r.links-other;
            firsts = λ x g. r.firsts x g ∙ ap (little 2) (e x);
            entries = λ x g. r.entries x g ∙ ap (little 2) (f x);
            beside = r.beside;
          }

-- ---- sides are linked

module _ {code w₀ : List ℕ} {end : ℕ} (room : rows_end (length code) + room_of code ≤ end) (inside : end ≤ length w₀) {a : ℕ} {w : List ℕ} (here : a ≤ length code) where
  rows-link : {w₁ o l : List ℕ} {F G : ℕ → ℕ} → Rows code w₀ end a w w₁ o l F G → (side t : ℕ) {w₂ : List ℕ} → side ≤ 1 → t ≤ length code → F t < 65536
      → w₂ ≡ link w₁ a side t → Rows code w₀ end a w w₂ o (patch l (2 * side) (little 2 (F t))) (λ x. if (eqb x t) (a + 1) (F x)) G
  unfolding link
  rows-link {w₁} {o} {l} {F} {G} r side t {w₂} g h f e =
      let q : first_at w₁ t ≡ F t = slot_is FIRST w₁ t (F t) f (r.firsts t h) in
      let mid : List ℕ = patch w₁ (row_place a + NEXT + 2 * side) (little 2 (F t)) in
      let s : Stored 2 w₁ (row_place a + NEXT + 2 * side) (little 2 (F t)) mid = stored 2 w₁ (row_place a + NEXT + 2 * side) (little 2 (F t)) mid refl refl (omega (arith, r.beside.kept)) in
      let s₂ : Stored 2 mid (row_place t + FIRST) (little 2 (a + 1)) w₂ =
      stored 2 mid (row_place t + FIRST) (little 2 (a + 1)) w₂ (e ∙ rw q) refl (omega (arith, r.beside.kept, s.kept)) in
      put_first room inside here (put-links room inside here r (2 * side) s (omega arith)) t (a + 1) h s₂

  module _ (rs : List Node) (small : (x : ℕ) → first_to x rs < 65536) {w₁ o : List ℕ} {G : ℕ → ℕ} where
    to-sided : (y t : ℕ) {F : ℕ → ℕ} {w₂ : List ℕ} → Rows code w₀ end a w w₁ o (link_bytes 0 y) F G → t ≤ length code → F t ≡ first_to t rs → w₂ ≡ link w₁ a 0 t
        → Rows code w₀ end a w w₂ o (link_bytes (first_to t rs) y) (λ x. if (eqb x t) (a + 1) (F x)) G
    unfolding patch
    to-sided y t r h f e = rw f at (rows-link r 0 t (omega arith) h (rw f (small t)) e)

    other-sided : (t : ℕ) {w₂ : List ℕ} → Rows code w₀ end a w w₁ o (link_bytes 0 0) (λ x. first_to x rs) G → t ≤ length code → w₂ ≡ link w₁ a 1 t
        → Rows code w₀ end a w w₂ o (link_bytes 0 (first_to t rs)) (λ x. if (eqb x t) (a + 1) (first_to x rs)) G
    unfolding patch
    other-sided t r h e = rows-link r 1 t (omega arith) h (small t) e

  -- the sides of a kind: the links past the block, and in front of it
  pub rows-sides : (rs : List Node) → ((x : ℕ) → first_to x rs < 65536) → (k : Kind) → Within (length code) k → {w₁ o w₂ : List ℕ} {G : ℕ → ℕ}
      → Rows code w₀ end a w w₁ o (link_bytes 0 0) (λ x. first_to x rs) G → w₂ ≡ link_sides w₁ a (numbers_of (type_of k))
      → Rows code w₀ end a w w₂ o (link_bytes (to_past k rs) (other_past k rs)) (λ x. edge_to x a k (first_to x rs)) G
  unfolding link_sides if
  rows-sides rs small (terminate false) h r e = rw e r
  rows-sides rs small (terminate true) h r e = rw e r
  rows-sides rs small (jump t) h r e = to-sided rs small 0 t r (le_of_lt h) refl e
  rows-sides rs small (jumpi t f) h {w₁} {o} {w₂} {G} r e = go (ℕ_discrete t f)
    where
      go : Dec (t ≡ f) → Rows code w₀ end a w w₂ o (link_bytes (first_to t rs) (if (eqb t f) 0 (first_to f rs))) (λ x. edge_to x a (jumpi t f) (first_to x rs)) G
      go (yes q) =
          let once : w₂ ≡ link w₁ a 0 t = e ∙ if-true (eqb t f) _ _ (eq-eqb t f q) in
          rw (if-true (eqb t f) 0 (first_to f rs) (eq-eqb t f q))
          (rows_as room inside here (to-sided rs small 0 t r (le_of_lt h.0) refl once) _ _ (λ x. same x (ℕ_discrete x t)) (λ x. refl))
        where
          same : (x : ℕ) → Dec (x ≡ t) → if (eqb x t) (a + 1) (first_to x rs) ≡ edge_to x a (jumpi t f) (first_to x rs)
          same x (yes p) = rw (eq-eqb x t p)
          same x (no n) = rw (ne_eqb x t n, ne_eqb x f (λ p. n (p ∙ sym q)))
      go (no n) =
          let mid : List ℕ = link w₁ a 1 f in
          let twice : w₂ ≡ link mid a 0 t = e ∙ if-false (eqb t f) _ _ (ne_eqb t f n) in
          rw (if-false (eqb t f) 0 (first_to f rs) (ne_eqb t f n))
          (to-sided rs small (first_to f rs) t (other-sided rs small f r h.1 refl) (le_of_lt h.0) (if-false (eqb t f) _ _ (ne_eqb t f n)) twice)
  rows-sides rs small dynamic_jump h r e = rw e r
  rows-sides rs small (dynamic_jumpi f) h r e = other-sided rs small f r h.1 e

-- ---- what a run settles

abbrev pub own_placed : BlockType → ℕ → Option Sym → List ℕ
own_placed t e none = own_bytes e t 0
own_placed t e (some (before p)) = own_bytes e t p
own_placed t e (some (constant v)) = own_bytes e t 0
own_placed t e (some (jumpdest u)) = own_bytes e (static_type t u) 0
own_placed t e (some (other pc)) = own_bytes e t 0

abbrev pub entries_placed : Option Sym → ℕ → ℕ → (ℕ → ℕ) → ℕ → ℕ
entries_placed none a many G x = G x
entries_placed (some (before p)) a many G x = if (eqb x many) a (G x)
entries_placed (some (constant v)) a many G x = G x
entries_placed (some (jumpdest u)) a many G x = G x
entries_placed (some (other pc)) a many G x = G x

module _ {code w₀ : List ℕ} {end : ℕ} (room : rows_end (length code) + room_of code ≤ end) (inside : end ≤ length w₀) {a : ℕ} {w : List ℕ} (here : a ≤ length code)
    (t : BlockType) (e many : ℕ) (small : e < 65536) (few : many ≤ length code) {F G : ℕ → ℕ} {l w₁ : List ℕ}
    (r : Rows code w₀ end a w w₁ (own_bytes e t 0) l F G) where
  turn-placed : (p : ℕ) {w₂ : List ℕ} → w₂ ≡ take_turn w₁ a p many → Rows code w₀ end a w w₂ (own_placed t e (some (before p))) l F (entries_placed (some (before p)) a many G)
  unfolding take_turn patch
  turn-placed p {w₂} q =
      let x : List ℕ = patch w₁ (row_place a + POSITION) (little 4 p) in
      let s : Stored 4 w₁ (row_place a + POSITION) (little 4 p) x = stored 4 w₁ (row_place a + POSITION) (little 4 p) x refl refl (omega (arith, r.beside.kept)) in
      let s₂ : Stored 2 x (row_place many + TAKER) (little 2 a) w₂ = stored 2 x (row_place many + TAKER) (little 2 a) w₂ q refl (omega (arith, r.beside.kept, s.kept)) in
      put-entry room inside here (put-own room inside here r POSITION s (omega arith)) many a few s₂

  block-placed : (u : ℕ) {w₂ : List ℕ} → w₂ ≡ make_static w₁ a t u → Rows code w₀ end a w w₂ (own_placed t e (some (jumpdest u))) l F G
  unfolding patch
  block-placed u {w₂} q =
      let last : num_at 2 w₁ (row_place a + END) ≡ e = own-end w₁ a t e 0 r.own_here small in
      let zero : row_place a ≡ row_place a + 0 = omega arith in
      let bs : List ℕ = head_of e (static_type t u) in
      let s : Stored BLOCK w₁ (row_place a + 0) bs w₂ = stored BLOCK w₁ (row_place a + 0) bs w₂ (q ∙ rw (last, ← zero)) refl (omega (arith, r.beside.kept)) in
      put-own room inside here r 0 s (omega arith)

  pub rows-placed : (g : Option Sym) {w₂ : List ℕ} → w₂ ≡ place w₁ a t g many → Rows code w₀ end a w w₂ (own_placed t e g) l F (entries_placed g a many G)
  unfolding place
  rows-placed none q = rw q r
  rows-placed (some (before p)) q = turn-placed p q
  rows-placed (some (constant v)) q = rw q r
  rows-placed (some (jumpdest u)) q = block-placed u q
  rows-placed (some (other pc)) q = rw q r
