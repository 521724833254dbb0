-- A path entry, one block after the other: what is left to judge ends as the whole does. Assumes nothing.
use Prim.Native.Nat.{ℕ, zero, suc, ◌+◌, ◌*◌, ◌≤◌, ◌<◌}
use native.Mathlib.Omega.{arith}
use native.Mathlib.Numerals.{add-one}
use mathlib.Core.Path.{◌≡◌, refl, sym, ap, ap₂, ◌∙◌}
use mathlib.Core.Bool.{Bool, true, false, ◌&&◌, not}
use mathlib.Core.Option.{Option, none, some}
use mathlib.Core.List.{List, [], ◌∷◌}
use lib.Dec.{eqb, ltb}
use lib.ListN.{length, take, drop}
use lib.Seq.{drop-cons}
use borrow.Author.Tests.{eq-eqb, ne_eqb, ltb-true}
use Rattle.std.specs.Prelude.{Result, Ok, Err}
use Rattle.spec.specs.Lists.{if}
use Rattle.spec.specs.Opcodes.{row, in_mode}
use Rattle.spec.specs.Stacks.{Sym, jumpdest, other, through, own, eq_sym}
use Rattle.spec.specs.PathMeaning.{fetched, all_known}
use Rattle.spec.specs.Entries.{Map}
use Rattle.spec.specs.Reader.{addresses}
use Rattle.spec.specs.Inspector.{edge?, sound, first_failing, looked, arrives, or_symbol, fault}
use Rattle.laws.proofs.Branch.{if-true, if-false}
use Rattle.laws.proofs.Members.{and_both}
use Rattle.lent.proofs.Parts.{length_part}
use Rattle.state.specs.Symbols.{sym_of}
use Rattle.state.specs.Cells.{depth}
use Rattle.state.specs.declared.sym.StackSym.{StackSym}
use Rattle.reader.specs.Walks.{Address}
use Rattle.inspector.specs.Edges.{map_in, Ready}
use Rattle.inspector.specs.Tables.{Tables, Filled, Between, Joined}
use Rattle.inspector.specs.Symbols.{Lent, step, taken_of, Taken, Looks, Looked}
use Rattle.inspector.specs.Judging.{path_in, place_of, rest_of, InPath, Begins, Along, Judged}
use Rattle.inspector.specs.declared.path.Path.{Path}
use Rattle.inspector.proofs.Seeking.{off, on, edge_is}
use Rattle.inspector.proofs.Tabling.{tables-run, tables-lent, filled-same, filled-then}

-- ---- the addresses of a path

length-addresses : (n : ℕ) (l : List ℕ) → length l ≡ 2 * n → length (addresses l) ≡ n
unfolding addresses
length-addresses zero [] e = refl
length-addresses zero (x ∷ l) e = absurd (omega arith)
length-addresses (suc n) [] e = absurd (omega arith)
length-addresses (suc n) (x ∷ []) e = absurd (omega arith)
length-addresses (suc n) (x ∷ y ∷ l) e = ap suc (length-addresses n l (omega arith))

module _ {b : List ℕ} {p : Path} (h : InPath b p) where
  path-long : length (path_in b p) ≡ p.count
  path-long = length-addresses p.count (take (2 * p.count) (drop p.at b)) (length_part (2 * p.count) p.at b h.fits)

  path-here : (i : ℕ) → i < p.count → {a : ℕ} → Address b p.at p.count i a → drop i (path_in b p) ≡ a ∷ drop (i + 1) (path_in b p)
  path-here i l g = rw (add-one i, g.is) (drop-cons (path_in b p) i 0 (omega (arith, path-long)))

  path-over : (i : ℕ) → p.count ≤ i → drop i (path_in b p) ≡ []
  path-over i l = past (path_in b p) i (omega (arith, path-long))
    where
      past : (xs : List ℕ) (k : ℕ) → length xs ≤ k → drop k xs ≡ []
      past [] zero e = refl
      past [] (suc k) e = refl
      past (x ∷ xs) zero e = absurd (omega arith)
      past (x ∷ xs) (suc k) e = past xs k (omega arith)

-- ---- one block more

module _ (mode : ℕ) (code : List ℕ) (m : Map) (t last : ℕ) (x : Sym) where
  rest-none : (at : ℕ) → rest_of mode code m t last x [] at ≡ if (eq_sym (jumpdest t) x) none (some 0)
  unfolding rest_of looked first_failing
  rest-none at = refl

  module _ (a : ℕ) (bs : List ℕ) (at : ℕ) where
    rest-fails : sound row code a && edge? m last a ≡ false → rest_of mode code m t last x (a ∷ bs) at ≡ some at
    unfolding rest_of first_failing
    rest-fails e = ap (or_symbol (eq_sym (jumpdest t) (looked (in_mode mode) code x (a ∷ bs)))) (if-false _ (first_failing row code m (edge? m a) bs (suc at)) (some at) e)

    rest-on : sound row code a && edge? m last a ≡ true → rest_of mode code m t last x (a ∷ bs) at ≡ rest_of mode code m t a (through (own (in_mode mode) code a).stack x) bs (suc at)
    unfolding rest_of first_failing looked
    rest-on e = ap (or_symbol (eq_sym (jumpdest t) (looked (in_mode mode) code (through (own (in_mode mode) code a).stack x) bs))) (if-true _ (first_failing row code m (edge? m a) bs (suc at)) (some at) e)

-- ---- along

pub joined-lent : {b code w : List ℕ} {from to : ℕ} {w₁ : List ℕ} {r : Bool} → Joined b code w from to w₁ r → Lent code w₁
joined-lent j = tables-lent j.filled.tables

pub record Passed (mode : ℕ) (b code w₀ : List ℕ) (p : Path) (first : ℕ) (symbol : StackSym) (i last : ℕ) (x : StackSym) (w : List ℕ) : Type 0 where
  pub ready : Ready b
  pub path : InPath b p
  pub begun : 1 ≤ i
  pub within : i ≤ p.count
  pub small : last < 65536
  pub near : depth (sym_of x) ≤ step * i
  pub filled : Filled b code w₀ w
  pub rest : rest_of mode code (map_in b) p.to last (sym_of x) (drop i (path_in b p)) i ≡ rest_of mode code (map_in b) p.to first (sym_of symbol) (drop 1 (path_in b p)) 1

pub passed_start : {mode : ℕ} {b code w : List ℕ} {p : Path} {first : ℕ} {symbol : StackSym} → Ready b → Tables b code w → InPath b p → Begins p first (sym_of symbol) → Passed mode b code w p first symbol 1 first symbol w
passed_start y t h g = record { ready = y; path = h; begun = omega arith; within = g.some_there; small = g.small; near = omega (arith, g.near); filled = filled-same t; rest = refl }

module _ {mode : ℕ} {b code w₀ : List ℕ} {p : Path} {first : ℕ} {symbol : StackSym} {i last : ℕ} {x : StackSym} {w : List ℕ} (k : Passed mode b code w₀ p first symbol i last x w) where
  abbrev h : InPath b p
  h = k.path

  pub passed-tables : Tables b code w
  passed-tables = k.filled.tables

  pub passed-looks : i < p.count → Looks (sym_of x)
  passed-looks l = record { deep = omega (arith, k.near, l, h.few) }

  module _ (l : i < p.count) {a : ℕ} (g : Address b p.at p.count i a) {s : Bool} (e : s ≡ sound row code a) where
    here : (o : Option ℕ) → rest_of mode code (map_in b) p.to last (sym_of x) (a ∷ drop (i + 1) (path_in b p)) i ≡ o
        → o ≡ rest_of mode code (map_in b) p.to first (sym_of symbol) (drop 1 (path_in b p)) 1
    here o q = sym q ∙ ap (λ (bs : List ℕ). rest_of mode code (map_in b) p.to last (sym_of x) bs i) (sym (path-here h i l g)) ∙ k.rest

    pub passed-unsound : not s ≡ true → Along mode b code w₀ p first symbol w (Err i)
    passed-unsound z = record {
      is = ap place_of (here (some i) (rest-fails mode code (map_in b) p.to last (sym_of x) a (drop (i + 1) (path_in b p)) i (rw (sym e ∙ off s z))));
      filled = k.filled;
    }

    module _ (n : not s ≡ false) where
      sound-there : sound row code a ≡ true
      sound-there = sym e ∙ on s n

      pub passed-between : Between code a last
      passed-between = record { inside = ltb-true a (length code) (and_both (ltb a (length code)) (all_known row a (fetched code a)) sound-there).0; small = k.small }

      module _ {w₁ : List ℕ} {r : Bool} (j : Joined b code w a last w₁ r) where
        edge-there : r ≡ edge? (map_in b) last a
        edge-there = j.is ∙ edge_is k.ready last a

        pub passed-unjoined : not r ≡ true → Along mode b code w₀ p first symbol w₁ (Err i)
        passed-unjoined z = record {
          is = ap place_of (here (some i) (rest-fails mode code (map_in b) p.to last (sym_of x) a (drop (i + 1) (path_in b p)) i (rw (sound-there, sym edge-there ∙ off r z))));
          filled = filled-then k.filled j.filled;
        }

        pub passed_on : not r ≡ false → {w₂ : List ℕ} {z : StackSym} → Looked mode code w₁ a x w₂ z → Passed mode b code w₀ p first symbol (i + 1) a z w₂
        passed_on m {w₂} {z} d = record {
          ready = k.ready;
          path = h;
          begun = omega arith;
          within = omega arith;
          small = g.small;
          near = omega (arith, d.near, k.near);
          filled = filled-then (filled-then k.filled j.filled) (tables-run j.filled.tables d.inside);
          rest = ap₂ (λ (v : Sym) (n : ℕ). rest_of mode code (map_in b) p.to a v (drop (i + 1) (path_in b p)) n) d.is (add-one i)
              ∙ here _ (rest-on mode code (map_in b) p.to last (sym_of x) a (drop (i + 1) (path_in b p)) i (rw (sound-there, edge-true)));
        }
          where
            edge-true : edge? (map_in b) last a ≡ true
            edge-true = sym edge-there ∙ on r m

  module _ (l : p.count ≤ i) {r : Bool} (e : r ≡ eq_sym (jumpdest p.to) (sym_of x)) where
    at-end : if r none (some 0) ≡ rest_of mode code (map_in b) p.to first (sym_of symbol) (drop 1 (path_in b p)) 1
    at-end =
        ap (λ (c : Bool). if c none (some 0)) e ∙ sym (rest-none mode code (map_in b) p.to last (sym_of x) i)
        ∙ ap (λ (bs : List ℕ). rest_of mode code (map_in b) p.to last (sym_of x) bs i) (sym (path-over h i l)) ∙ k.rest

    pub along-right : r ≡ true → Along mode b code w₀ p first symbol w (Ok tt)
    along-right z = record { is = ap place_of (sym (if-true r none (some 0) z) ∙ at-end); filled = k.filled }

    pub along-wrong : r ≡ false → Along mode b code w₀ p first symbol w (Err 0)
    along-wrong n = record { is = ap place_of (sym (if-false r none (some 0) n) ∙ at-end); filled = k.filled }

-- ---- judge

pub judged-begins : {b code w : List ℕ} {p : Path} {a mode : ℕ} → (p.count ≡ 0 → ⊥) → Address b p.at p.count 0 a → {w₁ : List ℕ} {x : StackSym} → Taken mode code w a w₁ x → Begins p a (sym_of x)
judged-begins n g d = record { some_there = omega arith; small = g.small; near = d.near }

pub judged-tables : {b code w : List ℕ} {mode a : ℕ} → Tables b code w → {w₁ : List ℕ} {x : StackSym} → Taken mode code w a w₁ x → Tables b code w₁
judged-tables t d = (tables-run t d.inside).tables

the-fault : ℕ → List ℕ → List ℕ → ℕ → Path → List ℕ → Option ℕ
the-fault mode code b owner p bs = fault (in_mode mode) code (map_in b) owner bs p.to

module _ (mode : ℕ) {b code w : List ℕ} (owner : ℕ) {p : Path} (t : Tables b code w) (h : InPath b p) where
  pub judged-empty : p.count ≡ 0 → Judged mode b code w owner p w (Err 0)
  unfolding the-fault fault first_failing if
  judged-empty e = record { is = ap (λ (bs : List ℕ). place_of (the-fault mode code b owner p bs)) (sym (path-over h 0 (omega arith))); filled = filled-same t }

  module _ (n : p.count ≡ 0 → ⊥) {a : ℕ} (g : Address b p.at p.count 0 a) {s : Bool} (e : s ≡ sound row code a) where
    first-there : path_in b p ≡ a ∷ drop 1 (path_in b p)
    first-there = path-here h 0 (omega arith) g

    fails-first : sound row code a && eqb owner a ≡ false → Judged mode b code w owner p w (Err 0)
    unfolding the-fault fault first_failing
    fails-first z = record {
      is = sym (ap (λ (bs : List ℕ). place_of (the-fault mode code b owner p bs)) first-there
          ∙ ap (λ (o : Option ℕ). place_of (or_symbol (arrives (in_mode mode) code p.to (drop 1 (path_in b p)) (own (in_mode mode) code a).goes) o)) (if-false _ (first_failing row code (map_in b) (edge? (map_in b) a) (drop 1 (path_in b p)) 1) (some 0) z));
      filled = filled-same t;
    }

    pub judged-unsound : not s ≡ true → Judged mode b code w owner p w (Err 0)
    judged-unsound z = fails-first (rw (sym e ∙ off s z))

    module _ (m : not s ≡ false) where
      sound-here : sound row code a ≡ true
      sound-here = sym e ∙ on s m

      pub judged-other : (owner ≡ a → ⊥) → Judged mode b code w owner p w (Err 0)
      judged-other o = fails-first (rw (sound-here, ne_eqb owner a o))

      module _ (o : owner ≡ a) {w₁ : List ℕ} {x : StackSym} (d : Taken mode code w a w₁ x) where
        looked-none : (bs : List ℕ) → looked (in_mode mode) code (other 0) bs ≡ other 0
        unfolding looked through
        looked-none [] = refl
        looked-none (c ∷ bs) = looked-none bs

        arrives-taken : (o : Option Sym) (bs : List ℕ) → arrives (in_mode mode) code p.to bs o ≡ eq_sym (jumpdest p.to) (looked (in_mode mode) code (taken_of o) bs)
        arrives-taken none bs = rw (looked-none bs)
        arrives-taken (some y) bs = refl

        pub judged-along : {w₂ : List ℕ} {r : Result Unit ℕ} → Along mode b code w₁ p a x w₂ r → Judged mode b code w owner p w₂ r
        unfolding the-fault fault first_failing rest_of
        judged-along {w₂} {r} k = record {
          is = k.is ∙ ap place_of (sym (ap (the-fault mode code b owner p) first-there
              ∙ ap (or_symbol (arrives (in_mode mode) code p.to (drop 1 (path_in b p)) (own (in_mode mode) code a).goes)) (if-true _ (first_failing row code (map_in b) (edge? (map_in b) a) (drop 1 (path_in b p)) 1) (some 0) (rw (sound-here, eq-eqb owner a o)))
              ∙ ap (λ (ok : Bool). or_symbol ok (first_failing row code (map_in b) (edge? (map_in b) a) (drop 1 (path_in b p)) 1))
              (arrives-taken (own (in_mode mode) code a).goes (drop 1 (path_in b p)) ∙ ap (λ (y : Sym). eq_sym (jumpdest p.to) (looked (in_mode mode) code y (drop 1 (path_in b p)))) (sym d.is))));
          filled = filled-then (tables-run t d.inside) k.filled;
        }
