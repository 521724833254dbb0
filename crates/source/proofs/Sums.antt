-- How large the numbers of a stack can be: its base, the position that any of its symbols names, and how many symbols it spells out. A block's own run raises each by
-- at most 17 an instruction, and composing adds them up; so a path's stack has at most 17 times the code's length for each of its blocks. In an answered run what
-- bounds these is far below 2^64; that each line of the seven files adds only such numbers is read, line by line, in docs/SOURCE.md. Assumes nothing.
use Prim.Native.Nat.{ℕ, zero, suc, ◌+◌, ◌*◌, ◌/◌, ◌^◌, ◌≤◌}
use native.Mathlib.Omega.{arith}
use Rattle.std.proofs.Math.Nat.{mul-suc, mul-add, mul-le-mul, min-le_right}
use mathlib.Core.Path.{◌≡◌, refl, sym, ap, subst, ◌∙◌}
use mathlib.Core.Logic.{◌⊎◌, inl, inr}
use mathlib.Core.Bool.{true}
use mathlib.Core.Option.{Option, none, some}
use mathlib.Core.List.{List, [], ◌∷◌, ◌++◌, map}
use lib.Dec.{eqb, leb}
use borrow.Author.Tests.{leb-true}
use lib.ListN.{length, drop, replicate, length-append, length-map, length-drop, length-replicate}
use Rattle.spec.specs.Lists.{if}
use Rattle.spec.specs.Opcodes.{argument, Row, Rules, row, in_mode}
use Rattle.spec.specs.Walk.{Ins, walk}
use Rattle.spec.specs.Stacks.{Sym, before, constant, jumpdest, other, from_value, known_value, Stack, entry, reads, read, span, pops, push, Does, pushes_value, pushes_pc, dups, swaps, ands, adds, jumps, jumpis, lands, halts, plain, does, is, mask, anded, summed, trade, swap, act, Ran, after, runs, joins, settle, trims, trim, through, compose, own}
use Rattle.spec.specs.Search.{Room, P, Need, St}
use Rattle.spec.specs.Rooms.{Lent, room}
use Rattle.spec.specs.Entries.{Map}
use Rattle.spec.specs.Answer.{answered, prepared, searched, answer}
use Rattle.laws.proofs.Branch.{both}
use Rattle.laws.proofs.Members.{In, here, there, in-cases, in_map}
use Rattle.theorems.proofs.Counts.{takes, and-off, above, everywhere, Lawful, lawful, takes-row}
use Rattle.theorems.proofs.Shortage.{Fits, none_asked, one_more}
use Rattle.theorems.proofs.Demand3.{gave}
use Rattle.theorems.proofs.Energy.{search-energy}
use Rattle.source.proofs.Exec.{plainly}
use Rattle.source.proofs.Caches.{own_of, composed, whole, Along}

-- the position that a symbol names is at most m
abbrev pub Low : ℕ → Sym → Type 0
Low m (before n) = n ≤ m
Low m (constant v) = Unit {0}
Low m (jumpdest v) = Unit {0}
Low m (other pc) = Unit {0}

low-up : {m k : ℕ} (x : Sym) → m ≤ k → Low m x → Low k x
low-up (before n) h l = omega arith
low-up (constant v) h l = tt
low-up (jumpdest v) h l = tt
low-up (other pc) h l = tt

pub record Within (m : ℕ) (s : Stack) : Type 0 where
  pub base : s.base ≤ m
  pub cells : (x : Sym) → In x s.above → Low m x
  pub tall : length s.above ≤ m

each-cons : (F : Sym → Type 0) {y : Sym} {ys : List Sym} → F y → ((z : Sym) → In z ys → F z) → (z : Sym) → In z (y ∷ ys) → F z
each-cons F p h z here = p
each-cons F p h z (there i) = h z i

-- ---- what is read, and what is taken off

reads-low : (xs : List Sym) (b n m : ℕ) → b ≤ m → ((x : Sym) → In x xs → Low m x) → Low (m + n) (reads xs b n)
reads-low [] b n m h c = omega arith
reads-low (x ∷ xs) b zero m h c = low-up x (omega arith) (c x here)
reads-low (x ∷ xs) b (suc n) m h c = low-up (reads xs b n) (omega arith) (reads-low xs b n m h (λ y i. c y (there i)))

read-low : {m : ℕ} {s : Stack} → Within m s → (n : ℕ) → Low (m + n) (read s n)
unfolding read
read-low {m} {s} w n = reads-low s.above s.base n m w.base w.cells

span-low : {m : ℕ} {s : Stack} → Within m s → (i k : ℕ) (x : Sym) → In x (span s i k) → Low (m + (i + k)) x
span-low w i zero x e = elim e [ ]
span-low {m} {s} w i (suc k) x e =
    each-cons (Low (m + (i + suc k))) (low-up (read s i) (omega arith) (read-low w i)) (λ y j. low-up y (omega arith) (span-low w (suc i) k y j)) x e

span-length : (s : Stack) (i k : ℕ) → length (span s i k) ≡ k
span-length s i zero = refl
span-length s i (suc k) = ap suc (span-length s (suc i) k)

drop-in : (n : ℕ) (xs : List Sym) {x : Sym} → In x (drop n xs) → In x xs
drop-in zero xs i = i
drop-in (suc n) [] i = i
drop-in (suc n) (y ∷ ys) i = there (drop-in n ys i)

pops-within : {m : ℕ} {s : Stack} → Within m s → (k : ℕ) → Within (m + k) (pops k s)
pops-within {m} {s} w k = record {
  base = let h = w.base in omega arith;
  cells = λ x i. low-up x (omega arith) (w.cells x (drop-in k s.above i));
  tall = let h = w.tall in omega (arith, length-drop k s.above);
}

-- ---- an instruction

value-low : (m : ℕ) (code : List ℕ) (v : ℕ) → Low m (from_value code v)
value-low m code v = both (Low m) _ (λ _. tt) (λ _. tt)

summed-low : (m : ℕ) (code : List ℕ) (pc : ℕ) (o q : Option ℕ) → Low m (summed code pc o q)
summed-low m code pc none none = tt
summed-low m code pc none (some v) = tt
summed-low m code pc (some v) none = tt
summed-low m code pc (some v) (some w) = both (Low m) _ (λ _. value-low m code (v + w)) (λ _. tt)

anded-low : (m pc : ℕ) (a b : Sym) → Low m a → Low m b → Low m (anded pc a b)
anded-low m pc a b h k = both (Low m) (is mask (known_value a)) (λ _. k) (λ _. both (Low m) (is mask (known_value b)) (λ _. h) (λ _. tt))

push-within : {m k : ℕ} {s : Stack} (x : Sym) → m ≤ k → suc (length s.above) ≤ k → Low k x → Within m s → Within k (push x s)
push-within {m} {k} {s} x h t l w = record {
  base = let b = w.base in omega arith;
  cells = λ y i. split y i;
  tall = t;
}
  where
    split : (y : Sym) → In y (x ∷ s.above) → Low k y
    split y here = l
    split y (there i) = low-up y h (w.cells y i)

within-up : {m k : ℕ} {s : Stack} → m ≤ k → Within m s → Within k s
within-up h w = record { base = let b = w.base in omega arith; cells = λ x i. low-up x h (w.cells x i); tall = let t = w.tall in omega arith }

others-low : (m n pc : ℕ) (x : Sym) → In x (replicate n (other pc)) → Low m x
others-low m zero pc x i = elim i [ ]
others-low m (suc n) pc x here = tt
others-low m (suc n) pc x (there i) = others-low m n pc x i

trade-within : {m : ℕ} {s : Stack} (row : ℕ → Row) (i : Ins) → (row i.op).taken ≤ 17 → (row i.op).given ≤ 17 → Within m s → Within (m + 17) (trade row i s)
trade-within {m} {s} row i t g w = record {
  base = let b = w.base in omega arith;
  cells = λ x e. split x (in-cases (replicate (row i.op).given (other i.pc)) e);
  tall = let h = w.tall in omega (arith, length-append (replicate (row i.op).given (other i.pc)) (drop (row i.op).taken s.above), length-replicate (row i.op).given (other i.pc), length-drop (row i.op).taken s.above);
}
  where
    split : (x : Sym) → In x (replicate (row i.op).given (other i.pc)) ⊎ In x (drop (row i.op).taken s.above) → Low (m + 17) x
    split x (inl e) = others-low (m + 17) (row i.op).given i.pc x e
    split x (inr e) = low-up x (omega arith) (w.cells x (drop-in (row i.op).taken s.above e))

swap-within : {m : ℕ} {s : Stack} (n : ℕ) → suc (suc n) ≤ 17 → Within m s → Within (m + 17) (swap n s)
swap-within {m} {s} n h w = record {
  base = let b = w.base in omega arith;
  cells = λ x e. first x e;
  tall = let t = w.tall in omega (arith, length-append (span s 1 n ++ (read s 0 ∷ [])) (drop (suc (suc n)) s.above), length-append (span s 1 n) (read s 0 ∷ []), span-length s 1 n, length-drop (suc (suc n)) s.above);
}
  where
    last : (x : Sym) → In x (read s 0 ∷ []) → Low (m + 17) x
    last x here = low-up (read s 0) (omega arith) (read-low w 0)
    last x (there i) = elim i [ ]

    middle : (x : Sym) → In x (span s 1 n) ⊎ In x (read s 0 ∷ []) → Low (m + 17) x
    middle x (inl i) = low-up x (omega arith) (span-low w 1 n x i)
    middle x (inr i) = last x i

    behind : (x : Sym) → In x (span s 1 n ++ (read s 0 ∷ [])) ⊎ In x (drop (suc (suc n)) s.above) → Low (m + 17) x
    behind x (inl i) = middle x (in-cases (span s 1 n) i)
    behind x (inr i) = low-up x (omega arith) (w.cells x (drop-in (suc (suc n)) s.above i))

    first : (x : Sym) → In x ((read s (suc n) ∷ span s 1 n ++ (read s 0 ∷ [])) ++ drop (suc (suc n)) s.above) → Low (m + 17) x
    first x here = low-up (read s (suc n)) (omega arith) (read-low w (suc n))
    first x (there i) = behind x (in-cases (span s 1 n ++ (read s 0 ∷ [])) i)

module _ (row : ℕ → Row) (code : List ℕ) (i : Ins) (t : (row i.op).taken ≤ 17) (g : (row i.op).given ≤ 17) where
  act-within : {m : ℕ} {s : Stack} (d : Does) → takes (row i.op) d ≤ 17 → Within m s → Within (m + 17) (act row code i d s)
  unfolding act
  act-within {m} {s} pushes_value h w = push-within _ (omega arith) (let q = w.tall in omega arith) (value-low _ code i.arg) w
  act-within {m} {s} pushes_pc h w = push-within _ (omega arith) (let q = w.tall in omega arith) (value-low _ code i.pc) w
  act-within {m} {s} (dups n) h w = push-within _ (omega arith) (let q = w.tall in omega arith) (low-up (read s n) (omega arith) (read-low w n)) w
  act-within {m} {s} (swaps n) h w = swap-within n h w
  act-within {m} {s} ands h w =
      push-within _ (omega arith) (let q = w.tall in omega (arith, length-drop 2 s.above))
      (anded-low _ i.pc (read s 0) (read s 1) (low-up (read s 0) (omega arith) (read-low w 0)) (low-up (read s 1) (omega arith) (read-low w 1))) (pops-within w 2)
  act-within {m} {s} adds h w = push-within _ (omega arith) (let q = w.tall in omega (arith, length-drop 2 s.above)) (summed-low _ code i.pc (known_value (read s 0)) (known_value (read s 1))) (pops-within w 2)
  act-within {m} {s} jumps h w = within-up (omega arith) (pops-within w 1)
  act-within {m} {s} jumpis h w = within-up (omega arith) (pops-within w 2)
  act-within {m} {s} lands h w = within-up (omega arith) w
  act-within {m} {s} halts h w = trade-within row i t g w
  act-within {m} {s} plain h w = trade-within row i t g w

after-within : {m : ℕ} (start : ℕ) (i : Ins) (s t : Stack) (on : Ran) (d : Does) → Within m s → Within m t → Within m on.stack → Within m (after start i s t on d).stack
after-within start i s t on pushes_value a b c = c
after-within start i s t on pushes_pc a b c = c
after-within start i s t on (dups n) a b c = c
after-within start i s t on (swaps n) a b c = c
after-within start i s t on ands a b c = c
after-within start i s t on adds a b c = c
after-within start i s t on jumps a b c = b
after-within start i s t on jumpis a b c = b
after-within {m} start i s t on lands a b c = both (λ (r : Ran). Within m r.stack) (eqb i.pc start) (λ _. c) (λ _. a)
after-within start i s t on halts a b c = b
after-within start i s t on plain a b c = c

popped-low : {m : ℕ} {s : Stack} → Within m s → (x : Sym) → some (read s 0) ≡ some x → Low m x
popped-low {m} {s} w x e = subst (Low m) (let q : read s 0 ≡ x = cc in q) (low-up (read s 0) (omega arith) (read-low w 0))

after-goes : {m : ℕ} (start : ℕ) (i : Ins) (s t : Stack) (on : Ran) (d : Does) → Within m s → ((x : Sym) → on.goes ≡ some x → Low m x) → (x : Sym) → (after start i s t on d).goes ≡ some x → Low m x
after-goes start i s t on pushes_value a h x e = h x e
after-goes start i s t on pushes_pc a h x e = h x e
after-goes start i s t on (dups n) a h x e = h x e
after-goes start i s t on (swaps n) a h x e = h x e
after-goes start i s t on ands a h x e = h x e
after-goes start i s t on adds a h x e = h x e
after-goes start i s t on jumps a h x e = popped-low a x e
after-goes start i s t on jumpis a h x e = popped-low a x e
after-goes {m} start i s t on lands a h x e = both (λ (r : Ran). r.goes ≡ some x → Low m x) (eqb i.pc start) (λ _. h x) (λ _ f. let z : ◌≡◌ {A = ℕ} 0 1 = cc in absurd (omega arith)) e
after-goes start i s t on halts a h x e = let z : ◌≡◌ {A = ℕ} 0 1 = cc in absurd (omega arith)
after-goes start i s t on plain a h x e = h x e

-- ---- a block's run, trimmed

module _ (r : Rules) (ok : Lawful r.row) (gives : (b : ℕ) → (r.row b).given ≤ 17) (code : List ℕ) (start : ℕ) where
  runs-within : (m : ℕ) (is : List Ins) (s : Stack) → Within m s → Within (m + 17 * length is) (runs r code start is s).stack
  runs-within m [] s w = within-up (omega arith) w
  runs-within m (i ∷ is) s w =
      let t = act-within r.row code i (ok.few i.op) (gives i.op) (does r.mode i.op) (subst (λ (k : ℕ). k ≤ 17) (sym (takes-row ok r.mode i.op)) (ok.few i.op)) w in
      after-within start i s (act r.row code i (does r.mode i.op) s) (runs r code start is (act r.row code i (does r.mode i.op) s)) (does r.mode i.op)
      (within-up (omega arith) w) (within-up (omega arith) t) (within-up (omega arith) (runs-within (m + 17) is (act r.row code i (does r.mode i.op) s) t))

  -- the symbol that its jump takes
  goes-low : (m : ℕ) (is : List Ins) (s : Stack) → Within m s → (x : Sym) → (runs r code start is s).goes ≡ some x → Low (m + 17 * length is) x
  goes-low m [] s w x e = let z : ◌≡◌ {A = ℕ} 0 1 = cc in absurd (omega arith)
  goes-low m (i ∷ is) s w x e =
      let t = act-within r.row code i (ok.few i.op) (gives i.op) (does r.mode i.op) (subst (λ (k : ℕ). k ≤ 17) (sym (takes-row ok r.mode i.op)) (ok.few i.op)) w in
      after-goes start i s (act r.row code i (does r.mode i.op) s) (runs r code start is (act r.row code i (does r.mode i.op) s)) (does r.mode i.op)
      (within-up (omega arith) w) (λ y f. low-up y (omega arith) (goes-low (m + 17) is (act r.row code i (does r.mode i.op) s) t y f)) x e

settle-within : {m : ℕ} (x : Sym) (xs : List Sym) (b : ℕ) → b ≤ m → Low m x → ((y : Sym) → In y xs → Low m y) → suc (length xs) ≤ m → Within m (settle x xs b)
settle-within {m} x [] b h l c t =
    both (Within m) (joins x b) (λ _. record { base = omega arith; cells = λ y i. elim i [ ]; tall = omega arith })
    (λ _. record { base = h; cells = λ y i. subst (Low m) (alone i) l; tall = t })
  where
    alone : {y : Sym} → In y (x ∷ []) → x ≡ y
    alone here = refl
    alone (there i) = elim i [ ]
settle-within {m} x (y ∷ ys) b h l c t = record { base = h; cells = λ z i. split z i; tall = t }
  where
    split : (z : Sym) → In z (x ∷ y ∷ ys) → Low m z
    split z here = l
    split z (there i) = c z i

trims-short : (xs : List Sym) (b : ℕ) → length (trims xs b).above ≤ length xs
trims-short [] b = omega arith
trims-short (x ∷ xs) b = shorter (trims xs b).above (trims-short xs b)
  where
    shorter : (ys : List Sym) → length ys ≤ length xs → length (settle x ys (trims xs b).base).above ≤ suc (length xs)
    shorter [] h = both (λ (s : Stack). length s.above ≤ suc (length xs)) _ (λ _. omega arith) (λ _. omega arith)
    shorter (y ∷ ys) h = omega arith

trims-within : {m : ℕ} (xs : List Sym) (b : ℕ) → b ≤ m → ((x : Sym) → In x xs → Low m x) → length xs ≤ m → Within m (trims xs b)
trims-within [] b h c t = record { base = h; cells = c; tall = t }
trims-within (x ∷ xs) b h c t =
    let w = trims-within xs b h (λ y i. c y (there i)) (omega arith) in
    settle-within x (trims xs b).above (trims xs b).base w.base (c x here) w.cells (omega (arith, trims-short xs b))

trim-within : {m : ℕ} {s : Stack} → Within m s → Within m (trim s)
unfolding trim
trim-within {m} {s} w = trims-within s.above s.base w.base w.cells w.tall

-- ---- composing

through-low : (m : ℕ) {k : ℕ} {p : Stack} → Within k p → (x : Sym) → Low m x → Low (m + k) (through p x)
unfolding through
through-low m {k} {p} w (before n) l = low-up (read p n) (omega arith) (read-low w n)
through-low m w (constant v) l = tt
through-low m w (jumpdest v) l = tt
through-low m w (other pc) l = tt

compose-within : {m k : ℕ} {c p : Stack} → Within m c → Within k p → Within (m + k) (compose c p)
unfolding compose
compose-within {m} {k} {c} {p} a b = record {
  base = let x = a.base in let y = b.base in omega arith;
  cells = λ x i. split x (in-cases (map (through p) c.above) i);
  tall = let x = a.tall in let y = b.tall in omega (arith, length-append (map (through p) c.above) (drop c.base p.above), length-map c.above (through p), length-drop c.base p.above);
}
  where
    split : (x : Sym) → In x (map (through p) c.above) ⊎ In x (drop c.base p.above) → Low (m + k) x
    split x (inl i) =
        let g = in_map (through p) c.above i in
        subst (Low (m + k)) (sym g.2) (through-low m b g.0 (a.cells g.0 g.1))
    split x (inr i) = low-up x (omega arith) (b.cells x (drop-in c.base p.above i))

-- ---- a block's own stack, and a path's

walk-short : (xs : List ℕ) (pc skip : ℕ) → length (walk xs pc skip) ≤ length xs
unfolding walk
walk-short [] pc skip = omega arith
walk-short (b ∷ rest) pc (suc skip) = let h = walk-short rest (suc pc) skip in omega arith
walk-short (b ∷ rest) pc zero =
    let h = walk-short rest (suc pc) (argument b) in
    both (λ (is : List Ins). length is ≤ suc (length rest)) (leb (argument b) (length rest)) (λ _. omega arith) (λ _. omega arith)

module _ (row : ℕ → Row) (ok : Lawful row) (gives : (b : ℕ) → (row b).given ≤ 17) (code : List ℕ) where
  own-within : (b : ℕ) → Within (17 * length code) (own_of row code b)
  own-within b =
      let is = walk (drop b code) b 0 in
      let few : length is ≤ length code = omega (arith, walk-short (drop b code) b 0, length-drop b code) in
      within-up (omega arith)
      (trim-within (runs-within (plainly row) ok gives code b 0 is entry (record { base = omega arith; cells = λ x i. elim i [ ]; tall = omega arith })))

  composed-within : (m : ℕ) (s : Stack) → Within m s → (bs : List ℕ) → Within (m + 17 * length code * length bs) (composed row code s bs)
  unfolding composed
  composed-within m s w [] = within-up (omega arith) w
  composed-within m s w (b ∷ bs) =
      within-up (omega (arith, mul-suc (17 * length code) (length bs))) (composed-within (m + 17 * length code) (compose s (own_of row code b)) (compose-within w (own-within b)) bs)

  -- No number of the stack that a path's blocks compose to passes 17 times the code's length for each block.
  pub path-within : {path : List ℕ} {s : Stack} → Along row code path s → Within (17 * length code * length path) s
  path-within {path} {s} a =
      subst (λ (p : List ℕ). Within (17 * length code * length p) s) (sym a.path-is)
      (subst (Within (17 * length code * suc (length a.rest))) (sym (a.stack_is ∙ ap (whole row code) a.path-is))
      (within-up (omega (arith, mul-suc (17 * length code) (length a.rest))) (composed-within (17 * length code) (own_of row code a.first) (own-within a.first) a.rest)))

  -- A search's first position, which a block's jump takes,
  pub first-position : (b : ℕ) (x : Sym) → (own (plainly row) code b).goes ≡ some x → Low (17 * length code) x
  first-position b x e =
      let is = walk (drop b code) b 0 in
      let few : length is ≤ length code = omega (arith, walk-short (drop b code) b 0, length-drop b code) in
      low-up x (omega arith) (goes-low (plainly row) ok gives code b 0 is entry (record { base = omega arith; cells = λ y i. elim i [ ]; tall = omega arith }) x e)

  -- and the next one, which is read in a parent's stack, are within the same of the path so far.
  pub next-position : (path : List ℕ) {q : List ℕ} {t : Stack} → Along row code q t → (position : ℕ) → position ≤ 17 * length code * length path → Low (17 * length code * length (path ++ q)) (read t position)
  next-position path {q} {t} a position h =
      low-up (read t position) (omega (arith, ap (λ (n : ℕ). 17 * length code * n) (length-append path q), mul-add (17 * length code) (length path) (length q))) (read-low (path-within a) position)

-- ---- an answered run

given-test : (b : ℕ) → leb (row b).given 17 ≡ true
unfolding row if
given-test = everywhere (λ b. leb (row b).given 17) (λ _. true) refl (λ b h. simp (above b h, and-off, tt {0}))

pub given-few : (b : ℕ) → (row b).given ≤ 17
given-few b = leb-true _ _ (given-test b)

need-held : {l : Lent} {ns : List Need} → Fits l ns → (n : Need) → In n ns → n.units ≤ room l n.room
need-held none_asked n i = elim i [ ]
need-held (one_more h f) n here = h
need-held (one_more h f) n (there i) = need-held f n i

-- What bounds the numbers that the seven files add, as docs/SOURCE.md reads them: a place and a size, or a place and an argument's length, are at most the code's length and 33; a path
-- that is tried notes its length as a need of P; a stack of such a path has its base, its Befores and its length within 2^50; energy.
pub record Small (code : List ℕ) (s : St) : Type 0 where
  pub places : length code ≤ 49152
  pub paths : (n : Need) → In n s.needs → n.room ≡ P → n.units ≤ 2 ^ 30
  pub stacks : {path : List ℕ} {t : Stack} → Along row code path t → length path ≤ 2 ^ 30 → Within (2 ^ 50) t
  pub energy : s.energy ≤ 500256

-- A sum of two such numbers and 34 at most is below 2^52.
pub answered-small : (l : Lent) (choice : ℕ) (code : List ℕ) (a : Map) → answer (in_mode 0) l 500000 choice code ≡ answered a → Small code (searched (in_mode 0) 500000 code)
unfolding searched
answered-small l choice code a e =
    let g = gave (in_mode 0) l 500000 choice code a e in
    record {
      places = g.taken.code_fits;
      paths = λ n i p. within n p (need-held g.fits n i);
      stacks = λ {path} {t} h k.
          within-up (let m = mul-le-mul {n₁ = 17 * length code} {m₁ = length path} {n₂ = 17 * 49152} {m₂ = 2 ^ 30} (let c = g.taken.code_fits in omega arith) k in omega arith)
          (path-within row lawful given-few code h);
      energy = search-energy 500000 (prepared (in_mode 0) code);
    }
  where
    within : (n : Need) → n.room ≡ P → n.units ≤ room l n.room → n.units ≤ 2 ^ 30
    within n p h = let q : n.units ≤ room l P = subst (λ (r : Room). n.units ≤ room l r) p h in let m = min-le_right (l.p / 2) (2 ^ 30) in omega arith
