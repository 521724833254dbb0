-- How deep stacks reach: what is read of one, and one that is composed or trimmed. Assumes nothing.
use mathlib.Core.Path.{◌≡◌, refl, ◌∙◌}
use mathlib.Core.Bool.{Bool, true, false}
use mathlib.Core.List.{List, [], ◌∷◌, ◌++◌, map}
use Prim.Native.Nat.{ℕ, zero, suc, ◌+◌, ◌-◌, ◌≤◌, max}
use native.Mathlib.Omega.{arith}
use native.Mathlib.Nat.{le_refl}
use lib.ListN.{length, drop, replicate}
use Rattle.spec.specs.Lists.{if}
use Rattle.spec.specs.Stacks.{Sym, before, constant, jumpdest, other, from_value, Stack, reads, read, joins, settle, trims, trim, through, compose}
use Rattle.state.specs.Cells.{depth, deepest, reach}

pub deepest-append : (xs ys : List Sym) → deepest (xs ++ ys) ≡ max (deepest xs) (deepest ys)
unfolding deepest
deepest-append [] ys = omega arith
deepest-append (x ∷ xs) ys = rw (deepest-append xs ys) (omega arith)

pub deepest-drop : (k : ℕ) (xs : List Sym) → deepest (drop k xs) ≤ deepest xs
unfolding deepest
deepest-drop zero xs = le_refl (deepest xs)
deepest-drop (suc k) [] = le_refl 0
deepest-drop (suc k) (x ∷ xs) = omega (arith, deepest-drop k xs)

pub deepest-others : (k pc : ℕ) → deepest (replicate k (other pc)) ≡ 0
unfolding deepest
deepest-others zero pc = refl
deepest-others (suc k) pc = omega (arith, deepest-others k pc)

pub reach-is : (s : Stack) → reach s ≡ max (deepest s.above) (suc s.base)
unfolding reach deepest
reach-is s = deepest-append s.above (before s.base ∷ []) ∙ omega arith

-- ---- what is read

-- among the symbols above, or below them
pub depth-reads : (xs : List Sym) (base n : ℕ) → depth (reads xs base n) ≤ max (deepest xs) (suc (base + (n - length xs)))
unfolding deepest
depth-reads [] base n = omega arith
depth-reads (x ∷ xs) base zero = omega arith
depth-reads (x ∷ xs) base (suc n) = omega (arith, depth-reads xs base n)

pub depth-read : (s : Stack) (n : ℕ) → depth (read s n) ≤ reach s + n
unfolding read
depth-read s n = omega (arith, depth-reads s.above s.base n, reach-is s)

depth-if : (b : Bool) (x y : Sym) → depth x ≡ 0 → depth y ≡ 0 → depth (if b x y) ≡ 0
unfolding if
depth-if true x y p q = p
depth-if false x y p q = q

pub depth-value : (code : List ℕ) (v : ℕ) → depth (from_value code v) ≡ 0
depth-value code v = depth-if _ (jumpdest v) (constant v) refl refl

-- ---- a composed stack

depth-through : (p : Stack) (x : Sym) → depth (through p x) ≤ depth x + reach p
unfolding through
depth-through p (before n) = omega (arith, depth-read p n)
depth-through p (constant v) = omega arith
depth-through p (jumpdest v) = omega arith
depth-through p (other pc) = omega arith

deepest-through : (p : Stack) (xs : List Sym) → deepest (map (through p) xs) ≤ deepest xs + reach p
unfolding deepest
deepest-through p [] = omega arith
deepest-through p (x ∷ xs) = omega (arith, depth-through p x, deepest-through p xs)

-- Composing adds the reaches at most.
pub reach-compose : (c p : Stack) → reach (compose c p) ≤ reach c + reach p
unfolding compose
reach-compose c p =
    let m : List Sym = map (through p) c.above in
    let d : List Sym = drop c.base p.above in
    omega (
      arith,
      reach-is (compose c p),
      reach-is c,
      reach-is p,
      deepest-append m d,
      deepest-through p c.above,
      deepest-drop c.base p.above,
    )

-- ---- a trimmed one

either : (b : Bool) (s t : Stack) (m : ℕ) → reach s ≤ m → reach t ≤ m → reach (if b s t) ≤ m
unfolding if
either true s t m p q = p
either false s t m p q = q

reach-settle : (x : Sym) (xs : List Sym) (base : ℕ) → reach (settle x xs base) ≤ max (depth x) (reach (record { above = xs; base = base }))
unfolding deepest
reach-settle x [] base =
    let own : Stack = record { above = []; base = base } in
    let less : Stack = record { above = []; base = base - 1 } in
    let more : Stack = record { above = x ∷ []; base = base } in
    either (joins x base) less more (max (depth x) (reach own)) (omega (arith, reach-is less, reach-is own)) (omega (arith, reach-is more, reach-is own))
reach-settle x (y ∷ ys) base =
    let own : Stack = record { above = y ∷ ys; base = base } in
    let more : Stack = record { above = x ∷ y ∷ ys; base = base } in
    omega (arith, reach-is own, reach-is more)

reach-trims : (xs : List Sym) (base : ℕ) → reach (trims xs base) ≤ reach (record { above = xs; base = base })
unfolding deepest
reach-trims [] base = le_refl _
reach-trims (x ∷ xs) base =
    let own : Stack = record { above = xs; base = base } in
    let more : Stack = record { above = x ∷ xs; base = base } in
    omega (arith, reach-settle x (trims xs base).above (trims xs base).base, reach-trims xs base, reach-is own, reach-is more)

pub reach-trim : (s : Stack) → reach (trim s) ≤ reach s
unfolding trim
reach-trim s = reach-trims s.above s.base
