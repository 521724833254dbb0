-- Stacks that a search over a code of n bytes makes stay sound: a block's own, one behind another, and what is read of them. Assumes nothing.
use mathlib.Core.Path.{◌≡◌, sym}
use mathlib.Core.Logic.{◌⊎◌, inl, inr}
use Prim.Native.Nat.{ℕ, zero, suc, ◌+◌, ◌*◌, ◌≤◌}
use mathlib.Core.List.{List, [], ◌∷◌, map}
use native.Mathlib.Omega.{arith}
use lib.ListN.{length, drop}
use Rattle.spec.specs.Opcodes.{in_mode}
use Rattle.spec.specs.Walk.{instructions}
use Rattle.spec.specs.Stacks.{Sym, before, constant, jumpdest, other, Stack, reads, read, run, through, compose}
use Rattle.spec.specs.Rooms.{longest}
use Rattle.state.proofs.Reach.{depth-read, reach-compose}
use Rattle.laws.proofs.Members.{In, here, there, in-cases, in_map}
use Rattle.parents.proofs.Goals.{run-deep}
use Rattle.theorems.proofs.Landing.{run-lands}
use Rattle.steps.specs.Sound.{DEEPEST, SoundStack}

pub sound_more : {n a b : ℕ} {s : Stack} → SoundStack n a s → a ≤ b → SoundStack n b s
sound_more o h = record { deep = omega (arith, o.deep); lands = o.lands }

-- a block's own, from any place
pub sound-own : (mode : ℕ) (code : List ℕ) → length code ≤ longest → (a : ℕ) → SoundStack (length code) 1 (run (in_mode mode) code (instructions code) a).stack
sound-own mode code h a = record { deep = omega (arith, run-deep mode code a); lands = λ t i. omega (arith, run-lands (in_mode mode) code (instructions code) a t i) }

-- ---- what is read

-- below the symbols stand Befores
in-reads : {t : ℕ} (xs : List Sym) (base k : ℕ) → reads xs base k ≡ jumpdest t → In (jumpdest t) xs
in-reads [] base k e = let z : ◌≡◌ {A = ℕ} 0 1 = cc in absurd (omega arith)
in-reads (x ∷ xs) base zero e = rw e here
in-reads (x ∷ xs) base (suc k) e = there (in-reads xs base k e)

read-in : {t : ℕ} (s : Stack) (k : ℕ) → read s k ≡ jumpdest t → In (jumpdest t) s.above
unfolding read
read-in s k e = in-reads s.above s.base k e

module _ {n m : ℕ} {s : Stack} (o : SoundStack n m s) where
  pub sound-read : (position : ℕ) {t : ℕ} → read s position ≡ jumpdest t → t ≤ n
  sound-read position {t} e = o.lands t (read-in s position e)

  pub sound-before : (position a : ℕ) {x : ℕ} → read s position ≡ before x → position ≤ a * DEEPEST → x ≤ (a + m) * DEEPEST
  sound-before position a e h = let d = rw e at (depth-read s position) in omega (arith, o.deep)

-- ---- one behind another

-- a Jumpdest of the child's, or one that the parent has in the place of a Before
through-in : {t : ℕ} (p : Stack) (x : Sym) → jumpdest t ≡ through p x → (x ≡ jumpdest t) ⊎ In (jumpdest t) p.above
unfolding through
through-in p (before k) e = inr (read-in p k (sym e))
through-in p (constant v) e = let z : ◌≡◌ {A = ℕ} 0 1 = cc in absurd (omega arith)
through-in p (jumpdest v) e = inl (sym e)
through-in p (other pc) e = let z : ◌≡◌ {A = ℕ} 0 1 = cc in absurd (omega arith)

in-drop : {A : Type 0} {x : A} (k : ℕ) (xs : List A) → In x (drop k xs) → In x xs
in-drop zero xs i = i
in-drop (suc k) [] i = i
in-drop (suc k) (y ∷ xs) i = there (in-drop k xs i)

compose-in : {t : ℕ} (c p : Stack) → In (jumpdest t) (compose c p).above → In (jumpdest t) c.above ⊎ In (jumpdest t) p.above
unfolding compose
compose-in {t} c p i = split (in-cases (map (through p) c.above) i)
  where
    named : {x : Sym} → In x c.above → (x ≡ jumpdest t) ⊎ In (jumpdest t) p.above → In (jumpdest t) c.above ⊎ In (jumpdest t) p.above
    named j (inl e) = inl (rw e at j)
    named j (inr k) = inr k

    split : In (jumpdest t) (map (through p) c.above) ⊎ In (jumpdest t) (drop c.base p.above) → In (jumpdest t) c.above ⊎ In (jumpdest t) p.above
    split (inl j) = let g = in_map (through p) c.above j in named g.1 (through-in p g.0 g.2)
    split (inr j) = inr (in-drop c.base p.above j)

pub sound-compose : {n a b : ℕ} {c p : Stack} → SoundStack n a c → SoundStack n b p → SoundStack n (a + b) (compose c p)
sound-compose {n} {a} {b} {c} {p} o q = record { deep = omega (arith, reach-compose c p, o.deep, q.deep); lands = λ t i. side t (compose-in c p i) }
  where
    side : (t : ℕ) → In (jumpdest t) c.above ⊎ In (jumpdest t) p.above → t ≤ n
    side t (inl i) = o.lands t i
    side t (inr i) = q.lands t i
