-- Every side of a block lies in the code, or right behind it: of the cutting's, and of those that its own run settled. Assumes nothing.
use Prim.Native.Nat.{ℕ, ◌+◌, ◌≤◌, ◌<◌}
use native.Mathlib.Nat.{le_of_lt}
use native.Mathlib.Omega.{arith}
use mathlib.Core.Path.{◌≡◌}
use mathlib.Core.Bool.{true}
use mathlib.Core.Logic.{◌⊎◌, inl, inr}
use mathlib.Core.List.{List, [], ◌∷◌}
use mathlib.Core.Option.{Option, none, some}
use lib.Dec.{eqb, leb}
use lib.ListN.{length}
use Rattle.spec.specs.Lists.{mem}
use Rattle.spec.specs.Opcodes.{Rules}
use Rattle.spec.specs.Walk.{Ins, instructions}
use Rattle.spec.specs.Blocks.{Kind, terminate, jump, jumpi, dynamic_jump, dynamic_jumpi, Block, with_kind, Mode, opened, waiting, pushed, branching, jumping, Cut, JUMPDEST, JUMPI, JUMP, UNKNOWN, OTHER, ENDS, cut, closes, cuts, lands, checked, starts, blocks}
use Rattle.spec.specs.Stacks.{Sym, before, constant, jumpdest, other, run}
use Rattle.spec.specs.Search.{settled, sides}
use Rattle.laws.proofs.Branch.{both}
use Rattle.laws.proofs.Members.{In, here, there, in-only, in-cases, mem-in, in_map, and_both}
use Rattle.theorems.proofs.Walking.{Walked, stops, steps, walked}
use Rattle.theorems.proofs.Counts.{Lawful}
use Rattle.theorems.proofs.Cutting.{made, starts-checked}
use Rattle.theorems.proofs.Landing.{Goes, run_ends}

-- the sides of a kind: a destination lies below n, and a false side, the address behind a JUMPI, is at most n; that of a DynamicJumpi is not 0, so that a
-- row whose true side stands as 0 leads to 0 by that side alone
abbrev pub Within : ℕ → Kind → Type 0
Within n (terminate success) = Unit {0}
Within n (jump t) = t < n
Within n (jumpi t f) = (t < n) × (f ≤ n)
Within n dynamic_jump = Unit {0}
Within n (dynamic_jumpi f) = (1 ≤ f) × (f ≤ n)

-- ---- the cutting: of the kinds that are not checked

abbrev Falls : ℕ → Kind → Type 0
Falls n (terminate success) = Unit {0}
Falls n (jump t) = Unit {0}
Falls n (jumpi t f) = Unit {0}
Falls n dynamic_jump = Unit {0}
Falls n (dynamic_jumpi f) = (1 ≤ f) × (f ≤ n)

module _ (n : ℕ) where
  data All : List Block → Type 0 where
    no_more : All []
    and_more : {b : Block} {bs : List Block} → Falls n b.kind → All bs → All (b ∷ bs)

  all_in : {b : Block} {bs : List Block} → All bs → In b bs → Falls n b.kind
  all_in (and_more f a) here = f
  all_in (and_more f a) (there i) = all_in a i
  all_in {b = b} no_more x3 = elim x3 [ ]

  branching-falls : (push : Option ℕ) (f : ℕ) → 1 ≤ f → f ≤ n → Falls n (branching push f)
  branching-falls none f o h = (o, h)
  branching-falls (some v) f o h = tt

  jumping-falls : (push : Option ℕ) → Falls n (jumping push)
  jumping-falls none = tt
  jumping-falls (some v) = tt

  closes-falls : (id start prev : ℕ) (push : Option ℕ) (pc : ℕ) (on : Mode → List Block) → pc < n → ((m : Mode) → All (on m)) → (c : Cut)
      → All (closes id start prev push pc on c)
  closes-falls id start prev push pc on h more JUMPDEST = both All (eqb start pc) (λ _. more (opened id start)) (λ _. and_more tt (more (opened pc pc)))
  closes-falls id start prev push pc on h more JUMPI = and_more (branching-falls push (pc + 1) (omega arith) (omega arith)) (more (opened (pc + 1) (pc + 1)))
  closes-falls id start prev push pc on h more JUMP = and_more (jumping-falls push) (more waiting)
  closes-falls id start prev push pc on h more UNKNOWN =
      both All (eqb start 0) (λ _. and_more tt no_more) (λ _. both All (eqb start pc) (λ _. more waiting) (λ _. and_more tt (more waiting)))
  closes-falls id start prev push pc on h more OTHER = more (opened id start)
  closes-falls id start prev push pc on h more (ENDS success) = and_more tt (more waiting)

cuts-falls : (rules : Rules) {code : List ℕ} {at : ℕ} {is : List Ins} → Walked code at is → (m : Mode) (prev : ℕ) (push : Option ℕ) → All (length code) (cuts rules.row is m prev push)
unfolding cuts
cuts-falls rules (stops h) waiting prev push = no_more
cuts-falls rules {code} (stops h) (opened id start) prev push = both (All (length code)) (leb start prev) (λ _. and_more tt no_more) (λ _. no_more)
cuts-falls rules {code} (steps {i} s w) waiting prev push =
    both (All (length code)) (eqb i.op 0x5B) (λ _. cuts-falls rules w (opened i.pc i.pc) i.pc (pushed i)) (λ _. cuts-falls rules w waiting i.pc (pushed i))
cuts-falls rules {code} (steps {i} s w) (opened id start) prev push =
    closes-falls (length code) id start prev push i.pc _ (omega arith) (λ m. cuts-falls rules w m i.pc (pushed i)) (cut rules.row i.op)

-- ---- the checks: of the others

module _ (code ss : List ℕ) (n : ℕ) (inside : (t : ℕ) → mem t ss ≡ true → t < n) where
  lands_within : (t : ℕ) → lands code ss t ≡ true → t < n
  lands_within t e = inside t (and_both (mem t ss) _ e).0

  checked-within : (k : Kind) → Falls n k → Within n (checked code ss k)
  checked-within (terminate success) h = tt
  checked-within (jump t) h = both (Within n) (lands code ss t) (λ e. lands_within t e) (λ _. tt)
  checked-within (jumpi t f) h =
      both (Within n) (mem f ss)
      (λ e. both (Within n) (lands code ss t) (λ g. (lands_within t g, le_of_lt (inside f e))) (λ _. inside f e)) (λ _. tt)
  checked-within dynamic_jump h = tt
  checked-within (dynamic_jumpi f) h = h

pub block_within : (rules : Rules) → Lawful rules.row → (code : List ℕ) {b : Block} → In b (blocks rules.row code (instructions code)) → Within (length code) b.kind
unfolding blocks
block_within rules ok [] i = elim i [ ]
block_within rules ok (x ∷ code) {b} i =
    let bs : List Block = cuts rules.row (instructions (x ∷ code)) (opened 0 0) 0 none in
    let all : All (length (x ∷ code)) bs = cuts-falls rules (walked (x ∷ code)) (opened 0 0) 0 none in
    let inside : (t : ℕ) → mem t (starts bs) ≡ true → t < length (x ∷ code) = λ t e. started t (rw (← starts-checked (x ∷ code) bs) at e) in
    let g = in_map (λ (c : Block). with_kind (checked (x ∷ code) (starts bs) c.kind) c) bs i in
    rw g.2 (checked-within (x ∷ code) (starts bs) (length (x ∷ code)) inside g.0.kind (all_in (length (x ∷ code)) all g.1))
  where
    started : (t : ℕ) → mem t (starts (blocks rules.row (x ∷ code) (instructions (x ∷ code)))) ≡ true → t < length (x ∷ code)
    started t e =
        let m = in_map (λ (c : Block). c.start) (blocks rules.row (x ∷ code) (instructions (x ∷ code))) (mem-in t _ e) in
        omega (arith, (made ok (x ∷ code) m.1).start_inside, m.2)

-- ---- the first stage

settled-within : (n : ℕ) (g : Option Sym) (k : Kind) → Goes n g → Within n k → Within n (settled g k)
settled-within n none k h w = w
settled-within n (some (before p)) k h w = w
settled-within n (some (constant v)) k h w = w
settled-within n (some (other pc)) k h w = w
settled-within n (some (jumpdest t)) (terminate success) h w = tt
settled-within n (some (jumpdest t)) (jump u) h w = w
settled-within n (some (jumpdest t)) (jumpi u f) h w = w
settled-within n (some (jumpdest t)) dynamic_jump h w = h
settled-within n (some (jumpdest t)) (dynamic_jumpi f) h w = (h, w.1)

pub node-within : (rules : Rules) → Lawful rules.row → (code : List ℕ) {b : Block} → In b (blocks rules.row code (instructions code))
    → Within (length code) (settled (run rules code (instructions code) b.start).goes b.kind)
node-within rules ok code {b} i =
    let is = instructions code in
    settled-within (length code) (run rules code is b.start).goes b.kind (run_ends rules code is b.start).goes (block_within rules ok code i)

pub sides-within : (n : ℕ) (k : Kind) → Within n k → {t : ℕ} → In t (sides k) → t ≤ n
sides-within n (terminate success) h i = elim i [ ]
sides-within n (jump u) h i = omega (arith, in-only i)
sides-within n (jumpi u f) h {t} i =
    both (λ (l : List ℕ). In t l → t ≤ n) (eqb u f) (λ _ j. omega (arith, in-only j, h.0)) (λ _ j. one (in-cases (u ∷ []) j)) i
  where
    one : In t (u ∷ []) ⊎ In t (f ∷ []) → t ≤ n
    one (inl j) = omega (arith, in-only j, h.0)
    one (inr j) = omega (arith, in-only j, h.1)
sides-within n dynamic_jump h i = elim i [ ]
sides-within n (dynamic_jumpi f) h i = omega (arith, in-only i, h.1)
