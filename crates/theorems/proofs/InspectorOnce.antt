-- Document 02, No. 12, for the code: a path entry is judged in one pass over its path, each block run once: what is asked of the block, then the symbol looked up
-- in its stack. Assumes nothing.
use Prim.Native.Nat.{ℕ, suc}
use mathlib.Core.Path.{◌≡◌, refl, ap, ◌∙◌}
use mathlib.Core.Bool.{Bool, true, false, ◌&&◌}
use mathlib.Core.Option.{Option, none, some}
use mathlib.Core.List.{List, [], ◌∷◌}
use lib.Dec.{eqb}
use Rattle.spec.specs.Lists.{if}
use Rattle.spec.specs.Opcodes.{Rules}
use Rattle.spec.specs.Stacks.{Sym, jumpdest, other, through, own, eq_sym}
use Rattle.spec.specs.Entries.{Map}
use Rattle.spec.specs.Inspector.{edge?, sound, first_failing, looked, arrives, or_symbol, fault}

module _ (rules : Rules) where
  module _ (code : List ℕ) (m : Map) (t : ℕ) where
    -- with the symbol as it is looked up so far, behind the block named before; 0 is the place where only the symbol differs
    unfoldable pub pass : (ℕ → Bool) → Sym → List ℕ → ℕ → Option ℕ
    pass joins x [] at = if (eq_sym (jumpdest t) x) none (some 0)
    pass joins x (b ∷ bs) at =
        let on = pass (edge? m b) (through (own rules code b).stack x) bs (suc at) in
        if (sound rules.row code b && joins b) on (some at)

    -- the symbol that a jump takes; where there is no jump, one that is no Jumpdest and stays so
    abbrev pub taken : Option Sym → Sym
    taken none = other 0
    taken (some x) = x

    -- a path entry of the block at b
    abbrev pub at_once : ℕ → List ℕ → Option ℕ
    at_once b [] = some 0
    at_once b (a ∷ bs) =
        let on = pass (edge? m a) (taken (own rules code a).goes) bs 1 in
        if (sound rules.row code a && eqb b a) on (some 0)

    -- one of two, and then the symbol
    if-symbol : (c ok : Bool) (x : Option ℕ) (at : ℕ) → or_symbol ok (if c x (some at)) ≡ if c (or_symbol ok x) (some at)
    unfolding if
    if-symbol true ok x at = refl
    if-symbol false ok x at = refl

    looked-other : (bs : List ℕ) → looked rules code (other 0) bs ≡ other 0
    unfolding looked through
    looked-other [] = refl
    looked-other (b ∷ bs) = looked-other bs

    pass-both : (joins : ℕ → Bool) (x : Sym) (path : List ℕ) (at : ℕ)
        → or_symbol (eq_sym (jumpdest t) (looked rules code x path)) (first_failing rules.row code m joins path at) ≡ pass joins x path at
    unfolding pass looked first_failing
    pass-both joins x [] at = refl
    pass-both joins x (b ∷ bs) at =
        if-symbol (sound rules.row code b && joins b) _ (first_failing rules.row code m (edge? m b) bs (suc at)) at
        ∙ ap (λ (o : Option ℕ). if (sound rules.row code b && joins b) o (some at)) (pass-both (edge? m b) (through (own rules code b).stack x) bs (suc at))

    arrives-taken : (g : Option Sym) (bs : List ℕ) → arrives rules code t bs g ≡ eq_sym (jumpdest t) (looked rules code (taken g) bs)
    arrives-taken none bs = rw (looked-other bs)
    arrives-taken (some x) bs = refl

    -- It finds what the definition finds.
    pub judged-once : (b : ℕ) (path : List ℕ) → fault rules code m b path t ≡ at_once b path
    unfolding fault first_failing if
    judged-once b [] = refl
    judged-once b (a ∷ bs) =
        if-symbol (sound rules.row code a && eqb b a) _ (first_failing rules.row code m (edge? m a) bs 1) 0
        ∙ ap (λ (o : Option ℕ). if (sound rules.row code a && eqb b a) o (some 0))
        (ap (λ (ok : Bool). or_symbol ok (first_failing rules.row code m (edge? m a) bs 1)) (arrives-taken (own rules code a).goes bs) ∙ pass-both (edge? m a) (taken (own rules code a).goes) bs 1)
