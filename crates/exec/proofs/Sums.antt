-- The laws of AND and ADD on symbols, one for each way out. Assumes nothing.
use mathlib.Core.Path.{◌≡◌, refl}
use mathlib.Core.Bool.{Bool, true, false}
use mathlib.Core.List.{List}
use mathlib.Core.Option.{Option, none, some}
use Prim.Native.Nat.{ℕ, ◌+◌, ◌^◌, ◌≤◌, ◌<◌}
use native.Mathlib.Omega.{arith}
use borrow.Author.Tests.{lt-ltb, le-ltb}
use Rattle.spec.specs.Lists.{if}
use Rattle.spec.specs.Stacks.{Sym, other, known_value, from_value, is, mask, anded, summed}
use Rattle.state.specs.Symbols.{sym_of, known_of}
use Rattle.state.specs.declared.sym.StackSym.{StackSym}
use Rattle.std.specs.Prelude as std
use Rattle.std.specs.Prelude.{Some, None}

module _ (pc : ℕ) (a b : Sym) (p : Bool) (e : p ≡ is mask (known_value a)) where
  pub and-top : p ≡ true → b ≡ anded pc a b
  unfolding if
  and-top h = rw (← e, h)

  module _ (q : Bool) (f : q ≡ is mask (known_value b)) (l : p ≡ false) where
    pub and-next : q ≡ true → a ≡ anded pc a b
    unfolding if
    and-next h = rw (← e, l, ← f, h)

    pub and_none : q ≡ false → other pc ≡ anded pc a b
    unfolding if
    and_none h = rw (← e, l, ← f, h)

module _ (code : List ℕ) (pc : ℕ) where
  module _ (v u : ℕ) where
    pub sum_fits : {s : ℕ} (x : Sym) → (v + u < 2 ^ 64) × (s ≡ v + u) → x ≡ from_value code s → x ≡ summed code pc (some v) (some u)
    unfolding if
    sum_fits x (l, h) e = rw (lt-ltb _ _ l) (rw h at e)

    pub sum_past : (v + u < 2 ^ 64 → ⊥) → other pc ≡ summed code pc (some v) (some u)
    unfolding if
    sum_past h = let l : 2 ^ 64 ≤ v + u = omega arith in rw (le-ltb _ _ l)

  no_top : (y : Option ℕ) → other pc ≡ summed code pc none y
  no_top none = refl
  no_top (some v) = refl

  no-next : (x : Option ℕ) → other pc ≡ summed code pc x none
  no-next none = refl
  no-next (some v) = refl

  module _ (a b : StackSym) (k : std.Option ℕ) where
    pub sum_top : known_of k ≡ known_value (sym_of a) → k ≡ None → other pc ≡ summed code pc (known_value (sym_of a)) (known_value (sym_of b))
    sum_top e h = rw (← e, h) (no_top (known_value (sym_of b)))

    pub sum-next : known_of k ≡ known_value (sym_of b) → k ≡ None → other pc ≡ summed code pc (known_value (sym_of a)) (known_value (sym_of b))
    sum-next e h = rw (← e, h) (no-next (known_value (sym_of a)))

    pub sum_both : (l : std.Option ℕ) (v u : ℕ) (x : Sym) → known_of k ≡ known_value (sym_of a) → known_of l ≡ known_value (sym_of b) → k ≡ Some v → l ≡ Some u
        → x ≡ summed code pc (some v) (some u) → x ≡ summed code pc (known_value (sym_of a)) (known_value (sym_of b))
    sum_both l v u x e f h g s = rw (← e, h, ← f, g) s
