-- The laws of symbols: what a value gives, and what is known of a symbol. Assumes nothing.
use mathlib.Core.Path.{◌≡◌}
use mathlib.Core.Bool.{false}
use mathlib.Core.List.{List}
use Prim.Native.Nat.{ℕ, ◌≤◌}
use native.Mathlib.Omega.{arith}
use lib.Dec.{eqb}
use lib.ListN.{length, get_or, get_or-eq_default}
use borrow.Author.Tests.{eq-eqb, ne_eqb}
use Rattle.spec.specs.Lists.{if}
use Rattle.spec.specs.Stacks.{jumpdest, constant, known_value, from_value, is, mask}
use Rattle.state.specs.Symbols.{sym_of, known_of}
use Rattle.state.specs.declared.sym.StackSym.{StackSym}
use Rattle.std.specs.Prelude.{Option, Some, None}

module _ (code : List ℕ) (v : ℕ) where
  pub from-lands : get_or code v 0 ≡ 0x5B → jumpdest v ≡ from_value code v
  unfolding if
  from-lands e = rw (eq-eqb _ _ e)

  pub from-plain : (get_or code v 0 ≡ 0x5B → ⊥) → constant v ≡ from_value code v
  unfolding if
  from-plain n = rw (ne_eqb _ _ n)

  pub from_past : length code ≤ v → constant v ≡ from_value code v
  from_past h = from-plain (λ e. omega (arith, get_or-eq_default code 0 h))

pub known-of : {x : StackSym} (y : StackSym) → x ≡ y → known_value (sym_of y) ≡ known_value (sym_of x)
known-of y e = rw e

module _ (x : StackSym) (k : Option ℕ) (e : known_of k ≡ known_value (sym_of x)) where
  pub mask_value : {v : ℕ} → k ≡ Some v → eqb mask v ≡ is mask (known_value (sym_of x))
  mask_value h = rw (← e, h)

  pub mask-unknown : k ≡ None → false ≡ is mask (known_value (sym_of x))
  mask-unknown h = rw (← e, h)
