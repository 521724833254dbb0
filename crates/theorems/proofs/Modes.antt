-- Change request No. 6, "Known zero": what the mode changes. It is PUSH0's symbol and nothing else; the cutting does not know of modes. Assumes nothing.
use Prim.Native.Nat.{ℕ, suc}
use native.Mathlib.Nat.{zero-sub, add-zero}
use mathlib.Core.Path.{◌≡◌, refl, ap}
use mathlib.Core.List.{List}
use Rattle.spec.specs.Lists.{if}
use Rattle.spec.specs.Opcodes.{Row, row as listed}
use Rattle.spec.specs.Walk.{Ins}
use Rattle.spec.specs.Stacks.{Stack, push, from_value, other, does, act}
pub use Rattle.laws.proofs.Modes.{same-elsewhere}
use Rattle.theorems.proofs.Counts.{named, Lawful}
use Rattle.theorems.proofs.Walking.{Stands}

module _ (row : ℕ → Row) (code : List ℕ) (i : Ins) (s : Stack) where
  -- In mode 1 PUSH0 gives the known value 0, "a Jumpdest if byte 0 is 5B".
  pub zero-known : (m : ℕ) → Stands code i → i.op ≡ 0x5F → act row code i (does (suc m) i.op) s ≡ push (from_value code 0) s
  unfolding does act if
  zero-known m stands e = rw e (ap (λ (v : ℕ). push (from_value code v) s) (rw e at stands.number))

  -- In mode 0 it gives Other.
  pub zero-other : Lawful row → i.op ≡ 0x5F → act row code i (does 0 i.op) s ≡ push (other i.pc) s
  unfolding does act listed named if
  zero-other ok e = rw (e, ok.named_as 0x5F refl, zero-sub, add-zero)
