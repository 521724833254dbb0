-- What is still lent after a call is so after two. Assumes nothing.
use mathlib.Core.Path.{refl, ◌∙◌}
use Prim.Native.Nat.{ℕ}
use mathlib.Core.List.{List}
use Rattle.std.specs.Borrow.{MutBor}
use Rattle.layout.specs.declared.buffers.Buffers.{Buffers}
use Rattle.enter.specs.Lent.{SameLoan, StillLent}

same-loan : {x : MutBor (List ℕ)} → SameLoan x x
same-loan = record { same = refl; long = refl }

loan-then : {x y z : MutBor (List ℕ)} → SameLoan x y → SameLoan y z → SameLoan x z
loan-then a b = record { same = b.same ∙ a.same; long = b.long ∙ a.long }

pub still-lent : {x : Buffers} → StillLent x x
still-lent = record { w = same-loan; p = same-loan; s = same-loan; t = same-loan; r = same-loan; q = same-loan }

pub lent-then : {x y z : Buffers} → StillLent x y → StillLent y z → StillLent x z
lent-then a b = record {
  w = loan-then a.w b.w;
  p = loan-then a.p b.p;
  s = loan-then a.s b.s;
  t = loan-then a.t b.t;
  r = loan-then a.r b.r;
  q = loan-then a.q b.q;
}
