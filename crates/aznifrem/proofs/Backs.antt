-- The six buffers behind a call that they were lent to together. Assumes nothing.
use mathlib.Core.Path.{◌≡◌, sym}
use mathlib.Core.List.{List}
use Prim.Native.Nat.{ℕ}
use Rattle.std.specs.Borrow.{MutBor}
use Rattle.layout.specs.Buffers.{buffers, held}
use Rattle.layout.specs.declared.buffers.Buffers.{Buffers}
use Rattle.enter.specs.Lent.{StillLent}

-- what stands behind a reference when its loan ends
abbrev pub Back : MutBor (List ℕ) → MutBor (List ℕ) → List ℕ → Type 0
Back x y v = x.ghost_name ≡ y.ghost_name → v ≡ y.now

pub six-back : {x y : Buffers} {w p s t r q : List ℕ} → StillLent x y → Back x.w y.w w → Back x.p y.p p → Back x.s y.s s → Back x.t y.t t → Back x.r y.r r → Back x.q y.q q
    → held y ≡ buffers w p s t r q
six-back l w p s t r q i = record {
  w = sym (w (sym l.w.same)) i;
  p = sym (p (sym l.p.same)) i;
  s = sym (s (sym l.s.same)) i;
  t = sym (t (sym l.t.same)) i;
  r = sym (r (sym l.r.same)) i;
  q = sym (q (sym l.q.same)) i;
}
