-- The six lent buffers, in document 01's order. Assumes nothing.
use Rattle.std.specs.Prelude.{List, ℕ}
use Rattle.layout.specs.declared.buffers.Buffers.{Buffers}

pub record Mem : Type 0 where
  pub w : List ℕ
  pub p : List ℕ
  pub s : List ℕ
  pub t : List ℕ
  pub r : List ℕ
  pub q : List ℕ

abbrev pub buffers : List ℕ → List ℕ → List ℕ → List ℕ → List ℕ → List ℕ → Mem
buffers w p s t r q = record { w = w; p = p; s = s; t = t; r = r; q = q }

-- what the buffers that travel together hold
abbrev pub held : Buffers → Mem
held lent = buffers lent.w.now lent.p.now lent.s.now lent.t.now lent.r.now lent.q.now
