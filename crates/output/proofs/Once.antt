-- Once the bytes fit, there is one outcome of what is put. Assumes nothing.
use mathlib.Core.Path.{◌≡◌, sym, ◌∙◌}
use mathlib.Core.List.{List}
use Prim.Native.Nat.{ℕ, ◌≤◌}
use lib.ListN.{length}
use Rattle.output.specs.declared.Output.{Output}
use Rattle.output.specs.Promises.{Puts}

pub one-put : {k : ℕ} {o o₁ o₂ : Output} {bs : List ℕ} → Puts k o bs o₁ → Puts k o bs o₂ → o₁.end ≤ length o.bytes.now
    → (o₁.end ≡ o₂.end) × (o₁.bytes.now ≡ o₂.bytes.now)
one-put p q h = let e = p.next ∙ sym q.next in (e, p.stored h ∙ sym (q.stored (rw (← e) h)))
