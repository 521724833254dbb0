-- The contracts leave no choice: two results of one call are the same. Assumes nothing.
use mathlib.Core.Path.{◌≡◌, refl, sym, ap, ◌∙◌}
use mathlib.Core.Bool.{Bool}
use mathlib.Core.List.{List}
use Prim.Native.Nat.{ℕ, ◌≤◌, ◌<◌}
use native.Mathlib.Decide.{dec_lt}
use native.Mathlib.Omega.{arith}
use Rattle.std.specs.Prelude.{Option, Some, None}
use lib.ListN.{length}
use Rattle.spec.specs.Rooms.{units}
use Rattle.entries.specs.declared.found.Span.{Span}
use Rattle.entries.specs.Links.{link_of}
use Rattle.entries.specs.Promises.{GoalOf, Answered, Writes, Written, PathsEnd, PathOf, FitsRoom}

pub one-answered : {bs out u v : List ℕ} {a e : Option ℕ} → Answered bs out u a → Answered bs out v e → (a ≡ e) × (u ≡ v)
one-answered {bs} {out} {u} {v} {a} {e} p q = go (dec_lt (units (length out) 1) (length bs))
  where
    go : Dec (units (length out) 1 < length bs) → (a ≡ e) × (u ≡ v)
    go (yes h) = ((p.short h).0 ∙ sym (q.short h).0, (p.short h).1 ∙ sym (q.short h).1)
    go (no h) = let l : length bs ≤ units (length out) 1 = omega arith in ((p.fits l).0 ∙ sym (q.fits l).0, (p.fits l).1 ∙ sym (q.fits l).1)

pub one_written : {w r q out u v : List ℕ} {n m energy choice : ℕ} {a e : Option ℕ} → Writes w r q n m energy → Written w r q n m energy choice out u a → Written w r q n m energy choice out v e
    → (a ≡ e) × (u ≡ v)
one_written h f g = one-answered (f.answer h.mode h.code h.recs h.ends) (g.answer h.mode h.code h.recs h.ends)

pub one-fits : {w r q : List ℕ} {n m energy choice room : ℕ} {b c : Bool} → Writes w r q n m energy → FitsRoom w r q n m choice room b → FitsRoom w r q n m choice room c → b ≡ c
one-fits {energy} h f g = f.is h.mode h.code h.recs energy h.ends ∙ sym (g.is h.mode h.code h.recs energy h.ends)

pub one-begin : {r : List ℕ} {i d e : ℕ} → PathsEnd r i d → PathsEnd r i e → d ≡ e
one-begin p q = p.is ∙ sym q.is

pub one-path : {r : List ℕ} {i : ℕ} {s t : Span} → PathOf r i s → PathOf r i t → s ≡ t
one-path p q =
    let from = p.begins ∙ sym q.begins in
    let steps = p.steps ∙ sym q.steps in
    λ i. record { from = from i; steps = steps i }

pub one-row : {k : ℕ} {x y : Option ℕ} → link_of x ≡ k → link_of y ≡ k → x ≡ y
one-row {k} {x} {y} p q = go x y (p ∙ sym q)
  where
    go : (x y : Option ℕ) → link_of x ≡ link_of y → x ≡ y
    go None None e = refl
    go None (Some j) e = absurd (omega arith)
    go (Some i) None e = absurd (omega arith)
    go (Some i) (Some j) e = let same : i ≡ j = omega arith in ap Some same

pub one-goal : {r : List ℕ} {i : ℕ} {x y : Option ℕ} → GoalOf r i x → GoalOf r i y → x ≡ y
one-goal p q = p.is ∙ sym q.is
