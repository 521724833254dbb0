-- Document 02, No. 7: what a block knows of its words, told on words alone, is what its symbols know; so what is asked of a block's run without naming a
-- symbol is what "Meaning to prove" asks. Assumes nothing.
use Prim.Native.Nat.{ℕ, zero, suc, ◌+◌, ◌^◌}
use mathlib.Core.Path.{◌≡◌, refl, sym, ap, ◌∙◌}
use mathlib.Core.Bool.{Bool, true, false}
use mathlib.Core.Option.{Option, none, some}
use mathlib.Core.List.{List, [], ◌∷◌}
use lib.Dec.{eqb, ltb}
use lib.ListN.{get_or, replicate}
use Rattle.spec.specs.Lists.{if}
use Rattle.spec.specs.Opcodes.{Rules}
use Rattle.spec.specs.Walk.{Ins}
use Rattle.spec.specs.Stacks.{Sym, other, Stack, entry, read, pops, push, pushes, swap, from_value, known_value, mask, is, anded, summed, Does, pushes_value, pushes_pc, dups, swaps, ands, adds, jumps, jumpis, lands, halts, plain, does, act}
use Rattle.spec.specs.Meaning.{Throughout, Deep, Masked, Asked}
use Rattle.spec.specs.PathMeaning.{Knowing, unaware, on_top, unknowns, without, crossed, sum_of, masked_of, knows, Runs}
use Rattle.laws.proofs.Branch.{both}
use Rattle.theorems.proofs.Beside.{read-pops, read-swap}

-- ---- what a block knows is what its symbols know

pub record Aware (s : Stack) (k : Knowing) : Type 0 where
  pub at : (n : ℕ) → k n ≡ known_value (read s n)

known_from : (code : List ℕ) (v : ℕ) → some v ≡ known_value (from_value code v)
known_from code v = both (λ (x : Sym). some v ≡ known_value x) (eqb (get_or code v 0) 0x5B) (λ _. refl) (λ _. refl)

-- one of two
known-if : (t : Bool) (x y : Sym) {v w : Option ℕ} → v ≡ known_value x → w ≡ known_value y → if t v w ≡ known_value (if t x y)
unfolding if
known-if true x y e f = e
known-if false x y e f = f

known-summed : (code : List ℕ) (pc : ℕ) (a b : Option ℕ) → sum_of a b ≡ known_value (summed code pc a b)
known-summed code pc none none = refl
known-summed code pc none (some w) = refl
known-summed code pc (some v) none = refl
known-summed code pc (some v) (some w) = known-if (ltb (v + w) (2 ^ 64)) _ _ (known_from code (v + w)) refl

known-anded : (pc : ℕ) (a b : Sym) → masked_of (known_value a) (known_value b) ≡ known_value (anded pc a b)
known-anded pc a b = known-if (is mask (known_value a)) _ _ refl (known-if (is mask (known_value b)) _ _ refl refl)

aware-push : (x : Sym) (v : Option ℕ) → v ≡ known_value x → {s : Stack} {k : Knowing} → Aware s k → Aware (push x s) (on_top v k)
unfolding read
aware-push x v e h = record { at = elim [ zero ↦ e | suc n ↦ h.at n ] }

aware-pops : (m : ℕ) {s : Stack} {k : Knowing} → Aware s k → Aware (pops m s) (without m k)
aware-pops m {s} h = record { at = λ n. h.at (m + n) ∙ ap known_value (sym (read-pops m s n)) }

aware-others : (pc m : ℕ) {s : Stack} {k : Knowing} → Aware s k → Aware (pushes (replicate m (other pc)) s) (unknowns m k)
aware-others pc zero h = h
aware-others pc (suc m) h = aware-push (other pc) none refl (aware-others pc m h)

aware-swap : (m : ℕ) {s : Stack} {k : Knowing} → Aware s k → Aware (swap m s) (crossed (suc m) k)
aware-swap m {s} h = record {
  at = λ n. known-if (eqb n 0) _ _ (h.at (suc m)) (known-if (eqb n (suc m)) _ _ (h.at 0) (h.at n)) ∙ ap known_value (sym (read-swap m s n));
}

module _ (rules : Rules) where
  aware-act : (code : List ℕ) (i : Ins) (d : Does) {s : Stack} {k : Knowing} → Aware s k → Aware (act rules.row code i d s) (knows rules.row i d k)
  unfolding act
  aware-act code i pushes_value h = aware-push _ _ (known_from code i.arg) h
  aware-act code i pushes_pc h = aware-push _ _ (known_from code i.pc) h
  aware-act code i (dups n) h = aware-push _ _ (h.at n) h
  aware-act code i (swaps n) h = aware-swap n h
  aware-act code i ands {s} h = aware-push _ _ (rw (h.at 0, h.at 1) (known-anded i.pc (read s 0) (read s 1))) (aware-pops 2 h)
  aware-act code i adds {s} h = aware-push _ _ (rw (h.at 0, h.at 1) (known-summed code i.pc (known_value (read s 0)) (known_value (read s 1)))) (aware-pops 2 h)
  aware-act code i jumps h = aware-pops 1 h
  aware-act code i jumpis h = aware-pops 2 h
  aware-act code i lands h = h
  aware-act code i halts h = aware-others i.pc (rules.row i.op).given (aware-pops (rules.row i.op).taken h)
  aware-act code i plain h = aware-others i.pc (rules.row i.op).given (aware-pops (rules.row i.op).taken h)

  -- ---- what is asked

  module _ (code : List ℕ) (supply : ℕ → ℕ → ℕ) (start : ℕ) where
    deep-runs : (is : List Ins) (s : Stack) (k : Knowing) (st : List ℕ) → Aware s k → Runs rules supply start is k st → Throughout rules code supply start (Deep rules.row) is s st
    deep-runs [] s k st h r = tt
    deep-runs (i ∷ is) s k st h r = (r.0.deep, λ off. deep-runs is _ _ _ (aware-act code i (does rules.mode i.op) h) (r.1 off))

    masked-runs : (is : List Ins) (s : Stack) (k : Knowing) (st : List ℕ) → Aware s k → Runs rules supply start is k st → Throughout rules code supply start Masked is s st
    masked-runs [] s k st h r = tt
    masked-runs (i ∷ is) s k st h r = (
      (λ e. record { top = λ on. r.0.top e (rw (h.at 0) on); next = λ off on. r.0.next e (rw (h.at 0) off) (rw (h.at 1) on) }),
      λ off. masked-runs is _ _ _ (aware-act code i (does rules.mode i.op) h) (r.1 off),
    )

    runs-asked : (is : List Ins) (s : Stack) (k : Knowing) (st : List ℕ) → Aware s k → Throughout rules code supply start (Deep rules.row) is s st
        → Throughout rules code supply start Masked is s st → Runs rules supply start is k st
    runs-asked [] s k st h d m = tt
    runs-asked (i ∷ is) s k st h d m = (
      record { deep = d.0; top = λ e on. (m.0 e).top (rw (h.at 0) at on); next = λ e off on. (m.0 e).next (rw (h.at 0) at off) (rw (h.at 1) at on) },
      λ off. runs-asked is _ _ _ (aware-act code i (does rules.mode i.op) h) (d.1 off) (m.1 off),
    )

    aware-entry : Aware entry unaware
    unfolding read
    aware-entry = record { at = λ n. refl }

    -- The two say the same: on words alone, and with the symbols beside them.
    pub asked : (is : List Ins) (st : List ℕ) → Runs rules supply start is unaware st → Asked rules code supply start is st
    asked is st r = record { deep = deep-runs is entry unaware st aware-entry r; masked = masked-runs is entry unaware st aware-entry r }

    pub asked-back : (is : List Ins) (st : List ℕ) → Asked rules code supply start is st → Runs rules supply start is unaware st
    asked-back is st a = runs-asked is entry unaware st aware-entry a.deep a.masked
