-- The contracts leave no choice: two results of one call are the same; of a run, all but what it leaves in its part of W beside the state's own cells.
-- Assumes nothing.
use mathlib.Core.Path.{◌≡◌, refl, sym, ap, ◌∙◌}
use mathlib.Core.Option.{Option}
use mathlib.Core.List.{List}
use Prim.Native.Nat.{ℕ, ◌+◌, ◌-◌, ◌*◌}
use native.Mathlib.Omega.{arith}
use Rattle.spec.specs.Stacks.{Sym}
use Rattle.lent.proofs.Once.{Same, Outside}
use Rattle.state.proofs.Once.{one_symbol, one_lies}
use Rattle.state.proofs.States.{lies-count}
use Rattle.exec.specs.Modes.{mode_of}
use Rattle.exec.specs.Owns.{goes_of, room_of, Runs, Owned}
use Rattle.exec.specs.declared.mode.Mode.{Mode}
use Rattle.exec.specs.declared.mode.Mode.TheVariants.{Plain, KnownZero}
use Rattle.std.specs.Prelude as std
use Rattle.std.specs.Prelude.{Some, None}
use Rattle.state.specs.declared.sym.StackSym.{StackSym}
use Rattle.exec.specs.declared.run.Own.{Own}

one-goes : {x y : std.Option StackSym} {s : Option Sym} → goes_of x ≡ s → goes_of y ≡ s → x ≡ y
one-goes {x = Some x} {y = Some y} p q = ap Some (one_symbol {x = x} {y = y} refl (cc))
one-goes {x = Some x} {y = None} p q = cc
one-goes {x = None} {y = Some y} p q = cc
one-goes {x = None} {y = None} p q = refl

-- the state and where it goes; its cells; and all outside the part for runs
pub record OneRun (code : List ℕ) (end : ℕ) (w v : List ℕ) (r s : Own) : Type 0 where
  pub result : r ≡ s
  pub cells : Same w v r.at (9 * r.n)
  pub others : Outside (end - room_of code) (room_of code) w v

pub one-owned : {mode : ℕ} {code w v u : List ℕ} {start end : ℕ} {r s : Own} → Runs code w end → Owned mode code start w end v r → Owned mode code start w end u s
    → OneRun code end v u r s
one-owned {mode} {code} {w} {v} {u} {start} {end} {r} {s} a p q =
    let at : r.at ≡ s.at = omega (arith, p.place, q.place) in
    let n : r.n ≡ s.n = lies-count p.lies ∙ sym (lies-count q.lies) in
    let goes : r.goes ≡ s.goes = one-goes p.goes q.goes in
    let ends : end ≡ end - room_of code + room_of code = omega (arith, a.room) in
    record {
      result = λ i. record { at = at i; n = n i; goes = goes i };
      cells = one_lies p.lies (rw (← at, ← n) at q.lies);
      others = record {
        before = p.inside.front ∙ sym q.inside.front;
        after = rw (← ends) (p.inside.back ∙ sym q.inside.back);
        long = p.inside.kept ∙ sym q.inside.kept;
      };
    }

-- the mode of a number
pub one-mode : (a b : Mode) {m : ℕ} → mode_of a ≡ m → mode_of b ≡ m → a ≡ b
one-mode Plain Plain p q = refl
one-mode Plain KnownZero p q = absurd (omega (arith, p, q))
one-mode KnownZero Plain p q = absurd (omega (arith, p, q))
one-mode KnownZero KnownZero p q = refl
