-- The laws of the stack in hand: what pushing and popping make of it, and what is read of it. Assumes nothing.
use mathlib.Core.Path.{◌≡◌, refl, sym, ap, ◌∙◌}
use mathlib.Core.List.{List, ◌∷◌}
use Prim.Native.Nat.{ℕ, ◌+◌, ◌-◌, ◌*◌, ◌≤◌, ◌<◌, min}
use native.Mathlib.Omega.{arith}
use native.Mathlib.Decide.{dec_le}
use lib.ListN.{drop, drop_of_length-le}
use Rattle.spec.specs.Stacks.{Sym, before, Stack, read, pops, push}
use Rattle.lent.proofs.Stored.{kept-take, kept-drop}
use Rattle.state.specs.Cells.{sym_at, syms_at, Put}
use Rattle.exec.specs.Working.{stack_of, end_of, popped, Held, Free, Ready, Becomes}
use Rattle.exec.specs.declared.top.Top.{Top}
use Rattle.state.proofs.Syms.{length-syms, syms-none, syms-drop, reads-inside, reads-below, cells_rest}
use Rattle.state.proofs.Puts.{before-syms, before-cells}

-- ---- one more

pub becomes-push : {w w' : List ℕ} (x : Sym) (t : Top) → Free w t → Put w (t.at - 9) x w'
    → Becomes w t (push x (stack_of w t)) w' (record { at = t.at - 9; n = t.n + 1; base = t.base })
unfolding stack_of
becomes-push {w} {w'} x t f p =
    let e : t.at - 9 + 9 ≡ t.at = omega (arith, f.free) in
    let syms : syms_at w' (t.at - 9) (t.n + 1) ≡ x ∷ syms_at w t.at t.n = rw e at (before-syms p t.n) in
    record {
      is = λ i. record { above = syms i; base = t.base };
      moves = record {
        held = record { inside = omega (arith, f.held.inside, p.stored.kept); cells = before-cells p t.n (rw e f.held.cells) };
        ends = omega arith;
        front = kept-take p.stored (t.at - 9) (omega arith);
        back = kept-drop p.stored (end_of t) (omega arith);
      };
    }

pub becomes-read : {w w' : List ℕ} {t t' : Top} (x y : Sym) (s : Stack) → x ≡ y → Becomes w t (push x s) w' t' → Becomes w t (push y s) w' t'
becomes-read x y s e b = rw (← e) b

-- ---- some fewer

module _ (t : Top) (k : ℕ) where
  pub pops-inside : k ≤ t.n → ◌≡◌ {A = Top} (record { at = t.at + 9 * k; n = t.n - k; base = t.base }) (popped k t)
  pops-inside h =
      let a : t.at + 9 * k ≡ t.at + 9 * min k t.n = omega arith in
      let b : t.base ≡ t.base + (k - t.n) = omega arith in
      λ i. record { at = a i; n = t.n - k; base = b i }

  pub pops-past : t.n < k → ◌≡◌ {A = Top} (record { at = t.at + 9 * t.n; n = 0; base = t.base + (k - t.n) }) (popped k t)
  pops-past h =
      let a : t.at + 9 * t.n ≡ t.at + 9 * min k t.n = omega arith in
      let m : 0 ≡ t.n - k = omega arith in
      λ i. record { at = a i; n = m i; base = t.base + (k - t.n) }

popped-syms : (w : List ℕ) (t : Top) (k : ℕ) → syms_at w (popped k t).at (popped k t).n ≡ drop k (syms_at w t.at t.n)
popped-syms w t k = go (dec_le k t.n)
  where
    go : Dec (k ≤ t.n) → syms_at w (popped k t).at (popped k t).n ≡ drop k (syms_at w t.at t.n)
    go (yes h) = let e : min k t.n ≡ k = omega arith in rw e (sym (syms-drop w t.at t.n k h))
    go (no h) =
        let l = length-syms w t.at t.n in
        let z : t.n - k ≡ 0 = omega arith in
        rw z (syms-none w (popped k t).at ∙ sym (drop_of_length-le (syms_at w t.at t.n) {i = k} (omega arith)))

module _ {w : List ℕ} (t : Top) (k : ℕ) where
  pub becomes-pops : Held w t → Becomes w t (pops k (stack_of w t)) w (popped k t)
  unfolding stack_of
  becomes-pops h =
      let l = length-syms w t.at t.n in
      let rest : min k t.n + (t.n - k) ≡ t.n = omega arith in
      record {
        is = rw l (λ i. record { above = popped-syms w t k i; base = t.base + (k - t.n) });
        moves = record {
          held = record { inside = omega (arith, h.inside); cells = cells_rest w t.at (min k t.n) (t.n - k) (rw rest h.cells) };
          ends = omega arith;
          front = refl;
          back = refl;
        };
      }

  module _ {u : Top} (e : u ≡ popped k t) where
    pub free-popped : Ready w t → Free w u
    free-popped f = rw e (record { held = (becomes-pops f.free.held).moves.held; free = omega (arith, f.free.free) })

    pub replaced : {w' : List ℕ} {r : Top} (x : Sym) → Ready w t → Becomes w u (push x (stack_of w u)) w' r → Becomes w t (push x (pops k (stack_of w t))) w' r
    replaced x f b =
        let p = rw (← e) at (becomes-pops f.free.held) in
        record {
          is = b.is ∙ ap (push x) p.is;
          moves = record {
            held = b.moves.held;
            ends = b.moves.ends ∙ p.moves.ends;
            front = b.moves.front;
            back = rw p.moves.ends at b.moves.back;
          };
        }

-- ---- what is read

module _ (w : List ℕ) (t : Top) (k : ℕ) where
  pub read-inside : (x : Sym) → x ≡ sym_at w (t.at + 9 * k) → k < t.n → x ≡ read (stack_of w t) k
  unfolding stack_of read
  read-inside x e h = e ∙ sym (reads-inside w t.at t.n t.base k h)

  pub read_past : t.n ≤ k → before (t.base + (k - t.n)) ≡ read (stack_of w t) k
  unfolding stack_of read
  read_past h =
      let l = length-syms w t.at t.n in
      ap (λ (m : ℕ). before (t.base + (k - m))) (sym l) ∙ sym (reads-below (syms_at w t.at t.n) t.base k (omega arith))
