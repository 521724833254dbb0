-- A block's own run, one instruction after the other: what is left to run from here ends where the whole run ends. Assumes nothing.
use mathlib.Core.Path.{◌≡◌, refl, sym, ap, ◌∙◌}
use mathlib.Core.Bool.{Bool, true, false}
use mathlib.Core.List.{List, [], ◌∷◌}
use Prim.Native.Nat.{ℕ, suc, ◌+◌, ◌-◌, ◌*◌, ◌≤◌, ◌<◌}
use native.Mathlib.Omega.{arith}
use lib.Dec.{eqb}
use lib.ListN.{length, get_or, drop}
use mir.Syntax.{w8}
use mir.Val.{Fits}
use Rattle.spec.specs.Lists.{if}
use Rattle.spec.specs.Opcodes.{row, in_mode}
use Rattle.spec.specs.Walk.{Ins, ins, walk}
use Rattle.spec.specs.Stacks.{Sym, Stack, entry, Does, pushes_value, pushes_pc, dups, swaps, ands, adds, jumps, jumpis, lands, halts, plain, does, act, Ran, still, after, runs, before, cells, trims, trim, own}
use Rattle.lent.proofs.Parts.{take_less}
use Rattle.lent.proofs.Stored.{kept-take, kept-drop}
use Rattle.std.specs.Borrow.{Bor}
use Rattle.evm.specs.Walker.{walker_at, Walks}
use Rattle.evm.specs.declared.walker.Walker.{Walker}
use Rattle.evm.specs.declared.walk.Instruction.{Instruction}
use Rattle.std.specs.Prelude.{Option, Some, None}
use Rattle.evm.proofs.Steps.{Took}
use Rattle.evm.proofs.Walkers.{walks-took, walks-next, walks-ended}
use Rattle.state.specs.Cells.{syms_at, Put, depth, Lies}
use Rattle.state.specs.Symbols.{sym_of}
use Rattle.exec.specs.Working.{stack_of, end_of, Held}
use Rattle.exec.specs.Steps.{Next, on, ends, leaps, turn, next, go_on, next_of, top_of, Steps, Turns}
use Rattle.exec.specs.Bounds.{Bounded}
use Rattle.exec.specs.Owns.{goes_of, far, room_of, Runs, Inside, ran_of, ToEnd, Trims, Owned}
use Rattle.state.specs.declared.sym.StackSym.{StackSym}
use Rattle.exec.specs.declared.top.Top.{Top}
use Rattle.exec.specs.declared.step.Stepped.{Stepped}
use Rattle.exec.specs.declared.step.Stepped.TheVariants.{On, Ends, Jumps}
use Rattle.exec.specs.declared.run.End.{End}
use Rattle.state.proofs.Syms.{length-syms, syms-none, cells-none}
use Rattle.exec.proofs.Bounds.{bounded-entry, bounded-later, bounded-reach, bounded-act}
use Rattle.state.proofs.Reach.{depth-read, reach-trim}
use Rattle.state.proofs.States.{lies-count}
use Rattle.state.proofs.Puts.{put-syms, after-cells}
use Rattle.exec.proofs.Trims.{fewer-trims}

-- ---- one instruction of the run

module _ (m : ℕ) (code : List ℕ) (start : ℕ) (i : Ins) (is : List Ins) (s : Stack) where
  either : (b : Bool) (t : Stack) → if b (runs (in_mode m) code start is t) (still s) ≡ go_on (runs (in_mode m) code start is) (if b (on t) (ends s))
  unfolding if
  either true t = refl
  either false t = refl

  after_turn : (d : Does) (t : Stack) → after start i s t (runs (in_mode m) code start is t) d ≡ go_on (runs (in_mode m) code start is) (turn start i s t d)
  after_turn pushes_value t = refl
  after_turn pushes_pc t = refl
  after_turn (dups n) t = refl
  after_turn (swaps n) t = refl
  after_turn ands t = refl
  after_turn adds t = refl
  after_turn jumps t = refl
  after_turn jumpis t = refl
  after_turn lands t = either (eqb i.pc start) t
  after_turn halts t = refl
  after_turn plain t = refl

  runs-next : runs (in_mode m) code start (i ∷ is) s ≡ go_on (runs (in_mode m) code start is) (next m code start i s)
  unfolding next
  runs-next = after_turn (does m i.op) (act row code i (does m i.op) s)

-- how deep the jump's symbol reaches, if there is one
far_in : Next → ℕ
far_in (on s) = 0
far_in (ends s) = 0
far_in (leaps s x) = depth x

-- the stack that is left
stack_in : Next → Stack
stack_in (on s) = s
stack_in (ends s) = s
stack_in (leaps s x) = s

stack-in : (w : List ℕ) (r : Stepped) → stack_in (next_of w r) ≡ stack_of w (top_of r)
unfolding stack_in
stack-in w (On t) = refl
stack-in w (Ends t) = refl
stack-in w (Jumps t x) = refl

module _ (m : ℕ) {k : ℕ} {s : Stack} (b : Bounded k s) (code : List ℕ) (start : ℕ) (i : Ins) where
  bounded-if : (c : Bool) (t : Stack) → Bounded (suc k) t → Bounded (suc k) (stack_in (if c (on t) (ends s)))
  unfolding if stack_in
  bounded-if true t h = h
  bounded-if false t h = bounded-later (omega arith) b

  bounded-turn : (d : Does) (t : Stack) → Bounded (suc k) t → Bounded (suc k) (stack_in (turn start i s t d))
  unfolding stack_in
  bounded-turn pushes_value t h = h
  bounded-turn pushes_pc t h = h
  bounded-turn (dups n) t h = h
  bounded-turn (swaps n) t h = h
  bounded-turn ands t h = h
  bounded-turn adds t h = h
  bounded-turn jumps t h = h
  bounded-turn jumpis t h = h
  bounded-turn lands t h = bounded-if (eqb i.pc start) t h
  bounded-turn halts t h = h
  bounded-turn plain t h = h

  far-if : (c : Bool) (t : Stack) → far_in (if c (on t) (ends s)) ≤ 17 * k + 16
  unfolding if far_in
  far-if true t = omega arith
  far-if false t = omega arith

  far-turn : (d : Does) (t : Stack) → far_in (turn start i s t d) ≤ 17 * k + 16
  unfolding far_in
  far-turn pushes_value t = omega arith
  far-turn pushes_pc t = omega arith
  far-turn (dups n) t = omega arith
  far-turn (swaps n) t = omega arith
  far-turn ands t = omega arith
  far-turn adds t = omega arith
  far-turn jumps t = omega (arith, depth-read s 0, bounded-reach b)
  far-turn jumpis t = omega (arith, depth-read s 0, bounded-reach b)
  far-turn lands t = far-if (eqb i.pc start) t
  far-turn halts t = omega arith
  far-turn plain t = omega arith

  far-next : far_in (next m code start i s) ≤ 17 * k + 16
  unfolding next
  far-next = far-turn (does m i.op) (act row code i (does m i.op) s)

  bounded-next : i.op < 0x100 → Bounded (suc k) (stack_in (next m code start i s))
  unfolding next
  bounded-next h = bounded-turn (does m i.op) _ (bounded-act b m code i (does m i.op) h refl)

-- ---- the loop

pub record Running (mode : ℕ) (code : List ℕ) (start : ℕ) (w₀ : List ℕ) (end : ℕ) (w : List ℕ) (v : Walker) (t : Top) : Type 0 where
  pub over : v.code.now ≡ code
  pub rest : runs (in_mode mode) code start (walk (drop v.at code) v.at 0) (stack_of w t) ≡ runs (in_mode mode) code start (walk (drop start code) start 0) entry
  pub passed : start ≤ v.at
  pub within : v.at - start ≤ length code
  pub bounded : Bounded (v.at - start) (stack_of w t)
  pub held : Held w t
  pub ends : end_of t ≡ end
  pub inside : Inside code w₀ end w

module _ {mode : ℕ} {code : List ℕ} {start : ℕ} {w₀ : List ℕ} {end : ℕ} (q : Runs code w₀ end) where
  pub running-start : {v : Walker} {b : Bor (List ℕ)} → v ≡ walker_at b start → b.now ≡ code → Running mode code start w₀ end w₀ v (record { at = end - 9; n = 0; base = 0 })
  unfolding stack_of
  running-start {v} e f =
      let p : v.at ≡ start = ap (λ (u : Walker). u.at) e in
      let none : syms_at w₀ (end - 9) 0 ≡ [] = syms-none w₀ (end - 9) in
      let z : start - start ≡ 0 = omega arith in
      record {
        over = ap (λ (u : Walker). u.code.now) e ∙ f;
        rest = rw (p, none);
        passed = omega arith;
        within = omega arith;
        bounded = rw (p, none, z) bounded-entry;
        held = record { inside = omega (arith, q.inside, q.room); cells = cells-none (omega (arith, q.inside)) };
        ends = omega (arith, q.room);
        inside = record { front = refl; back = refl; kept = refl };
      }

  module _ {w : List ℕ} {v v' : Walker} {t : Top} (l : Running mode code start w₀ end w v t) {r : Option Instruction} (s : Walks v r v') where
    -- at the end of the code
    pub ended-none : r ≡ None → ToEnd mode code start w₀ end w (record { top = t; goes = None })
    ended-none f =
        record {
          is = rw (rw l.over at (walks-ended s f)) at l.rest;
          bounded = bounded-later l.within l.bounded;
          near = omega arith;
          held = l.held;
          ends = l.ends;
          inside = l.inside;
        }

    module _ {now : Instruction} (f : r ≡ Some now) where
      took-here : Took code v.at now.pc now.op now.next
      took-here = rw l.over at (walks-took s f)

      pub running-steps : Steps code now.pc now.op w t
      unfolding stack_of
      running-steps =
          let k = took-here in
          record {
            whole = omega (arith, k.size, k.inside, k.here);
            short = q.short;
            room = omega (arith, q.room, l.ends);
            held = l.held;
            few = omega (arith, l.bounded.few, length-syms w t.at t.n, k.here);
            low = omega (arith, l.bounded.low, k.here);
          }

      -- after one more
      module _ {w' : List ℕ} {x : Stepped} (bytes : (j : ℕ) → Fits w8 (get_or code j 0)) (d : Turns w t (next mode code start (ins now.pc now.op (drop (now.pc + 1) code)) (stack_of w t)) w' x) (kept : length w' ≡ length w) where
        i : Ins
        i = ins v.at now.op (drop (v.at + 1) code)

        due : next_of w' x ≡ next mode code start i (stack_of w t)
        unfolding i
        due = rw took-here.here at d.is

        rest : go_on (runs (in_mode mode) code start (walk (drop now.next code) now.next 0)) (next_of w' x) ≡ runs (in_mode mode) code start (walk (drop start code) start 0) entry
        unfolding i
        rest =
            ap (go_on (runs (in_mode mode) code start (walk (drop now.next code) now.next 0))) due
            ∙ sym (runs-next mode code start i (walk (drop now.next code) now.next 0) (stack_of w t))
            ∙ ap (λ (is : List Ins). runs (in_mode mode) code start is (stack_of w t)) (sym took-here.walks)
            ∙ l.rest

        small : now.op < 0x100
        small = omega (arith, took-here.byte, bytes v.at)

        later : Bounded (now.next - start) (stack_of w' (top_of x))
        unfolding i
        later =
            let k = took-here in
            let b = bounded-next mode l.bounded code start i small in
            let m : suc (v.at - start) ≤ now.next - start = omega (arith, k.size, l.passed) in
            rw (← stack-in w' x, due) (bounded-later m b)

        within : now.next - start ≤ length code
        within = omega (arith, took-here.inside)

        inside : Inside code w₀ end w'
        unfolding stack_of
        inside =
            let m = d.moves in
            let long = length-syms w' (top_of x).at (top_of x).n in
            let lo : end - room_of code ≤ (top_of x).at = omega (arith, later.few, long, m.ends, l.ends, within) in
            record {
              front = take_less w' w (top_of x).at m.front (end - room_of code) lo ∙ l.inside.front;
              back = rw l.ends at m.back ∙ l.inside.back;
              kept = kept ∙ l.inside.kept;
            }

        pub running-on : {u : Top} → x ≡ On u → Running mode code start w₀ end w' v' u
        running-on {u} g =
            let p : v'.at ≡ now.next = ap (λ (u : Walker). u.at) (walks-next s f) in
            record {
              over = ap (λ (u : Walker). u.code.now) (walks-next s f) ∙ l.over;
              rest = rw p (rw g at rest);
              passed = omega (arith, p, l.passed, took-here.size);
              within = omega (arith, p, within);
              bounded = rw p (rw g at later);
              held = rw g at d.moves.held;
              ends = rw g at d.moves.ends ∙ l.ends;
              inside = inside;
            }

        ended_by : (y : End) → top_of x ≡ y.top → go_on (runs (in_mode mode) code start (walk (drop now.next code) now.next 0)) (next_of w' x) ≡ ran_of w' y → far (goes_of y.goes) ≤ 17 * length code + 16 → ToEnd mode code start w₀ end w' y
        ended_by y g h n =
            record {
              is = sym h ∙ rest;
              bounded = rw g at (bounded-later within later);
              near = n;
              held = rw g at d.moves.held;
              ends = rw g at d.moves.ends ∙ l.ends;
              inside = inside;
            }

        jump-near : {u : Top} {y : StackSym} → x ≡ Jumps u y → depth (sym_of y) ≤ 17 * length code + 16
        unfolding i far_in
        jump-near {y} g =
            let e : depth (sym_of y) ≡ far_in (next_of w' x) = rw g in
            let f = far-next mode l.bounded code start i in
            omega (arith, e, ap far_in due, f, l.within)

        pub ended-ends : {u : Top} → x ≡ Ends u → ToEnd mode code start w₀ end w' (record { top = u; goes = None })
        ended-ends g = ended_by _ (rw g) (rw g) (omega arith)

        pub ended-jumps : {u : Top} {y : StackSym} → x ≡ Jumps u y → ToEnd mode code start w₀ end w' (record { top = u; goes = Some y })
        ended-jumps g = ended_by _ (rw g) (rw g) (jump-near g)

-- ---- the whole run: the bottom's cell is put, and what the numbering gives is left to it

module _ {mode : ℕ} {code : List ℕ} {start : ℕ} {w : List ℕ} {end : ℕ} {w₁ w₂ : List ℕ} {r : End} (q : Runs code w end) (d : ToEnd mode code start w end w₁ r)
    (p : Put w₁ (end - 9) (before r.top.base) w₂) where
  at : ℕ
  at = r.top.at

  n : ℕ
  n = r.top.n

  place : end - 9 ≡ at + 9 * n
  unfolding at n
  place = omega (arith, d.ends)

  put : Put w₁ (at + 9 * n) (before r.top.base) w₂
  unfolding at n
  put = rw place at p

  pub owned-trims : Trims w₂ r.top.at r.top.n r.top.base
  unfolding at n
  owned-trims = record { cells = after-cells at n put d.held.cells; bottom = put.reads }

  own-stack : trims (syms_at w₂ at n) r.top.base ≡ (own (in_mode mode) code start).stack
  unfolding at n trim stack_of
  own-stack =
      ap (λ (xs : List Sym). trims xs r.top.base) (put-syms put at n (λ h. omega arith))
      ∙ ap (λ (x : Ran). trim x.stack) d.is

  module _ {m : ℕ} (l : Lies w₂ r.top.at m (trims (syms_at w₂ r.top.at r.top.n) r.top.base)) where
    few : m ≤ n + 1
    unfolding at n
    few = omega (arith, lies-count l, fewer-trims (syms_at w₂ at n) r.top.base, length-syms w₂ at n)

    pub owned : Owned mode code start w end w₂ (record { at = r.top.at; n = m; goes = r.goes })
    unfolding at n trim stack_of
    owned =
        let b = bounded-reach d.bounded in
        let s : Stack = stack_of w₁ r.top in
        let x : (own (in_mode mode) code start).stack ≡ trim s = ap (λ (x : Ran). trim x.stack) (sym d.is) in
        record {
          lies = rw own-stack at l;
          goes = ap (λ (x : Ran). x.goes) d.is;
          reach = rw x (omega (arith, reach-trim s, b));
          near = d.near;
          place = ap (λ (x : Ran). at + 9 * cells x.stack) (sym d.is) ∙ omega (arith, length-syms w₁ at n, d.ends);
          low = omega (arith, d.bounded.few, length-syms w₁ at n, d.ends);
          high = omega (arith, few, d.ends);
          inside = record {
            front = kept-take p.stored (end - room_of code) (omega (arith, q.room)) ∙ d.inside.front;
            back = kept-drop p.stored end (omega (arith, q.room)) ∙ d.inside.back;
            kept = p.stored.kept ∙ d.inside.kept;
          };
        }
