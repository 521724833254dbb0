-- A parent's state behind a level's: what the calls ask, and what is answered, for a block's own state and for a kept one. Assumes nothing.
use mathlib.Core.Path.{◌≡◌, refl, sym, ap, ◌∙◌}
use Prim.Native.Nat.{ℕ, zero, suc, ◌+◌, ◌-◌, ◌*◌, ◌≤◌, ◌<◌}
use Rattle.std.specs.Prelude.{Ok, Err}
use Rattle.refusal.specs.declared.Shortage.TheVariants as short
use mathlib.Core.List.{List, [], ◌∷◌}
use native.Mathlib.Omega.{arith}
use lib.Dec.{ltb}
use borrow.Author.Tests.{lt-ltb, le-ltb, le-leb, lt-leb}
use Rattle.spec.specs.Opcodes.{in_mode}
use Rattle.spec.specs.Lists.{if}
use Rattle.spec.specs.Walk.{instructions}
use Rattle.spec.specs.Stacks.{Stack, cells, read, Ran, run, compose}
use Rattle.spec.specs.Search.{S}
use Rattle.laws.proofs.Branch.{if-true, if-false}
use Rattle.lent.specs.Bytes.{Holds}
use Rattle.lent.proofs.Stored.{kept-take, kept-drop}
use Rattle.layout.specs.Records.{record_place, R-KEPT, kept_of}
use Rattle.layout.specs.Rows.{start_of}
use Rattle.state.specs.Symbols.{sym_of}
use Rattle.state.specs.Cells.{stack_at, State, reach}
use Rattle.state.specs.Stored.{Readable}
use Rattle.state.specs.Composed.{Composes, ComposesKept, Composed}
use Rattle.state.specs.declared.sym.StackSym.{StackSym}
use Rattle.state.proofs.States.{state-lies, lies-count, own-walked}
use Rattle.state.proofs.Composing.{cells-compose}
use Rattle.tables.specs.Recording.{short_of}
use Rattle.tables.specs.declared.Rooms.{Rooms}
use Rattle.tables.specs.declared.Counts.{Counts}
use Rattle.steps.specs.Cursors.{stack_cursor}
use Rattle.steps.specs.States.{Composing, Took}
use Rattle.steps.specs.Plans.{mode_in}
use Rattle.steps.specs.declared.plan.Plan.{Plan}
use Rattle.steps.specs.Helds.{OwnAsks, Gave}
use Rattle.steps.specs.declared.own.StateAt.{StateAt}
use Rattle.steps.specs.declared.state_of.Taken.{Taken}
use Rattle.steps.specs.declared.state_of.Untaken.{Untaken}
use Rattle.steps.proofs.Helds.{BehindBuckets, Given, given}
use Rattle.steps.specs.declared.Level.{Level}

-- ---- the kept cells of the records before one

pub kept-none : {i : ℕ} (r : List ℕ) → i ≡ 0 → 0 ≡ kept_of r i
unfolding kept_of
kept-none r e = rw e

pub kept-some : (i v : ℕ) (r : List ℕ) → (i ≡ 0 → ⊥) → Holds 4 r (record_place (i - 1) + R-KEPT) v → v ≡ kept_of r i
unfolding kept_of
kept-some zero v r n h = absurd (n refl)
kept-some (suc i) v r n h = let e : suc i - 1 ≡ i = omega arith in rw e at h.is

-- ---- the stack that a number stands for

module _ (mode : ℕ) (code r s : List ℕ) (room at : ℕ) where
  pub cursor-own : at < 0x10000 → stack_cursor mode code r s room at ≡ (run (in_mode mode) code (instructions code) (start_of at)).stack
  unfolding stack_cursor
  cursor-own h = if-true (ltb at 0x10000) _ _ (lt-ltb at 0x10000 h)

  pub cursor-kept : 0x10000 ≤ at
      → stack_cursor mode code r s room at ≡ stack_at s (9 * (room - kept_of r (suc (at - 0x10000)))) (kept_of r (suc (at - 0x10000)) - kept_of r (at - 0x10000))
  unfolding stack_cursor
  cursor-kept h = if-false (ltb at 0x10000) _ _ (le-ltb at 0x10000 h)

-- ---- S is short, or not

-- what is told where S is short of a state of m cells
abbrev pub without : ℕ → StackSym → Untaken
without m y = record { short = short.S; taken = record { cells = m; symbol = y } }

module _ (k : Rooms) (units : ℕ) where
  one-short : k.s < units → 5 ≡ short_of k (record { room = S; units = units } ∷ [])
  unfolding short_of if
  one-short h = rw (lt-leb units k.s h)

  one-fits : units ≤ k.s → 0 ≡ short_of k (record { room = S; units = units } ∷ [])
  unfolding short_of if
  one-fits h = rw (le-leb units k.s h)

module _ {code w s r : List ℕ} {k : Plan} {c : Counts} {l : Level} {at : ℕ} (q : Composing code w s r k c l at) where
  C : Stack
  C = stack_at s (9 * l.from) l.cells

  P : Stack
  P = stack_cursor (mode_in k) code r s k.rooms.s at

  -- ---- either parent, which lies in b from `from` on, in n cells

  module _ {b : List ℕ} {from n : ℕ} (e : P ≡ stack_at b from n) (st : State b from n) where
    readable : Readable b from n l.position
    unfolding P
    readable = record { state = st; small = omega (arith, ap reach e, q.deeper, q.near) }

    module _ {base m : ℕ} (f : base ≡ (stack_at s (9 * l.from) l.cells).base) (g : m ≡ l.cells + (n - (base + 1))) where
      count : m ≡ cells (compose C (stack_at b from n))
      unfolding C
      count = omega (arith, cells-compose C (stack_at b from n), lies-count (state-lies s (9 * l.from) l.cells q.child), lies-count (state-lies b from n st))

      composes : c.kept + c.used + m ≤ k.rooms.s → Composes s (9 * l.from) l.cells (9 * c.used) b from n
      unfolding C P
      composes h =
          record {
            child_state = q.child;
            parent_state = st;
            apart = omega (arith, q.low);
            room = omega (arith, count, q.lent_s);
            small = omega (arith, ap reach e, q.deep, q.deeper);
          }

      module _ {w' : List ℕ} (o : BehindBuckets k code w w') where
        took-short : {y : StackSym} → sym_of y ≡ read (stack_at b from n) l.position → k.rooms.s < c.kept + c.used + m → Took code w s k c l P w' s (Err (without m y))
        unfolding C
        took-short z h =
            record {
              code_is = one-short k.rooms (c.kept + c.used + m) h;
              cells_are = rw e count;
              symbol_is = rw e z;
              fits = tt;
              lies = tt;
              refused = (refl, refl);
              bottom = refl;
              after = tt;
              top = refl;
              long_s = refl;
              helds = o.helds;
              front = o.front;
              back = o.back;
              long_w = o.long;
            }

        took-all : {y : StackSym} → sym_of y ≡ read (stack_at b from n) l.position → {s' : List ℕ} {v : ℕ} → c.kept + c.used + m ≤ k.rooms.s → Composed s (9 * c.used) (compose C (stack_at b from n)) s' v
            → Took code w s k c l P w' s' (Ok (record { cells = v; symbol = y }))
        unfolding C
        took-all x {s'} {v} h d =
            let room : c.kept + c.used + v ≤ k.rooms.s = omega (arith, count, d.count) in
            record {
              code_is = one-fits k.rooms (c.kept + c.used + v) room;
              cells_are = rw e d.count;
              symbol_is = rw e x;
              fits = room;
              lies = rw e d.lies;
              refused = tt;
              after = kept-drop d.stored (9 * (c.used + v)) (omega arith);
              bottom = kept-take d.stored (9 * c.used) (omega arith);
              top = kept-drop d.stored (9 * (k.rooms.s - c.kept)) (omega arith);
              long_s = d.stored.kept;
              helds = o.helds;
              front = o.front;
              back = o.back;
              long_w = o.long;
            }

  -- ---- a block's own state, which stands in W

  module _ (h : at < 0x10000) {start : ℕ} (a : start ≡ start_of at) where
    pub direct-asks : OwnAsks k code w start
    direct-asks = record { runs = q.runs; helds = q.helds; is = q.is; inside = rw a (q.inside h) }

    module _ {w' : List ℕ} {x : StateAt} (g : Gave k code start w w' x) where
      o : Given k code start w w' x
      o = given direct-asks g

      own_is : P ≡ stack_at w' x.at x.n
      unfolding P
      own_is = cursor-own (mode_in k) code r s k.rooms.s at h ∙ ap (λ (i : ℕ). (run (in_mode (mode_in k)) code (instructions code) i).stack) (sym a)
          ∙ ap (λ (x : Ran). x.stack) (sym (own-walked (mode_in k) code start (rw a (q.direct h)))) ∙ sym o.lies.is

      pub direct-readable : Readable w' x.at x.n l.position
      direct-readable = readable own_is o.lies.state

      module _ {base m : ℕ} (f : base ≡ (stack_at s (9 * l.from) l.cells).base) (d : m ≡ l.cells + (x.n - (base + 1))) where
        pub direct-composes : c.kept + c.used + m ≤ k.rooms.s → Composes s (9 * l.from) l.cells (9 * c.used) w' x.at x.n
        direct-composes = composes own_is o.lies.state f d

        module _ {y : StackSym} (z : sym_of y ≡ read (stack_at w' x.at x.n) l.position) where
          pub direct-short : k.rooms.s < c.kept + c.used + m → Took code w s k c l (stack_cursor (mode_in k) code r s k.rooms.s at) w' s (Err (without m y))
          unfolding C P
          direct-short = took-short own_is o.lies.state f d o.beyond z

          pub direct-took : {s' : List ℕ} {v : ℕ} → c.kept + c.used + m ≤ k.rooms.s
              → Composed s (9 * c.used) (compose (stack_at s (9 * l.from) l.cells) (stack_at w' x.at x.n)) s' v
              → Took code w s k c l (stack_cursor (mode_in k) code r s k.rooms.s at) w' s' (Ok (record { cells = v; symbol = y }))
          unfolding C P
          direct-took = took-all own_is o.lies.state f d o.beyond z

  -- ---- a found parent's, which is kept in S

  same : BehindBuckets k code w w
  same = record { helds = q.helds; front = refl; back = refl; long = refl }

  module _ (h : 0x10000 ≤ at) {kept : ℕ} (a : Holds 4 r (record_place (at - 0x10000) + R-KEPT) kept) where
    kept-is : kept ≡ kept_of r (suc (at - 0x10000))
    unfolding kept_of
    kept-is = a.is

    pub found_inside : kept ≤ k.rooms.s
    found_inside = omega (arith, kept-is, q.kept h, q.fits)

    module _ {before : ℕ} (b : before ≡ kept_of r (at - 0x10000)) where
      found-state : State s (9 * (k.rooms.s - kept)) (kept - before)
      found-state = rw (kept-is, b) (q.parent h)

      found-is : P ≡ stack_at s (9 * (k.rooms.s - kept)) (kept - before)
      unfolding P
      found-is = rw (kept-is, b) (cursor-kept (mode_in k) code r s k.rooms.s at h)

      pub found-rises : before ≤ kept
      found-rises = omega (arith, found-state.some)

      pub found-readable : Readable s (9 * (k.rooms.s - kept)) (kept - before) l.position
      found-readable = readable found-is found-state

      module _ {base m : ℕ} (f : base ≡ (stack_at s (9 * l.from) l.cells).base) (g : m ≡ l.cells + (kept - before - (base + 1))) where
        -- the new cells end below all that are kept
        pub found-composes : c.kept + c.used + m ≤ k.rooms.s → ComposesKept s (9 * l.from) l.cells (9 * c.used) (9 * (k.rooms.s - kept)) (kept - before)
        unfolding C
        found-composes i =
            record {
              both = composes found-is found-state f g i;
              clear = λ j. absurd (omega (arith, count found-is found-state f g, kept-is, q.kept h));
            }

        module _ {y : StackSym} (z : sym_of y ≡ read (stack_at s (9 * (k.rooms.s - kept)) (kept - before)) l.position) where
          pub found-short : k.rooms.s < c.kept + c.used + m → Took code w s k c l (stack_cursor (mode_in k) code r s k.rooms.s at) w s (Err (without m y))
          unfolding C P
          found-short = took-short found-is found-state f g same z

          pub found-took : {s' : List ℕ} {v : ℕ} → c.kept + c.used + m ≤ k.rooms.s
              → Composed s (9 * c.used) (compose (stack_at s (9 * l.from) l.cells) (stack_at s (9 * (k.rooms.s - kept)) (kept - before))) s' v
              → Took code w s k c l (stack_cursor (mode_in k) code r s k.rooms.s at) w s' (Ok (record { cells = v; symbol = y }))
          unfolding C P
          found-took = took-all found-is found-state f g same z
