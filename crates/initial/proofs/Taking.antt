-- One instruction is taken: each way out of the code's turn keeps what is written and what is still to be cut together. Assumes nothing.
use mathlib.Core.Path.{◌≡◌, sym, ap, ◌∙◌, subst}
use mathlib.Core.Bool.{false}
use mathlib.Core.List.{List, ◌++◌, append_assoc}
use mathlib.Core.Option.{Option}
use Prim.Native.Nat.{ℕ, suc, ◌+◌, ◌≤◌, ◌<◌}
use native.Mathlib.Omega.{arith}
use lib.Dec.{eqb}
use lib.ListN.{length}
use borrow.Author.Tests.{eqb-false}
use Rattle.spec.specs.Opcodes.{row}
use Rattle.spec.specs.Blocks.{Block, cut}
use Rattle.laws.proofs.Branch.{both}
use Rattle.layout.specs.Rows.{PutBlock}
use Rattle.layout.specs.declared.row.BlockType.{BlockType}
use Rattle.initial.specs.Rows.{blocks_at, Laid}
use Rattle.initial.specs.Turn.{pushed_at, cut_of, turn_of, closed, then, ahead}
use Rattle.initial.specs.Promises.{Beyond, Stands, lowest, Empty, Ready, after, Turned}
use Rattle.initial.specs.declared.turn.Cut.{Cut}
use Rattle.initial.specs.declared.turn.Cut.TheVariants.{Jumpdest, Jumpi, Jump, Ends, Unknown, Other}
use Rattle.initial.specs.declared.turn.Walking.{Walking}
use Rattle.initial.specs.declared.turn.Walking.TheVariants.{Opened, Waiting, Ended}
use Rattle.initial.specs.declared.turn.Effect.{Effect}
use Rattle.initial.specs.declared.turn.Effect.TheVariants.{Goes, Closes}
use Rattle.initial.proofs.Types.{Good, good-terminate, good-jump, good-jumping, good-branching}
use Rattle.initial.proofs.Writing.{put-append, put-laid, put-empty, put-beyond, less-empty, beyond-same}
use Rattle.initial.proofs.Turning.{ahead-open, ahead-found, ahead-waits, ahead-ended}

-- ---- a turn fits the rows: what it closes can be written, and the next block starts past it

-- the walk goes on at next, and no block that starts before lo is still to be written
record Onward (lo next : ℕ) (m : Walking) : Type 0 where
  past : lo ≤ lowest m next
  low : lowest m next ≤ next

record Closing (start next end : ℕ) (t : BlockType) (m : Walking) : Type 0 where
  good : Good t
  small : end < 65536
  on : Onward (suc start) next m

abbrev Fine : ℕ → ℕ → Effect → Type 0
Fine start next (Goes m) = Onward start next m
Fine start next (Closes end t m) = Closing start next end t m

module _ (start prev : ℕ) (push : Option ℕ) (pc next : ℕ) (h : start ≤ pc) (p : prev ≤ pc) (f : pc < next) (s : pc < 0xFFFF) where
  waits : (end : ℕ) {t : BlockType} → end ≤ pc → Good t → Closing start next end t Waiting
  waits end e g = record { good = g; small = omega arith; on = record { past = omega arith; low = omega arith } }

  opens : (end at : ℕ) {t : BlockType} → end ≤ pc → start < at → at ≤ next → Good t → Closing start next end t (Opened at)
  opens end at e l k g = record { good = g; small = omega arith; on = record { past = l; low = k } }

  goes : {m : Walking} → start ≤ lowest m next → lowest m next ≤ next → Onward start next m
  goes l k = record { past = l; low = k }

  fine : (c : Cut) → Fine start next (turn_of start prev push pc c)
  unfolding turn_of
  fine Jumpdest =
      both (Fine start next) (eqb start pc) (λ _. goes (omega arith) (omega arith))
      (λ e. let ne = eqb-false start pc e in opens prev pc p (omega arith) (omega arith) (good-jump pc (omega arith)))
  fine Jumpi = opens pc (pc + 1) (omega arith) (omega arith) (omega arith) (good-branching push (pc + 1) (omega arith))
  fine Jump = waits pc (omega arith) (good-jumping push)
  fine (Ends success) = waits pc (omega arith) (good-terminate success)
  fine Unknown =
      let kept = waits prev p (good-terminate false) in
      both (Fine start next) (eqb start 0) (λ _. record { good = kept.good; small = kept.small; on = record { past = omega arith; low = omega arith } })
      (λ _. both (Fine start next) (eqb start pc) (λ _. goes (omega arith) (omega arith)) (λ _. kept))
  fine Other = goes (omega arith) (omega arith)

-- ---- the ways out of the turn

module _ {code w : List ℕ} {mode : Walking} {prev pc op : ℕ} (r : Ready code w mode prev pc) (i : Stands code pc op) where
  readied : {w' : List ℕ} {m : Walking} → Beyond (length code) w w' → Laid w' (length code) → Empty w' (lowest m (after pc op)) (length code)
      → lowest m (after pc op) ≤ after pc op → Ready code w' m pc (after pc op)
  readied b l e k = record {
    rows = record {
      short = r.rows.short;
      room = omega (arith, r.rows.room, b.kept);
      laid = l;
      empty = e;
      low = k;
      inside = omega (arith, i.whole);
      back = omega arith;
    };
    before = λ _. record { whole = rw (← i.byte) i.whole };
  }

  -- nothing is written
  goes_on : {m : Walking} → ahead code pc mode prev ≡ ahead code (after pc op) m pc → Onward (lowest mode pc) (after pc op) m → Turned code w mode prev pc op w m
  goes_on e f = record {
    same = ap (λ (bs : List Block). blocks_at w (length code) ++ bs) (sym e);
    ready = readied (beyond-same _ w) r.rows.laid (less-empty r.rows.empty f.past) f.low;
    beyond = beyond-same _ w;
  }

  pub turn-found : mode ≡ Waiting → op ≡ 0x5B → Turned code w mode prev pc op w (Opened pc)
  turn-found o e = goes_on (rw o (ahead-found code pc op i prev e)) (rw o (record { past = omega arith; low = omega arith }))

  pub turn-waits : mode ≡ Waiting → (op ≡ 0x5B → ⊥) → Turned code w mode prev pc op w Waiting
  turn-waits o e = goes_on (rw o (ahead-waits code pc op i prev e)) (rw o (record { past = omega arith; low = omega arith }))

  pub turn-ended : mode ≡ Ended → Turned code w mode prev pc op w Ended
  turn-ended o = goes_on (rw o (simp ahead-ended)) (rw o (record { past = omega arith; low = omega arith }))

  module _ {start : ℕ} {c : Cut} {t : Effect} (o : mode ≡ Opened start) (d : c ≡ cut_of (cut row op)) (e : t ≡ turn_of start prev (pushed_at code prev) pc c) where
    turn-fine : Fine start (after pc op) t
    turn-fine = rw e (fine start prev (pushed_at code prev) pc (after pc op) (rw o at r.rows.low) r.rows.back (omega arith) (omega (arith, i.whole, r.rows.short)) c)

    turn-ahead : ahead code pc mode prev ≡ closed start t ++ ahead code (after pc op) (then t) pc
    turn-ahead = rw (o, e, d) (ahead-open code pc op i prev start (omega (arith, i.whole, r.rows.short)))

    pub turn-goes : {m : Walking} → t ≡ Goes m → Turned code w mode prev pc op w m
    turn-goes g = goes_on (turn-ahead ∙ rw g) (rw o (subst (Fine start (after pc op)) g turn-fine))

    pub turn-closes : {w' : List ℕ} {end : ℕ} {k : BlockType} {m : Walking} → t ≡ Closes end k m → PutBlock w start end k w' → Turned code w mode prev pc op w' m
    turn-closes {w'} {end} {k} {m} g p =
        let f : Closing start (after pc op) end k m = subst (Fine start (after pc op)) g turn-fine in
        let z : Empty w start (length code) = rw o at r.rows.empty in
        let h : start ≤ length code = omega (arith, rw o at r.rows.low, r.rows.inside) in
        let b = put-beyond p (length code) h in
        record {
          same =
              ap (λ (bs : List Block). bs ++ ahead code (after pc op) m pc) (put-append p (length code) z h f.good f.small)
              ∙ append_assoc (blocks_at w (length code)) _ _
              ∙ ap (λ (bs : List Block). blocks_at w (length code) ++ bs) (sym (turn-ahead ∙ rw g));
          ready = readied b (put-laid p (length code) r.rows.laid h f.good f.small) (put-empty p _ _ z f.on.past) f.on.low;
          beyond = b;
        }
