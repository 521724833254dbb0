-- The cutting loop: before the first instruction, from one to the next, and its three ways out. Assumes nothing.
use mathlib.Core.Path.{◌≡◌, refl, sym, ap, ◌∙◌}
use mathlib.Core.Bool.{Bool, true, false, ◌||◌}
use mathlib.Core.List.{List, [], ◌∷◌, ◌++◌, map, append-nil}
use mathlib.Core.Option.{Option, none}
use Prim.Native.Nat.{ℕ, ◌-◌, ◌≤◌, ◌<◌}
use native.Mathlib.Omega.{arith}
use native.Mathlib.Decide.{dec_le}
use lib.Dec.{eqb}
use lib.ListN.{length, get_or, drop, replicate}
use borrow.Author.Tests.{eqb-true, le-leb, lt-leb}
use Rattle.std.specs.Prelude as std
use Rattle.spec.specs.Opcodes.{row}
use Rattle.spec.specs.Walk.{Ins, walk}
use Rattle.spec.specs.Blocks as spec
use Rattle.spec.specs.Blocks.{terminate, Block, block, opened, JUMPDEST, JUMPI, JUMP, UNKNOWN, OTHER, ENDS, cut, closes, cuts}
use Rattle.lent.specs.Bytes.{Stored}
use Rattle.evm.specs.Step.{step_at}
use Rattle.evm.specs.declared.walk.Instruction.{Instruction}
use Rattle.evm.proofs.Walks.{next, walk-whole, walk_end, instructions-walk}
use Rattle.evm.proofs.Steps.{Took, took, ended}
use Rattle.laws.proofs.Branch.{both, if-true, if-false}
use Rattle.layout.specs.Parts.{rows_end}
use Rattle.layout.specs.Rows.{PutBlock}
use Rattle.initial.specs.Rows.{type_of, blocks_at, Laid}
use Rattle.initial.specs.Turn.{clipped, pushed_at, ahead}
use Rattle.initial.specs.Promises.{Lent, Beyond, Written, Stands, Standing, Ready, after, Turned, last, cutting}
use Rattle.initial.specs.declared.turn.Walking.{Walking}
use Rattle.initial.specs.declared.turn.Walking.TheVariants.{Opened, Waiting, Ended}
use Rattle.initial.proofs.Types.{good-terminate}
use Rattle.initial.proofs.Writing.{put-append, put-laid, put-beyond, beyond-same, beyond-more, wiped-blocks, wiped-empty, wiped-laid, wiped-beyond}
use Rattle.initial.proofs.Jumping.{push-low}
use Rattle.initial.proofs.Turning.{ahead-ended}

-- ---- before the first instruction: there is no instruction before it, and none is asked for

-- what an instruction is to the cutting, case by case
by-cut : (F : spec.Cut → Type 0) (b : ℕ) → F JUMPDEST → (b ≡ 0x57 → F JUMPI) → (b ≡ 0x56 → F JUMP) → ((success : Bool) → F (ENDS success)) → F OTHER → F UNKNOWN
    → F (cut row b)
by-cut F b dest jumpi jumps ends other unknown =
    both F (eqb b 0x5B) (λ _. dest)
    (λ _. both F (eqb b 0x57) (λ e. jumpi (eqb-true _ _ e))
    (λ _. both F (eqb b 0x56) (λ e. jumps (eqb-true _ _ e))
    (λ _. both F (eqb b 0x00 || eqb b 0xF3 || eqb b 0xFF) (λ _. ends true)
    (λ _. both F (eqb b 0xFD || eqb b 0xFE) (λ _. ends false)
    (λ _. both F (row b).known (λ _. other) (λ _. unknown))))))

push-idle : (id start prev : ℕ) (push : Option ℕ) (pc : ℕ) (on : spec.Mode → List Block) (b : ℕ) → (b < 0x60 → none ≡ push)
    → closes id start prev none pc on (cut row b) ≡ closes id start prev push pc on (cut row b)
push-idle id start prev push pc on b low =
    by-cut (λ (c : spec.Cut). closes id start prev none pc on c ≡ closes id start prev push pc on c) b refl
    (λ e. rw (← low (omega arith))) (λ e. rw (← low (omega arith))) (λ _. refl) refl refl

module _ (code : List ℕ) where
  first-push : cuts row (walk (drop 0 code) 0 0) (opened 0 0) 0 none ≡ cuts row (walk (drop 0 code) 0 0) (opened 0 0) 0 (pushed_at code 0)
  unfolding cuts pushed_at row walk
  first-push = go (dec_le (next code 0) (length code))
    where
      go : Dec (next code 0 ≤ length code) → cuts row (walk (drop 0 code) 0 0) (opened 0 0) 0 none ≡ cuts row (walk (drop 0 code) 0 0) (opened 0 0) 0 (pushed_at code 0)
      go (yes h) = rw (walk-whole code 0 h) (push-idle 0 0 0 (pushed_at code 0) 0 (λ m. cuts row (walk (drop (next code 0) code) (next code 0) 0) m 0 (pushed_at code 0)) (get_or code 0 0) (λ l. sym (push-low code 0 l)))
      go (no h) = rw (walk_end code 0 (omega arith))

cutting-some : (code : List ℕ) → (length code ≡ 0 → ⊥) → map clipped (cutting code) ≡ ahead code 0 (Opened 0) 0
unfolding cutting ahead
cutting-some [] h = absurd (h refl)
cutting-some (b ∷ code) h = ap (map clipped) (ap (λ (is : List Ins). cuts row is (opened 0 0) 0 none) (instructions-walk (b ∷ code)) ∙ first-push (b ∷ code))

cutting-none : (code : List ℕ) → length code ≡ 0 → cutting code ≡ []
unfolding cutting
cutting-none [] h = refl
cutting-none (b ∷ code) h = absurd (omega arith)

-- ---- after the last instruction

ahead-last : (code : List ℕ) (at : ℕ) (m : Walking) (prev : ℕ) → walk (drop at code) at 0 ≡ [] → ahead code at m prev ≡ last m prev
unfolding ahead last cuts
ahead-last code at (Opened start) prev e = rw e
ahead-last code at Waiting prev e = rw e
ahead-last code at Ended prev e = refl

last-open : (start prev : ℕ) → start ≤ prev → last (Opened start) prev ≡ block start start prev (terminate false) ∷ []
unfolding last cuts
last-open start prev h = ap (map clipped) (if-true _ _ _ (le-leb start prev h))

last-beyond : (start prev : ℕ) → prev < start → last (Opened start) prev ≡ []
unfolding last cuts
last-beyond start prev h = ap (map clipped) (if-false _ _ _ (lt-leb start prev h))

last-no-block : (m : Walking) (prev : ℕ) → ((start : ℕ) → m ≡ Opened start → ⊥) → last m prev ≡ []
unfolding last cuts
last-no-block (Opened start) prev h = absurd (h start refl)
last-no-block Waiting prev h = refl
last-no-block Ended prev h = refl

module _ {n : ℕ} {w : List ℕ} {mode : Walking} {prev : ℕ} (r : Standing n w mode prev n) where
  last_none : last mode prev ≡ [] → Written n (blocks_at w n ++ last mode prev) w w
  last_none e = record { blocks = rw e (sym (append-nil (blocks_at w n))); laid = r.laid; beyond = beyond-same n w }

  pub last-shut : ((start : ℕ) → mode ≡ Opened start → ⊥) → Written n (blocks_at w n ++ last mode prev) w w
  last-shut h = last_none (last-no-block mode prev h)

  module _ {start : ℕ} (o : mode ≡ Opened start) where
    pub last-past : prev < start → Written n (blocks_at w n ++ last mode prev) w w
    last-past h = last_none (rw o (last-beyond start prev h))

    pub last-kept : {w' : List ℕ} → start ≤ prev → PutBlock w start prev (type_of (terminate false)) w' → Written n (blocks_at w n ++ last mode prev) w w'
    last-kept h p =
        let inside : start ≤ n = omega (arith, r.back, r.inside) in
        let small : prev < 65536 = omega (arith, r.back, r.inside, r.short) in
        let good = good-terminate false in
        record {
          blocks = put-append p n (rw o at r.empty) inside good small ∙ rw (o, last-open start prev h);
          laid = put-laid p n r.laid inside good small;
          beyond = put-beyond p n inside;
        }

-- ---- the loop

-- what is written and what is still to be cut are the whole
pub record Going (code w₀ w : List ℕ) (m : Walking) (prev at : ℕ) : Type 0 where
  pub ready : Ready code w m prev at
  pub whole : blocks_at w (length code) ++ ahead code at m prev ≡ map clipped (cutting code)
  pub beyond : Beyond (length code) w₀ w

module _ {code w w₀ : List ℕ} (l : Lent code w) (s : Stored (rows_end (length code)) w 0 (replicate (rows_end (length code)) 0) w₀) where
  pub cut-empty : length code ≡ 0 → Written (length code) (map clipped (cutting code)) w w₀
  cut-empty h =
      record {
        blocks = wiped-blocks (length code) s ∙ sym (ap (map clipped) (cutting-none code h));
        laid = wiped-laid (length code) s;
        beyond = wiped-beyond (length code) s;
      }

  pub cut-starts : (length code ≡ 0 → ⊥) → Going code w₀ w₀ (Opened 0) 0 0
  cut-starts h =
      record {
        ready = record {
          rows = record {
            short = l.short;
            room = omega arith;
            laid = wiped-laid (length code) s;
            empty = wiped-empty (length code) s;
            low = omega arith;
            inside = omega arith;
            back = omega arith;
          };
          before = λ k. absurd (omega arith);
        };
        whole = rw (wiped-blocks (length code) s) (sym (cutting-some code h));
        beyond = beyond-same (length code) w₀;
      }

  cut_all : {v : List ℕ} → Beyond (length code) w₀ v → Laid v (length code) → blocks_at v (length code) ≡ map clipped (cutting code) → Written (length code) (map clipped (cutting code)) w v
  cut_all b d e = record { blocks = e; laid = d; beyond = beyond-more (wiped-beyond (length code) s) b }

  module _ {v : List ℕ} {m : Walking} {prev at : ℕ} {r : std.Option Instruction} (g : Going code w₀ v m prev at) (e : r ≡ step_at code at) where
    pub cut-last : {v' : List ℕ} → r ≡ std.None → Written (length code) (blocks_at v (length code) ++ last m prev) v v'
        → Written (length code) (map clipped (cutting code)) w v'
    cut-last q t =
        cut_all (beyond-more g.beyond t.beyond) t.laid
        (t.blocks ∙ ap (λ (bs : List Block). blocks_at v (length code) ++ bs) (sym (ahead-last code at m prev (ended code at e q))) ∙ g.whole)

    module _ {i : Instruction} (q : r ≡ std.Some i) where
      taken : Took code at i.pc i.op i.next
      taken = took code at e q

      pub cut-ready : Ready code v m prev i.pc
      cut-ready = rw taken.here g.ready

      pub cut_stands : Stands code i.pc i.op
      cut_stands = record { byte = rw taken.here taken.byte; whole = omega (arith, taken.here, taken.size, taken.inside) }

      pub cut-less : length code - i.next < length code - at
      cut-less = omega (arith, taken.size, taken.inside)

      module _ {v' : List ℕ} {m' : Walking} (t : Turned code v m prev i.pc i.op v' m') where
        pub cut-more : Going code w₀ v' m' i.pc i.next
        cut-more =
            let n : i.next ≡ after i.pc i.op = omega (arith, taken.here, taken.size) in
            rw n (record { ready = t.ready; whole = t.same ∙ rw taken.here g.whole; beyond = beyond-more g.beyond t.beyond })

        pub cut-stops : m' ≡ Ended → Written (length code) (map clipped (cutting code)) w v'
        cut-stops d = cut_all (beyond-more g.beyond t.beyond) t.ready.rows.laid (rw (d, ahead-ended, append-nil) at t.same ∙ rw taken.here g.whole)
