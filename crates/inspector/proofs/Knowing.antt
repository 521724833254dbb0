-- A block of a path is sound: its run, one instruction after the other, meets no unknown byte. Assumes nothing.
use Prim.Native.Nat.{ℕ}
use mathlib.Core.Path.{◌≡◌, refl, sym, ap, subst, ◌∙◌}
use mathlib.Core.Bool.{Bool, true, false, ◌&&◌, ◌||◌, not}
use mathlib.Core.List.{List, []}
use lib.ListN.{drop}
use Rattle.std.specs.Prelude.{Option, Some, None}
use Rattle.std.specs.Borrow.{Bor}
use Rattle.spec.specs.Walk.{walk}
use Rattle.spec.specs.Opcodes.{row}
use Rattle.spec.specs.PathMeaning.{all_known}
use Rattle.evm.specs.Walker.{walker_at, Walks}
use Rattle.evm.specs.declared.walk.Instruction.{Instruction}
use Rattle.evm.specs.declared.walker.Walker.{Walker}
use Rattle.evm.proofs.Steps.{Took}
use Rattle.evm.proofs.Walkers.{walks-took, walks-next, walks-ended}
use Rattle.inspector.specs.Paths.{last_at, known_at}
use Rattle.inspector.proofs.Seeking.{off, on}

-- ---- the loop

pub record Knows (code : List ℕ) (start : ℕ) (w : Walker) : Type 0 where
  pub same : w.code.now ≡ code
  pub rest : known_at code start w.at ≡ known_at code start start

pub knows_start : {code : Bor (List ℕ)} {start : ℕ} {w : Walker} → w ≡ walker_at code start → Knows code.now start w
knows_start e = rw e (record { same = refl; rest = refl })

module _ {code : List ℕ} {start : ℕ} {w v : Walker} (i : Knows code start w) {r : Option Instruction} (s : Walks w r v) where
  pub knows-end : r ≡ None → true ≡ known_at code start start
  knows-end q = sym (ap (all_known row start) (subst (λ (c : List ℕ). walk (drop w.at c) w.at 0 ≡ []) i.same (walks-ended s q))) ∙ i.rest

  module _ {x : Instruction} (q : r ≡ Some x) where
    k : Took code w.at x.pc x.op x.next
    k = subst (λ (c : List ℕ). Took c w.at x.pc x.op x.next) i.same (walks-took s q)

    here : ((row x.op).known && (last_at start x.pc x.op || known_at code start x.next)) ≡ known_at code start start
    here =
        ap (λ (a : ℕ). (row x.op).known && (last_at start a x.op || known_at code start x.next)) k.here
        ∙ sym (ap (all_known row start) k.walks) ∙ i.rest

    module _ {b : Bool} (g : b ≡ (row x.op).known) where
      pub knows-unknown : not b ≡ true → false ≡ known_at code start start
      knows-unknown z = ap (λ (y : Bool). y && (last_at start x.pc x.op || known_at code start x.next)) (sym (off b z) ∙ g) ∙ here

      module _ (n : not b ≡ false) {l : Bool} (h : l ≡ last_at start x.pc x.op) where
        known_is : true ≡ (row x.op).known
        known_is = sym (on b n) ∙ g

        pub knows-last : l ≡ true → true ≡ known_at code start start
        knows-last z =
            ap (λ (y : Bool). true && (y || known_at code start x.next)) (sym z ∙ h) ∙ ap (λ (y : Bool). y && (last_at start x.pc x.op || known_at code start x.next)) known_is ∙ here

        pub knows_on : l ≡ false → Knows code start v
        knows_on z =
            rw (walks-next s q) (record {
              same = i.same;
              rest = ap (λ (y : Bool). true && (y || known_at code start x.next)) (sym z ∙ h) ∙ ap (λ (y : Bool). y && (last_at start x.pc x.op || known_at code start x.next)) known_is ∙ here;
            })

-- ---- is_sound
