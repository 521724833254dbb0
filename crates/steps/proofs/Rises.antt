-- The direct parents of an address stand in address order, each block once. Assumes nothing.
use mathlib.Core.Path.{◌≡◌, sym, ◌∙◌}
use mathlib.Core.List.{List, [], ◌∷◌, ◌++◌, map}
use Prim.Native.Nat.{ℕ, suc, ◌≤◌}
use native.Mathlib.Omega.{arith}
use lib.Dec.{eqb}
use borrow.Author.Tests.{eqb-true, eqb-false}
use Rattle.spec.specs.Opcodes.{row, in_mode}
use Rattle.spec.specs.Lists.{keep}
use Rattle.spec.specs.Walk.{instructions}
use Rattle.spec.specs.Blocks.{Kind, terminate, jump, jumpi, dynamic_jump, dynamic_jumpi, Block, starts, blocks}
use Rattle.spec.specs.Stacks.{Stack, run}
use Rattle.spec.specs.Search.{Node, nodes, settled, sides, Parent, parent, direct}
use Rattle.spec.specs.Answer.{prepared}
use Rattle.parents.specs.Links.{direct_to, from_of}
use Rattle.laws.proofs.Branch.{both}
use Rattle.laws.proofs.Lists.{Rising, none_left, one_more, rising-from}
use Rattle.theorems.proofs.Counts.{lawful}
use Rattle.theorems.proofs.Cutting.{starts-rise}

-- one block more in front: of its sides, which differ, one at most leads to t
module _ (t a lo : ℕ) (above : lo ≤ a) (s : Stack) (later : List Node) (more : Rising (suc a) (map from_of (direct_to t later))) where
  abbrev Goal : List ℕ → Type 0
  Goal xs = Rising lo (map from_of (keep (λ (p : Parent). eqb t p.to) (map (λ (x : ℕ). parent x (a ∷ []) s) xs ++ direct later)))

  none-to : Rising lo (map from_of (direct_to t later))
  none-to = rising-from (omega arith) more

  one-to : (x : ℕ) → Goal (x ∷ [])
  one-to x = both (λ (ps : List Parent). Rising lo (map from_of ps)) (eqb t x) (λ _. one_more above more) (λ _. none-to)

  two_to : (x y : ℕ) → (x ≡ y → ⊥) → Goal (x ∷ y ∷ [])
  two_to x y d =
      both (λ (ps : List Parent). Rising lo (map from_of ps)) (eqb t x)
      (λ e. one_more above
      (both (λ (ps : List Parent). Rising (suc a) (map from_of ps)) (eqb t y) (λ f. absurd (d (sym (eqb-true t x e) ∙ eqb-true t y f))) (λ _. more)))
      (λ _. one-to y)

  more-rise : (k : Kind) → Goal (sides k)
  more-rise (terminate success) = none-to
  more-rise (jump x) = one-to x
  more-rise (jumpi x f) = both Goal (eqb x f) (λ _. one-to x) (λ e. two_to x f (eqb-false x f e))
  more-rise dynamic_jump = none-to
  more-rise (dynamic_jumpi f) = one-to f

module _ (mode : ℕ) (code : List ℕ) (t : ℕ) where
  nodes-rise : {lo : ℕ} (bs : List Block) → Rising lo (starts bs) → Rising lo (map from_of (direct_to t (nodes (in_mode mode) code (instructions code) bs)))
  nodes-rise [] none_left = none_left
  nodes-rise {lo} (b ∷ bs) (one_more h r) =
      let own = run (in_mode mode) code (instructions code) b.start in
      more-rise t b.start lo h own.stack (nodes (in_mode mode) code (instructions code) bs) (nodes-rise bs r) (settled own.goes b.kind)

  pub direct-rises : Rising 0 (map from_of (direct_to t (prepared (in_mode mode) code)))
  unfolding prepared
  direct-rises = nodes-rise (blocks row code (instructions code)) (starts-rise lawful code)
