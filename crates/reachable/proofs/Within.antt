-- Rows whose blocks have their sides among the code's addresses meet what `expand` and `prune` ask. Assumes nothing.
use mathlib.Core.Path.{◌≡◌, ◌∙◌}
use mathlib.Core.Bool.{true}
use mathlib.Core.List.{List, []}
use Prim.Native.Nat.{ℕ, ◌≤◌}
use native.Mathlib.Decide.{ℕ_discrete}
use lib.Dec.{eqb}
use borrow.Author.Tests.{eq-eqb, ne_eqb}
use Rattle.spec.specs.Lists.{mem}
use Rattle.spec.specs.Blocks.{Block}
use Rattle.spec.specs.Search.{sides}
use Rattle.laws.proofs.Branch.{if-true, if-false}
use Rattle.laws.proofs.Members.{In, mem-in}
use Rattle.layout.specs.Rows.{tag_at}
use Rattle.initial.specs.Rows.{kind_at, block_at, blocks_at}
use Rattle.initial.proofs.Rows.{block_in}
use Rattle.reachable.specs.Edges.{sides_at}
use Rattle.reachable.specs.Promises.{SidesWithin}
use Rattle.reachable.proofs.Rows.{sides-of}

pub blocks-within : (w : List ℕ) (n : ℕ) → ((b : Block) (t : ℕ) → In b (blocks_at w n) → In t (sides b.kind) → t ≤ n) → SidesWithin w n
blocks-within w n f = record { within = λ x t h i. split x t h i (ℕ_discrete (tag_at w x) 0) }
  where
    split : (x t : ℕ) → x ≤ n → mem t (sides_at w x) ≡ true → Dec (tag_at w x ≡ 0) → t ≤ n
    split x t h i (yes e) = elim (mem-in t [] (rw (sides-of w x ∙ if-true (eqb (tag_at w x) 0) [] (sides (kind_at w x)) (eq-eqb _ 0 e)) at i)) [ ]
    split x t h i (no ne) =
        f (block_at w x) t (block_in w n x h ne) (mem-in t (sides (kind_at w x)) (rw (sides-of w x ∙ if-false (eqb (tag_at w x) 0) [] (sides (kind_at w x)) (ne_eqb _ 0 ne)) at i))
