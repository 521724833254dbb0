-- Document 02, No. 7, with less asked: the words are there, and nothing about masks. Assumes nothing.
use Rattle.std.specs.Prelude.{ℕ, ◌+◌, ◌≤◌, ◌≡◌, Bool, true, false, ◌&&◌, ◌||◌, not, List, [], ◌∷◌, eqb, length}
use Rattle.std.proofs.Math.Option.{some}
use Rattle.spec.specs.Lists.{if}
use Rattle.spec.specs.Opcodes.{Row, Rules}
use Rattle.spec.specs.Walk.{Ins}
use Rattle.spec.specs.Stacks.{does, mask, is}
use Rattle.spec.specs.Meaning.{yields, last}
use Rattle.spec.specs.PathMeaning.{fetched, Knowing, knows, along}

-- at each instruction that the block's run comes to, the words that it takes are there
abbrev pub DeepRuns : (ℕ → Row) → (ℕ → ℕ → ℕ) → ℕ → List Ins → List ℕ → Type 0
DeepRuns row supply start [] st = Unit {0}
DeepRuns row supply start (i ∷ is) st = ((row i.op).taken ≤ length st) × (last start i ≡ false → DeepRuns row supply start is (yields row supply i st))

-- in every block of the path
abbrev pub DeepEnough : (ℕ → Row) → List ℕ → (ℕ → ℕ → ℕ → ℕ) → List ℕ → List ℕ → Type 0
DeepEnough row code supply [] st = Unit {0}
DeepEnough row code supply (b ∷ bs) st = DeepEnough row code supply bs st × DeepRuns row (supply (length bs)) b (fetched code b) (along row code supply bs st).words

-- "on any deep enough stack of words": the path's last jump pops t
pub record LeadsAnyhow (row : ℕ → Row) (code path : List ℕ) (t : ℕ) : Type 0 where
  pub pops : (supply : ℕ → ℕ → ℕ → ℕ) (st : List ℕ) → DeepEnough row code supply path st → (along row code supply path st).popped ≡ some t

-- ---- how deep that is

-- the words that the instructions of a block's run take, added up
abbrev pub uses : (ℕ → Row) → ℕ → List Ins → ℕ
uses row start [] = 0
uses row start (i ∷ is) = let later = uses row start is in (row i.op).taken + if (last start i) 0 later

-- so many words are enough for a path, whatever they are
abbrev pub depth : (ℕ → Row) → List ℕ → List ℕ → ℕ
depth row code [] = 0
depth row code (b ∷ bs) = uses row b (fetched code b) + depth row code bs

-- ---- where the mask rule is not used

-- no AND of the block's run is with a word that the block knows to be 0xffffffff
abbrev pub unmasked : Rules → ℕ → List Ins → Knowing → Bool
unmasked r start [] k = true
unmasked r start (i ∷ rest) k =
    let later = unmasked r start rest (knows r.row i (does r.mode i.op) k) in
    not (eqb i.op 0x16 && (is mask (k 0) || is mask (k 1))) && (last start i || later)
