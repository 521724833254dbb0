-- Document 02, No. 7: "each block in a path is joined to the next by a static edge or by an earlier record". The next one named is the one that ran before it.
-- Assumes nothing.
use Rattle.std.specs.Prelude.{ℕ, Bool, true, false, ◌&&◌, ◌||◌, List, [], ◌∷◌, eqb}
use Rattle.spec.specs.Lists.{mem, some?}
use Rattle.spec.specs.Search.{Node, sides, Rec, is_at}

-- the second list begins with the first
abbrev pub begins : List ℕ → List ℕ → Bool
begins [] ys = true
begins (x ∷ xs) [] = false
begins (x ∷ xs) (y ∷ ys) = let later = begins xs ys in eqb x y && later

-- the block stands at y, and x is a static side of it, or the false side of a DynamicJumpi
abbrev pub leads_to : ℕ → ℕ → Node → Bool
leads_to x y n = eqb y n.block.start && mem x (sides n.block.kind)

-- the record is of the block at y and has the destination x, and what is named from y on begins with its path
abbrev pub brings_to : ℕ → ℕ → List ℕ → Rec → Bool
brings_to x y more r = eqb y r.start && (is_at x r.to && begins r.path (y ∷ more))

-- each block of the path is joined to the next
abbrev pub joined : List Node → List Rec → List ℕ → Bool
joined ns earlier [] = true
joined ns earlier (x ∷ []) = true
joined ns earlier (x ∷ y ∷ more) =
    let later = joined ns earlier (y ∷ more) in (some? (leads_to x y) ns || some? (brings_to x y more) earlier) && later
