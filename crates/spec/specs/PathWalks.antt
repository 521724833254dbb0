-- Document 02, No. 7, and more than it asks: where YP may go when a block's run ends, and that a path's blocks follow each other so, if each JUMPI takes the
-- side that the path names. Assumes nothing.
use Rattle.std.specs.Prelude.{ℕ, ◌+◌, Bool, true, false, ◌&&◌, ◌||◌, List, [], ◌∷◌, eqb, length, get_or}
use Rattle.spec.specs.Lists.{if}
use Rattle.spec.specs.Opcodes.{Row}
use Rattle.spec.specs.Walk.{Ins}
use Rattle.spec.specs.Meaning.{yields, last}
use Rattle.spec.specs.PathMeaning.{fetched, along}

-- into the next block's JUMPDEST; where the word says that JUMP pops; where the word says that JUMPI pops, or behind it; nowhere: it halts, or the code is over
pub data Exit : Type 0 where
  falls : ℕ → Exit
  jumped : ℕ → Exit
  branched : ℕ → ℕ → Exit
  halted : Exit

-- by the instruction that ends the run, and the words before it
abbrev pub exit : Ins → List ℕ → Exit
exit i st =
    if (eqb i.op 0x56) (jumped (get_or st 0 0))
    (if (eqb i.op 0x57) (branched (get_or st 0 0) (i.pc + 1))
    (if (eqb i.op 0x5B) (falls i.pc) halted))

abbrev pub exits : (ℕ → Row) → (ℕ → ℕ → ℕ) → ℕ → List Ins → List ℕ → Exit
exits row supply start [] st = halted
exits row supply start (i ∷ is) st = let on = exits row supply start is (yields row supply i st) in if (last start i) (exit i st) on

-- the word is x, and the byte there is 5B: a jump to any other byte halts
abbrev pub jumps_to : List ℕ → ℕ → ℕ → Bool
jumps_to code x w = eqb x w && eqb (get_or code x 0) 0x5B

-- x is where YP goes; of a JUMPI, one of the two places
abbrev pub goes_to : List ℕ → ℕ → Exit → Bool
goes_to code x (falls a) = eqb x a
goes_to code x (jumped w) = jumps_to code x w
goes_to code x (branched w f) = jumps_to code x w || eqb x f
goes_to code x halted = false

-- each block that runs goes to the next that runs, the one named before it, if each JUMPI takes the side that is named
abbrev pub walks : (ℕ → Row) → List ℕ → (ℕ → ℕ → ℕ → ℕ) → List ℕ → List ℕ → Bool
walks row code supply [] st = true
walks row code supply (x ∷ []) st = true
walks row code supply (x ∷ y ∷ more) st =
    let later = walks row code supply (y ∷ more) st in
    goes_to code x (exits row (supply (length more)) y (fetched code y) (along row code supply more st).words) && later
