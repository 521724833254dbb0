-- Document 02, No. 7: "The whole path is true." A path's blocks run by YP on words, from the last named to the first, and what is asked of the words on the
-- way. No symbol is named here: words, YP's step (Meaning), and which numbers a block has put on the stack itself. As in Meaning, YP's limit of 1,024
-- words is set aside, and any numbers may be the words, those of 256 bits among them. Assumes nothing.
use Rattle.std.specs.Prelude.{ℕ, zero, suc, ◌+◌, ◌^◌, ◌<◌, ◌≤◌, ◌≡◌, Bool, true, false, ◌&&◌, ◌||◌, List, [], ◌∷◌, eqb, ltb, length, get_or, drop}
use Rattle.std.proofs.Math.Option.{Option, none, some}
use Rattle.spec.specs.Lists.{if, mem}
use Rattle.spec.specs.Opcodes.{Row, Rules}
use Rattle.spec.specs.Walk.{Ins, walk}
use Rattle.spec.specs.Stacks.{Does, pushes_value, pushes_pc, dups, swaps, ands, adds, jumps, jumpis, lands, halts, plain, does, mask, is}
use Rattle.spec.specs.Meaning.{yields, last, Ended, executes}

-- ---- a block of a path

-- the instructions that YP meets from `start` on. `executes` runs them up to the block's end: its JUMP or JUMPI, with the words that it pops, another
-- instruction that halts, or the JUMPDEST of the next block, which pops nothing. They stop, as document 01's walk does, before a PUSH that runs past the code's
-- end: YP pads it with zeros, and then the code is over
abbrev pub fetched : List ℕ → ℕ → List Ins
fetched code start = walk (drop start code) start 0

-- YP has every instruction that the run comes to: none is an unknown byte
abbrev pub all_known : (ℕ → Row) → ℕ → List Ins → Bool
all_known row start [] = true
all_known row start (i ∷ is) = let later = all_known row start is in (row i.op).known && (last start i || later)

-- ---- "wherever the mask rule was used": the numbers that a block knows

-- What a block knows of its words, by depth, top 0: the number that it has put there itself, or nothing.
abbrev pub Knowing : Type 0
Knowing = ℕ → Option ℕ

-- on entry
abbrev pub unaware : Knowing
unaware n = none

-- a word put on, several of which nothing is known, and words taken off
abbrev pub on_top : Option ℕ → Knowing → Knowing
on_top v k zero = v
on_top v k (suc n) = k n

abbrev pub unknowns : ℕ → Knowing → Knowing
unknowns zero k = k
unknowns (suc n) k = on_top none (unknowns n k)

abbrev pub without : ℕ → Knowing → Knowing
without m k n = k (m + n)

-- the top and the word m below it change places
abbrev pub crossed : ℕ → Knowing → Knowing
crossed m k n = if (eqb n 0) (k m) (if (eqb n m) (k 0) (k n))

-- "ADD of two known values does so if the sum fits 64 bits"
abbrev pub sum_of : Option ℕ → Option ℕ → Option ℕ
sum_of none b = none
sum_of (some v) none = none
sum_of (some v) (some w) = if (ltb (v + w) (2 ^ 64)) (some (v + w)) none

-- "AND with the known value 0xffffffff, top looked at first, leaves the other"
abbrev pub masked_of : Option ℕ → Option ℕ → Option ℕ
masked_of a b = if (is mask a) b (if (is mask b) a none)

-- PUSH1 to PUSH4, in mode 1 PUSH0 too, and PC put on a number that is known; DUP and SWAP move what is known; ADD and AND as above; of other results nothing is
abbrev pub knows : (ℕ → Row) → Ins → Does → Knowing → Knowing
knows row i pushes_value k = on_top (some i.arg) k
knows row i pushes_pc k = on_top (some i.pc) k
knows row i (dups n) k = on_top (k n) k
knows row i (swaps n) k = crossed (suc n) k
knows row i ands k = on_top (masked_of (k 0) (k 1)) (without 2 k)
knows row i adds k = on_top (sum_of (k 0) (k 1)) (without 2 k)
knows row i jumps k = without 1 k
knows row i jumpis k = without 2 k
knows row i lands k = k
knows row i halts k = unknowns (row i.op).given (without (row i.op).taken k)
knows row i plain k = unknowns (row i.op).given (without (row i.op).taken k)

-- ---- what is asked of the words on the way

-- At an instruction: the words that it takes are there. At an AND of which the block knows that one word is 0xffffffff, top looked at first, the other
-- word is below 2^32.
pub record Ready (row : ℕ → Row) (i : Ins) (k : Knowing) (st : List ℕ) : Type 0 where
  pub deep : (row i.op).taken ≤ length st
  pub top : i.op ≡ 0x16 → is mask (k 0) ≡ true → get_or st 1 0 < 2 ^ 32
  pub next : i.op ≡ 0x16 → is mask (k 0) ≡ false → is mask (k 1) ≡ true → get_or st 0 0 < 2 ^ 32

-- at each instruction that the block's run comes to
abbrev pub Runs : Rules → (ℕ → ℕ → ℕ) → ℕ → List Ins → Knowing → List ℕ → Type 0
Runs r supply start [] k st = Unit {0}
Runs r supply start (i ∷ is) k st =
    Ready r.row i k st × (last start i ≡ false → Runs r supply start is (knows r.row i (does r.mode i.op) k) (yields r.row supply i st))

-- ---- the path

-- The run of a path's blocks, "from the last named to the first", each on the words that the one before it leaves: the words at the end, and the one that the
-- first-named block's jump popped. `supply n` are the results that YP computes elsewhere, in the block before which n have run.
abbrev pub along : (ℕ → Row) → List ℕ → (ℕ → ℕ → ℕ → ℕ) → List ℕ → List ℕ → Ended
along row code supply [] st = record { words = st; popped = none }
along row code supply (b ∷ bs) st = executes row (supply (length bs)) b (fetched code b) (along row code supply bs st).words

-- what is asked of it: in every block, at every instruction
abbrev pub Asks : Rules → List ℕ → (ℕ → ℕ → ℕ → ℕ) → List ℕ → List ℕ → Type 0
Asks r code supply [] st = Unit {0}
Asks r code supply (b ∷ bs) st = Asks r code supply bs st × Runs r (supply (length bs)) b (fetched code b) unaware (along r.row code supply bs st).words

-- "the target the last jump pops is then exactly the recorded destination, and the byte there is 5B"
pub record Leads (r : Rules) (code path : List ℕ) (t : ℕ) : Type 0 where
  pub has_runs : (b : ℕ) → mem b path ≡ true → all_known r.row b (fetched code b) ≡ true
  pub pops : (supply : ℕ → ℕ → ℕ → ℕ) (st : List ℕ) → Asks r code supply path st → (along r.row code supply path st).popped ≡ some t
  pub lands : get_or code t 0 ≡ 0x5B
