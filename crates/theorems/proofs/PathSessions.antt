-- Document 02, No. 7, at five codes, by computing: what is recorded, what the last jumps pop, a join that needs the earlier record, paths that are walked
-- and paths that are not, a JUMPI that never takes the side that its path names, a mask whose premise is met and one whose premise nothing meets. Assumes
-- nothing.
use Prim.Native.Nat.{ℕ}
use native.Mathlib.Omega.{arith}
use mathlib.Core.Path.{◌≡◌, refl}
use mathlib.Core.Bool.{Bool, true, false}
use mathlib.Core.List.{List, [], ◌∷◌, ◌++◌, map}
use lib.ListN.{take}
use Rattle.spec.specs.Lists.{if}
use Rattle.spec.specs.Opcodes.{row, in_mode}
use Rattle.spec.specs.Walk.{walk, instructions}
use Rattle.spec.specs.Blocks.{cuts, blocks}
use Rattle.spec.specs.Stacks.{is, read, does, act, trim, run, through, compose}
use Rattle.spec.specs.Meaning.{yields, jumping, closing}
use Rattle.spec.specs.Reach.{sweep, spread, closure}
use Rattle.spec.specs.Search.{Rec, dest, parents, record_nowhere, record_found, arrive, follow, tries, level, turn, round, rounds, search}
use Rattle.spec.specs.Answer.{prepared, searched}
use Rattle.spec.specs.PathMeaning.{fetched, all_known, along, Asks}
use Rattle.spec.specs.PathJoins.{joined}
use Rattle.spec.specs.PathWalks.{walks}
use Rattle.theorems.proofs.Counts.{lawful}
use Rattle.theorems.proofs.Sessions.{hex}
use Rattle.theorems.proofs.PathMet.{asks-computed}

-- a code, and what is recorded of it: each record as its destination, then its path
pub record Session : Type 0 where
  pub code : List ℕ
  pub records : List (List ℕ)

-- document 01's Return
abbrev plain : List ℕ
plain = hex 9 0x60056007565B005B56

-- and with AND 0xffffffff before its jump
abbrev masked : List ℕ
masked = hex 15 0x60056007565B005B63FFFFFFFF1656

-- a call that returns to 7, from where another return goes to 9: 6009 6007 600B 56, 5B56 at 7, 5B00 at 9, 5B56 at 11
abbrev nested : List ℕ
nested = hex 13 0x60096007600B565B565B005B56

-- PUSH4 0xffffffff, DUP1, DUP1, ADD, AND: the block masks 2^33 - 2, which it has made itself; then PUSH1 13, and the block at 11 jumps there
abbrev stuck : List ℕ
stuck = hex 14 0x63FFFFFFFF80800116600D5B565B

-- 600E 6000 600C 6009 56: the block at 9, 5B57, is a JUMPI that pops 12 and the condition 0; 00 at 11, 5B56 at 12, 5B00 at 14
abbrev untaken : List ℕ
untaken = hex 16 0x600E6000600C6009565B57005B565B00

-- PUSH1 4, JUMP, and no JUMPDEST at 4
abbrev unmarked : List ℕ
unmarked = hex 5 0x6004560000

unfoldable pub sessions : List Session
sessions =
    record { code = plain; records = (5 ∷ 7 ∷ 0 ∷ []) ∷ [] }
    ∷ record { code = masked; records = (5 ∷ 7 ∷ 0 ∷ []) ∷ [] }
    ∷ record { code = nested; records = (7 ∷ 11 ∷ 0 ∷ []) ∷ (9 ∷ 7 ∷ 11 ∷ 0 ∷ []) ∷ [] }
    ∷ record { code = stuck; records = (13 ∷ 11 ∷ 0 ∷ []) ∷ [] }
    ∷ record { code = untaken; records = (12 ∷ 9 ∷ 0 ∷ []) ∷ (14 ∷ 12 ∷ 9 ∷ 0 ∷ []) ∷ [] }
    ∷ []

abbrev shown : Rec → List ℕ
shown r = dest r.to ++ r.path

-- What is recorded.
pub records-hold : map (λ (s : Session). map shown (searched (in_mode 0) 500000 s.code).recs) sessions ≡ map (λ (s : Session). s.records) sessions
unfolding sessions if row walk instructions cuts blocks read does act trim run through compose sweep spread closure parents record_nowhere record_found arrive follow tries level turn round rounds search prepared searched
records-hold = refl

-- the run of the path, on an empty stack, which is deep enough here, pops the destination
abbrev pops-it : (ℕ → ℕ → ℕ → ℕ) → List ℕ → List ℕ → Bool
pops-it supply code [] = false
pops-it supply code (t ∷ path) = is t (along row code supply path []).popped

-- Each path pops its destination, whatever is supplied.
pub pops-hold : (supply : ℕ → ℕ → ℕ → ℕ) → map (λ (s : Session). map (pops-it supply s.code) s.records) sessions
    ≡ map (λ (s : Session). map (λ _. true) s.records) sessions
unfolding sessions if row walk yields jumping closing
pops-hold supply = refl

-- The block at 7 is joined to the one at 11 by the first record, and by nothing else.
pub joined-nested : map (λ (earlier : List Rec). joined (prepared (in_mode 0) nested) earlier (7 ∷ 11 ∷ 0 ∷ [])) (take 1 (searched (in_mode 0) 500000 nested).recs ∷ [] ∷ []) ≡ true ∷ false ∷ []
unfolding if row walk instructions cuts blocks read does act trim run through compose sweep spread closure parents record_nowhere record_found arrive follow tries level turn round rounds search prepared searched
joined-nested = refl

-- YP goes along the recorded path, in which there is no JUMPI, and not from 0 to 9.
pub walks-nested : (supply : ℕ → ℕ → ℕ → ℕ) → map (λ (path : List ℕ). walks row nested supply path []) ((7 ∷ 11 ∷ 0 ∷ []) ∷ (9 ∷ 0 ∷ []) ∷ []) ≡ true ∷ false ∷ []
unfolding if row walk yields jumping closing
walks-nested supply = refl

-- Of a JUMPI both places count: the path through 12 is walked, and so is the one through 11, where YP goes, for the condition below the destination is 0.
pub walks-untaken : (supply : ℕ → ℕ → ℕ → ℕ) → (map (λ (path : List ℕ). walks row untaken supply path []) ((12 ∷ 9 ∷ 0 ∷ []) ∷ (11 ∷ 9 ∷ 0 ∷ []) ∷ []) ≡ true ∷ true ∷ [])
    × ((along row untaken supply (0 ∷ []) []).words ≡ 12 ∷ 0 ∷ 14 ∷ [])
unfolding if row walk yields jumping closing
walks-untaken supply = (refl, refl)

-- No jump goes to a byte that is not 5B, and 0C is no instruction of YP.
pub walks-unmarked : (supply : ℕ → ℕ → ℕ → ℕ) → walks row unmarked supply (4 ∷ 0 ∷ []) [] ≡ false
unfolding if row walk yields jumping closing
walks-unmarked supply = refl

pub unknown-byte : all_known row 0 (fetched (0x0C ∷ []) 0) ≡ false
unfolding if row walk
unknown-byte = refl

-- PUSH1 6, PUSH0, ADD, and the block at 4 jumps: the sum is known in mode 1 alone, and popped in either.
abbrev zeroed : List ℕ
zeroed = hex 7 0x60065F015B565B

pub modes-hold : map (λ (m : ℕ). map shown (searched (in_mode m) 500000 zeroed).recs) (0 ∷ 1 ∷ []) ≡ ((4 ∷ 0 ∷ []) ∷ []) ∷ ((6 ∷ 4 ∷ 0 ∷ []) ∷ []) ∷ []
unfolding if row walk instructions cuts blocks read does act trim run through compose sweep spread closure parents record_nowhere record_found arrive follow tries level turn round rounds search prepared searched
modes-hold = refl

pub pops-zeroed : (supply : ℕ → ℕ → ℕ → ℕ) → pops-it supply zeroed (6 ∷ 4 ∷ 0 ∷ []) ≡ true
unfolding if row walk yields jumping closing
pops-zeroed supply = refl

-- A mask whose premise is met: at the AND the block knows 0xffffffff on top, and the other word is 5.
pub asks-masked : (supply : ℕ → ℕ → ℕ → ℕ) → Asks (in_mode 0) masked supply (7 ∷ 0 ∷ []) []
unfolding if row walk yields jumping closing does
asks-masked supply = asks-computed (in_mode 0) lawful masked supply (7 ∷ 0 ∷ []) [] refl

-- One that no stack and no results meet.
pub never-asked : (supply : ℕ → ℕ → ℕ → ℕ) (st : List ℕ) → ¬ Asks (in_mode 0) stuck supply (11 ∷ 0 ∷ []) st
unfolding if row walk yields jumping closing does
never-asked supply st a = let below = ((((a.0.1.1 refl).1 refl).1 refl).1 refl).0.next refl refl refl in omega (arith, below)
