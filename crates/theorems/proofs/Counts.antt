-- Document 01, "Which instruction does what is one decision over the byte and its ranges": YP's step and the ends of a run, given by the byte, are those
-- of the decision in either mode, and so are the row's numbers, by any rows that are document 01's where the decision names a byte. At the 256 bytes by
-- computing; a number past them is plain. Assumes nothing.
use Prim.Native.Nat.{ℕ, zero, suc, ◌+◌, ◌^◌, ◌%◌, ◌≤◌, ◌<◌}
use native.Mathlib.Omega.{arith}
use native.Mathlib.Nat.{eq-or-lt_of_le}
use mathlib.Core.Path.{◌≡◌, refl, sym, subst}
use mathlib.Core.Logic.{◌⊎◌, inl, inr}
use mathlib.Core.Bool.{Bool, true, false, ◌&&◌, ◌||◌}
use mathlib.Core.List.{List, [], ◌∷◌, ◌++◌}
use lib.Bits.{bit_and}
use lib.Dec.{T, eqb, leb, ltb, leb→le}
use lib.ListN.{get_or, drop}
use borrow.Author.Tests.{leb-true, ltb-true, ltb-false, lt-leb, ne_eqb}
use Rattle.spec.specs.Lists.{if, within, mem}
use Rattle.spec.specs.Opcodes.{Row, row as listed}
use Rattle.spec.specs.Walk.{Ins}
use Rattle.spec.specs.Stacks.{Does, pushes_value, pushes_pc, dups, swaps, ands, adds, jumps, jumpis, lands, halts, plain, does}
use Rattle.spec.specs.Meaning.{supplied, exchanged, yields, jumping, closing}
use Rattle.laws.proofs.Branch.{both, if-false, and-false}

-- ---- a number past 255, which is no byte, is plain

pub and-off : (a : Bool) → a && false ≡ false
and-off a = and-false a refl

module _ (b : ℕ) (past : 255 < b) where
  pub differs : (n : ℕ) → T (leb n 255) → eqb b n ≡ false
  differs n t = ne_eqb b n (omega (arith, leb→le))

  pub above : (n : ℕ) → T (leb n 255) → leb b n ≡ false
  above n t = lt-leb b n (omega (arith, leb→le))

  past-plain : (m : ℕ) → does m b ≡ plain
  unfolding does if
  past-plain m = simp (differs, above, and-off, tt {0})

-- ---- two functions are the same at every number: at the bytes the two lists of their values are one, and past them

module _ {A : Type 0} where
  -- the values at the numbers below n
  abbrev values : (ℕ → A) → ℕ → List A
  values f zero = []
  values f (suc n) = f n ∷ values f n

  value-at : (f g : ℕ → A) (n k : ℕ) → values f n ≡ values g n → k < n → f k ≡ g k
  value-at f g zero k e h = absurd (omega arith)
  value-at f g (suc n) k e h = split (eq-or-lt_of_le {n = k} {m = n} (omega arith)) (value-at f g n k (cc))
    where
      first : f n ≡ g n
      first = cc

      split : (k ≡ n) ⊎ (k < n) → (k < n → f k ≡ g k) → f k ≡ g k
      split (inl q) on = rw q first
      split (inr q) on = on q

  pub everywhere : (f g : ℕ → A) → values f 256 ≡ values g 256 → ((b : ℕ) → 255 < b → f b ≡ g b) → (b : ℕ) → f b ≡ g b
  everywhere f g e past b = split (ltb b 256) refl
    where
      split : (t : Bool) → ltb b 256 ≡ t → f b ≡ g b
      split true q = value-at f g 256 b e (ltb-true _ _ q)
      split false q = past b (ltb-false _ _ q)

-- ---- what is asked of the rows

-- the bytes for which the cutting or the step has a case of its own, and every PUSH
unfoldable pub named : ℕ → Bool
named b = mem b (0x00 ∷ 0x01 ∷ 0x16 ∷ 0x56 ∷ 0x57 ∷ 0x58 ∷ 0x5B ∷ 0xF3 ∷ 0xFD ∷ 0xFE ∷ 0xFF ∷ []) || within 0x5F 0x9F b

-- Of a named byte the row is document 01's, and no instruction takes more than 17 words. The other bytes may have any row, or none.
pub record Lawful (row : ℕ → Row) : Type 0 where
  pub named_as : (b : ℕ) → named b ≡ true → row b ≡ listed b
  pub few : (b : ℕ) → (row b).taken ≤ 17

few-test : (b : ℕ) → leb (listed b).taken 17 ≡ true
unfolding listed if
few-test = everywhere (λ b. leb (listed b).taken 17) (λ _. true) refl (λ b h. simp (above b h, and-off, tt {0}))

-- Document 01's are such rows.
pub lawful : Lawful listed
lawful = record { named_as = λ b _. refl; few = λ b. leb-true _ _ (few-test b) }

-- the row, written so that a named byte's is seen
abbrev seen : (ℕ → Row) → ℕ → Row
seen row b = if (named b) (listed b) (row b)

is_seen : {row : ℕ → Row} → Lawful row → (b : ℕ) → row b ≡ seen row b
is_seen {row} ok b = both (λ (x : Row). row b ≡ x) (named b) (ok.named_as b) (λ _. refl)

-- two functions of a byte and its row are the same at every number
pub by_row : {A : Type 0} {row : ℕ → Row} → Lawful row → (f g : Row → ℕ → A) → values (λ b. f (seen row b) b) 256 ≡ values (λ b. g (seen row b) b) 256
    → ((b : ℕ) → 255 < b → f (row b) b ≡ g (row b) b) → (b : ℕ) → f (row b) b ≡ g (row b) b
by_row {A} {row} ok f g e past b = split (ltb b 256) refl
  where
    split : (t : Bool) → ltb b 256 ≡ t → f (row b) b ≡ g (row b) b
    split true q = subst (λ (x : Row). f x b ≡ g x b) (sym (is_seen ok b)) (value-at (λ b. f (seen row b) b) (λ b. g (seen row b) b) 256 b e (ltb-true _ _ q))
    split false q = past b (ltb-false _ _ q)

-- ---- the words that an instruction takes and gives

-- by what it does; those of a plain byte are the row's
abbrev pub takes : Row → Does → ℕ
takes x pushes_value = 0
takes x pushes_pc = 0
takes x (dups n) = suc n
takes x (swaps n) = suc (suc n)
takes x ands = 2
takes x adds = 2
takes x jumps = 1
takes x jumpis = 2
takes x lands = 0
takes x halts = x.taken
takes x plain = x.taken

abbrev pub gives : Row → Does → ℕ
gives x pushes_value = 1
gives x pushes_pc = 1
gives x (dups n) = suc (suc n)
gives x (swaps n) = suc (suc n)
gives x ands = 1
gives x adds = 1
gives x jumps = 0
gives x jumpis = 0
gives x lands = 0
gives x halts = x.given
gives x plain = x.given

-- in a mode, by lawful rows
module _ {row : ℕ → Row} (ok : Lawful row) where
  pub takes-row : (m b : ℕ) → takes (row b) (does m b) ≡ (row b).taken
  unfolding does listed named if
  takes-row zero = by_row ok (λ x b. takes x (does 0 b)) (λ x b. x.taken) refl (λ b h. rw (past-plain b h 0))
  takes-row (suc m) = by_row ok (λ x b. takes x (does (suc m) b)) (λ x b. x.taken) refl (λ b h. rw (past-plain b h (suc m)))

  pub gives_row : (m b : ℕ) → gives (row b) (does m b) ≡ (row b).given
  unfolding does listed named if
  gives_row zero = by_row ok (λ x b. gives x (does 0 b)) (λ x b. x.given) refl (λ b h. rw (past-plain b h 0))
  gives_row (suc m) = by_row ok (λ x b. gives x (does (suc m) b)) (λ x b. x.given) refl (λ b h. rw (past-plain b h (suc m)))

-- ---- YP's step

-- by what the instruction does; f are the words supplied to this one, x is its row
unfoldable pub does-to : Row → (ℕ → ℕ) → Ins → Does → List ℕ → List ℕ
does-to x f i pushes_value st = i.arg ∷ st
does-to x f i pushes_pc st = i.pc ∷ st
does-to x f i (dups n) st = get_or st n 0 ∷ st
does-to x f i (swaps n) st = exchanged (suc n) st
does-to x f i ands st = bit_and (get_or st 0 0) (get_or st 1 0) ∷ drop 2 st
does-to x f i adds st = ((get_or st 0 0 + get_or st 1 0) % 2 ^ 256) ∷ drop 2 st
does-to x f i jumps st = drop 1 st
does-to x f i jumpis st = drop 2 st
does-to x f i lands st = st
does-to x f i halts st = supplied f x.given ++ drop x.taken st
does-to x f i plain st = supplied f x.given ++ drop x.taken st

-- a PUSH's word is its argument, also where the symbol is an Other
abbrev pub told : (ℕ → ℕ → ℕ) → Ins → ℕ → ℕ
told supply i n = if (within 0x5F 0x7F i.op) i.arg (supply i.pc n)

-- the instruction with the byte b
abbrev with_byte : Ins → ℕ → Ins
with_byte i b = record { pc = i.pc; op = b; arg = i.arg }

told-past : (supply : ℕ → ℕ → ℕ) (i : Ins) (b : ℕ) → 255 < b → told supply (with_byte i b) ≡ supply i.pc
told-past supply i b h = λ j n. if-false _ i.arg (supply i.pc n) (and-false (leb 0x5F b) (above b h 0x7F tt)) j

module _ {row : ℕ → Row} (ok : Lawful row) where
  pub yields-does : (m : ℕ) (supply : ℕ → ℕ → ℕ) (i : Ins) (st : List ℕ) → yields row supply i st ≡ does-to (row i.op) (told supply i) i (does m i.op) st
  unfolding yields does-to does listed named if
  yields-does zero supply i st =
      by_row ok (λ x b. yields (λ _. x) supply (with_byte i b) st) (λ x b. does-to x (told supply (with_byte i b)) (with_byte i b) (does 0 b) st) refl
      (λ b h. simp (differs b h, above b h, and-off, told-past supply i b h, tt {0})) i.op
  yields-does (suc m) supply i st =
      by_row ok (λ x b. yields (λ _. x) supply (with_byte i b) st) (λ x b. does-to x (told supply (with_byte i b)) (with_byte i b) (does (suc m) b) st) refl
      (λ b h. simp (differs b h, above b h, and-off, told-past supply i b h, tt {0})) i.op

-- ---- where a run ends, and where the mask rule may be used

-- the cases, numbered
abbrev case : Does → ℕ
case pushes_value = 0
case pushes_pc = 1
case (dups n) = 2
case (swaps n) = 3
case ands = 4
case adds = 5
case jumps = 6
case jumpis = 7
case lands = 8
case halts = 9
case plain = 10

abbrev pub jumps? : Does → Bool
jumps? d = mem (case d) (6 ∷ 7 ∷ [])

abbrev pub closes? : Does → Bool
closes? d = mem (case d) (6 ∷ 7 ∷ 9 ∷ [])

abbrev pub lands? : Does → Bool
lands? d = eqb (case d) 8

abbrev pub ands? : Does → Bool
ands? d = eqb (case d) 4

pub jumping-does : (m b : ℕ) → jumping b ≡ jumps? (does m b)
unfolding does jumping if
jumping-does zero = everywhere jumping (λ b. jumps? (does 0 b)) refl (λ b h. simp (differs b h, above b h, and-off, tt {0}))
jumping-does (suc m) = everywhere jumping (λ b. jumps? (does (suc m) b)) refl (λ b h. simp (differs b h, above b h, and-off, tt {0}))

pub closing-does : (m b : ℕ) → closing b ≡ closes? (does m b)
unfolding does closing if
closing-does zero = everywhere closing (λ b. closes? (does 0 b)) refl (λ b h. simp (differs b h, above b h, and-off, tt {0}))
closing-does (suc m) = everywhere closing (λ b. closes? (does (suc m) b)) refl (λ b h. simp (differs b h, above b h, and-off, tt {0}))

pub landing-does : (m b : ℕ) → eqb b 0x5B ≡ lands? (does m b)
unfolding does if
landing-does zero = everywhere (λ b. eqb b 0x5B) (λ b. lands? (does 0 b)) refl (λ b h. simp (differs b h, above b h, and-off, tt {0}))
landing-does (suc m) = everywhere (λ b. eqb b 0x5B) (λ b. lands? (does (suc m) b)) refl (λ b h. simp (differs b h, above b h, and-off, tt {0}))

pub anding-does : (m b : ℕ) → eqb b 0x16 ≡ ands? (does m b)
unfolding does if
anding-does zero = everywhere (λ b. eqb b 0x16) (λ b. ands? (does 0 b)) refl (λ b h. simp (differs b h, above b h, and-off, tt {0}))
anding-does (suc m) = everywhere (λ b. eqb b 0x16) (λ b. ands? (does (suc m) b)) refl (λ b h. simp (differs b h, above b h, and-off, tt {0}))
