-- Document 01's list of taken and given, at the bytes that an arm of words_of is for: one test, computed at each of them. Assumes nothing.
use mathlib.Core.Path.{◌≡◌, refl, sym, ◌∙◌}
use mathlib.Core.Logic.{⊎_elim}
use mathlib.Core.Bool.{Bool, true, false, ◌||◌, beq}
use mathlib.Core.List.{List, [], ◌∷◌}
use Prim.Native.Nat.{ℕ, suc, ◌+◌, ◌-◌, ◌≤◌, ◌<◌}
use native.Mathlib.Omega.{arith}
use lib.ListN.{get_or}
use lib.Dec.{T, leb, eqb, leb→le, eqb→eq}
use mir.Facts.{or_yes}
use mir.Val.{has_key}
use types.Run.{OneOf, hit}
use Rattle.spec.specs.Lists.{if}
use Rattle.spec.specs.Opcodes.{argument, row}
use Rattle.std.specs.Prelude.{Option, Some, None}
use Rattle.evm.specs.declared.rows.Words.{Words}
use Rattle.evm.specs.Rows.{RowIs, SizeIs, taken_in, given_in, known_in, WordsAre, each}
use Rattle.evm.proofs.Table.{◌both◌, left, right, each_of, each_at, every, every-at, zero-below}

beq→eq : (a b : Bool) → T (beq a b) → a ≡ b
beq→eq true true t = refl
beq→eq true false t = absurd t
beq→eq false true t = absurd t
beq→eq false false t = refl

-- w is what the list says of the byte k, within the bounds
abbrev pub fits : Option Words → ℕ → Bool
fits w k = eqb (taken_in w) (row k).taken both eqb (given_in w) (row k).given both beq (known_in w) (row k).known both leb (taken_in w) 17 both leb (given_in w) 17

words_are : (w : Option Words) (k : ℕ) → T (fits w k) → WordsAre k w
words_are w k t =
    record {
      taken = eqb→eq _ _ (left _ _ (left _ _ (left _ _ (left _ _ t))));
      given = eqb→eq _ _ (right _ _ (left _ _ (left _ _ (left _ _ t))));
      known = beq→eq _ _ (right _ _ (left _ _ (left _ _ t)));
      taken_most = leb→le _ _ (right _ _ (left _ _ t));
      given_most = leb→le _ _ (right _ _ t);
    }

-- ---- the bytes that words_of names one by one, and the others

-- x is none of these, as it is known behind the arms that name bytes; N is what is known before
abbrev pub Others : Type 0 → List (List ℕ) → ℕ → Type 0
Others N [] x = N
Others N (ks ∷ kss) x = Others (N × (OneOf ks x → ⊥)) kss x

before : (N : Type 0) (kss : List (List ℕ)) (x : ℕ) → Others N kss x → N
before N [] x o = o
before N (ks ∷ kss) x o = (before (N × (OneOf ks x → ⊥)) kss x o).0

unfoldable pub among : List (List ℕ) → ℕ → Bool
among [] k = false
among (ks ∷ kss) k = has_key ks k || among kss k

unnamed : (N : Type 0) (kss : List (List ℕ)) (x : ℕ) → Others N kss x → T (among kss x) → ⊥
unfolding among
unnamed N [] x o t = t
unnamed N (ks ∷ kss) x o t =
    ⊎_elim
    (λ h. (before (N × (OneOf ks x → ⊥)) kss x o).1 (hit ks x h))
    (λ l. unnamed (N × (OneOf ks x → ⊥)) kss x o l)
    (or_yes (has_key ks x) (among kss x) t)

-- those that are named, by the arms
abbrev pub named : List (List ℕ)
named =
    (0x00 ∷ 0x5B ∷ 0xFE ∷ [])
    ∷ (0x20 ∷ [])
    ∷ (0xF0 ∷ [])
    ∷ (0x15 ∷ 0x19 ∷ 0x1E ∷ 0x31 ∷ 0x35 ∷ 0x3B ∷ 0x49 ∷ 0x51 ∷ 0x54 ∷ 0x5C ∷ [])
    ∷ (0x30 ∷ 0x36 ∷ 0x38 ∷ 0x3A ∷ 0x3D ∷ 0x4A ∷ [])
    ∷ (0x37 ∷ 0x39 ∷ 0x3E ∷ 0x5E ∷ [])
    ∷ (0x3C ∷ [])
    ∷ (0x50 ∷ 0x56 ∷ 0xFF ∷ [])
    ∷ (0x55 ∷ 0x57 ∷ 0x5D ∷ 0xF3 ∷ 0xFD ∷ [])
    ∷ (0xF4 ∷ 0xFA ∷ [])
    ∷ (0xF5 ∷ [])
    ∷ []

-- the n-th of these arms, at its bytes
pub keyed : (w : Option Words) (n : ℕ) → T (each_of (fits w) (get_or named n [])) → {x : ℕ} {r : Option Words} → OneOf (get_or named n []) x → r ≡ w → WordsAre x r
keyed w n t {x} o e = rw e (words_are w x (each_at (fits w) (get_or named n []) x t o))

-- an arm for the bytes of a range, n from a on, of which no arm names one; what it gives may go by the byte
pub within : (w : ℕ → Option Words) (a n : ℕ) → T (every (λ (k : ℕ). fits (w k) k) a n) → {x : ℕ} {r : Option Words} → a ≤ x → x < a + n → r ≡ w x → WordsAre x r
within w a n t {x} h g e = rw e (words_are (w x) x (every-at (λ (k : ℕ). fits (w k) k) n a x t h g))

or_else : (a b : Bool) → T (a || b) → (T a → ⊥) → T b
or_else a b t n = ⊎_elim (λ h. absurd (n h)) (λ h. h) (or_yes a b t)

-- the byte is named, or w is what the list says of it
unfoldable pub named-or : (ℕ → Option Words) → ℕ → Bool
named-or w k = among named k || fits (w k) k

-- the same for those of a range that no arm names, where some are named
pub ranged : (w : ℕ → Option Words) (a n : ℕ) → T (every (named-or w) a n) → {x : ℕ} {r : Option Words} → Others (Unit {0}) named x → a ≤ x → x < a + n → r ≡ w x → WordsAre x r
unfolding named-or
ranged w a n t {x} o h g e = rw e (words_are (w x) x (or_else (among named x) (fits (w x) x) (every-at (named-or w) n a x t h g) (unnamed (Unit {0}) named x o)))

-- ---- LOGk, whose arm has no answer: that would go by the name of its bytes

module _ (x : ℕ) (h : 0xA0 ≤ x) (g : x < 0xA5) where
  log : WordsAre x (each (x - 0xA0 + 2) 0)
  unfolding every row if ◌both◌
  log = within (λ k. each (k - 0xA0 + 2) 0) 0xA0 5 tt h g refl

  pub log_taken : (row x).taken ≡ x - 0xA0 + 2
  log_taken = omega (arith, log.taken)

  pub log_given : (row x).given ≡ 0
  log_given = omega (arith, log.given)

  pub log_known : (row x).known ≡ true
  log_known = sym log.known

pub ruleset log_row = (log_taken, log_given, log_known)

-- ---- the whole row

sized : ℕ → Bool
sized k = eqb (row k).size (suc (argument k))

pub row-size : (x : ℕ) → x < 256 → (row x).size ≡ suc (argument x)
unfolding sized every row if ◌both◌
row-size x h = eqb→eq _ _ (every-at sized 256 0 x tt zero-below h)

module _ {x s : ℕ} {r : Option Words} (h : x < 256) (z : SizeIs x s) (w : WordsAre x r) where
  row_is : RowIs x (record { size = s; taken = taken_in r; given = given_in r; known = known_in r })
  row_is = record {
    size = z.size ∙ sym (row-size x h);
    taken = w.taken;
    given = w.given;
    known = w.known;
    size_least = z.least;
    size_most = z.most;
    taken_most = w.taken_most;
    given_most = w.given_most;
  }

  pub row-known : {ws : Words} → r ≡ Some ws → RowIs x (record { size = s; taken = ws.taken; given = ws.given; known = true })
  row-known e = rw e at row_is

  pub row-unknown : r ≡ None → RowIs x (record { size = s; taken = 0; given = 0; known = false })
  row-unknown e = rw e at row_is

  pub known-is : {b : Bool} → b ≡ known_in r → b ≡ (row x).known
  known-is e = e ∙ w.known
