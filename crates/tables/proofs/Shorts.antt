-- The laws of the first shortage, with the rooms by value. Assumes nothing.
use Rattle.std.proofs.Common.{◌≡◌, ℕ, zero, suc, ◌+◌, ◌<◌, ◌≤◌, List, [], ◌∷◌, ◌++◌, refl, ap, ◌∙◌, arith, le-leb}
use native.Mathlib.Decide.{dec_lt}
use borrow.Author.Tests.{lt-leb}
use Rattle.spec.specs.Lists.{if}
use Rattle.spec.specs.Search.{R, Q, Need}
use Rattle.spec.specs.Rooms.{Lent, or_else, shortage}
use Rattle.theorems.proofs.Shortage.{shortage-append}
use Rattle.refusal.specs.Numbers.{short_number}
use Rattle.refusal.specs.declared.Shortage.{Shortage}
use Rattle.refusal.specs.declared.Shortage.TheVariants as short
use Rattle.tables.specs.Recording.{Lends, short_of, entry_needs}
use Rattle.tables.specs.declared.Rooms.{Rooms}
use Rattle.tables.specs.declared.Counts.{Counts}

pub lends-short : {l : Lent} {k : Rooms} → Lends l k → (ns : List Need) → shortage l ns ≡ short_of k ns
unfolding shortage short_of
lends-short e [] = refl
lends-short e (n ∷ ns) = rw (lends-short e ns, e.is n.room)

-- needs noted after others
pub short-after : {l : Lent} {k : Rooms} → Lends l k → (more ns : List Need) → shortage l (more ++ ns) ≡ or_else (shortage l ns) (short_of k more)
short-after {l} e more ns = shortage-append l more ns ∙ ap (or_else (shortage l ns)) (lends-short e more)

-- the number of a room that is short is not 0
pub short-some : (x : Shortage) → short_number x ≡ 0 → ⊥
short-some short.P e = omega arith
short-some short.S e = omega arith
short-some short.T e = omega arith
short-some short.R e = omega arith
short-some short.Q e = omega arith

pub or-else-zero : (a : ℕ) → or_else a 0 ≡ a
or-else-zero zero = refl
or-else-zero (suc a) = refl

module _ (k : Rooms) (c : Counts) (np cells : ℕ) where
  pub short-r : k.r < c.records + 1 → 7 ≡ short_of k (entry_needs c np cells)
  unfolding short_of if
  short-r h = rw (lt-leb (c.records + 1) k.r h)

  module _ (r : c.records + 1 ≤ k.r) where
    pub short-q : k.q < c.addresses + np → 8 ≡ short_of k (entry_needs c np cells)
    unfolding short_of if
    short-q h = rw (le-leb (c.records + 1) k.r r, lt-leb (c.addresses + np) k.q h)

    module _ (q : c.addresses + np ≤ k.q) where
      pub short-s : k.s < c.kept + c.used + cells → 5 ≡ short_of k (entry_needs c np cells)
      unfolding short_of if
      short-s h = rw (le-leb (c.records + 1) k.r r, le-leb (c.addresses + np) k.q q, lt-leb (c.kept + c.used + cells) k.s h)

      pub short_none : c.kept + c.used + cells ≤ k.s → 0 ≡ short_of k (entry_needs c np cells)
      unfolding short_of if
      short_none h = rw (le-leb (c.records + 1) k.r r, le-leb (c.addresses + np) k.q q, le-leb (c.kept + c.used + cells) k.s h)

-- a need of S that is held says nothing
pub short-rest : (k : Rooms) (c : Counts) (np cells : ℕ) → c.kept + c.used + cells ≤ k.s
    → short_of k (entry_needs c np cells) ≡ short_of k (record { room = Q; units = c.addresses + np } ∷ record { room = R; units = c.records + 1 } ∷ [])
unfolding short_of if
short-rest k c np cells h = rw (le-leb (c.kept + c.used + cells) k.s h) (or-else-zero _)

-- none is short: all are held
pub record Roomy (k : Rooms) (c : Counts) (np cells : ℕ) : Type 0 where
  pub r : c.records + 1 ≤ k.r
  pub q : c.addresses + np ≤ k.q
  pub s : c.kept + c.used + cells ≤ k.s

pub short-fits : (k : Rooms) (c : Counts) (np cells : ℕ) → short_of k (entry_needs c np cells) ≡ 0 → Roomy k c np cells
short-fits k c np cells e = in-r (dec_lt k.r (c.records + 1))
  where
    in-s : c.records + 1 ≤ k.r → c.addresses + np ≤ k.q → Dec (k.s < c.kept + c.used + cells) → Roomy k c np cells
    in-s r q (yes h) = absurd (omega (arith, short-s k c np cells r q h))
    in-s r q (no h) = record { r = r; q = q; s = omega arith }

    in-q : c.records + 1 ≤ k.r → Dec (k.q < c.addresses + np) → Roomy k c np cells
    in-q r (yes h) = absurd (omega (arith, short-q k c np cells r h))
    in-q r (no h) = in-s r (omega arith) (dec_lt k.s (c.kept + c.used + cells))

    in-r : Dec (k.r < c.records + 1) → Roomy k c np cells
    in-r (yes h) = absurd (omega (arith, short-r k c np cells h))
    in-r (no h) = in-q (omega arith) (dec_lt k.q (c.addresses + np))
