-- What a character is worth as a digit, range by range. Assumes nothing.
use mathlib.Core.Path.{◌≡◌, ◌∙◌}
use mathlib.Core.Bool.{true, false}
use mathlib.Core.Option.{none, some}
use Prim.Native.Nat.{ℕ, ◌-◌, ◌≤◌, ◌<◌}
use native.Mathlib.Omega.{arith}
use Rattle.std.specs.Prelude.{Some, None}
use lib.Dec.{leb}
use borrow.Author.Tests.{le-leb, lt-leb}
use Rattle.spec.specs.Lists.{within}
use Rattle.spec.specs.Program.{digit}
use Rattle.laws.proofs.Branch.{if-true, if-false, and-false}
use Rattle.laws.proofs.Members.{and-true}
use Rattle.map.specs.Promises.{Worth}

module _ (lo hi c : ℕ) where
  inside : lo ≤ c → c ≤ hi → within lo hi c ≡ true
  inside h g = and-true (leb lo c) (leb c hi) (le-leb lo c h) (le-leb c hi g)

  under : c < lo → within lo hi c ≡ false
  under h = rw (lt-leb lo c h)

  over : hi < c → within lo hi c ≡ false
  over h = and-false (leb lo c) (lt-leb c hi h)

is-worth : {c v : ℕ} → v ≤ 15 → digit c ≡ some v → Worth c (Some v)
is-worth {c} {v} h e = record { taken = λ d q. let same : v ≡ d = cc in rw (← same) (e, h); refused = λ q. other q }
  where
    other : Some v ≡ None → digit c ≡ none
    other q = cc

no_digit : {c : ℕ} → digit c ≡ none → Worth c None
no_digit {c} e = record { taken = λ d q. other q; refused = λ _. e }
  where
    other : {d : ℕ} → None ≡ Some d → (digit c ≡ some d) × (d ≤ 15)
    other q = cc

module _ (c : ℕ) where
  -- in none of the three ranges
  apart : within 0x30 0x39 c ≡ false → within 0x41 0x46 c ≡ false → within 0x61 0x66 c ≡ false → Worth c None
  apart e f g = no_digit (if-false _ _ _ e ∙ if-false _ _ _ f ∙ if-false _ _ _ g)

  pub worth-under : c < 0x30 → Worth c None
  worth-under h = apart (under 0x30 0x39 c h) (under 0x41 0x46 c (omega arith)) (under 0x61 0x66 c (omega arith))

  pub worth-figure : 0x30 ≤ c → c ≤ 0x39 → Worth c (Some (c - 0x30))
  worth-figure h g = is-worth (omega arith) (if-true _ _ _ (inside 0x30 0x39 c h g))

  pub worth-between : 0x39 < c → c < 0x41 → Worth c None
  worth-between h g = apart (over 0x30 0x39 c h) (under 0x41 0x46 c g) (under 0x61 0x66 c (omega arith))

  pub worth-upper : 0x41 ≤ c → c ≤ 0x46 → Worth c (Some (c - 0x37))
  worth-upper h g = is-worth (omega arith) (if-false _ _ _ (over 0x30 0x39 c (omega arith)) ∙ if-true _ _ _ (inside 0x41 0x46 c h g))

  pub worth-past : 0x46 < c → c < 0x61 → Worth c None
  worth-past h g = apart (over 0x30 0x39 c (omega arith)) (over 0x41 0x46 c h) (under 0x61 0x66 c g)

  pub worth-lower : 0x61 ≤ c → c ≤ 0x66 → Worth c (Some (c - 0x57))
  worth-lower h g =
      is-worth (omega arith)
      (if-false _ _ _ (over 0x30 0x39 c (omega arith)) ∙ if-false _ _ _ (over 0x41 0x46 c (omega arith)) ∙ if-true _ _ _ (inside 0x61 0x66 c h g))

  pub worth-over : 0x66 < c → Worth c None
  worth-over h = apart (over 0x30 0x39 c (omega arith)) (over 0x41 0x46 c (omega arith)) (over 0x61 0x66 c h)
