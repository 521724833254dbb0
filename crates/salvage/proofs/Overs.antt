-- Where a map is over: the ways out of the functions that say so. Assumes nothing.
use mathlib.Core.Path.{◌≡◌, sym, ap, ap₂, ◌∙◌}
use mathlib.Core.Bool.{Bool, true, false, not, ◌&&◌, ◌||◌}
use mathlib.Core.List.{List}
use Prim.Native.Nat.{ℕ, ◌≤◌, ◌<◌}
use Rattle.std.specs.Prelude.{Result, Ok, Err}
use lib.Dec.{leb}
use lib.ListN.{length}
use borrow.Author.Tests.{le-leb, lt-leb}
use Rattle.laws.proofs.Branch.{and-false}
use Rattle.theorems.proofs.ReaderPlaces.{never}
use Rattle.reader.specs.Scanning.{last_of}
use Rattle.reader.specs.declared.scan.Scan.{Scan}
use Rattle.reader.specs.declared.scan.BadEntry.{BadEntry}
use Rattle.salvage.specs.Promises.{runs, over_of, close, closed_of}

-- ---- over

module _ (b : List ℕ) (s : Scan) (n m : ℕ) where
  abbrev run-next : Bool
  run-next = runs s.place b s.at

  pub over-bytes : length b ≤ s.at → true ≡ over_of b s n m
  over-bytes h = sym (ap (λ (c : Bool). c || (leb n s.blocks && (leb m s.records && not run-next))) (le-leb _ _ h))

  module _ (h : s.at < length b) where
    some_left : over_of b s n m ≡ leb n s.blocks && (leb m s.records && not run-next)
    some_left = ap (λ (c : Bool). c || (leb n s.blocks && (leb m s.records && not run-next))) (lt-leb _ _ h)

    -- the counts are met, or not
    module _ {x : Bool} where
      pub over-met : n ≤ s.blocks → x ≡ leb m s.records → x ≡ true → {r : Bool} → r ≡ run-next → not r ≡ over_of b s n m
      over-met j k t q = sym (some_left ∙ ap₂ (λ (x y : Bool). x && (y && not run-next)) (le-leb _ _ j) (sym k ∙ t) ∙ ap not (sym q))

      pub over-neither : s.blocks < n → x ≡ leb n s.blocks → x ≡ true → (r : Bool) → not r ≡ over_of b s n m
      over-neither k e t r = let z : false ≡ true = sym (lt-leb _ _ k) ∙ sym e ∙ t in never (cc)

      pub over-blocks : s.blocks < n → x ≡ false → x ≡ over_of b s n m
      over-blocks k e = e ∙ sym (some_left ∙ ap (λ (c : Bool). c && (leb m s.records && not run-next)) (lt-leb _ _ k))

      pub over-records : x ≡ leb m s.records → x ≡ false → x ≡ over_of b s n m
      over-records k e = e ∙ sym (some_left ∙ and-false (leb n s.blocks) (ap (λ (c : Bool). c && not run-next) (sym k ∙ e)))

-- ---- closed

module _ (s : Scan) (n m : ℕ) {r : Result Unit BadEntry} (e : r ≡ last_of s n m) where
  pub closed-bad : {x : BadEntry} → r ≡ Err x → Err x ≡ closed_of s n m
  closed-bad q = ap (λ (a : Result Unit BadEntry). close a s.at) (sym q ∙ e)

  pub closed-whole : {u : Unit} → r ≡ Ok u → Ok s.at ≡ closed_of s n m
  closed-whole q = ap (λ (a : Result Unit BadEntry). close a s.at) (sym q ∙ e)
