-- What aznifrem_read gives. Assumes nothing.
use mathlib.Core.Path.{◌≡◌, refl, sym, ap, ◌∙◌}
use Prim.Native.Nat.{ℕ}
use mathlib.Core.List.{List}
use Rattle.std.specs.Prelude.{Result, Ok, Err}
use Rattle.spec.specs.Reader.{Reading as Said, holds, bad, read, reads_as}
use Rattle.refusal.specs.declared.Refusal.{Refusal}
use Rattle.refusal.specs.declared.Refusal.TheVariants.{Entry}
use Rattle.reader.specs.Scanning.{reading_of}
use Rattle.reader.specs.declared.scan.BadEntry.{BadEntry}
use Rattle.aznifrem.specs.Told.{refusing, told_of}

-- ---- reading

module _ {r s : Result Unit BadEntry} (e : r ≡ s) where
  pub read-refused : {b : BadEntry} → r ≡ Err b → {x : Refusal} → x ≡ Entry b.offset → Err x ≡ refusing s
  read-refused q g = ap Err g ∙ ap refusing (sym q ∙ e)

  pub read-whole : {u : Unit} → r ≡ Ok u → Ok tt ≡ refusing s
  read-whole q = ap refusing (sym q ∙ e)

-- ---- as one number

joined : (s : Said) → told_of (refusing (reading_of s)) ≡ reads_as s
joined (holds m) = refl
joined (bad at) = refl

pub read-given : (b : List ℕ) {a : Result Unit Refusal} → a ≡ refusing (reading_of (read b)) → {x : ℕ} → x ≡ told_of a → x ≡ reads_as (read b)
read-given b g k = k ∙ ap told_of g ∙ joined (read b)
