-- What is written: the maps that are copied, and the four numbers. Assumes nothing.
use mathlib.Core.Path.{◌≡◌, sym, ap, ◌∙◌}
use mathlib.Core.List.{List, [], ◌∷◌, ◌++◌, append_assoc, append-nil}
use Prim.Native.Nat.{ℕ, ◌+◌, ◌-◌, ◌≤◌, ◌<◌}
use native.Mathlib.Omega.{arith}
use native.Mathlib.Nat.{zero-add}
use Rattle.std.specs.Prelude.{Ok, Err}
use Rattle.refusal.specs.declared.Refusal.TheVariants.{Archive}
use lib.ListN.{length, take, drop}
use lib.Seq.{take-append_seam}
use Rattle.spec.specs.Lists.{little}
use Rattle.spec.specs.Eights.{as_eights, over}
use Rattle.spec.specs.Salvage.{Salvaged as Result, salvage, copied}
use Rattle.theorems.proofs.SalvageLaws.{salvage-parts, salvage-lengths, written-if, NotWritten, not-if-out, not-if-report}
use Rattle.lent.specs.Bytes.{Stored, patch}
use Rattle.lent.proofs.Stored.{stored-join}
use Rattle.salvage.specs.Promises.{judged_of, answer_of, Salvaged}
use Rattle.salvage.specs.declared.judge.Judged.{Judged}

-- bytes stored at a buffer's front
at_front : (b bs : List ℕ) → patch b 0 bs ≡ over bs b
unfolding patch
at_front b bs = ap (λ (n : ℕ). bs ++ drop n b) (zero-add (length bs))

-- ---- print

four : (x y z w : List ℕ) → ((x ++ y) ++ z) ++ w ≡ x ++ (y ++ (z ++ (w ++ [])))
four x y z w = append_assoc (x ++ y) z w ∙ append_assoc x y (z ++ w) ∙ ap (λ (l : List ℕ). x ++ (y ++ (z ++ l))) (sym (append-nil w))

pub four-stored : (a b c d : ℕ) {r r₁ r₂ r₃ r₄ : List ℕ} → Stored 8 r 0 (little 8 a) r₁ → Stored 8 r₁ 8 (little 8 b) r₂ → Stored 8 r₂ 16 (little 8 c) r₃
    → Stored 8 r₃ 24 (little 8 d) r₄ → r₄ ≡ over (as_eights (a ∷ b ∷ c ∷ d ∷ [])) r
four-stored a b c d {r} p q s t =
    (stored-join (stored-join (stored-join p q) s) t).is ∙ at_front r _ ∙ ap (λ (l : List ℕ). over l r) (four (little 8 a) (little 8 b) (little 8 c) (little 8 d))

-- ---- salvage

module _ (archive : List ℕ) {j : Judged} (e : j ≡ judged_of (salvage archive)) where
  abbrev result : Result
  result = salvage archive

  bytes_are : j.bytes ≡ length (copied result)
  bytes_are = ap (λ (x : Judged). x.bytes) e

  pub bytes_fit : j.bytes ≤ length archive
  bytes_fit = omega (arith, bytes_are, salvage-lengths archive)

  pub copy-fits : 0 + j.bytes ≤ length archive
  copy-fits = omega (arith, bytes_fit)

  module _ (out report : List ℕ) where
    not_written : NotWritten archive out report → Salvaged archive out report (Err Archive) out report
    not_written k = record { said = ap answer_of (sym k.number_is); out_is = sym k.out_is; report_is = sym k.report_is }

    pub short-out : length out < j.bytes → Salvaged archive out report (Err Archive) out report
    short-out h = not_written (not-if-out archive out report (omega (arith, bytes_are)))

    pub short-report : length report < 32 → Salvaged archive out report (Err Archive) out report
    short-report h = not_written (not-if-report archive out report h)

    -- what is copied is the archive's front
    front : take j.bytes archive ≡ copied result
    front =
        ap (λ (n : ℕ). take n archive) bytes_are ∙ ap (take (length (copied result))) (sym (salvage-parts archive)) ∙ take-append_seam (copied result) result.rest

    pub written : j.bytes ≤ length out → 32 ≤ length report → {out' report' : List ℕ} → Stored j.bytes out 0 (take j.bytes (drop 0 archive)) out'
        → report' ≡ over (as_eights (j.maps ∷ j.bytes ∷ (length archive - j.bytes) ∷ j.offset ∷ [])) report → Salvaged archive out report (Ok tt) out' report'
    written h k s p =
        let w = written-if archive out report (omega (arith, bytes_are)) k in
        let dropped : length archive - j.bytes ≡ length result.rest = omega (arith, bytes_are, salvage-lengths archive) in
        record {
          said = ap answer_of (sym w.number_is);
          out_is = s.is ∙ at_front out (take j.bytes archive) ∙ ap (λ (l : List ℕ). over l out) front ∙ sym w.out_is;
          report_is =
              p ∙ ap (λ (n : ℕ). over (as_eights (j.maps ∷ j.bytes ∷ n ∷ j.offset ∷ [])) report) dropped
              ∙ ap (λ (x : Judged). over (as_eights (x.maps ∷ x.bytes ∷ length result.rest ∷ x.offset ∷ [])) report) e ∙ sym w.report_is;
        }
