-- Document 02, No. 6: the mode's number. Assumes nothing.
use Rattle.std.specs.Prelude.{◌≡◌, ℕ, ◌<◌, Result, MatchResult}
use Rattle.refusal.specs.declared.Refusal.{Refusal}
use Rattle.refusal.specs.declared.Refusal.TheVariants as refusal
use Rattle.exec.specs.declared.mode.Mode.{Mode}
use Rattle.exec.specs.declared.mode.Mode.TheVariants.{Plain, KnownZero}

abbrev pub mode_of : Mode → ℕ
mode_of Plain = 0
mode_of KnownZero = 1

-- the mode of a number, or the refusal of one that is none
abbrev pub Decodes : ℕ → Result Mode Refusal → Type 0
Decodes n r = MatchResult r (λ mode. mode_of mode ≡ n) (λ e. (e ≡ refusal.Mode) × (1 < n))
