-- Document 02: numbers of 8 bytes in a buffer, as the tools on stored maps read and write them. Assumes nothing.
use Rattle.std.specs.Prelude.{ℕ, zero, suc, ◌^◌, Bool, true, ◌&&◌, List, [], ◌∷◌, ◌++◌, ltb, length, take, drop}
use Rattle.spec.specs.Lists.{gather, little, number}

-- so many numbers, from a buffer's front on
abbrev pub eights : ℕ → List ℕ → List ℕ
eights zero b = []
eights (suc n) b = number (take 8 b) ∷ eights n (drop 8 b)

-- numbers as their bytes
abbrev pub as_eights : List ℕ → List ℕ
as_eights = gather (little 8)

-- each fits
abbrev pub all_fit : List ℕ → Bool
all_fit [] = true
all_fit (n ∷ ns) = let later = all_fit ns in ltb n (2 ^ 64) && later

-- a buffer with new bytes at its front; its other bytes stay
abbrev pub over : List ℕ → List ℕ → List ℕ
over new old = new ++ drop (length new) old
