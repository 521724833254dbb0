-- Demand 1: each number is given exactly when document 01's table says. Assumes nothing.
use Prim.Native.Nat.{ℕ, zero, suc, ◌^◌, ◌≤◌, ◌<◌}
use native.Mathlib.Omega.{arith}
use mathlib.Core.Path.{◌≡◌, refl, ap, ◌∙◌}
use mathlib.Core.List.{List}
use lib.Dec.{leb, ltb}
use lib.ListN.{length}
use borrow.Author.Tests.{ltb-true, ltb-false, lt-ltb, le-ltb, leb-true, leb-false, le-leb, lt-leb}
use Rattle.spec.specs.Lists.{if}
use Rattle.spec.specs.Opcodes.{Rules}
use Rattle.spec.specs.Search.{Room, P, S, T, R, Q, Need}
use Rattle.spec.specs.Rooms.{Lent, units, room, shortage, longest, work_need}
use Rattle.spec.specs.Entries.{Map, bytes}
use Rattle.spec.specs.Answer.{Answer, refused, answered, searched, mapped, within_out, within_rooms, answer}
use Rattle.laws.proofs.Branch.{both, if-true, if-false}
use Rattle.theorems.proofs.Shortage.{Fits, FirstShort, none-short, fits-none, first_short, short-first}

-- "of any room at most 2^30 units count as lent"
pub room-capped : (l : Lent) (r : Room) → room l r ≤ 2 ^ 30
room-capped l P = omega arith
room-capped l S = omega arith
room-capped l T = omega arith
room-capped l R = omega arith
room-capped l Q = omega arith

module _ (r : Rules) (l : Lent) (limit choice : ℕ) (code : List ℕ) where
  -- what the run asks of its rooms, and the map that it makes
  abbrev pub asked : List Need
  asked = (searched r limit code).needs

  abbrev pub made : Map
  made = mapped r choice code (searched r limit code)

  -- 1, 2, 13 and 3 do not apply
  pub record Taken : Type 0 where
    pub code_fits : length code ≤ longest
    pub limit-fits : limit ≤ 500000
    pub mode-fits : r.mode ≤ 1
    pub work-fits : work_need (length code) ≤ l.w

  -- The document's table: each number, given when.
  pub data Verdict : Answer → Type 0 where
    code-over : longest < length code → Verdict (refused 1)
    limit-over : length code ≤ longest → 500000 < limit → Verdict (refused 2)
    mode-over : length code ≤ longest → limit ≤ 500000 → 1 < r.mode → Verdict (refused 13)
    work-short : length code ≤ longest → limit ≤ 500000 → r.mode ≤ 1 → l.w < work_need (length code) → Verdict (refused 3)
    room_short : {k : ℕ} → Taken → FirstShort l asked k → Verdict (refused (suc k))
    output-short : Taken → Fits l asked → units l.out 1 < length (bytes made) → Verdict (refused 9)
    all-fits : Taken → Fits l asked → length (bytes made) ≤ units l.out 1 → Verdict (answered made)

  verdict-rooms : Taken → (k : ℕ) → shortage l asked ≡ k → Verdict (within_rooms (within_out l made) k)
  verdict-rooms t zero e =
      both Verdict (leb (length (bytes made)) (units l.out 1))
      (λ on. all-fits t (none-short l asked e) (leb-true _ _ on)) (λ off. output-short t (none-short l asked e) (leb-false _ _ off))
  verdict-rooms t (suc k) e = room_short t (first_short l asked k e)

  -- The answer is one of the table's,
  pub verdict : Verdict (answer r l limit choice code)
  unfolding answer
  verdict =
      both Verdict (ltb longest (length code)) (λ on. code-over (ltb-true _ _ on))
      (λ c. both Verdict (ltb 500000 limit) (λ on. limit-over (ltb-false _ _ c) (ltb-true _ _ on))
      (λ n. both Verdict (ltb 1 r.mode) (λ on. mode-over (ltb-false _ _ c) (ltb-false _ _ n) (ltb-true _ _ on))
      (λ m. both Verdict (ltb l.w (work_need (length code))) (λ on. work-short (ltb-false _ _ c) (ltb-false _ _ n) (ltb-false _ _ m) (ltb-true _ _ on))
      (λ w. verdict-rooms (record { code_fits = ltb-false _ _ c; limit-fits = ltb-false _ _ n; mode-fits = ltb-false _ _ m; work-fits = ltb-false _ _ w }) (shortage l asked) refl))))

  -- the tests one after the other, each passed
  past-code : length code ≤ longest → (a b : Answer) → if (ltb longest (length code)) a b ≡ b
  past-code h a b = if-false _ a b (le-ltb longest (length code) h)

  past-limit : limit ≤ 500000 → (a b : Answer) → if (ltb 500000 limit) a b ≡ b
  past-limit h a b = if-false _ a b (le-ltb 500000 limit h)

  past-mode : r.mode ≤ 1 → (a b : Answer) → if (ltb 1 r.mode) a b ≡ b
  past-mode h a b = if-false _ a b (le-ltb 1 r.mode h)

  taken-run : Taken → answer r l limit choice code ≡ within_rooms (within_out l made) (shortage l asked)
  unfolding answer
  taken-run t =
      past-code t.code_fits _ _ ∙ past-limit t.limit-fits _ _ ∙ past-mode t.mode-fits _ _ ∙ if-false _ _ _ (le-ltb l.w (work_need (length code)) t.work-fits)

  -- and the table has no other: what it gives is the answer.
  pub verdict-only : {a : Answer} → Verdict a → answer r l limit choice code ≡ a
  unfolding answer
  verdict-only (code-over h) = if-true _ _ _ (lt-ltb longest (length code) h)
  verdict-only (limit-over c h) = past-code c _ _ ∙ if-true _ _ _ (lt-ltb 500000 limit h)
  verdict-only (mode-over c n h) = past-code c _ _ ∙ past-limit n _ _ ∙ if-true _ _ _ (lt-ltb 1 r.mode h)
  verdict-only (work-short c n m h) = past-code c _ _ ∙ past-limit n _ _ ∙ past-mode m _ _ ∙ if-true _ _ _ (lt-ltb l.w (work_need (length code)) h)
  verdict-only (room_short {k} t f) = taken-run t ∙ ap (within_rooms (within_out l made)) (short-first l asked k f)
  verdict-only (output-short t f h) =
      taken-run t ∙ ap (within_rooms (within_out l made)) (fits-none l asked f) ∙ if-false _ _ _ (lt-leb (length (bytes made)) (units l.out 1) h)
  verdict-only (all-fits t f h) =
      taken-run t ∙ ap (within_rooms (within_out l made)) (fits-none l asked f) ∙ if-true _ _ _ (le-leb (length (bytes made)) (units l.out 1) h)
