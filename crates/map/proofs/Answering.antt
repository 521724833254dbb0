-- The answer of a call in the program's rooms, as it is printed. Assumes nothing.
use mathlib.Core.Path.{◌≡◌, sym, subst}
use mathlib.Core.List.{List}
use Prim.Native.Nat.{ℕ, suc, ◌<◌}
use native.Mathlib.Omega.{arith}
use lib.ListN.{length, drop}
use lib.Seq.{drop_at}
use Rattle.spec.specs.Opcodes.{in_mode}
use Rattle.spec.specs.Search.{Room, P, S, T, R, Q}
use Rattle.spec.specs.Rooms.{Lent, refusal}
use Rattle.spec.specs.Answer as spec
use Rattle.spec.specs.Answer.{answer, written}
use Rattle.spec.specs.Program.{lends, prints}
use Rattle.theorems.proofs.Refusals.{made, Verdict, code-over, limit-over, mode-over, work-short, room_short, output-short, all-fits, verdict}
use Rattle.lent.specs.Bytes.{Stored}
use Rattle.layout.specs.Buffers.{Mem}
use Rattle.answer.specs.Promises.{lent_of, Tells, Mapped}
use Rattle.answer.specs.Told.{Answer}
use Rattle.map.specs.Promises as contracts
use Rattle.map.specs.Promises.{Numbered, map, Told, Shows, Prints}
use Rattle.map.specs.Rooms.{Lends}

-- ---- every answer in these rooms can be printed

room-number : (r : Room) → refusal r < 9
room-number P = omega arith
room-number S = omega arith
room-number T = omega arith
room-number R = omega arith
room-number Q = omega arith

numbered-verdict : {limit choice : ℕ} {code : List ℕ} {x : spec.Answer} → Verdict (in_mode 0) lends limit choice code x → Numbered x
numbered-verdict (code-over h) = contracts.refusal {n = 1} (omega arith) (omega arith)
numbered-verdict (limit-over h g) = contracts.refusal {n = 2} (omega arith) (omega arith)
numbered-verdict (mode-over h g f) = contracts.refusal {n = 13} (omega arith) (omega arith)
numbered-verdict (work-short h g n f) = contracts.refusal {n = 3} (omega arith) (omega arith)
numbered-verdict (room_short {k} t f) = contracts.refusal {n = suc k} (omega arith) (omega (arith, f.number, room-number f.need.room))
numbered-verdict (output-short t f g) = contracts.refusal {n = 9} (omega arith) (omega arith)
numbered-verdict {limit} {choice} {code} (all-fits t f g) = map {m = made (in_mode 0) lends limit choice code} (omega arith)

numbered : (limit choice : ℕ) (code : List ℕ) → Numbered (answer (in_mode 0) lends limit choice code)
numbered limit choice code = numbered-verdict (verdict (in_mode 0) lends limit choice code)

-- ---- what a call leaves is what is handed over

told_of : {x : spec.Answer} {raw raw' : List ℕ} {a : Answer} → Numbered x → Tells x raw raw' a → Told x a.number a.written raw'
told_of {x} {raw} {raw'} {a} n t =
    let rest : drop a.written raw' ≡ drop (length (written x)) raw = rw t.out_is (drop_at (written x) (drop (length (written x)) raw) a.written (sym t.count)) in
    record { numbered = n; number_is = t.number; count_is = t.count; begins = rw rest t.out_is }

lends_of : {m : Mem} {raw out : List ℕ} → Lends m raw out → lent_of m raw ≡ lends
lends_of l = rw (l.w, l.p, l.s, l.t, l.r, l.q, l.output)

module _ {code : List ℕ} {m m' : Mem} {raw raw' out : List ℕ} {a : Answer} (l : Lends m raw out) (d : Mapped 500000 1 0 code m raw m' raw' a) where
  told : Told (answer (in_mode 0) lends 500000 1 code) a.number a.written raw'
  told = told_of (numbered 500000 1 code) (subst (λ (k : Lent). Tells (answer (in_mode 0) k 500000 1 code) raw raw' a) (lends_of l) d.tells)

  pub shows : Shows a.number a.written raw' out
  shows = record { answer = answer (in_mode 0) lends 500000 1 code; told = told; room = l.room }

  pub printed : {out' : List ℕ} {end : ℕ} → Prints a.number a.written raw' out out' end → Stored end out 0 (prints (answer (in_mode 0) lends 500000 1 code)) out'
  printed p = p.stored (answer (in_mode 0) lends 500000 1 code) told
