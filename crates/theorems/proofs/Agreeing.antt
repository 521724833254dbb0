-- Rules that agree on the code's instructions give one answer. So "maps of code without 1E as an instruction do not move" (document 02, No. 3), and code
-- with no PUSH0 as an instruction has the same answer in both modes (No. 6). Assumes nothing.
use Prim.Native.Nat.{ℕ, ◌≤◌}
use native.Mathlib.Omega.{arith}
use mathlib.Core.Path.{◌≡◌, refl, sym, ap, ap₂, ◌∙◌}
use mathlib.Core.Bool.{true, false, not, true≢false}
use mathlib.Core.List.{List, [], ◌∷◌, map}
use mathlib.Core.Option.{Option, none}
use lib.Dec.{eqb, leb, ltb}
use lib.ListN.{replicate}
use borrow.Author.Tests.{ne_eqb}
use Rattle.spec.specs.Lists.{if, some?, mem}
use Rattle.spec.specs.Opcodes.{Row, unknown, Rules, in_mode, row as listed}
use Rattle.spec.specs.Domain.{differing, in_domain}
use Rattle.spec.specs.Walk.{Ins, instructions, from}
use Rattle.spec.specs.Blocks.{Block, Mode, opened, waiting, pushed, cut, closes, cuts, check_all, blocks}
use Rattle.spec.specs.Stacks.{Stack, entry, other, pops, pushes, Does, pushes_value, pushes_pc, dups, swaps, ands, adds, jumps, jumpis, lands, halts, plain, does, act, runs, trimmed, run}
use Rattle.spec.specs.Search.{node}
use Rattle.spec.specs.Rooms.{Lent}
use Rattle.spec.specs.Answer.{prepared, searched, mapped, answer}
use Rattle.spec.specs.JsonAnswer.{within_text, json_answer}
use Rattle.laws.proofs.Branch.{both, if-false}
use Rattle.laws.proofs.Members.{In, here, there}
use Rattle.theorems.proofs.Counts.{named, Lawful, lawful}
use Rattle.theorems.proofs.Modes.{same-elsewhere}

-- of each of these instructions the rules say the same: its row, and what it does
pub record Alike (r q : Rules) (is : List Ins) : Type 0 where
  pub row : (i : Ins) → In i is → r.row i.op ≡ q.row i.op
  pub step : (i : Ins) → In i is → does r.mode i.op ≡ does q.mode i.op

-- ---- the cutting

cuts-alike : (row row' : ℕ → Row) (is : List Ins) → ((i : Ins) → In i is → row i.op ≡ row' i.op)
    → (m : Mode) (prev : ℕ) (push : Option ℕ) → cuts row is m prev push ≡ cuts row' is m prev push
unfolding cuts
cuts-alike row row' [] h waiting prev push = refl
cuts-alike row row' [] h (opened id start) prev push = refl
cuts-alike row row' (i ∷ is) h waiting prev push =
    let later = cuts-alike row row' is (λ j n. h j (there n)) in
    ap₂ (if (eqb i.op 0x5B)) (later (opened i.pc i.pc) i.pc (pushed i)) (later waiting i.pc (pushed i))
cuts-alike row row' (i ∷ is) h (opened id start) prev push =
    let later = cuts-alike row row' is (λ j n. h j (there n)) in
    λ k. closes id start prev push i.pc (λ m. later m i.pc (pushed i) k) (cut (λ _. h i here k) i.op)

blocks-alike : (row row' : ℕ → Row) (code : List ℕ) (is : List Ins) → ((i : Ins) → In i is → row i.op ≡ row' i.op) → blocks row code is ≡ blocks row' code is
unfolding blocks
blocks-alike row row' [] is h = refl
blocks-alike row row' (b ∷ code) is h = ap (check_all (b ∷ code)) (cuts-alike row row' is h (opened 0 0) 0 none)

-- ---- the runs

act-alike : (row row' : ℕ → Row) (code : List ℕ) (i : Ins) (d : Does) (s : Stack) → row i.op ≡ row' i.op → act row code i d s ≡ act row' code i d s
unfolding act
act-alike row row' code i pushes_value s e = refl
act-alike row row' code i pushes_pc s e = refl
act-alike row row' code i (dups n) s e = refl
act-alike row row' code i (swaps n) s e = refl
act-alike row row' code i ands s e = refl
act-alike row row' code i adds s e = refl
act-alike row row' code i jumps s e = refl
act-alike row row' code i jumpis s e = refl
act-alike row row' code i lands s e = refl
act-alike row row' code i halts s e = ap (λ (x : Row). pushes (replicate x.given (other i.pc)) (pops x.taken s)) e
act-alike row row' code i plain s e = ap (λ (x : Row). pushes (replicate x.given (other i.pc)) (pops x.taken s)) e

later-alike : {r q : Rules} {i : Ins} {is : List Ins} → Alike r q (i ∷ is) → Alike r q is
later-alike h = record { row = λ j n. h.row j (there n); step = λ j n. h.step j (there n) }

from-alike : (r q : Rules) (a : ℕ) (is : List Ins) → Alike r q is → Alike r q (from a is)
from-alike r q a [] h = h
from-alike r q a (i ∷ is) h = both (Alike r q) (leb a i.pc) (λ _. h) (λ _. from-alike r q a is (later-alike h))

module _ (r q : Rules) (code : List ℕ) where
  runs-alike : (start : ℕ) (is : List Ins) → Alike r q is → (s : Stack) → runs r code start is s ≡ runs q code start is s
  runs-alike start [] h s = refl
  runs-alike start (i ∷ is) h s =
      rw (h.step i here, act-alike r.row q.row code i (does q.mode i.op) s (h.row i here)) (rw (runs-alike start is (later-alike h)))

  run-alike : (is : List Ins) → Alike r q is → (start : ℕ) → run r code is start ≡ run q code is start
  unfolding run
  run-alike is h start = ap trimmed (runs-alike start (from start is) (from-alike r q start is h) entry)

  prepared-alike : Alike r q (instructions code) → prepared r code ≡ prepared q code
  unfolding prepared
  prepared-alike h =
      λ k. map (λ (b : Block). node b (run-alike (instructions code) h b.start k)) (blocks-alike r.row q.row code (instructions code) h.row k)

-- ---- the answer

-- Rules that say the same of the code's instructions, and whose modes are both taken or both refused, give one answer: at any limit, with any choice, in any rooms.
pub same_answer : (r q : Rules) (code : List ℕ) → Alike r q (instructions code) → ltb 1 r.mode ≡ ltb 1 q.mode
    → (l : Lent) (limit choice : ℕ) → answer r l limit choice code ≡ answer q l limit choice code
unfolding answer searched mapped
same_answer r q code h e l limit choice = rw (prepared-alike r q code h, e)

-- ---- No. 6: where no PUSH0 stands as an instruction, both modes give one answer

pub zero-moves-nothing : (code : List ℕ) → ((i : Ins) → In i (instructions code) → ¬ (i.op ≡ 0x5F))
    → (l : Lent) (limit choice : ℕ) → answer (in_mode 1) l limit choice code ≡ answer (in_mode 0) l limit choice code
zero-moves-nothing code h = same_answer (in_mode 1) (in_mode 0) code (record { row = λ _ _. refl; step = λ i n. same-elsewhere 1 i.op (h i n) }) refl

-- nor do the answers of the call with a text differ
pub zero-moves-no-text : (code : List ℕ) → ((i : Ins) → In i (instructions code) → ¬ (i.op ≡ 0x5F))
    → (l : Lent) (room limit choice : ℕ) → json_answer (in_mode 1) l room limit choice code ≡ json_answer (in_mode 0) l room limit choice code
unfolding json_answer
zero-moves-no-text code h l room limit choice = ap (within_text room) (zero-moves-nothing code h l limit choice)

-- ---- No. 3: byte 1E was unknown

-- the rows before the change, which stand in this file alone
pub old_row : ℕ → Row
old_row b = if (eqb b 0x1E) unknown (listed b)

not-clz : (b : ℕ) → ¬ (b ≡ 0x1E) → old_row b ≡ listed b
unfolding old_row
not-clz b ne = if-false _ _ _ (ne_eqb b 0x1E ne)

-- What is proved of lawful rows holds of the old ones too.
pub old-lawful : Lawful old_row
unfolding old_row named if
old-lawful = record {
  named_as = λ b n. not-clz b (λ e. true≢false (sym n ∙ ap named e));
  few = λ b. both (λ (x : Row). x.taken ≤ 17) (eqb b 0x1E) (λ _. omega arith) (λ _. lawful.few b);
}

-- the rules before the change, in a mode
abbrev pub before-clz : ℕ → Rules
before-clz m = record { row = old_row; mode = m }

-- Where no 1E stands as an instruction, the whole answer is what it was: at any limit, with any choice, in any rooms, in any mode.
pub clz-moves-nothing : (code : List ℕ) → ((i : Ins) → In i (instructions code) → ¬ (i.op ≡ 0x1E))
    → (m : ℕ) (l : Lent) (limit choice : ℕ) → answer (before-clz m) l limit choice code ≡ answer (in_mode m) l limit choice code
clz-moves-nothing code h m = same_answer (before-clz m) (in_mode m) code (record { row = λ i n. not-clz i.op (h i n); step = λ _ _. refl }) refl

-- nor does the answer of the call with a text
pub clz-moves-no-text : (code : List ℕ) → ((i : Ins) → In i (instructions code) → ¬ (i.op ≡ 0x1E))
    → (m : ℕ) (l : Lent) (room limit choice : ℕ) → json_answer (before-clz m) l room limit choice code ≡ json_answer (in_mode m) l room limit choice code
unfolding json_answer
clz-moves-no-text code h m l room limit choice = ap (within_text room) (clz-moves-nothing code h m l limit choice)

-- ---- demand 2's domain: no row differs from the Rust's

none_differ : (is : List Ins) → some? (λ (i : Ins). mem i.op differing) is ≡ false
none_differ [] = refl
none_differ (i ∷ is) = none_differ is

pub every-code : (code : List ℕ) → in_domain code ≡ true
unfolding in_domain
every-code code = ap not (none_differ (instructions code))
