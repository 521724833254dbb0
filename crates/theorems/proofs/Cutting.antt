-- Document 01, "Cutting into blocks": where blocks begin and end, their order, what their runs pass, and that a code has a block at 0. Assumes nothing.
use Prim.Native.Nat.{ℕ, suc, ◌+◌, ◌≤◌, ◌<◌}
use native.Mathlib.Omega.{arith}
use native.Mathlib.Nat.{le_refl, le_trans}
use mathlib.Core.Path.{◌≡◌, refl, sym, ap, subst, ◌∙◌}
use mathlib.Core.Logic.{◌⊎◌, inl, inr}
use mathlib.Core.Bool.{Bool, true, false, ◌||◌}
use mathlib.Core.List.{List, [], ◌∷◌, map}
use mathlib.Core.Option.{Option, none}
use lib.Dec.{eqb, leb}
use lib.ListN.{length, get_or, drop, get_or-eq_default}
use borrow.Author.Tests.{eqb-true, eqb-false, eq-eqb, ne_eqb, leb-true, leb-false}
use Rattle.spec.specs.Lists.{if, mem}
use Rattle.spec.specs.Opcodes.{argument, Row, row as listed}
use Rattle.spec.specs.Walk.{Ins, walk, instructions, from}
use Rattle.spec.specs.Meaning.{closing, last, cut_short}
use Rattle.spec.specs.Blocks.{Kind, terminate, jump, Block, block, with_kind, Mode, opened, waiting, pushed, Cut, JUMPDEST, JUMPI, JUMP, UNKNOWN, OTHER, ENDS, cut, closes, cuts, checked, starts, check_all, blocks}
use Rattle.laws.proofs.Branch.{both}
use Rattle.laws.proofs.Lists.{Rising, none_left, one_more, rising-from}
use Rattle.laws.proofs.Members.{In, here, there, or_cases}
use Rattle.theorems.proofs.Counts.{and-off, differs, above, everywhere, named, Lawful, by_row}
use Rattle.theorems.proofs.Walking.{Stands, Walked, stops, steps, walks_from, walked, walked_once, from-here, from_in, from-behind}

-- ---- what is proved

-- where a block may begin: at 0, at a JUMPDEST of the walk, or one past a JUMPI of the walk
pub data Begins (is : List Ins) : ℕ → Type 0 where
  at_zero : Begins is 0
  at_jumpdest : {i : Ins} → In i is → i.op ≡ 0x5B → Begins is i.pc
  past_jumpi : {i : Ins} → In i is → i.op ≡ 0x57 → Begins is (i.pc + 1)

-- The block's run, from the place p on: the bytes that it passes are known, and it ends with the instruction at `end` or right behind it.
pub data Passes (row : ℕ → Row) (start end : ℕ) : ℕ → List Ins → Type 0 where
  walk_over : Passes row start end end []
  ends_before : {i : Ins} {is : List Ins} → (row i.op).known ≡ true → last start i ≡ true → i.op ≡ 0x5B → Passes row start end end (i ∷ is)
  ends_with : {p : ℕ} {i : Ins} {is : List Ins} → (row i.op).known ≡ true → last start i ≡ true → i.pc ≡ end → Passes row start end p (i ∷ is)
  goes_past : {p : ℕ} {i : Ins} {is : List Ins} → (row i.op).known ≡ true → last start i ≡ false → Passes row start end i.pc is → Passes row start end p (i ∷ is)

-- "`id` equals `start`", and the block ends no earlier than it starts, within the code
pub record Made (code : List ℕ) (b : Block) : Type 0 where
  pub id_start : b.id ≡ b.start
  pub begins : Begins (instructions code) b.start
  pub forward : b.start ≤ b.end
  pub start_inside : b.start < length code
  pub end_inside : b.end < length code

-- a block is cut at an unknown byte, "Terminate false", or its run is as said
pub data Whole (row : ℕ → Row) (code : List ℕ) (b : Block) : Type 0 where
  is_short : cut_short row code b.end ≡ true → b.kind ≡ terminate false → Whole row code b
  is_whole : cut_short row code b.end ≡ false → Passes row b.start b.end b.start (from b.start (instructions code)) → Whole row code b

-- blocks from lo on, each behind the end of the one before
pub data Ordered (row : ℕ → Row) (code : List ℕ) : ℕ → List Block → Type 0 where
  no_more : {lo : ℕ} → Ordered row code lo []
  then : {lo : ℕ} {b : Block} {bs : List Block} → lo ≤ b.start → Made code b → Whole row code b → Ordered row code (suc b.end) bs
      → Ordered row code lo (b ∷ bs)

-- ---- the cutting

or_off : (a b : Bool) → a || b ≡ false → (a ≡ false) × (b ≡ false)
or_off true b e = (cc, cc)
or_off false b e = (refl, e)

-- what an instruction is to the cutting, case by case, and what its byte is then
pub by-cut : (row : ℕ → Row) (F : Cut → Type 0) (b : ℕ) → (b ≡ 0x5B → F JUMPDEST) → (b ≡ 0x57 → F JUMPI) → (b ≡ 0x56 → F JUMP)
    → ((success : Bool) → F (ENDS success)) → (closing b ≡ false → eqb b 0x5B ≡ false → F OTHER) → F UNKNOWN → F (cut row b)
unfolding closing
by-cut row F b dest branch jumps ends other unknown =
    both F (eqb b 0x5B) (λ e. dest (eqb-true _ _ e))
    (λ a. both F (eqb b 0x57) (λ e. branch (eqb-true _ _ e))
    (λ c. both F (eqb b 0x56) (λ e. jumps (eqb-true _ _ e))
    (λ d. both F (eqb b 0x00 || eqb b 0xF3 || eqb b 0xFF) (λ _. ends true)
    (λ f. both F (eqb b 0xFD || eqb b 0xFE) (λ _. ends false)
    (λ g. both F (row b).known
    (λ _. let h = or_off (eqb b 0x00 || eqb b 0xF3) _ f in let k = or_off (eqb b 0x00) _ h.0 in let l = or_off (eqb b 0xFD) _ g in
    other (rw (c, d, k.0, k.1, h.1, l.0, l.1)) a) (λ _. unknown))))))

jumpi-alone : argument 0x57 ≡ 0
unfolding if
jumpi-alone = refl

-- the walk of a place where a block may begin
begins-walk : (code : List ℕ) {start : ℕ} → Begins (instructions code) start → Walked code start (from start (instructions code))
begins-walk code at_zero = from-here (walked code)
begins-walk code (at_jumpdest n e) = from_in (walked code) n
begins-walk code (past_jumpi {i} n e) =
    let w = from-behind (walked code) n in
    let one : i.pc + suc (argument i.op) ≡ i.pc + 1 = omega (arith, jumpi-alone, ap argument e) in
    rw one at w

-- ---- what the byte is to a run, by what it is to the cutting

-- it ends the run; it is a JUMPDEST; it is known
abbrev closes-run : Cut → Bool
closes-run JUMPDEST = false
closes-run JUMPI = true
closes-run JUMP = true
closes-run UNKNOWN = false
closes-run OTHER = false
closes-run (ENDS success) = true

abbrev lands-there : Cut → Bool
lands-there JUMPDEST = true
lands-there JUMPI = false
lands-there JUMP = false
lands-there UNKNOWN = false
lands-there OTHER = false
lands-there (ENDS success) = false

abbrev has-row : Cut → Bool
has-row JUMPDEST = true
has-row JUMPI = true
has-row JUMP = true
has-row UNKNOWN = false
has-row OTHER = true
has-row (ENDS success) = true

record Says (known? : Bool) (b : ℕ) (c : Cut) : Type 0 where
  closes : closing b ≡ closes-run c
  lands : eqb b 0x5B ≡ lands-there c
  known : known? ≡ has-row c

abbrev facts : Bool → ℕ → List Bool
facts known? b = closing b ∷ eqb b 0x5B ∷ known? ∷ []

abbrev told : Cut → List Bool
told c = closes-run c ∷ lands-there c ∷ has-row c ∷ []

-- a row of which the cutting asks only whether it is known
abbrev some-row : Bool → Row
some-row known? = record { size = 1; taken = 0; given = 0; known = known? }

-- whether the byte is known, where k says so of one that is not named
abbrev known_by : Bool → ℕ → Bool
known_by k b = if (named b) (listed b).known k

facts-told : (k : Bool) (b : ℕ) → facts (known_by k b) b ≡ told (cut (λ _. some-row (known_by k b)) b)
unfolding closing listed named if
facts-told true =
    everywhere (λ b. facts (known_by true b) b) (λ b. told (cut (λ _. some-row (known_by true b)) b)) refl (λ b h. simp (differs b h, above b h, and-off, tt {0}))
facts-told false =
    everywhere (λ b. facts (known_by false b) b) (λ b. told (cut (λ _. some-row (known_by false b)) b)) refl (λ b h. simp (differs b h, above b h, and-off, tt {0}))

module _ {row : ℕ → Row} (ok : Lawful row) where
  known_is : (b : ℕ) → (row b).known ≡ known_by (row b).known b
  known_is b = both (λ (k : Bool). (row b).known ≡ k) (named b) (λ on. ap (λ (x : Row). x.known) (ok.named_as b on)) (λ _. refl)

  says : (b : ℕ) → Says (row b).known b (cut row b)
  says b =
      let e = subst (λ (k : Bool). facts k b ≡ told (cut (λ _. some-row k) b)) (sym (known_is b)) (facts-told (row b).known b) in
      record { closes = cc; lands = cc; known = cc }

  -- an instruction with an argument is known
  pushes-known : (b : ℕ) → eqb (argument b) 0 || (row b).known ≡ true
  unfolding listed named if
  pushes-known = by_row ok (λ x b. eqb (argument b) 0 || x.known) (λ _ _. true) refl (λ b h. simp (above b h, and-off, tt {0}))

  -- where the walk stops, no unknown byte stands; past the end a byte reads as STOP
  past-known : (code : List ℕ) (at : ℕ) → length code ≤ at → (row (get_or code at 0)).known ≡ true
  unfolding listed named if
  past-known code at h = rw (get_or-eq_default code 0 h, ok.named_as 0 refl)

  stop-known : (code : List ℕ) (at : ℕ) → length code ≤ at + argument (get_or code at 0) → (row (get_or code at 0)).known ≡ true
  stop-known code at h = split (or_cases _ _ (pushes-known (get_or code at 0)))
    where
      split : (eqb (argument (get_or code at 0)) 0 ≡ true) ⊎ ((row (get_or code at 0)).known ≡ true) → (row (get_or code at 0)).known ≡ true
      split (inl e) = past-known code at (omega (arith, eqb-true (argument (get_or code at 0)) 0 e))
      split (inr e) = e

  jumpdest-known : (row 0x5B).known ≡ true
  unfolding listed named if
  jumpdest-known = rw (ok.named_as 0x5B refl)

-- ---- a block that ends at `end`, before the byte at `next`

module _ (row : ℕ → Row) (code : List ℕ) (end : ℕ) where
  cut-there : (row (get_or code end 0)).known ≡ false → cut_short row code end ≡ true
  cut-there p = rw p

  uncut-closing : (row (get_or code end 0)).known ≡ true → closing (get_or code end 0) ≡ true → cut_short row code end ≡ false
  uncut-closing p c = rw (p, c)

  module _ {next : ℕ} (e : next ≡ end + suc (argument (get_or code end 0))) (p : (row (get_or code end 0)).known ≡ true) where
    uncut-known : (row (get_or code next 0)).known ≡ true → cut_short row code end ≡ false
    uncut-known q = rw (← e, p, q, and-off)

    cut-behind : closing (get_or code end 0) ≡ false → (row (get_or code next 0)).known ≡ false → cut_short row code end ≡ true
    cut-behind c q = rw (← e, p, c, q)

jumpdest-open : closing 0x5B ≡ false
unfolding closing
jumpdest-open = refl

-- a JUMPDEST ends the block's run, but not at the block's start
past-start : (start : ℕ) (i : Ins) → i.op ≡ 0x5B → ¬ (i.pc ≡ start) → last start i ≡ true
past-start start i e ne = rw (e, jumpdest-open, ne_eqb i.pc start ne)

passed_start : (start : ℕ) (i : Ins) → closing i.op ≡ false → i.pc ≡ start → last start i ≡ false
passed_start start i c e = rw (c, eq-eqb i.pc start e, and-off)

from_place : {row : ℕ → Row} {start end p q : ℕ} {is : List Ins} → p < end → Passes row start end p is → Passes row start end q is
from_place h walk_over = absurd (omega arith)
from_place h (ends_before k l e) = absurd (omega arith)
from_place h (ends_with k l e) = ends_with k l e
from_place h (goes_past k l r) = goes_past k l r

module _ {row : ℕ → Row} (ok : Lawful row) (code : List ℕ) where
  -- the block at `start` holds the instruction before `at`, at `prev`, which is known and does not end it
  record Held (start prev at : ℕ) : Type 0 where
    low : start ≤ prev
    next : at ≡ prev + suc (argument (get_or code prev 0))
    known : (row (get_or code prev 0)).known ≡ true
    unclosed : closing (get_or code prev 0) ≡ false

  -- the open block, before the instructions `is` at `at`: it begins there, or holds the instruction before; the block's run goes on with theirs
  record Open (id start prev at : ℕ) (is : List Ins) : Type 0 where
    same : id ≡ start
    begins : Begins (instructions code) start
    low : start ≤ at
    behind : prev ≤ at
    held : ¬ (start ≡ at) → Held start prev at
    runs_on : (end : ℕ) → start ≤ end → Passes row start end prev is → Passes row start end start (from start (instructions code))

  abbrev Ready : Mode → ℕ → ℕ → List Ins → Type 0
  Ready (opened id start) prev at is = Open id start prev at is
  Ready waiting prev at is = Unit {0}

  -- no block begins before
  abbrev lowest : Mode → ℕ → ℕ
  lowest (opened id start) at = start
  lowest waiting at = at

  ordered-from : {lo at : ℕ} {bs : List Block} → lo ≤ at → Ordered row code at bs → Ordered row code lo bs
  ordered-from h no_more = no_more
  ordered-from h (then k m w r) = then (le_trans h k) m w r

  -- a block is closed at `end`
  closed : {id start prev at : ℕ} {is : List Ins} → Open id start prev at is → (end : ℕ) (k : Kind) {bs : List Block} → start ≤ end → end < length code
      → Whole row code (block id start end k) → Ordered row code (suc end) bs → Ordered row code start (block id start end k ∷ bs)
  closed o end k f e h r = then (le_refl _) (record { id_start = o.same; begins = o.begins; forward = f; start_inside = omega arith; end_inside = e }) h r

  -- one instruction of the walk, and how the cutting goes on at the next
  module _ {i : Ins} {is : List Ins} (stands : Stands code i) (member : In i (instructions code)) {next : ℕ} (size : next ≡ i.pc + suc (argument i.op))
      (w : Walked code next is) where
    ahead : i.pc < next
    ahead = omega arith

    -- the instruction is known and does not end the run
    held-here : {start : ℕ} → start ≤ i.pc → (row i.op).known ≡ true → closing i.op ≡ false → Held start i.pc next
    held-here l k c = let b = stands.byte in record { low = l; next = rw (← b) size; known = rw (← b) k; unclosed = rw (← b) c }

    goes_on : {id start prev : ℕ} → Open id start prev i.pc (i ∷ is) → (row i.op).known ≡ true → closing i.op ≡ false → last start i ≡ false
        → Open id start i.pc next is
    goes_on o k c l = record {
      same = o.same;
      begins = o.begins;
      low = omega (arith, o.low);
      behind = omega arith;
      held = λ _. held-here o.low k c;
      runs_on = λ end h r. o.runs_on end h (goes_past k l r);
    }

    -- a block that begins with it
    begun : i.op ≡ 0x5B → Open i.pc i.pc i.pc next is
    begun e =
        let k : (row i.op).known ≡ true = rw e (jumpdest-known ok) in
        let c : closing i.op ≡ false = rw e jumpdest-open in
        let here = walked_once (from_in (walked code) member) (steps stands (rw size at w)) in
        record {
          same = refl;
          begins = at_jumpdest member e;
          low = omega arith;
          behind = omega arith;
          held = λ _. held-here (le_refl i.pc) k c;
          runs_on = λ end h r. rw here (goes_past k (passed_start i.pc i c refl) r);
        }

    -- a block that begins one past it
    past : i.op ≡ 0x57 → Open (i.pc + 1) (i.pc + 1) i.pc next is
    past e =
        let one : next ≡ i.pc + 1 = omega (arith, jumpi-alone, ap argument e) in
        let here = walked_once (begins-walk code (past_jumpi member e)) (rw one at w) in
        record {
          same = refl;
          begins = past_jumpi member e;
          low = omega arith;
          behind = omega arith;
          held = λ ne. absurd (ne (omega arith));
          runs_on = λ end h r. rw here (from_place (omega arith) r);
        }

    module _ (on : Mode → List Block) (rest : (m : Mode) → Ready m i.pc next is → Ordered row code (lowest m next) (on m))
        {id start prev : ℕ} (push : Option ℕ) (o : Open id start prev i.pc (i ∷ is)) (inside : prev < length code) where
      -- the block ends with the instruction
      ends : (row i.op).known ≡ true → closing i.op ≡ true → {k : Kind} {bs : List Block} → Ordered row code (suc i.pc) bs
          → Ordered row code start (block id start i.pc k ∷ bs)
      ends k c =
          let b = stands.byte in
          closed o i.pc _ o.low (omega (arith, stands.whole))
          (is_whole (uncut-closing row code i.pc (rw (← b) k) (rw (← b) c)) (o.runs_on i.pc o.low (ends_with k (rw c) refl)))

      -- it ends before the instruction, a JUMPDEST
      ends-at-jumpdest : i.op ≡ 0x5B → ¬ (start ≡ i.pc) → Ordered row code start (block id start prev (jump i.pc) ∷ on (opened i.pc i.pc))
      ends-at-jumpdest e ne =
          let h = o.held ne in
          let k : (row i.op).known ≡ true = rw e (jumpdest-known ok) in
          let l : last start i ≡ true = past-start start i e (λ q. ne (sym q)) in
          let uncut = uncut-known row code prev h.next h.known (rw (← stands.byte) k) in
          closed o prev _ h.low inside (is_whole uncut (o.runs_on prev h.low (ends_before k l e)))
          (ordered-from (omega (arith, h.next)) (rest (opened i.pc i.pc) (begun e)))

      -- it is cut at the instruction, an unknown byte
      short : (row i.op).known ≡ false → ¬ (start ≡ i.pc) → cut_short row code prev ≡ true
      short u ne = let h = o.held ne in cut-behind row code prev h.next h.known h.unclosed (rw (← stands.byte) u)

      short-zero : (row i.op).known ≡ false → start ≡ 0 → cut_short row code prev ≡ true
      short-zero u z = split (eqb start i.pc) refl
        where
          split : (t : Bool) → eqb start i.pc ≡ t → cut_short row code prev ≡ true
          split true e = let here : prev ≡ i.pc = omega (arith, eqb-true start i.pc e, o.behind) in cut-there row code prev (rw (here, ← stands.byte) u)
          split false e = short u (eqb-false _ _ e)

      closes-ordered : Ordered row code start (closes id start prev push i.pc on (cut row i.op))
      closes-ordered =
          by-cut row (λ (c : Cut). Says (row i.op).known i.op c → Ordered row code start (closes id start prev push i.pc on c)) i.op
          (λ e s. both (Ordered row code start) (eqb start i.pc)
          (λ at. rest (opened id start) (goes_on o s.known s.closes (passed_start start i s.closes (sym (eqb-true _ _ at)))))
          (λ ne. ends-at-jumpdest e (eqb-false _ _ ne)))
          (λ e s. ends s.known s.closes (ordered-from (omega arith) (rest (opened (i.pc + 1) (i.pc + 1)) (past e))))
          (λ _ s. ends s.known s.closes (ordered-from ahead (rest waiting tt)))
          (λ success s. ends s.known s.closes (ordered-from ahead (rest waiting tt)))
          (λ _ _ s. rest (opened id start) (goes_on o s.known s.closes (rw (s.closes, s.lands))))
          (λ s. both (Ordered row code start) (eqb start 0)
          (λ z. closed o prev _ (omega (arith, eqb-true)) inside (is_short (short-zero s.known (eqb-true _ _ z)) refl) no_more)
          (λ _. both (Ordered row code start) (eqb start i.pc) (λ _. ordered-from (omega (arith, o.low)) (rest waiting tt))
          (λ ne. let h = o.held (eqb-false _ _ ne) in
          closed o prev _ h.low inside (is_short (short s.known (eqb-false _ _ ne)) refl) (ordered-from (omega (arith, h.next)) (rest waiting tt)))))
          (says ok i.op)

  -- the walk is over
  over : {id start prev at : ℕ} → Open id start prev at [] → length code ≤ at + argument (get_or code at 0) → start ≤ prev
      → Whole row code (block id start prev (terminate false))
  over {start} {prev} {at} o stop l = is_whole (split (eqb start at) refl) (o.runs_on prev l walk_over)
    where
      split : (t : Bool) → eqb start at ≡ t → cut_short row code prev ≡ false
      split true e =
          let here : prev ≡ at = omega (arith, eqb-true start at e, o.behind) in
          rw here (uncut-known row code at refl (stop-known ok code at stop) (past-known ok code (at + suc (argument (get_or code at 0))) (omega arith)))
      split false e = let h = o.held (eqb-false _ _ e) in uncut-known row code prev h.next h.known (stop-known ok code at stop)

  cuts-ordered : {at : ℕ} {is : List Ins} → Walked code at is → ((i : Ins) → In i is → In i (instructions code))
      → (m : Mode) (prev : ℕ) (push : Option ℕ) → prev < length code → Ready m prev at is → Ordered row code (lowest m at) (cuts row is m prev push)
  unfolding cuts
  cuts-ordered (stops stop) sub waiting prev push p r = no_more
  cuts-ordered (stops stop) sub (opened id start) prev push p o =
      both (Ordered row code start) (leb start prev)
      (λ l. closed o prev _ (leb-true _ _ l) p (over o stop (leb-true _ _ l)) no_more) (λ _. no_more)
  cuts-ordered (steps {i} s w) sub waiting prev push p r =
      both (Ordered row code i.pc) (eqb i.op 0x5B)
      (λ e. cuts-ordered w (λ j n. sub j (there n)) (opened i.pc i.pc) i.pc _ (omega arith) (begun s (sub i here) refl w (eqb-true _ _ e)))
      (λ _. ordered-from (omega arith) (cuts-ordered w (λ j n. sub j (there n)) waiting i.pc _ (omega arith) tt))
  cuts-ordered (steps {i} {is} s w) sub (opened id start) prev push p o =
      closes-ordered s (sub i here) refl w (λ m. cuts row is m i.pc (pushed i)) (λ m r. cuts-ordered w (λ j n. sub j (there n)) m i.pc (pushed i) (omega arith) r) push o p

  -- "Afterwards" only kinds change, and no Terminate does.
  made-kind : (k : Kind) {b : Block} → Made code b → Made code (with_kind k b)
  made-kind k m = record { id_start = m.id_start; begins = m.begins; forward = m.forward; start_inside = m.start_inside; end_inside = m.end_inside }

  whole-kind : (f : Kind → Kind) → f (terminate false) ≡ terminate false → {b : Block} → Whole row code b → Whole row code (with_kind (f b.kind) b)
  whole-kind f e (is_short c k) = is_short c (ap f k ∙ e)
  whole-kind f e (is_whole c r) = is_whole c r

  check-ordered : (f : Kind → Kind) → f (terminate false) ≡ terminate false → {lo : ℕ} {bs : List Block} → Ordered row code lo bs
      → Ordered row code lo (map (λ (b : Block). with_kind (f b.kind) b) bs)
  check-ordered f e no_more = no_more
  check-ordered f e (then l m h r) = then l (made-kind _ m) (whole-kind f e h) (check-ordered f e r)

-- The blocks stand in address order, each behind the end of the one before, and each is made as said.
pub ordered : {row : ℕ → Row} → Lawful row → (code : List ℕ) → Ordered row code 0 (blocks row code (instructions code))
unfolding blocks
ordered ok [] = no_more
ordered ok (b ∷ code) =
    check-ordered ok (b ∷ code) _ refl
    (cuts-ordered ok (b ∷ code) (walked (b ∷ code)) (λ i n. n) (opened 0 0) 0 none (omega arith)
    (record {
      same = refl;
      begins = at_zero;
      low = omega arith;
      behind = omega arith;
      held = λ ne. absurd (ne refl);
      runs_on = λ end l r. rw (walked_once (from-here (walked (b ∷ code))) (walked (b ∷ code))) r;
    }))

-- ---- what follows

made_in : {row : ℕ → Row} {code : List ℕ} {lo : ℕ} {bs : List Block} {b : Block} → Ordered row code lo bs → In b bs → Made code b
made_in (then l m h r) here = m
made_in (then l m h r) (there n) = made_in r n
made_in {row = row} {code = code} {b = b} (no_more {lo = lo}) x4 = elim x4 [ ]

whole_in : {row : ℕ → Row} {code : List ℕ} {lo : ℕ} {bs : List Block} {b : Block} → Ordered row code lo bs → In b bs → Whole row code b
whole_in (then l m h r) here = h
whole_in (then l m h r) (there n) = whole_in r n
whole_in {row = row} {code = code} {b = b} (no_more {lo = lo}) x4 = elim x4 [ ]

rise : {row : ℕ → Row} {code : List ℕ} {lo : ℕ} {bs : List Block} → Ordered row code lo bs → Rising lo (starts bs)
rise no_more = none_left
rise (then {b} l m h r) = one_more l (rising-from (omega arith) (rise r))

-- "`id` equals `start`; that is proved." And the rest of what is said above.
pub made : {row : ℕ → Row} → Lawful row → (code : List ℕ) {b : Block} → In b (blocks row code (instructions code)) → Made code b
made ok code = made_in (ordered ok code)

-- A block is cut at an unknown byte, or its run passes known bytes alone and ends at its end.
pub block-whole : {row : ℕ → Row} → Lawful row → (code : List ℕ) {b : Block} → In b (blocks row code (instructions code)) → Whole row code b
block-whole ok code = whole_in (ordered ok code)

-- The walk of the whole code, from a block's start on, is a walk from there ..
pub block-walk : {row : ℕ → Row} → Lawful row → (code : List ℕ) {b : Block} → In b (blocks row code (instructions code)) → Walked code b.start (from b.start (instructions code))
block-walk ok code n = begins-walk code (made ok code n).begins

-- .. and so what `iterate_code(code, start, None)` gives, which walks afresh.
pub block-afresh : {row : ℕ → Row} → Lawful row → (code : List ℕ) {b : Block} → In b (blocks row code (instructions code))
    → from b.start (instructions code) ≡ walk (drop b.start code) b.start 0
block-afresh ok code {b} n = walked_once (block-walk ok code n) (walks_from code b.start)

-- Starts rise, so no start stands twice.
pub starts-rise : {row : ℕ → Row} → Lawful row → (code : List ℕ) → Rising 0 (starts (blocks row code (instructions code)))
starts-rise ok code = rise (ordered ok code)

from-lo : {row : ℕ → Row} {code : List ℕ} {lo : ℕ} {bs : List Block} {b : Block} → Ordered row code lo bs → In b bs → lo ≤ b.start
from-lo (then l m h r) here = l
from-lo (then l m h r) (there n) = let k = from-lo r n in omega arith
from-lo {row = row} {code = code} {b = b} (no_more {lo = lo}) x4 = elim x4 [ ]

once : {row : ℕ → Row} {code : List ℕ} {lo : ℕ} {bs : List Block} {b c : Block} → Ordered row code lo bs → In b bs → In c bs → b.start ≡ c.start → b ≡ c
once (then l m h r) here here e = refl
once (then l m h r) here (there n) e = absurd (let k = from-lo r n in omega arith)
once (then l m h r) (there n) here e = absurd (let k = from-lo r n in omega arith)
once (then l m h r) (there n) (there k) e = once r n k e
once {row = row} {code = code} {b = b} {c = c} (no_more {lo = lo}) x10 _ e = elim x10 [ ]

pub one-start : {row : ℕ → Row} → Lawful row → (code : List ℕ) {b c : Block} → In b (blocks row code (instructions code)) → In c (blocks row code (instructions code)) → b.start ≡ c.start → b ≡ c
one-start ok code = once (ordered ok code)

-- ---- a code that isn't empty has a block at 0

zero-kept : (row : ℕ → Row) (is : List Ins) (id prev : ℕ) (push : Option ℕ) → mem 0 (starts (cuts row is (opened id 0) prev push)) ≡ true
unfolding cuts if
zero-kept row [] id prev push = both (λ (bs : List Block). mem 0 (starts bs) ≡ true) (leb 0 prev) (λ _. refl) (λ n. absurd (omega (arith, leb-false)))
zero-kept row (i ∷ is) id prev push =
    let on = zero-kept row is id i.pc (pushed i) in
    by-cut row (λ (c : Cut). mem 0 (starts (closes id 0 prev push i.pc (λ m. cuts row is m i.pc (pushed i)) c)) ≡ true) i.op
    (λ _. both (λ (bs : List Block). mem 0 (starts bs) ≡ true) (eqb 0 i.pc) (λ _. on) (λ _. refl)) (λ _. refl) (λ _. refl) (λ _. refl) (λ _ _. on) refl

pub starts-checked : (code : List ℕ) (bs : List Block) → starts (check_all code bs) ≡ starts bs
starts-checked code all = go all
  where
    go : (bs : List Block) → starts (map (λ (b : Block). with_kind (checked code (starts all) b.kind) b) bs) ≡ starts bs
    go [] = refl
    go (b ∷ bs) = ap {B = List ℕ} (λ (ns : List ℕ). b.start ∷ ns) (go bs)

-- "While the block's start is 0 it is kept either way": every code but the empty one has a block at 0.
pub entry-block : (row : ℕ → Row) (b : ℕ) (code : List ℕ) → mem 0 (starts (blocks row (b ∷ code) (instructions (b ∷ code)))) ≡ true
unfolding blocks
entry-block row b code =
    let is = instructions (b ∷ code) in
    ap (mem 0) (starts-checked (b ∷ code) (cuts row is (opened 0 0) 0 none)) ∙ zero-kept row is 0 0 none
