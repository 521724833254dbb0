-- initial.rs: `initial_blocks` never panics, and gives the definitions' blocks. Assumes nothing.
use Prim.Native.Nat.{ℕ, zero, suc, ◌+◌, ◌-◌, ◌<◌, ◌≤◌}
use native.Mathlib.Omega.{arith}
use native.Mathlib.Numerals.{add-one}
use mathlib.Core.Path.{◌≡◌, refl, sym, ap, ap₂, subst, ◌∙◌}
use mathlib.Core.Logic.{◌⊎◌, inl, inr}
use mathlib.Core.Bool.{Bool, true, false, not, ◌&&◌, ◌||◌, or-true, or_comm}
use mathlib.Core.Option.{Option, none, some}
use mathlib.Core.List.{List, [], ◌∷◌, ◌++◌, map, append_assoc, append-nil}
use lib.Dec.{eqb, leb}
use lib.ListN.{length, get_or, get_elem?, replicate}
use borrow.Author.Tests.{eqb-true, ne_eqb, leb-true, le-leb, le-ltb}
use Rattle.spec.specs.Lists.{if, within, mem}
use Rattle.spec.specs.Opcodes.{Row, argument}
use Rattle.spec.specs.Walk.{Ins, big, instructions, walk}
use Rattle.spec.specs.Blocks.{Kind, terminate, jump, jumpi, dynamic_jump, dynamic_jumpi, Block, block, with_kind, Mode, opened, waiting, pushed, jumping, branching, Cut, JUMPDEST, JUMPI, JUMP, UNKNOWN, OTHER, ENDS, cut, closes, cuts, lands, checked, starts, blocks}
use Rattle.laws.proofs.Branch.{both, if-true, if-false, and_then}
use Rattle.laws.proofs.Members.{In, here, there, and_both, and-true, or_cases, map-in, mem-in, in_map, in-cases, in-only}
use Rattle.laws.proofs.Lists.{Rising, one_more}
use Rattle.theorems.proofs.Counts.{Lawful}
use Rattle.theorems.proofs.Walking.{Stands, Walked, stops, steps, walked}
use Rattle.theorems.proofs.Cutting.{Made, made, starts-rise, starts-checked}
use Rattle.source.specs.Collections.{insert_sorted}
use Rattle.source.specs.State.{four_bytes}
use Rattle.source.specs.Types.{BlockType, Terminate, Jump, RustBlock, rust_block, with_type, Blocks}
use Rattle.source.specs.Shown.{type_of, shown}
use Rattle.source.specs.Initial.{is_static_jump, new_block, Cutting, cutting, closed, jumpi_type, jump_type, match_op, for_code, last_block, valid, new_btype, check_each, keys_of, initial_blocks}
use Rattle.source.proofs.Iterating.{index, Sized, iterate-walks}

-- ---- lines 12 to 22

big-zeros : (n : ℕ) (xs : List ℕ) → big 0 (replicate n 0 ++ xs) ≡ big 0 xs
big-zeros zero xs = refl
big-zeros (suc n) xs = big-zeros n xs

few_bytes : (b : ℕ) → within 0x60 0x63 b ≡ true → argument b ≡ b - 0x5F
few_bytes b e =
    let r = and_both (leb 0x60 b) (leb b 0x63) e in
    if-true _ _ _ (and-true (leb 0x60 b) (leb b 0x7F) r.0 (le-leb b 0x7F (omega (arith, leb-true))))

four-bytes-whole : {code : List ℕ} {i : Ins} → Stands code i → within 0x60 0x63 i.op ≡ true → four_bytes code (i.pc + 1) (i.op - 0x5F) ≡ some i.arg
four-bytes-whole {code} {i} s e =
    let r = and_both (leb 0x60 i.op) (leb i.op 0x63) e in
    let n = few_bytes i.op e in
    let w = rw n at s.whole in
    if-true _ _ _ (and-true _ _ (le-leb (i.op - 0x5F) 4 (omega (arith, leb-true))) (le-leb (i.pc + 1 + (i.op - 0x5F)) (length code) (omega arith)))
    ∙ ap some (big-zeros (4 - (i.op - 0x5F)) _ ∙ rw (add-one, ← n) (sym s.number))

op-there : {code : List ℕ} {i : Ins} → Stands code i → get_elem? code i.pc ≡ some i.op
op-there {code} {i} s = let h = s.whole in index code i.pc (omega arith) ∙ ap some (sym s.byte)

-- what the instruction at prev_pc pushed
pub static_pushed : {code : List ℕ} {i : Ins} → Stands code i → is_static_jump code i.pc ≡ some (pushed i)
static_pushed {code} {i} s =
    rw (op-there s) (split (within 0x60 0x63 i.op) refl)
  where
    split : (b : Bool) → within 0x60 0x63 i.op ≡ b
        → if (within 0x60 0x63 i.op) (and_then (four_bytes code (i.pc + 1) (i.op - 0x5F)) (λ v. some (some v))) (some none) ≡ some (if (within 0x60 0x63 i.op) (some i.arg) none)
    split true e = if-true _ _ _ e ∙ ap (λ (o : Option ℕ). and_then o (λ v. some (some v))) (four-bytes-whole s e) ∙ ap some (sym (if-true _ _ _ e))
    split false e = if-false _ _ _ e ∙ ap some (sym (if-false _ _ _ e))

-- ---- lines 33 to 133

-- a block as it is inserted
abbrev keyed : Block → ℕ × RustBlock
keyed b = (b.id, rust_block b.id b.start b.end (type_of b.kind []))

abbrev inserts : Blocks → List Block → Blocks
inserts acc [] = acc
inserts acc (b ∷ bs) = inserts (insert_sorted b.id (rust_block b.id b.start b.end (type_of b.kind [])) acc) bs

-- how the locals stand beside the walk's mode
pub data As : Mode → Cutting → Type 0 where
  is_open : {c : Cutting} → c.wait_jumpdest ≡ false → As (opened c.block.id c.block.start) c
  is_waiting : {c : Cutting} → c.wait_jumpdest ≡ true → As waiting c

-- `push` is what is_static_jump gives, if the next instruction is no PUSH1 to PUSH4
abbrev Ready : List ℕ → ℕ → Option ℕ → List Ins → Type 0
Ready code prev push [] = Unit {0}
Ready code prev push (i ∷ is) = within 0x60 0x63 i.op ≡ false → is_static_jump code prev ≡ some push

-- no panic, and with the last open block the blocks are these
record Cuts-to (acc : Blocks) (bs : List Block) (o : Option Cutting) : Type 0 where
  end : Cutting
  is : o ≡ some end
  left : last_block end ≡ inserts acc bs

module _ (row : ℕ → Row) (sized : Sized row) (code : List ℕ) where
  abbrev Goes : List Ins → Type 0
  Goes is = (m : Mode) (c : Cutting) (push : Option ℕ) → As m c → Ready code c.prev_pc push is → Cuts-to c.blocks (cuts row is m c.prev_pc push) (for_code row code is c)

  ends_open : (c : Cutting) → c.wait_jumpdest ≡ false → last_block c ≡ inserts c.blocks (if (leb c.block.start c.prev_pc) (block c.block.id c.block.start c.prev_pc (terminate false) ∷ []) [])
  ends_open c e =
      ap (λ (b : Bool). if (not b && leb c.block.start c.prev_pc) (closed c.prev_pc (Terminate false) c.block c.blocks) c.blocks) e
      ∙ both (λ (bs : List Block). if (leb c.block.start c.prev_pc) (closed c.prev_pc (Terminate false) c.block c.blocks) c.blocks ≡ inserts c.blocks bs) (leb c.block.start c.prev_pc)
      (λ on. if-true _ _ _ on) (λ off. if-false _ _ _ off)

  ends-waiting : (c : Cutting) → c.wait_jumpdest ≡ true → last_block c ≡ c.blocks
  ends-waiting c e = if-false _ _ _ (ap (λ (b : Bool). not b && leb c.block.start c.prev_pc) e)

  goes_none : Goes []
  unfolding for_code cuts
  goes_none m c push (is_open e) ready = record { end = c; is = refl; left = ends_open c e }
  goes_none m c push (is_waiting e) ready = record { end = c; is = refl; left = ends-waiting c e }

  code_step : (i : Ins) (is : List Ins) (c : Cutting)
      → for_code row code (i ∷ is) c
      ≡ if c.wait_jumpdest
      (if (eqb i.op 0x5B) (for_code row code is (cutting c.blocks i.pc (rust_block i.pc i.pc c.block.end c.block.btype) false)) (for_code row code is (cutting c.blocks i.pc c.block true)))
      (match_op row code i (for_code row code is) c)
  unfolding for_code
  code_step i is c = refl

  cuts-open : (i : Ins) (is : List Ins) (id start prev : ℕ) (push : Option ℕ)
      → cuts row (i ∷ is) (opened id start) prev push ≡ closes id start prev push i.pc (λ m. cuts row is m i.pc (pushed i)) (cut row i.op)
  unfolding cuts
  cuts-open i is id start prev push = refl

  cuts-waiting : (i : Ins) (is : List Ins) (prev : ℕ) (push : Option ℕ)
      → cuts row (i ∷ is) waiting prev push ≡ if (eqb i.op 0x5B) (cuts row is (opened i.pc i.pc) i.pc (pushed i)) (cuts row is waiting i.pc (pushed i))
  unfolding cuts
  cuts-waiting i is prev push = refl

  -- two decisions by the same test
  along : {A B : Type 0} (F : A → B → Type 0) (b : Bool) {x y : A} {u v : B} → (b ≡ true → F x u) → (b ≡ false → F y v) → F (if b x y) (if b u v)
  unfolding if
  along F true f g = f refl
  along F false f g = g refl

  -- five bytes in either order
  five : (fd f3 z ff fe : Bool) → fd || f3 || z || ff || fe ≡ (z || f3 || ff) || (fd || fe)
  five true f3 z ff fe = sym (or-true (z || f3 || ff))
  five false f3 z ff true = or-true (f3 || z || ff) ∙ sym (or-true (z || f3 || ff))
  five false f3 z ff false = ap (λ (b : Bool). (b || ff) || false) (or_comm f3 z)

  one_of_three : (b : ℕ) → eqb b 0x00 || eqb b 0xF3 || eqb b 0xFF ≡ true → not (eqb b 0xFD) && not (eqb b 0xFE) ≡ true
  one_of_three b e = last (or_cases (eqb b 0x00 || eqb b 0xF3) (eqb b 0xFF) e)
    where
      first : (eqb b 0x00 ≡ true) ⊎ (eqb b 0xF3 ≡ true) → not (eqb b 0xFD) && not (eqb b 0xFE) ≡ true
      first (inl q) = ap (λ (x : ℕ). not (eqb x 0xFD) && not (eqb x 0xFE)) (eqb-true b 0x00 q)
      first (inr q) = ap (λ (x : ℕ). not (eqb x 0xFD) && not (eqb x 0xFE)) (eqb-true b 0xF3 q)

      last : (eqb b 0x00 || eqb b 0xF3 ≡ true) ⊎ (eqb b 0xFF ≡ true) → not (eqb b 0xFD) && not (eqb b 0xFE) ≡ true
      last (inl q) = first (or_cases (eqb b 0x00) (eqb b 0xF3) q)
      last (inr q) = ap (λ (x : ℕ). not (eqb x 0xFD) && not (eqb x 0xFE)) (eqb-true b 0xFF q)

  one_of_two : (b : ℕ) → eqb b 0xFD || eqb b 0xFE ≡ true → not (eqb b 0xFD) && not (eqb b 0xFE) ≡ false
  one_of_two b e = first (or_cases (eqb b 0xFD) (eqb b 0xFE) e)
    where
      first : (eqb b 0xFD ≡ true) ⊎ (eqb b 0xFE ≡ true) → not (eqb b 0xFD) && not (eqb b 0xFE) ≡ false
      first (inl q) = ap (λ (x : ℕ). not (eqb x 0xFD) && not (eqb x 0xFE)) (eqb-true b 0xFD q)
      first (inr q) = ap (λ (x : ℕ). not (eqb x 0xFD) && not (eqb x 0xFE)) (eqb-true b 0xFE q)

  jumpi-same : (pc : ℕ) (push : Option ℕ) → jumpi_type pc push ≡ type_of (branching push (pc + 1)) []
  jumpi-same pc none = refl
  jumpi-same pc (some v) = refl

  jump-same : (push : Option ℕ) → jump_type push ≡ type_of (jumping push) []
  jump-same none = refl
  jump-same (some v) = refl

  module _ (i : Ins) (is : List Ins) (stands : Stands code i) (rest : Goes is) where
    ready-next : (js : List Ins) → Ready code i.pc (pushed i) js
    ready-next [] = tt
    ready-next (j ∷ js) = λ _. static_pushed stands

    abbrev goes : Cutting → Option Cutting
    goes = for_code row code is

    abbrev on : Mode → List Block
    on m = cuts row is m i.pc (pushed i)

    -- the rest of the walk, in a block or waiting
    in_block : (bs : Blocks) (b : RustBlock) → Cuts-to bs (on (opened b.id b.start)) (goes (cutting bs i.pc b false))
    in_block bs b = rest (opened b.id b.start) (cutting bs i.pc b false) (pushed i) (is_open refl) (ready-next is)

    in-wait : (bs : Blocks) (b : RustBlock) → Cuts-to bs (on waiting) (goes (cutting bs i.pc b true))
    in-wait bs b = rest waiting (cutting bs i.pc b true) (pushed i) (is_waiting refl) (ready-next is)

    -- a block was closed
    closing : {acc : Blocks} {bs : List Block} {o : Option Cutting} (id start end : ℕ) (k : Kind)
        → Cuts-to (insert_sorted id (rust_block id start end (type_of k [])) acc) bs o → Cuts-to acc (block id start end k ∷ bs) o
    closing id start end k g = record { end = g.end; is = g.is; left = g.left }

    module _ (c : Cutting) (push : Option ℕ) (ready : Ready code c.prev_pc push (i ∷ is)) where
      abbrev id : ℕ
      id = c.block.id

      abbrev start : ℕ
      start = c.block.start

      abbrev R : Cut → Option Cutting → Type 0
      R k o = Cuts-to c.blocks (closes id start c.prev_pc push i.pc on k) o

      abbrev next-pc : ℕ
      next-pc = i.pc + (row i.op).size

      one_byte : (b : ℕ) → i.op ≡ b → argument b ≡ 0 → next-pc ≡ i.pc + 1
      one_byte b e z = ap (λ (n : ℕ). i.pc + n) (sized.size i.op ∙ ap suc (ap argument e ∙ z))

      pushes : (b : ℕ) → i.op ≡ b → within 0x60 0x63 b ≡ false → is_static_jump code c.prev_pc ≡ some push
      pushes b e z = ready (ap (within 0x60 0x63) e ∙ z)

      at_jumpdest : R JUMPDEST (if (not (eqb start i.pc)) (goes (cutting (closed c.prev_pc (Jump i.pc) c.block c.blocks) i.pc (new_block i.pc) false)) (goes (cutting c.blocks i.pc c.block false)))
      at_jumpdest = split (eqb start i.pc) refl
        where
          split : (b : Bool) → eqb start i.pc ≡ b
              → R JUMPDEST (if (not (eqb start i.pc)) (goes (cutting (closed c.prev_pc (Jump i.pc) c.block c.blocks) i.pc (new_block i.pc) false)) (goes (cutting c.blocks i.pc c.block false)))
          split true e = rw (if-false (not (eqb start i.pc)) _ _ (ap not e), if-true (eqb start i.pc) _ _ e) (in_block c.blocks c.block)
          split false e =
              rw (if-true (not (eqb start i.pc)) _ _ (ap not e), if-false (eqb start i.pc) _ _ e)
              (closing id start c.prev_pc (jump i.pc) (in_block (closed c.prev_pc (Jump i.pc) c.block c.blocks) (new_block i.pc)))

      at-jumpi : i.op ≡ 0x57
          → R JUMPI (and_then (is_static_jump code c.prev_pc) (λ v. goes (cutting (closed i.pc (jumpi_type i.pc v) c.block c.blocks) i.pc (new_block next-pc) false)))
      unfolding if
      at-jumpi e =
          rw (pushes 0x57 e refl, one_byte 0x57 e refl, jumpi-same i.pc push)
          (closing id start i.pc (branching push (i.pc + 1)) (in_block (closed i.pc (type_of (branching push (i.pc + 1)) []) c.block c.blocks) (new_block (i.pc + 1))))

      at-jump : i.op ≡ 0x56
          → R JUMP (and_then (is_static_jump code c.prev_pc) (λ v. goes (cutting (closed i.pc (jump_type v) c.block c.blocks) i.pc (new_block next-pc) true)))
      unfolding if
      at-jump e =
          rw (pushes 0x56 e refl, jump-same push)
          (closing id start i.pc (jumping push) (in-wait (closed i.pc (type_of (jumping push) []) c.block c.blocks) (new_block next-pc)))

      at-end : (success : Bool) → not (eqb i.op 0xFD) && not (eqb i.op 0xFE) ≡ success
          → R (ENDS success) (goes (cutting (closed i.pc (Terminate (not (eqb i.op 0xFD) && not (eqb i.op 0xFE))) c.block c.blocks) i.pc (new_block next-pc) true))
      at-end success e =
          rw e (closing id start i.pc (terminate success) (in-wait (closed i.pc (Terminate success) c.block c.blocks) (new_block next-pc)))

      abbrev unknown-byte : Option Cutting
      unknown-byte =
          if (eqb start 0) (some (cutting (closed c.prev_pc (Terminate false) c.block c.blocks) c.prev_pc (new_block i.pc) true))
          (if (not (eqb start i.pc)) (goes (cutting (closed c.prev_pc (Terminate false) c.block c.blocks) i.pc (new_block i.pc) true)) (goes (cutting c.blocks i.pc c.block true)))

      at-unknown : R UNKNOWN unknown-byte
      at-unknown =
          along (Cuts-to c.blocks) (eqb start 0)
          (λ _. record { end = cutting (closed c.prev_pc (Terminate false) c.block c.blocks) c.prev_pc (new_block i.pc) true; is = refl; left = ends-waiting (cutting (closed c.prev_pc (Terminate false) c.block c.blocks) c.prev_pc (new_block i.pc) true) refl })
          (λ _. split (eqb start i.pc) refl)
        where
          split : (b : Bool) → eqb start i.pc ≡ b
              → Cuts-to c.blocks (if (eqb start i.pc) (on waiting) (block id start c.prev_pc (terminate false) ∷ on waiting))
              (if (not (eqb start i.pc)) (goes (cutting (closed c.prev_pc (Terminate false) c.block c.blocks) i.pc (new_block i.pc) true)) (goes (cutting c.blocks i.pc c.block true)))
          split true e = rw (if-false (not (eqb start i.pc)) _ _ (ap not e), if-true (eqb start i.pc) (on waiting) _ e) (in-wait c.blocks c.block)
          split false e =
              rw (if-true (not (eqb start i.pc)) _ _ (ap not e), if-false (eqb start i.pc) (on waiting) _ e)
              (closing id start c.prev_pc (terminate false) (in-wait (closed c.prev_pc (Terminate false) c.block c.blocks) (new_block i.pc)))

      abbrev ends? : Bool
      ends? = eqb i.op 0xFD || eqb i.op 0xF3 || eqb i.op 0x00 || eqb i.op 0xFF || eqb i.op 0xFE

      abbrev well? : Bool
      well? = eqb i.op 0x00 || eqb i.op 0xF3 || eqb i.op 0xFF

      abbrev badly? : Bool
      badly? = eqb i.op 0xFD || eqb i.op 0xFE

      any-end : ends? ≡ well? || badly?
      any-end = five (eqb i.op 0xFD) (eqb i.op 0xF3) (eqb i.op 0x00) (eqb i.op 0xFF) (eqb i.op 0xFE)

      abbrev ended_here : Option Cutting
      ended_here = goes (cutting (closed i.pc (Terminate (not (eqb i.op 0xFD) && not (eqb i.op 0xFE))) c.block c.blocks) i.pc (new_block next-pc) true)

      abbrev others : Option Cutting
      others = if (not (row i.op).known) unknown-byte (goes (cutting c.blocks i.pc c.block false))

      at_others : R (if (row i.op).known OTHER UNKNOWN) others
      at_others = split (row i.op).known refl
        where
          split : (b : Bool) → (row i.op).known ≡ b → R (if (row i.op).known OTHER UNKNOWN) others
          split true e = rw (if-true (row i.op).known OTHER UNKNOWN e, if-false (not (row i.op).known) unknown-byte (goes (cutting c.blocks i.pc c.block false)) (ap not e)) (in_block c.blocks c.block)
          split false e = rw (if-false (row i.op).known OTHER UNKNOWN e, if-true (not (row i.op).known) unknown-byte (goes (cutting c.blocks i.pc c.block false)) (ap not e)) at-unknown

      at_rest : R (if well? (ENDS true) (if badly? (ENDS false) (if (row i.op).known OTHER UNKNOWN))) (if ends? ended_here others)
      at_rest = split well? refl badly? refl
        where
          split : (a : Bool) → well? ≡ a → (b : Bool) → badly? ≡ b → R (if well? (ENDS true) (if badly? (ENDS false) (if (row i.op).known OTHER UNKNOWN))) (if ends? ended_here others)
          split true e b f =
              rw (if-true ends? ended_here others (any-end ∙ ap (λ (t : Bool). t || badly?) e), if-true well? (ENDS true) (if badly? (ENDS false) (if (row i.op).known OTHER UNKNOWN)) e)
              (at-end true (one_of_three i.op e))
          split false e true f =
              rw (if-true ends? ended_here others (any-end ∙ ap₂ ◌||◌ e f), if-false well? (ENDS true) (if badly? (ENDS false) (if (row i.op).known OTHER UNKNOWN)) e, if-true badly? (ENDS false) (if (row i.op).known OTHER UNKNOWN) f)
              (at-end false (one_of_two i.op f))
          split false e false f =
              rw (if-false ends? ended_here others (any-end ∙ ap₂ ◌||◌ e f), if-false well? (ENDS true) (if badly? (ENDS false) (if (row i.op).known OTHER UNKNOWN)) e, if-false badly? (ENDS false) (if (row i.op).known OTHER UNKNOWN) f)
              at_others

      -- lines 52 to 123
      matched : R (cut row i.op) (match_op row code i goes c)
      matched =
          along R (eqb i.op 0x5B) (λ _. at_jumpdest)
          (λ _. along R (eqb i.op 0x57) (λ e. at-jumpi (eqb-true _ _ e))
          (λ _. along R (eqb i.op 0x56) (λ e. at-jump (eqb-true _ _ e)) (λ _. at_rest)))

    goes_step : Goes (i ∷ is)
    goes_step m c push (is_open e) ready =
        rw (cuts-open i is c.block.id c.block.start c.prev_pc push, code_step i is c, if-false c.wait_jumpdest _ _ e) (matched c push ready)
    goes_step m c push (is_waiting e) ready =
        rw (cuts-waiting i is c.prev_pc push, code_step i is c, if-true c.wait_jumpdest _ _ e)
        (along (Cuts-to c.blocks) (eqb i.op 0x5B) (λ _. in_block c.blocks (rust_block i.pc i.pc c.block.end c.block.btype)) (λ _. in-wait c.blocks c.block))

  all-goes : {at : ℕ} {is : List Ins} → Walked code at is → Goes is
  all-goes (stops h) = goes_none
  all-goes (steps {i} {is} s w) = goes_step i is s (all-goes w)

-- ---- a BTreeMap whose keys come in their order

abbrev Keys-below : ℕ → Blocks → Type 0
Keys-below k acc = (e : ℕ × RustBlock) → In e acc → e.0 < k

insert-last : (k : ℕ) (v : RustBlock) (acc : Blocks) → Keys-below k acc → insert_sorted k v acc ≡ acc ++ (k, v) ∷ []
insert-last k v [] h = refl
insert-last k v (e ∷ acc) h =
    let l = h e here in
    if-false _ _ _ (le-ltb k e.0 (omega arith)) ∙ if-false _ _ _ (ne_eqb k e.0 (λ q. absurd (omega arith)))
    ∙ ap {B = Blocks} (λ (es : Blocks). e ∷ es) (insert-last k v acc (λ f i. h f (there i)))

keys-more : {k n : ℕ} {acc : Blocks} (v : RustBlock) → k ≤ n → Keys-below k acc → Keys-below (suc n) (acc ++ (n, v) ∷ [])
keys-more {k} {n} {acc} v l h e i = side (in-cases acc i)
  where
    side : In e acc ⊎ In e ((n, v) ∷ []) → e.0 < suc n
    side (inl j) = let g = h e j in omega arith
    side (inr j) = let g = ap (λ (x : ℕ × RustBlock). x.0) (in-only j) in omega arith

inserts-rising : {lo : ℕ} (bs : List Block) (acc : Blocks) → Rising lo (map (λ (b : Block). b.id) bs) → Keys-below lo acc → inserts acc bs ≡ acc ++ map keyed bs
inserts-rising [] acc r h = sym (append-nil acc)
inserts-rising (b ∷ bs) acc (one_more l r) h =
    let v = rust_block b.id b.start b.end (type_of b.kind []) in
    ap (λ (es : Blocks). inserts es bs) (insert-last b.id v acc (λ e i. let g = h e i in omega arith))
    ∙ inserts-rising bs (acc ++ (b.id, v) ∷ []) r (keys-more v l h) ∙ append_assoc acc ((b.id, v) ∷ []) (map keyed bs)

-- ---- lines 135 to 171

module _ (code keys : List ℕ) (inside : (t : ℕ) → mem t keys ≡ true → t < length code) where
  valid-lands : (t : ℕ) → valid code keys t ≡ some (lands code keys t)
  valid-lands t = split (mem t keys) refl
    where
      split : (b : Bool) → mem t keys ≡ b → valid code keys t ≡ some (mem t keys && eqb (get_or code t 0) 0x5B)
      split true e = if-true _ _ _ e ∙ ap (λ (o : Option ℕ). and_then o (λ b. some (eqb b 0x5B))) (index code t (inside t e)) ∙ ap (λ (b : Bool). some (b && eqb (get_or code t 0) 0x5B)) (sym e)
      split false e = if-false _ _ _ e ∙ ap (λ (b : Bool). some (b && eqb (get_or code t 0) 0x5B)) (sym e)

  type-if : (b : Bool) (x y : Kind) → if b (type_of x []) (type_of y []) ≡ type_of (if b x y) []
  type-if b x y = both (λ (k : Kind). if b (type_of x []) (type_of y []) ≡ type_of k []) b (λ on. if-true _ _ _ on) (λ off. if-false _ _ _ off)

  checked-type : (k : Kind) → new_btype code keys (type_of k []) ≡ some (type_of (checked code keys k) [])
  checked-type (terminate success) = refl
  checked-type (jump t) = rw (valid-lands t) (ap some (type-if (lands code keys t) (jump t) (terminate false)))
  checked-type (jumpi t f) =
      rw (valid-lands t)
      (ap (λ (x : BlockType). some (if (mem f keys) x (Terminate false))) (type-if (lands code keys t) (jumpi t f) (jump f))
      ∙ ap some (type-if (mem f keys) (if (lands code keys t) (jumpi t f) (jump f)) (terminate false)))
  checked-type dynamic_jump = refl
  checked-type (dynamic_jumpi f) = refl

  each_step : (e : ℕ × RustBlock) (es : Blocks)
      → check_each code keys (e ∷ es)
      ≡ if (leb e.1.start e.1.end) (and_then (new_btype code keys e.1.btype) (λ t. and_then (check_each code keys es) (λ later. some ((e.0, with_type t e.1) ∷ later)))) none
  unfolding check_each
  each_step e es = refl

  each_none : check_each code keys [] ≡ some []
  unfolding check_each
  each_none = refl

  each-checked : (bs : List Block) → ((b : Block) → In b bs → b.start ≤ b.end)
      → check_each code keys (map keyed bs) ≡ some (map (λ (b : Block). keyed (with_kind (checked code keys b.kind) b)) bs)
  each-checked [] h = each_none
  each-checked (b ∷ bs) h =
      each_step (keyed b) (map keyed bs) ∙ if-true _ _ _ (le-leb b.start b.end (h b here))
      ∙ ap (λ (o : Option BlockType). and_then o (λ t. and_then (check_each code keys (map keyed bs)) (λ later. some ((b.id, with_type t (keyed b).1) ∷ later)))) (checked-type b.kind)
      ∙ ap (λ (o : Option Blocks). and_then o (λ later. some (keyed (with_kind (checked code keys b.kind) b) ∷ later))) (each-checked bs (λ d i. h d (there i)))

-- ---- the whole

module _ {row : ℕ → Row} (ok : Lawful row) (sized : Sized row) (first : ℕ) (rest : List ℕ) where
  abbrev code : List ℕ
  code = first ∷ rest

  abbrev all-cuts : List Block
  all-cuts = cuts row (instructions code) (opened 0 0) 0 none

  abbrev keep-checked : Block → Block
  keep-checked b = with_kind (checked code (starts all-cuts) b.kind) b

  made_of : (b : Block) → In b all-cuts → Made code (keep-checked b)
  unfolding blocks
  made_of b i = made ok code (map-in keep-checked i)

  ids-starts : (bs : List Block) → ((b : Block) → In b bs → Made code (keep-checked b)) → map (λ (b : Block). b.id) bs ≡ starts bs
  ids-starts [] h = refl
  ids-starts (b ∷ bs) h = ap₂ {C = List ℕ} (λ (x : ℕ) (xs : List ℕ). x ∷ xs) (h b here).id_start (ids-starts bs (λ d i. h d (there i)))

  rising-cuts : Rising 0 (starts all-cuts)
  unfolding blocks
  rising-cuts = subst (Rising 0) (starts-checked code all-cuts) (starts-rise ok code)

  ids : map (λ (b : Block). b.id) all-cuts ≡ starts all-cuts
  ids = ids-starts all-cuts made_of

  keys-keyed : (bs : List Block) → keys_of (map keyed bs) ≡ map (λ (b : Block). b.id) bs
  keys-keyed [] = refl
  keys-keyed (b ∷ bs) = ap {B = List ℕ} (λ (l : List ℕ). b.id ∷ l) (keys-keyed bs)

  shown-keyed : (bs : List Block) → ((b : Block) → In b bs → Made code (keep-checked b)) → map (λ (b : Block). keyed (keep-checked b)) bs ≡ map (λ (b : Block). shown b []) (map keep-checked bs)
  shown-keyed [] h = refl
  shown-keyed (b ∷ bs) h =
      ap₂ {C = Blocks} (λ (k : ℕ) (es : Blocks). (k, rust_block b.id b.start b.end (type_of (checked code (starts all-cuts) b.kind) [])) ∷ es) (h b here).id_start (shown-keyed bs (λ d i. h d (there i)))

  inside : (t : ℕ) → mem t (starts all-cuts) ≡ true → t < length code
  inside t e =
      let m = in_map (λ (b : Block). b.start) all-cuts (mem-in t (starts all-cuts) e) in
      let k = (made_of m.0 m.1).start_inside in
      let q = m.2 in
      omega arith

  ready-first : {at : ℕ} (is : List Ins) → Walked code at is → at ≡ 0 → Ready code 0 none is
  ready-first [] w e = tt
  ready-first (i ∷ is) (steps s w) e = λ off.
      let q : is_static_jump code i.pc ≡ some (pushed i) = static_pushed s in
      ap (is_static_jump code) (sym e) ∙ q ∙ ap some (if-false _ _ _ off)

  walk_is : walk code 0 0 ≡ instructions code
  unfolding instructions
  walk_is = refl

  -- `initial_blocks` never panics, and gives the definitions' blocks.
  pub initial-same : initial_blocks row code ≡ some (map (λ (b : Block). shown b []) (blocks row code (instructions code)))
  unfolding blocks
  initial-same =
      let g = all-goes row sized code (walked code) (opened 0 0) (cutting [] 0 (new_block 0) false) none (is_open refl) (ready-first (instructions code) (walked code) refl) in
      let bs : last_block g.end ≡ map keyed all-cuts = g.left ∙ inserts-rising all-cuts [] (subst (Rising 0) (sym ids) rising-cuts) (λ e i. elim i [ ]) in
      let ks : keys_of (map keyed all-cuts) ≡ starts all-cuts = keys-keyed all-cuts ∙ ids in
      ap (λ (o : Option (List Ins)). and_then o (λ is. and_then (for_code row code is (cutting [] 0 (new_block 0) false)) (λ c. check_each code (keys_of (last_block c)) (last_block c)))) (iterate-walks sized code 0 ∙ ap some walk_is)
      ∙ ap (λ (o : Option Cutting). and_then o (λ c. check_each code (keys_of (last_block c)) (last_block c))) g.is
      ∙ ap (λ (es : Blocks). check_each code (keys_of es) es) bs
      ∙ ap (λ (k : List ℕ). check_each code k (map keyed all-cuts)) ks
      ∙ each-checked code (starts all-cuts) inside all-cuts (λ b i. (made_of b i).forward)
      ∙ ap some (shown-keyed all-cuts made_of)
