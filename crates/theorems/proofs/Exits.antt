-- A block's static sides are where YP may go when its run ends: by its JUMP or JUMPI, whose destination the instruction before has pushed, or into the next
-- JUMPDEST. Assumes nothing.
use Prim.Native.Nat.{ℕ, suc, ◌+◌}
use native.Mathlib.Omega.{arith}
use mathlib.Core.Path.{◌≡◌, refl, sym, ap, subst, ◌∙◌}
use mathlib.Core.Logic.{◌⊎◌, inl, inr}
use mathlib.Core.Bool.{Bool, true, false, ◌||◌}
use mathlib.Core.Option.{Option, none, some}
use mathlib.Core.List.{List, [], ◌∷◌}
use lib.Dec.{eqb, leb}
use lib.ListN.{get_or}
use borrow.Author.Tests.{eqb-true, eqb-false, eq-eqb, ne_eqb}
use Rattle.spec.specs.Lists.{if, within, mem}
use Rattle.spec.specs.Opcodes.{argument, Rules}
use Rattle.spec.specs.Walk.{Ins, instructions, from}
use Rattle.spec.specs.Blocks.{Kind, terminate, jump, jumpi, dynamic_jump, dynamic_jumpi, Block, block, with_kind, Mode, opened, waiting, pushed, jumping as jumping-to, branching, Cut, cut, closes, cuts, lands, checked, starts, blocks}
use Rattle.spec.specs.Stacks.{pushes_value, does}
use Rattle.spec.specs.Search.{sides}
use Rattle.spec.specs.Meaning.{yields, jumping, closing, last, executes}
use Rattle.spec.specs.PathWalks.{Exit, exit, exits, jumps_to, goes_to}
use Rattle.laws.proofs.Branch.{both, if-true, if-false}
use Rattle.laws.proofs.Members.{In, here, there, and_both, and-true, or_right, in-only, in_map}
use Rattle.theorems.proofs.Cutting.{by-cut}
use Rattle.theorems.proofs.Counts.{Lawful, does-to, yields-does}
use Rattle.theorems.proofs.Walking.{Walked, stops, steps, walked, walked_once, from-here, from_in, from-behind}

module _ (rules : Rules) (ok : Lawful rules.row) where
  -- ---- the word that a PUSH1 to PUSH4 leaves on top

  some_same : {a b : ℕ} → some a ≡ some b → a ≡ b
  some_same e = cc

  not_some : {A : Type 0} {v : ℕ} → none ≡ some v → A
  not_some e = absurd (let z : ◌≡◌ {A = ℕ} 0 1 = cc in omega arith)

  pushed-top : (supply : ℕ → ℕ → ℕ) (i : Ins) (st : List ℕ) {v : ℕ} → pushed i ≡ some v → get_or (yields rules.row supply i st) 0 0 ≡ v
  unfolding does does-to
  pushed-top supply i st {v} e = split (within 0x60 0x63 i.op) refl
    where
      split : (t : Bool) → within 0x60 0x63 i.op ≡ t → get_or (yields rules.row supply i st) 0 0 ≡ v
      split true q = rw (yields-does ok 0 supply i st, if-true (within 0x60 0x63 i.op) pushes_value _ q) (some_same (sym (if-true _ _ _ q) ∙ e))
      split false q = not_some (sym (if-false _ _ _ q) ∙ e)

  -- ---- a run that pops a destination goes there, if the byte is 5B

  jumps-there : (code : List ℕ) {x w : ℕ} → get_or code x 0 ≡ 0x5B → x ≡ w → jumps_to code x w ≡ true
  jumps-there code {x} {w} m e = and-true (eqb x w) _ (eq-eqb x w e) (eq-eqb _ 0x5B m)

  exit-goes : (code : List ℕ) (i : Ins) (st : List ℕ) {w : ℕ} → get_or code w 0 ≡ 0x5B → if (jumping i.op) (some (get_or st 0 0)) none ≡ some w
      → goes_to code w (exit i st) ≡ true
  unfolding jumping
  exit-goes code i st {w} m e =
      both (λ (x : Exit). goes_to code w x ≡ true) (eqb i.op 0x56) (λ on. top (rw on))
      (λ off. both (λ (x : Exit). goes_to code w x ≡ true) (eqb i.op 0x57) (λ on. rw (top (rw (off, on))))
      (λ still. not_some (sym (if-false _ _ _ (rw (off, still))) ∙ e)))
    where
      top : jumping i.op ≡ true → jumps_to code w (get_or st 0 0) ≡ true
      top q = jumps-there code m (sym (some_same (sym (if-true _ _ _ q) ∙ e)))

  pub popped-goes : (code : List ℕ) (supply : ℕ → ℕ → ℕ) (start : ℕ) (is : List Ins) (st : List ℕ) {w : ℕ} → get_or code w 0 ≡ 0x5B
      → (executes rules.row supply start is st).popped ≡ some w → goes_to code w (exits rules.row supply start is st) ≡ true
  popped-goes code supply start [] st m e = not_some e
  popped-goes code supply start (i ∷ is) st {w} m e = split (last start i) refl (popped-goes code supply start is (yields rules.row supply i st) m)
    where
      split : (t : Bool) → last start i ≡ t → ((executes rules.row supply start is (yields rules.row supply i st)).popped ≡ some w → goes_to code w (exits rules.row supply start is (yields rules.row supply i st)) ≡ true)
          → goes_to code w (exits rules.row supply start (i ∷ is) st) ≡ true
      split true q ih = rw (if-true (last start i) (exit i st) _ q) (exit-goes code i st m (rw (if-true (last start i) _ _ q) at e))
      split false q ih = rw (if-false (last start i) (exit i st) _ q) (ih (rw (if-false (last start i) _ _ q) at e))

  -- ---- what an instruction is to the cutting, and to a run

  dest-open : closing 0x5B ≡ false
  unfolding closing
  dest-open = refl

  jumpi-ends : (closing 0x57 ≡ true) × (argument 0x57 ≡ 0)
  unfolding closing if
  jumpi-ends = (refl, refl)

  jump-ends : closing 0x56 ≡ true
  unfolding closing
  jump-ends = refl

  -- a JUMPI's sides
  in_two : {x a b : ℕ} → In x (a ∷ b ∷ []) → (x ≡ a) ⊎ (x ≡ b)
  in_two here = inl refl
  in_two (there j) = inr (in-only j)

  pub side-cases : (t f : ℕ) {x : ℕ} → In x (sides (jumpi t f)) → (x ≡ t) ⊎ (x ≡ f)
  side-cases t f {x} = both (λ (l : List ℕ). In x l → (x ≡ t) ⊎ (x ≡ f)) (eqb t f) (λ _ j. inl (in-only j)) (λ _. in_two)

  walked-rest : {code : List ℕ} {at : ℕ} {i : Ins} {rest : List Ins} → Walked code at (i ∷ rest) → Walked code (i.pc + suc (argument i.op)) rest
  walked-rest (steps s w) = w

  module _ (code : List ℕ) where
    abbrev all : List Ins
    all = instructions code

    -- ---- the open block: its run goes on with these instructions, on words of which the top is what the instruction before has pushed

    record Open (start : ℕ) (push : Option ℕ) (rest : List Ins) : Type 0 where
      now : (ℕ → ℕ → ℕ) → List ℕ → List ℕ
      same : (supply : ℕ → ℕ → ℕ) (st : List ℕ) → exits rules.row supply start (from start all) st ≡ exits rules.row supply start rest (now supply st)
      top : (supply : ℕ → ℕ → ℕ) (st : List ℕ) {v : ℕ} → push ≡ some v → get_or (now supply st) 0 0 ≡ v

    abbrev Ready : Mode → Option ℕ → List Ins → Type 0
    Ready (opened id start) push rest = Open start push rest
    Ready waiting push rest = Unit {0}

    -- a side that "Afterwards" may leave: a destination with 5B there, or a false side
    abbrev Side : Kind → ℕ → Type 0
    Side (terminate success) x = ⊥
    Side (jump t) x = (x ≡ t) × (get_or code x 0 ≡ 0x5B)
    Side (jumpi t f) x = ((x ≡ t) × (get_or code x 0 ≡ 0x5B)) ⊎ (x ≡ f)
    Side dynamic_jump x = ⊥
    Side (dynamic_jumpi f) x = x ≡ f

    -- where the block's run goes
    abbrev pub GoesOn : Block → ℕ → Type 0
    GoesOn b x = (supply : ℕ → ℕ → ℕ) (st : List ℕ) → goes_to code x (exits rules.row supply b.start (from b.start all) st) ≡ true

    -- a block of which such sides are where its run goes
    record Sided (b : Block) : Type 0 where
      at : (x : ℕ) → Side b.kind x → GoesOn b x

    abbrev AllSided : List Block → Type 0
    AllSided bs = (b : Block) → In b bs → Sided b

    and_more : {b : Block} {bs : List Block} → Sided b → AllSided bs → AllSided (b ∷ bs)
    and_more h k c here = h
    and_more h k c (there i) = k c i

    sideless : {i s e : ℕ} (success : Bool) → Sided (block i s e (terminate success))
    sideless success = record { at = λ x j. absurd j }

    module _ {i : Ins} {rest : List Ins} (member : In i all) (w : Walked code i.pc (i ∷ rest)) where
      -- past an instruction that does not end the run
      past : {start : ℕ} {push : Option ℕ} → last start i ≡ false → Open start push (i ∷ rest) → Open start (pushed i) rest
      past {start} l o = record {
        now = λ supply st. yields rules.row supply i (o.now supply st);
        same = λ supply st. o.same supply st ∙ if-false (last start i) _ _ l;
        top = λ supply st e. pushed-top supply i (o.now supply st) e;
      }

      begun : i.op ≡ 0x5B → Open i.pc (pushed i) rest
      begun e =
          past {push = none} (rw (e, dest-open, eq-eqb i.pc i.pc refl))
          (record { now = λ supply st. st; same = λ supply st. rw (walked_once (from_in (walked code) member) w); top = λ supply st q. not_some q })

      behind : i.op ≡ 0x57 → Open (i.pc + 1) (pushed i) rest
      unfolding if
      behind e =
          let one : i.pc + suc (argument i.op) ≡ i.pc + 1 = omega (arith, jumpi-ends.1, ap argument e) in
          let here : from (i.pc + 1) all ≡ rest = rw one at (walked_once (from-behind (walked code) member) (walked-rest w)) in
          record { now = λ supply st. st; same = λ supply st. rw here; top = λ supply st q. not_some (rw e at q) }

      -- the block ends with the instruction
      ends_so : {start : ℕ} (push : Option ℕ) (o : Open start push (i ∷ rest)) → last start i ≡ true → (supply : ℕ → ℕ → ℕ) (st : List ℕ)
          → exits rules.row supply start (from start all) st ≡ exit i (o.now supply st)
      ends_so {start} push o l supply st = o.same supply st ∙ if-true (last start i) _ _ l

      module _ {id start end : ℕ} where
        dest-sided : i.op ≡ 0x5B → ¬ (start ≡ i.pc) → (push : Option ℕ) → Open start push (i ∷ rest) → Sided (block id start end (jump i.pc))
        unfolding if
        dest-sided e ne push o = record {
          at = λ x j supply st.
              rw (j.0, ends_so push o (rw (e, dest-open, ne_eqb i.pc start (λ q. ne (sym q)))) supply st, e) (eq-eqb i.pc _ refl);
        }

        jump-sided : i.op ≡ 0x56 → (push : Option ℕ) → Open start push (i ∷ rest) → Sided (block id start end (jumping-to push))
        unfolding if
        jump-sided e none o = record { at = λ x j. absurd j }
        jump-sided e (some v) o = record {
          at = λ x j supply st. rw (ends_so (some v) o (rw (e, jump-ends)) supply st, e) (jumps-there code j.1 (j.0 ∙ sym (o.top supply st refl)));
        }

        jumpi-sided : i.op ≡ 0x57 → (push : Option ℕ) → Open start push (i ∷ rest) → Sided (block id start end (branching push (i.pc + 1)))
        unfolding if
        jumpi-sided e none o = record {
          at = λ x j supply st. rw (ends_so none o (rw (e, jumpi-ends.0)) supply st, e) (or_right (jumps_to code x _) _ (eq-eqb x _ j));
        }
        jumpi-sided e (some v) o = record { at = λ x j supply st. rw (ends_so (some v) o (rw (e, jumpi-ends.0)) supply st, e) (split x supply st j) }
          where
            split : (x : ℕ) (supply : ℕ → ℕ → ℕ) (st : List ℕ) → Side (jumpi v (i.pc + 1)) x
                → jumps_to code x (get_or (o.now supply st) 0 0) || eqb x (i.pc + 1) ≡ true
            split x supply st (inl q) = rw (jumps-there code q.1 (q.0 ∙ sym (o.top supply st refl)))
            split x supply st (inr q) = or_right (jumps_to code x _) _ (eq-eqb x _ q)

      module _ (on : Mode → List Block) (sided : (m : Mode) → Ready m (pushed i) rest → AllSided (on m)) (id : ℕ) {start : ℕ} (prev : ℕ) (push : Option ℕ) (o : Open start push (i ∷ rest)) where
        closes-sided : AllSided (closes id start prev push i.pc on (cut rules.row i.op))
        closes-sided =
            by-cut rules.row (λ (c : Cut). AllSided (closes id start prev push i.pc on c)) i.op
            (λ e. both AllSided (eqb start i.pc) (λ at. sided (opened id start) (past (rw (e, dest-open, eq-eqb i.pc start (sym (eqb-true _ _ at)))) o))
            (λ ne. and_more (dest-sided e (eqb-false _ _ ne) push o) (sided (opened i.pc i.pc) (begun e))))
            (λ e. and_more (jumpi-sided e push o) (sided (opened (i.pc + 1) (i.pc + 1)) (behind e)))
            (λ e. and_more (jump-sided e push o) (sided waiting tt))
            (λ success. and_more (sideless success) (sided waiting tt))
            (λ c d. sided (opened id start) (past (rw (c, d)) o))
            (both AllSided (eqb start 0) (λ _. and_more (sideless false) (λ b j. elim j [ ]))
            (λ _. both AllSided (eqb start i.pc) (λ _. sided waiting tt) (λ _. and_more (sideless false) (sided waiting tt))))

    cuts-sided : {at : ℕ} {rest : List Ins} → Walked code at rest → ((i : Ins) → In i rest → In i all) → (m : Mode) (prev : ℕ) (push : Option ℕ) → Ready m push rest
        → AllSided (cuts rules.row rest m prev push)
    unfolding cuts
    cuts-sided (stops stop) sub waiting prev push r = λ b j. elim j [ ]
    cuts-sided (stops stop) sub (opened id start) prev push r = both AllSided (leb start prev) (λ _. and_more (sideless false) (λ b j. elim j [ ])) (λ _ b j. elim j [ ])
    cuts-sided (steps {i} s w) sub waiting prev push r =
        both AllSided (eqb i.op 0x5B)
        (λ e. cuts-sided w (λ k n. sub k (there n)) (opened i.pc i.pc) i.pc _ (begun (sub i here) (steps s w) (eqb-true _ _ e)))
        (λ _. cuts-sided w (λ k n. sub k (there n)) waiting i.pc _ tt)
    cuts-sided (steps {i} s w) sub (opened id start) prev push o =
        closes-sided (sub i here) (steps s w) _ (λ m r. cuts-sided w (λ k n. sub k (there n)) m i.pc _ r) id prev push o

    marked : (at : List ℕ) (t : ℕ) {x : ℕ} → lands code at t ≡ true → x ≡ t → get_or code x 0 ≡ 0x5B
    marked at t on e = rw e (eqb-true _ _ (and_both (mem t at) _ on).1)

    -- "Afterwards" these are left.
    checked-sides : (at : List ℕ) (k : Kind) {x : ℕ} → In x (sides (checked code at k)) → Side k x
    checked-sides at (terminate success) j = elim j [ ]
    checked-sides at (jump t) {x} j =
        both (λ (k : Kind). In x (sides k) → Side (jump t) x) (lands code at t) (λ on i. (in-only i, marked at t on (in-only i))) (λ _ i. elim i [ ]) j
    checked-sides at (jumpi t f) {x} j =
        both (λ (k : Kind). In x (sides k) → Side (jumpi t f) x) (mem f at)
        (λ _. both (λ (k : Kind). In x (sides k) → Side (jumpi t f) x) (lands code at t) (λ on i. either on (side-cases t f i)) (λ _ i. inr (in-only i)))
        (λ _ i. elim i [ ]) j
      where
        either : lands code at t ≡ true → (x ≡ t) ⊎ (x ≡ f) → Side (jumpi t f) x
        either on (inl e) = inl (e, marked at t on e)
        either on (inr e) = inr e
    checked-sides at dynamic_jump j = elim j [ ]
    checked-sides at (dynamic_jumpi f) j = in-only j

  -- Every block of the cut goes to its static sides.
  pub sided : (code : List ℕ) {b : Block} → In b (blocks rules.row code (instructions code)) → (x : ℕ) → In x (sides b.kind) → GoesOn code b x
  unfolding blocks
  sided [] i = elim i [ ]
  sided (c ∷ code) {b} i =
      subst (λ (d : Block). (x : ℕ) → In x (sides d.kind) → GoesOn (c ∷ code) d x) (sym g.2) (λ x j. was.at x (checked-sides (c ∷ code) _ g.0.kind j))
    where
      all-cuts : List Block
      all-cuts = cuts rules.row (instructions (c ∷ code)) (opened 0 0) 0 none

      g : (b₀ : Block) × In b₀ all-cuts × (b ≡ with_kind (checked (c ∷ code) (starts all-cuts) b₀.kind) b₀)
      g = in_map _ all-cuts i

      was : Sided (c ∷ code) g.0
      was =
          cuts-sided (c ∷ code) (walked (c ∷ code)) (λ i n. n) (opened 0 0) 0 none
          (record { now = λ supply st. st; same = λ supply st. rw (walked_once (from-here (walked (c ∷ code))) (walked (c ∷ code))); top = λ supply st q. not_some q }) g.0 g.1
