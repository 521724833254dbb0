-- A step of Mirror: what the transcription's `exec` and `real_exec` do, with the top of the stack first. From the stored form of any stack nothing panics, and
-- what they leave and return is what `runs` and `trim` give. Assumes nothing.
use Prim.Native.Nat.{ℕ, zero, suc, ◌+◌, ◌-◌, ◌<◌, ◌≤◌}
use native.Mathlib.Omega.{arith}
use native.Mathlib.Nat.{add-zero, suc-add, add-suc, le_refl}
use native.Mathlib.Numerals.{add-one}
use mathlib.Core.Path.{◌≡◌, refl, sym, ap, ap₂, ◌∙◌}
use mathlib.Core.Bool.{Bool, true, false, ◌&&◌, ◌||◌}
use mathlib.Core.Option.{Option, none, some}
use mathlib.Core.List.{List, [], ◌∷◌, ◌++◌, append_assoc, reverse, reverse-cons, reverse-append, reverse-reverse}
use lib.Dec.{eqb, leb, ltb}
use lib.ListN.{length, take, drop, set, replicate, get_elem?, length-append, length-reverse}
use lib.Seq.{drop-append-le, drop-drop, set_split}
use borrow.Author.Tests.{eqb-true, eqb-false, eq-eqb, ne_eqb, leb-true, le-leb, ltb-false}
use Rattle.spec.specs.Lists.{if, within}
use Rattle.spec.specs.Opcodes.{argument, Row, Rules}
use Rattle.spec.specs.Walk.{Ins, big}
use Rattle.spec.specs.Stacks.{Sym, before, constant, jumpdest, other, Stack, entry, reads, read, pops, span, swap, trade, from_value, known_value, anded, summed, joins, settle, trims, trim, Does, pushes_value, pushes_pc, dups, swaps, ands, adds, jumps, jumpis, lands, halts, plain, does, act, Ran, after, runs}
use Rattle.laws.proofs.Branch.{both, if-true, if-false, and_then}
use Rattle.laws.proofs.Members.{and_both, and-true}
use Rattle.theorems.proofs.Walking.{Stands, Walked, stops, steps}
use Rattle.theorems.proofs.Counts.{takes, Lawful, takes-row}
use Rattle.source.proofs.Stored.{bottom, stored, stored-cells, stored-bottom, from-depth}
use Rattle.theorems.proofs.Trimming.{Same, trim_same, same-act, identity, run-any-depth}

-- ---- real_exec

-- the stack that is left, and the symbol that is returned
pub record Out : Type 0 where
  pub stack : List Sym
  pub symbol : Option Sym

abbrev pub out : List Sym → Option Sym → Option Out
out xs o = some (record { stack = xs; symbol = o })

-- Before b, Before (b + 1) and so on downwards, n of them
abbrev pub beneath : ℕ → ℕ → List Sym
beneath b zero = []
beneath b (suc n) = before b ∷ beneath (suc b) n

-- lines 157 to 172: what is missing of `stack_in + 1` entries is spliced in below the bottom, which must be a Before
abbrev pub ensured : ℕ → List Sym → Option (List Sym)
ensured taken xs =
    let longer = and_then (bottom xs) (λ b. some (xs ++ beneath (b + 1) (taken + 1 - length xs))) in
    if (ltb (length xs) (taken + 1)) longer (some xs)

-- lines 176 to 179: n bytes of the code into the last n of four, and those four as a number
abbrev pub four_bytes : List ℕ → ℕ → ℕ → Option ℕ
four_bytes code at n = let v = some (big 0 (replicate (4 - n) 0 ++ take n (drop at code))) in if (leb n 4 && leb (at + n) (length code)) v none

-- `self.stack.pop()` where it must be some
abbrev pub pop-then : List Sym → (Sym → List Sym → Option Out) → Option Out
pop-then [] k = none
pop-then (x ∷ xs) k = k x xs

-- "for _ in 0..opi.stack_in" a pop, "for _ in 0..opi.stack_out" a push of Other
abbrev pub traded : (ℕ → Row) → Ins → List Sym → List Sym
traded row i xs = replicate (row i.op).given (other i.pc) ++ drop (row i.op).taken xs

-- lines 174 to 254: the match on the byte; `on` is the rest of the loop
abbrev pub operated : (ℕ → Row) → List ℕ → ℕ → Ins → (List Sym → Option Out) → List Sym → Option Out
operated row code start i on xs =
    if (within 0x60 0x63 i.op) (and_then (four_bytes code (i.pc + 1) (i.op - 0x5F)) (λ v. on (from_value code v ∷ xs)))
    (if (eqb i.op 0x58) (on (from_value code i.pc ∷ xs))
    (if (within 0x80 0x8F i.op) (and_then (get_elem? xs (i.op - 0x80)) (λ x. on (x ∷ xs)))
    (if (within 0x90 0x9F i.op)
    (and_then (get_elem? xs 0) (λ a. and_then (get_elem? xs (i.op - 0x90 + 1)) (λ b. on (set (set xs 0 b) (i.op - 0x90 + 1) a))))
    (if (eqb i.op 0x16) (pop-then xs (λ a ys. pop-then ys (λ b zs. on (anded i.pc a b ∷ zs))))
    (if (eqb i.op 0x01) (pop-then xs (λ a ys. pop-then ys (λ b zs. on (summed code i.pc (known_value a) (known_value b) ∷ zs))))
    (if (eqb i.op 0x56) (pop-then xs (λ to ys. out ys (some to)))
    (if (eqb i.op 0x57) (pop-then xs (λ to ys. out (drop 1 ys) (some to)))
    (if (eqb i.op 0x5B) (if (eqb i.pc start) (on xs) (out xs none))
    (if (eqb i.op 0x00 || eqb i.op 0xF3 || eqb i.op 0xFD || eqb i.op 0xFE || eqb i.op 0xFF) (out (traded row i xs) none)
    (on (traded row i xs)))))))))))

abbrev pub real-exec : (ℕ → Row) → List ℕ → ℕ → List Ins → List Sym → Option Out
real-exec row code start [] xs = out xs none
real-exec row code start (i ∷ is) xs = and_then (ensured (row i.op).taken xs) (operated row code start i (real-exec row code start is))

-- ---- exec

-- line 139: the symbol is Before(nb) with nb + pos == base_before
abbrev pub continues : ℕ → ℕ → Sym → Bool
continues base pos (before nb) = eqb (nb + pos) base
continues base pos (constant v) = false
continues base pos (jumpdest v) = false
continues base pos (other pc) = false

-- lines 135 to 140: how many do, from the bottom
abbrev pub prefix : ℕ → ℕ → List Sym → ℕ
prefix base pos [] = 0
prefix base pos (x ∷ xs) = if (continues base pos x) (suc (prefix base (suc pos) xs)) 0

-- `drain(..n)`: the first n from the bottom
abbrev pub drained : ℕ → List Sym → Option (List Sym)
drained n xs = if (leb n (length xs)) (some (reverse (drop n (reverse xs)))) none

-- lines 142 to 144
abbrev pub minimal : ℕ → List Sym → Option (List Sym)
minimal base xs = let n = prefix base 0 (reverse xs) in if (ltb 1 n) (drained (n - 1) xs) (some xs)

-- lines 123 to 146: the bottom is asserted to be a Before, before and after
abbrev pub exec : (ℕ → Row) → List ℕ → ℕ → List Ins → List Sym → Option Out
exec row code start is xs =
    and_then (bottom xs) (λ _. and_then (real-exec row code start is xs)
    (λ r. and_then (bottom r.stack) (λ base. and_then (minimal base r.stack) (λ ys. out ys r.symbol))))

-- ---- cells of a stored stack

drop-stored : (s : Stack) (k : ℕ) → k ≤ length s.above → drop k (stored s) ≡ stored (pops k s)
drop-stored s k h = drop-append-le k s.above _ h ∙ ap (λ (b : ℕ). drop k s.above ++ before b ∷ []) (omega arith)

-- from a depth down: the symbol there, and what lies deeper
cell : (s : Stack) (n : ℕ) → n ≤ length s.above → drop n (stored s) ≡ read s n ∷ drop (suc n) (stored s)
unfolding read
cell s n h = drop-stored s n h ∙ sym (from-depth n s.base s.above)

at-depth : (xs : List Sym) (n : ℕ) {x : Sym} {ys : List Sym} → drop n xs ≡ x ∷ ys → get_elem? xs n ≡ some x
at-depth [] zero e = cc
at-depth [] (suc n) e = cc
at-depth (x ∷ xs) zero e = cc
at-depth (x ∷ xs) (suc n) e = at-depth xs n e

index-stored : (s : Stack) (n : ℕ) → n ≤ length s.above → get_elem? (stored s) n ≡ some (read s n)
index-stored s n h = at-depth (stored s) n (cell s n h)

span-stored : (s : Stack) (i n : ℕ) → i + n ≤ length s.above → take n (drop i (stored s)) ≡ span s i n
span-stored s i zero h = refl
span-stored s i (suc n) h =
    ap (take (suc n)) (cell s i (omega arith)) ∙ ap {B = List Sym} (λ (xs : List Sym). read s i ∷ xs) (span-stored s (suc i) n (omega arith))

-- ---- lines 157 to 172

reads-beneath : (b n k : ℕ) → reads (beneath b n) (b + n) k ≡ before (b + k)
reads-beneath b zero k = ap before (omega arith)
reads-beneath b (suc n) zero = ap before (sym (add-zero b))
reads-beneath b (suc n) (suc k) = rw (add-suc b n, add-suc b k, ← suc-add b n, ← suc-add b k) (reads-beneath (suc b) n k)

length-beneath : (b n : ℕ) → length (beneath b n) ≡ n
length-beneath b zero = refl
length-beneath b (suc n) = ap suc (length-beneath (suc b) n)

beneath-end : (b n : ℕ) → before b ∷ beneath (suc b) n ≡ beneath b n ++ before (b + n) ∷ []
beneath-end b zero = ap (λ (k : ℕ). before k ∷ []) (sym (add-zero b))
beneath-end b (suc n) = ap {B = List Sym} (λ (xs : List Sym). before b ∷ xs) (rw (add-suc, ← suc-add) (beneath-end (suc b) n))

-- the same stack, with n more of its Befores spelled out
deeper : ℕ → Stack → Stack
deeper n s = record { above = s.above ++ beneath s.base n; base = s.base + n }

deeper-same : (n : ℕ) (s : Stack) → Same (deeper n s) s
unfolding deeper read
deeper-same n s = record { at = go s.above }
  where
    go : (xs : List Sym) (k : ℕ) → reads (xs ++ beneath s.base n) (s.base + n) k ≡ reads xs s.base k
    go [] k = reads-beneath s.base n k
    go (x ∷ xs) zero = refl
    go (x ∷ xs) (suc k) = go xs k

deeper-stored : (n : ℕ) (s : Stack) → stored s ++ beneath (s.base + 1) n ≡ stored (deeper n s)
unfolding deeper
deeper-stored n s = rw (append_assoc, append_assoc, add-one) (ap (λ (xs : List Sym). s.above ++ xs) (beneath-end s.base n))

spliced : (n : ℕ) (s : Stack) → and_then (bottom (stored s)) (λ b. some (stored s ++ beneath (b + 1) n)) ≡ some (stored (deeper n s))
spliced n s = ap (λ (o : Option ℕ). and_then o (λ b. some (stored s ++ beneath (b + 1) n))) (stored-bottom s) ∙ ap some (deeper-stored n s)

-- the stored form of a stack of `taken` symbols or more that reads the same as s
record Ensured (taken : ℕ) (s : Stack) (o : Option (List Sym)) : Type 0 where
  stack : Stack
  form : o ≡ some (stored stack)
  same : Same stack s
  enough : taken ≤ length stack.above

ensure : (taken : ℕ) (s : Stack) → Ensured taken s (ensured taken (stored s))
unfolding deeper
ensure taken s =
    both (Ensured taken s) (ltb (length (stored s)) (taken + 1))
    (λ _. record {
      stack = deeper (taken + 1 - length (stored s)) s;
      form = spliced (taken + 1 - length (stored s)) s;
      same = deeper-same (taken + 1 - length (stored s)) s;
      enough = simp (length-append, length-beneath) (omega arith);
    })
    (λ long. record { stack = s; form = refl; same = record { at = λ _. refl }; enough = omega (arith, ltb-false, stored-cells s) })

-- ---- lines 174 to 254

-- no panic: the stored form of a stack that reads the same as the run's at every depth is left, and the run's symbol returned
pub record Stores (r : Ran) (o : Option Out) : Type 0 where
  pub stack : Stack
  pub form : o ≡ out (stored stack) r.goes
  pub same : Same stack r.stack

by : {r : Ran} {o p : Option Out} → o ≡ p → Stores r p → Stores r o
by e r = record { stack = r.stack; form = e ∙ r.form; same = r.same }

-- two decisions by the same test
along : {A B : Type 0} (F : A → B → Type 0) (b : Bool) {x y : A} {u v : B} → (b ≡ true → F x u) → (b ≡ false → F y v) → F (if b x y) (if b u v)
unfolding if
along F true f g = f refl
along F false f g = g refl

popped-once : (s : Stack) (k : Sym → List Sym → Option Out) → pop-then (stored s) k ≡ k (read s 0) (drop 1 (stored s))
popped-once s k = ap (λ (xs : List Sym). pop-then xs k) (cell s 0 (omega arith))

popped-twice : (s : Stack) (k : Sym → Sym → List Sym → Option Out) → 2 ≤ length s.above
    → pop-then (stored s) (λ a ys. pop-then ys (k a)) ≡ k (read s 0) (read s 1) (stored (pops 2 s))
popped-twice s k h =
    popped-once s (λ a ys. pop-then ys (k a)) ∙ ap (λ (xs : List Sym). pop-then xs (k (read s 0))) (cell s 1 (omega arith))
    ∙ ap (k (read s 0) (read s 1)) (drop-stored s 2 h)

traded-stored : (row : ℕ → Row) (i : Ins) (s : Stack) → (row i.op).taken ≤ length s.above → traded row i (stored s) ≡ stored (trade row i s)
traded-stored row i s h = rw (drop-stored s (row i.op).taken h) (sym (append_assoc (replicate (row i.op).given (other i.pc)) _ _))

-- a list with a at the top and b at the place n + 1: those two, and what lies between and below
changed : {A : Type 0} (n : ℕ) (xs : List A) (a b : A) → suc n < length xs
    → set (set xs 0 a) (suc n) b ≡ (a ∷ take n (drop 1 xs) ++ (b ∷ [])) ++ drop (suc (suc n)) xs
changed n [] a b l = absurd (omega arith)
changed n (x ∷ xs) a b l = let h : n < length xs = omega arith in rw (set_split xs n b, append_assoc)

swapped-stored : (n : ℕ) (s : Stack) → suc (suc n) ≤ length s.above → set (set (stored s) 0 (read s (suc n))) (suc n) (read s 0) ≡ stored (swap n s)
swapped-stored n s h =
    changed n (stored s) _ _ (omega (arith, stored-cells s))
    ∙ ap₂ (λ (xs ys : List Sym). (read s (suc n) ∷ xs ++ (read s 0 ∷ [])) ++ ys) (span-stored s 1 n (omega arith)) (drop-stored s (suc (suc n)) h)
    ∙ sym (append_assoc (read s (suc n) ∷ span s 1 n ++ (read s 0 ∷ [])) (drop (suc (suc n)) s.above) _)

big-zeros : (n : ℕ) (xs : List ℕ) → big 0 (replicate n 0 ++ xs) ≡ big 0 xs
big-zeros zero xs = refl
big-zeros (suc n) xs = big-zeros n xs

few_bytes : (b : ℕ) → within 0x60 0x63 b ≡ true → argument b ≡ b - 0x5F
few_bytes b e =
    let r = and_both (leb 0x60 b) (leb b 0x63) e in
    if-true _ _ _ (and-true (leb 0x60 b) (leb b 0x7F) r.0 (le-leb b 0x7F (omega (arith, leb-true))))

four-bytes-whole : {code : List ℕ} {i : Ins} → Stands code i → within 0x60 0x63 i.op ≡ true → four_bytes code (i.pc + 1) (i.op - 0x5F) ≡ some i.arg
four-bytes-whole {code} {i} s e =
    let r = and_both (leb 0x60 i.op) (leb i.op 0x63) e in
    let n = few_bytes i.op e in
    let w = rw n at s.whole in
    if-true _ _ _ (and-true _ _ (le-leb (i.op - 0x5F) 4 (omega (arith, leb-true))) (le-leb (i.pc + 1 + (i.op - 0x5F)) (length code) (omega arith)))
    ∙ ap some (big-zeros (4 - (i.op - 0x5F)) _ ∙ rw (add-one, ← n) (sym s.number))

-- the Rust's mode, with these rows
abbrev pub plainly : (ℕ → Row) → Rules
plainly row = record { row = row; mode = 0 }

-- one instruction that stands in the code, on the stored form of s, which reads the same as t; `on` is the rest of the loop, and right
module _ (row : ℕ → Row) {code : List ℕ} (start : ℕ) {i : Ins} (stands : Stands code i) (is : List Ins) (on : List Sym → Option Out)
    (rest : (u v : Stack) → Same u v → Stores (runs (plainly row) code start is v) (on (stored u))) {s t : Stack} (h : Same s t) where
  abbrev Right : Does → Option Out → Type 0
  Right d o = takes (row i.op) d ≤ length s.above → Stores (after start i t (act row code i d t) (runs (plainly row) code start is (act row code i d t)) d) o

  goes_on : (d : Does) {xs : List Sym} → xs ≡ stored (act row code i d s) → Stores (runs (plainly row) code start is (act row code i d t)) (on xs)
  goes_on d e = rw e (rest _ _ (same-act row code i d h))

  returns : (d : Does) {xs : List Sym} {o p : Option Sym} → xs ≡ stored (act row code i d s) → o ≡ p
      → Stores (record { stack = act row code i d t; goes = p }) (out xs o)
  returns d e f = record { stack = act row code i d s; form = ap₂ out e f; same = same-act row code i d h }

  swaps-right : (n : ℕ)
      → Right (swaps n) (and_then (get_elem? (stored s) 0) (λ a. and_then (get_elem? (stored s) (suc n)) (λ b. on (set (set (stored s) 0 b) (suc n) a))))
  unfolding act
  swaps-right n l = rw (index-stored s 0 (omega arith), index-stored s (suc n) (omega arith)) (goes_on (swaps n) (swapped-stored n s l))

  operate : Right (does 0 i.op) (operated row code start i on (stored s))
  unfolding does act
  operate =
      along Right (within 0x60 0x63 i.op) (λ e _. rw (four-bytes-whole stands e) (goes_on pushes_value refl))
      (λ _. along Right (eqb i.op 0x58) (λ _ _. goes_on pushes_pc refl)
      (λ _. along Right (within 0x80 0x8F i.op) (λ _ l. rw (index-stored s (i.op - 0x80) (omega arith)) (goes_on (dups (i.op - 0x80)) refl))
      (λ _. along Right (within 0x90 0x9F i.op) (λ _. rw (add-one (i.op - 0x90)) (swaps-right (i.op - 0x90)))
      (λ _. along Right (eqb i.op 0x16) (λ _ l. by (popped-twice s _ l) (goes_on ands refl))
      (λ _. along Right (eqb i.op 0x01) (λ _ l. by (popped-twice s _ l) (goes_on adds refl))
      (λ _. along Right (eqb i.op 0x56) (λ _ l. by (popped-once s _) (returns jumps (drop-stored s 1 l) (ap some (h.at 0))))
      (λ _. along Right (eqb i.op 0x57) (λ _ l. by (popped-once s _) (returns jumpis (drop-drop 1 1 (stored s) ∙ drop-stored s 2 l) (ap some (h.at 0))))
      (λ _. along Right (eqb i.op 0x5B)
      (λ _ _. along Stores (eqb i.pc start) (λ _. goes_on lands refl) (λ _. returns lands refl refl))
      (λ _. along Right (eqb i.op 0x00 || eqb i.op 0xF3 || eqb i.op 0xFD || eqb i.op 0xFE || eqb i.op 0xFF)
      (λ _ l. returns halts (traded-stored row i s l) refl) (λ _ l. goes_on plain (traded-stored row i s l)))))))))))

-- The loop, over instructions that stand in the code, on the stored form of a stack that reads the same as the run's.
pub real-exec-stored : {row : ℕ → Row} → Lawful row → {code : List ℕ} (start : ℕ) {at : ℕ} {is : List Ins} → Walked code at is → (s t : Stack) → Same s t
    → Stores (runs (plainly row) code start is t) (real-exec row code start is (stored s))
real-exec-stored ok start (stops _) s t h = record { stack = s; form = refl; same = h }
real-exec-stored {row} ok {code} start (steps {i} {is} stands w) s t h =
    let e = ensure (row i.op).taken s in
    let same : Same e.stack t = record { at = λ n. e.same.at n ∙ h.at n } in
    by (ap (λ (o : Option (List Sym)). and_then o (operated row code start i (real-exec row code start is))) e.form)
    (operate row start stands is (real-exec row code start is) (λ u v k. real-exec-stored ok start w u v k) same (rw (takes-row ok 0 i.op) e.enough))

-- ---- lines 128 to 144

settle-above : (x : Sym) (xs : List Sym) (z : Sym) (b : ℕ) → settle x (xs ++ z ∷ []) b ≡ record { above = x ∷ xs ++ z ∷ []; base = b }
settle-above x [] z b = refl
settle-above x (y ∷ ys) z b = refl

-- a symbol at the bottom that the numbering does not give stays there
trims-stays : (xs : List Sym) (z : Sym) (b : ℕ) → joins z b ≡ false → trims (xs ++ z ∷ []) b ≡ record { above = xs ++ z ∷ []; base = b }
trims-stays [] z b e = if-false _ _ _ e
trims-stays (x ∷ xs) z b e = rw (trims-stays xs z b e) (settle-above x xs z b)

-- and one that it does give goes
reads-joined : (xs : List Sym) (n k : ℕ) → reads (xs ++ before n ∷ []) (suc n) k ≡ reads xs n k
reads-joined [] n zero = ap before (sym (add-zero n))
reads-joined [] n (suc k) = ap before (omega arith)
reads-joined (x ∷ xs) n zero = refl
reads-joined (x ∷ xs) n (suc k) = reads-joined xs n k

trims-joined : (xs : List Sym) (n : ℕ) → trims (xs ++ before n ∷ []) (suc n) ≡ trims xs n
unfolding trim read
trims-joined xs n = trim_same (record { above = xs ++ before n ∷ []; base = suc n }) (record { above = xs; base = n }) (record { at = reads-joined xs n })

-- Before b and the symbols zs above it, bottom first, without those that continue, from the place `pos` on
abbrev undrained : ℕ → ℕ → ℕ → List Sym → List Sym
undrained base pos b zs = reverse (drop (prefix base pos zs) (before b ∷ zs))

module _ (zs : List Sym) (b pos base : ℕ) (place : b + pos ≡ base) where
  bottom-stays : (z : Sym) → continues base (suc pos) z ≡ false → reverse (before b ∷ z ∷ zs) ≡ stored (trims (reverse (z ∷ zs)) b)
  bottom-stays z e = reverse-cons (before b) (z ∷ zs) ∙ rw (reverse-cons z zs, trims-stays (reverse zs) z b (stays z e))
    where
      stays : (z : Sym) → continues base (suc pos) z ≡ false → joins z b ≡ false
      stays (before n) e = ne_eqb (suc n) b (λ p. eqb-false (n + suc pos) base e (omega arith))
      stays (constant v) e = refl
      stays (jumpdest v) e = refl
      stays (other v) e = refl

  bottom-joined : (z : Sym) → continues base (suc pos) z ≡ true
      → ((n : ℕ) → n + suc pos ≡ base → undrained base (suc (suc pos)) n zs ≡ stored (trims (reverse zs) n))
      → reverse (drop (prefix base (suc (suc pos)) zs) (z ∷ zs)) ≡ stored (trims (reverse (z ∷ zs)) b)
  bottom-joined (before n) e on =
      let q = eqb-true (n + suc pos) base e in
      let r : b ≡ suc n = omega arith in
      on n q ∙ rw (reverse-cons (before n) zs, r, trims-joined (reverse zs) n)
  bottom-joined (constant v) e on = cc
  bottom-joined (jumpdest v) e on = cc
  bottom-joined (other v) e on = cc

climbs : (zs : List Sym) (b pos base : ℕ) → b + pos ≡ base → undrained base (suc pos) b zs ≡ stored (trims (reverse zs) b)
climbs [] b pos base q = refl
climbs (z ∷ zs) b pos base q =
    both (λ (k : ℕ). reverse (drop k (before b ∷ z ∷ zs)) ≡ stored (trims (reverse (z ∷ zs)) b)) (continues base (suc pos) z)
    (λ on. bottom-joined zs b pos base q z on (λ n p. climbs zs n (suc pos) base p)) (λ off. bottom-stays zs b pos base q z off)

prefix-within : (base pos : ℕ) (xs : List Sym) → prefix base pos xs ≤ length xs
prefix-within base pos [] = le_refl 0
prefix-within base pos (x ∷ xs) =
    both (λ (k : ℕ). k ≤ suc (length xs)) (continues base pos x) (λ _. let h = prefix-within base (suc pos) xs in omega arith) (λ _. omega arith)

module _ (s : Stack) where
  -- how many continue above the bottom
  abbrev more : ℕ
  more = prefix s.base 1 (reverse s.above)

  bottom-first : reverse (stored s) ≡ before s.base ∷ reverse s.above
  bottom-first = reverse-append s.above (before s.base ∷ [])

  prefix-stored : prefix s.base 0 (reverse (stored s)) ≡ suc more
  prefix-stored = ap (prefix s.base 0) bottom-first ∙ if-true _ _ _ (eq-eqb (s.base + 0) s.base (add-zero s.base))

  more_within : more ≤ length (stored s)
  more_within = omega (arith, prefix-within s.base 1 (reverse s.above), length-reverse s.above, stored-cells s)

  without_more : reverse (drop more (reverse (stored s))) ≡ stored (trim s)
  unfolding trim
  without_more =
      ap (λ (xs : List Sym). reverse (drop more xs)) bottom-first ∙ climbs (reverse s.above) s.base 0 s.base (add-zero s.base)
      ∙ ap (λ (xs : List Sym). stored (trims xs s.base)) (reverse-reverse s.above)

  minimal-stored : minimal s.base (stored s) ≡ some (stored (trim s))
  minimal-stored =
      let one : suc more - 1 ≡ more = omega arith in
      rw prefix-stored
      (both (λ (o : Option (List Sym)). o ≡ some (stored (trim s))) (ltb 1 (suc more))
      (λ _. rw one (if-true _ _ _ (le-leb _ _ more_within) ∙ ap some without_more))
      (λ off. let none-more : more ≡ 0 = omega (arith, ltb-false) in
      ap some (sym (reverse-reverse (stored s)) ∙ rw none-more at without_more)))

-- ---- what is proved

-- From the stored form of any stack, over instructions that stand in the code, `exec` never panics: it leaves the stored form of the trimmed stack and
-- returns the symbol that the jump takes.
pub exec-stored : {row : ℕ → Row} → Lawful row → {code : List ℕ} (start : ℕ) {at : ℕ} {is : List Ins} → Walked code at is → (s : Stack)
    → exec row code start is (stored s) ≡ out (stored (trim (runs (plainly row) code start is s).stack)) (runs (plainly row) code start is s).goes
exec-stored ok start w s =
    let r = real-exec-stored ok start w s s (record { at = λ _. refl }) in
    rw (stored-bottom s, r.form, stored-bottom r.stack, minimal-stored r.stack, trim_same _ _ r.same)

-- `State::with_identity(depth)` leaves and returns the same.
pub exec-deep : {row : ℕ → Row} → Lawful row → {code : List ℕ} (start : ℕ) {at : ℕ} {is : List Ins} → Walked code at is → (depth : ℕ)
    → exec row code start is (stored (identity depth)) ≡ exec row code start is (stored entry)
exec-deep {row} ok {code} start {is} w depth =
    exec-stored ok start w (identity depth) ∙ ap (λ (r : Ran). out (stored r.stack) r.goes) (run-any-depth (plainly row) code start is depth)
    ∙ sym (exec-stored ok start w entry)
