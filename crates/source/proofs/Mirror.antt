-- state.rs, with the bottom first as in the Rust, does on a reversed stack what Stored and Exec have of it with the top first. Assumes nothing.
use Prim.Native.Nat.{ℕ, zero, suc, ◌+◌, ◌-◌, ◌^◌, ◌<◌, ◌≤◌}
use native.Mathlib.Omega.{arith}
use mathlib.Core.Path.{◌≡◌, refl, sym, ap, ap₂, ◌∙◌}
use mathlib.Core.Bool.{Bool, true, false, ◌||◌}
use mathlib.Core.Option.{Option, none, some}
use mathlib.Core.List.{List, [], ◌∷◌, ◌++◌, map, reverse, reverse-cons, reverse-append, reverse-reverse}
use lib.Dec.{eqb, leb, ltb}
use lib.ListN.{length, get_or, take, drop, set, replicate, get_elem?, length-reverse, length-set, length-drop, take-append-drop}
use lib.Seq.{set-append_left, set-append_seam, take_at, drop-nil}
use borrow.Author.Tests.{eqb-true, eq-eqb, leb-true, le-leb, leb-false, ltb-true, ltb-false}
use Rattle.spec.specs.Lists.{if, within}
use Rattle.spec.specs.Opcodes.{Row}
use Rattle.spec.specs.Walk.{Ins}
use Rattle.spec.specs.Stacks.{Sym, before, constant, jumpdest, other, Stack, read, through, compose, from_value as defined-value, known_value as defined-known, is as equals, mask, anded, summed, eq_syms, eq_stack}
use Rattle.laws.proofs.Branch.{both, if-true, if-false, and_then}
use Rattle.laws.proofs.Members.{same_test}
use Rattle.source.proofs.Stored as Top
use Rattle.source.proofs.Exec as Tops
use Rattle.source.specs.Collections.{match_option, minus}
use Rattle.source.specs.State.{known_value, equals_some, from_value, and_symbol, checked_add, add_symbol, State, counting, index_of, first_before, get_stack, deeper, replaced, replaced_each, resolve_with_parent, Ended, ended, push, Popped, pop, pops, ensure, four_bytes, pop_two, trade, swap, match_op, real_exec, goes_on, prefix_len, drain, exec}
use Rattle.source.proofs.Maps.{state-test}
use Rattle.source.proofs.Small.{same-stored as top-same}

-- two decisions by the same test
along : {A B : Type 0} (F : A → B → Type 0) (b : Bool) {x y : A} {u v : B} → (b ≡ true → F x u) → (b ≡ false → F y v) → F (if b x y) (if b u v)
unfolding if
along F true f g = f refl
along F false f g = g refl

-- ---- the ends of a reversed list

head-append : (zs : List Sym) (y x : Sym) → get_elem? ((zs ++ y ∷ []) ++ x ∷ []) 0 ≡ get_elem? (zs ++ y ∷ []) 0
head-append [] y x = refl
head-append (z ∷ zs) y x = refl

-- `self.stack[0]` as a Before
pub first-bottom : (xs : List Sym) → first_before (reverse xs) ≡ Top.bottom xs
first-bottom [] = refl
first-bottom (before b ∷ []) = refl
first-bottom (constant v ∷ []) = refl
first-bottom (jumpdest v ∷ []) = refl
first-bottom (other pc ∷ []) = refl
first-bottom (x ∷ y ∷ ys) =
    ap first_before (reverse-cons x (y ∷ ys))
    ∙ ap (λ (zs : List Sym). and_then (get_elem? (zs ++ x ∷ []) 0) index_of) (reverse-cons y ys)
    ∙ ap (λ (o : Option Sym). and_then o index_of) (head-append (reverse ys) y x)
    ∙ ap first_before (sym (reverse-cons y ys)) ∙ first-bottom (y ∷ ys)

pop-push : (xs : List Sym) (x : Sym) → pop (xs ++ x ∷ []) ≡ record { symbol = some x; left = xs }
pop-push [] x = refl
pop-push (y ∷ []) x = refl
pop-push (y ∷ z ∷ zs) x = let ih = pop-push (z ∷ zs) x in λ i. record { symbol = (ih i).symbol; left = y ∷ (ih i).left }

pop-top : (x : Sym) (xs : List Sym) → pop (reverse (x ∷ xs)) ≡ record { symbol = some x; left = reverse xs }
pop-top x xs = ap pop (reverse-cons x xs) ∙ pop-push (reverse xs) x

pops-none : (n : ℕ) → pops n [] ≡ []
pops-none zero = refl
pops-none (suc n) = pops-none n

pops-drop : (n : ℕ) (xs : List Sym) → pops n (reverse xs) ≡ reverse (drop n xs)
pops-drop zero xs = refl
pops-drop (suc n) [] = pops-none n
pops-drop (suc n) (x ∷ xs) = ap (λ (p : Popped). pops n p.left) (pop-top x xs) ∙ pops-drop n xs

at-end : (zs : List Sym) (x : Sym) (k : ℕ) → k ≡ length zs → get_elem? (zs ++ x ∷ []) k ≡ some x
at-end [] x zero e = refl
at-end [] x (suc k) e = absurd (omega arith)
at-end (z ∷ zs) x zero e = absurd (omega arith)
at-end (z ∷ zs) x (suc k) e = at-end zs x k (omega arith)

at_front : (zs : List Sym) (x : Sym) (k : ℕ) → k < length zs → get_elem? (zs ++ x ∷ []) k ≡ get_elem? zs k
at_front [] x k h = absurd (omega arith)
at_front (z ∷ zs) x zero h = refl
at_front (z ∷ zs) x (suc k) h = at_front zs x k (omega arith)

-- the k-th from the bottom is the n-th from the top
at-reverse : (xs : List Sym) (n k : ℕ) → k + suc n ≡ length xs → get_elem? (reverse xs) k ≡ get_elem? xs n
at-reverse [] n k e = absurd (omega arith)
at-reverse (x ∷ xs) zero k e = ap (λ (l : List Sym). get_elem? l k) (reverse-cons x xs) ∙ at-end (reverse xs) x k (omega (arith, length-reverse xs))
at-reverse (x ∷ xs) (suc n) k e =
    ap (λ (l : List Sym). get_elem? l k) (reverse-cons x xs) ∙ at_front (reverse xs) x k (omega (arith, length-reverse xs)) ∙ at-reverse xs n k (omega arith)

set-reverse : (xs : List Sym) (n k : ℕ) (y : Sym) → k + suc n ≡ length xs → set (reverse xs) k y ≡ reverse (set xs n y)
set-reverse [] n k y e = absurd (omega arith)
set-reverse (x ∷ xs) zero k y e =
    let q : k ≡ length (reverse xs) = omega (arith, length-reverse xs) in
    ap (λ (l : List Sym). set l k y) (reverse-cons x xs) ∙ ap (λ (j : ℕ). set (reverse xs ++ x ∷ []) j y) q ∙ set-append_seam (reverse xs) x [] y ∙ sym (reverse-cons y xs)
set-reverse (x ∷ xs) (suc n) k y e =
    ap (λ (l : List Sym). set l k y) (reverse-cons x xs) ∙ set-append_left (reverse xs) (x ∷ []) k y (omega (arith, length-reverse xs))
    ∙ ap (λ (l : List Sym). l ++ x ∷ []) (set-reverse xs n k y (omega arith)) ∙ sym (reverse-cons x (set xs n y))

-- past the end
at_none : (xs : List Sym) (n : ℕ) → length xs ≤ n → get_elem? xs n ≡ none
at_none [] n h = refl
at_none (x ∷ xs) zero h = absurd (omega arith)
at_none (x ∷ xs) (suc n) h = at_none xs n (omega arith)

-- ---- get_stack

top-inside : (xs : List Sym) (n : ℕ) → n < length xs → Top.get-stack xs n ≡ get_elem? xs n
top-inside [] n h = absurd (omega arith)
top-inside (x ∷ []) zero h = refl
top-inside (x ∷ []) (suc n) h = absurd (omega arith)
top-inside (x ∷ y ∷ ys) zero h = refl
top-inside (x ∷ y ∷ ys) (suc n) h = top-inside (y ∷ ys) n (omega arith)

abbrev beyond : Option ℕ → ℕ → Option Sym
beyond o n = and_then o (λ b. some (before (b + 1 + n)))

top-outside : (xs : List Sym) (n : ℕ) → length xs ≤ n → Top.get-stack xs n ≡ beyond (Top.bottom xs) (n - length xs)
top-outside [] n h = refl
top-outside (x ∷ []) zero h = absurd (omega arith)
top-outside (before b ∷ []) (suc n) h = ap (λ (k : ℕ). some (before k)) (omega arith)
top-outside (constant v ∷ []) (suc n) h = refl
top-outside (jumpdest v ∷ []) (suc n) h = refl
top-outside (other pc ∷ []) (suc n) h = refl
top-outside (x ∷ y ∷ ys) zero h = absurd (omega arith)
top-outside (x ∷ y ∷ ys) (suc n) h =
    let e : n - length (y ∷ ys) ≡ suc n - length (x ∷ y ∷ ys) = omega arith in
    top-outside (y ∷ ys) n (omega arith) ∙ ap (beyond (Top.bottom (y ∷ ys))) e

pub get-mirrored : (xs : List Sym) (n : ℕ) → get_stack (reverse xs) n ≡ Top.get-stack xs n
get-mirrored xs n = split (ltb n (length (reverse xs))) refl
  where
    split : (b : Bool) → ltb n (length (reverse xs)) ≡ b → get_stack (reverse xs) n ≡ Top.get-stack xs n
    split true e =
        let h = ltb-true n (length (reverse xs)) e in
        if-true _ _ _ e ∙ at-reverse xs n (length (reverse xs) - n - 1) (omega (arith, length-reverse xs)) ∙ sym (top-inside xs n (omega (arith, length-reverse xs)))
    split false e =
        let h = ltb-false n (length (reverse xs)) e in
        if-false _ _ _ e ∙ ap₂ (λ (o : Option ℕ) (k : ℕ). beyond o (n - k)) (first-bottom xs) (length-reverse xs) ∙ sym (top-outside xs n (omega (arith, length-reverse xs)))

-- ---- the stored form

-- with the bottom first
abbrev pub stored : Stack → State
stored s = reverse (Top.stored s)

pub get-stored : (s : Stack) (n : ℕ) → get_stack (stored s) n ≡ some (read s n)
get-stored s n = get-mirrored (Top.stored s) n ∙ Top.get-stored s n

reverse-same : (xs ys : List Sym) → eq_syms (reverse xs) (reverse ys) ≡ eq_syms xs ys
reverse-same xs ys =
    same_test
    (λ e. let q = state-test.equal (reverse xs) (reverse ys) e in
    let p : xs ≡ ys = sym (reverse-reverse xs) ∙ ap reverse q ∙ reverse-reverse ys in
    ap (eq_syms xs) (sym p) ∙ state-test.itself xs)
    (λ e. ap (λ (l : List Sym). eq_syms (reverse xs) (reverse l)) (sym (state-test.equal xs ys e)) ∙ state-test.itself (reverse xs))

-- ---- resolve_with_parent

replaced-through : (p : Stack) (x : Sym) → replaced (stored p) x ≡ some (through p x)
unfolding through
replaced-through p (before n) = get-stored p n
replaced-through p (constant v) = refl
replaced-through p (jumpdest v) = refl
replaced-through p (other pc) = refl

replaced-all : (p : Stack) (xs : List Sym) → replaced_each (stored p) xs ≡ some (map (through p) xs)
replaced-all p [] = refl
replaced-all p (x ∷ xs) = λ i. and_then (replaced-through p x i) (λ y. and_then (replaced-all p xs i) (λ ys. some (y ∷ ys)))

top-through : (p : Stack) (x : Sym) → Top.resolved (Top.stored p) x ≡ some (through p x)
unfolding through
top-through p (before n) = Top.get-stored p n
top-through p (constant v) = refl
top-through p (jumpdest v) = refl
top-through p (other pc) = refl

top-all : (p : Stack) (xs deeper : List Sym) → Top.resolves xs (Top.stored p) deeper ≡ some (map (through p) xs ++ deeper)
top-all p [] deeper = refl
top-all p (x ∷ xs) deeper = ap₂ Top.cons (top-through p x) (top-all p xs deeper)

map-reverse : (f : Sym → Sym) (xs : List Sym) → map f (reverse xs) ≡ reverse (map f xs)
map-reverse f [] = refl
map-reverse f (x ∷ xs) = ap (map f) (reverse-cons x xs) ∙ map_app (reverse xs) x ∙ ap (λ (l : List Sym). l ++ f x ∷ []) (map-reverse f xs) ∙ sym (reverse-cons (f x) (map f xs))
  where
    map_app : (ys : List Sym) (y : Sym) → map f (ys ++ y ∷ []) ≡ map f ys ++ f y ∷ []
    map_app [] y = refl
    map_app (z ∷ ys) y = ap {B = List Sym} (λ (l : List Sym). f z ∷ l) (map_app ys y)

take-reverse : (n : ℕ) (xs : List Sym) → take (length xs - n) (reverse xs) ≡ reverse (drop n xs)
take-reverse n xs =
    ap (take (length xs - n)) (ap reverse (sym (take-append-drop n xs)) ∙ reverse-append (take n xs) (drop n xs))
    ∙ take_at (reverse (drop n xs)) (reverse (take n xs)) (length xs - n) (length-reverse (drop n xs) ∙ length-drop n xs)

drop_past : (n : ℕ) (xs : List Sym) → length xs ≤ n → drop n xs ≡ []
drop_past n [] h = drop-nil n
drop_past zero (x ∷ xs) h = absurd (omega arith)
drop_past (suc n) (x ∷ xs) h = drop_past n xs (omega arith)

front-is : (b : ℕ) (xs : List Sym) → if (ltb b (length (reverse xs))) (take (length (reverse xs) - b - 1) (reverse xs)) [] ≡ reverse (drop (suc b) xs)
front-is b xs = split (ltb b (length (reverse xs))) refl
  where
    split : (t : Bool) → ltb b (length (reverse xs)) ≡ t → if (ltb b (length (reverse xs))) (take (length (reverse xs) - b - 1) (reverse xs)) [] ≡ reverse (drop (suc b) xs)
    split true e =
        let q : length (reverse xs) - b - 1 ≡ length xs - suc b = omega (arith, length-reverse xs) in
        if-true _ _ _ e ∙ ap (λ (k : ℕ). take k (reverse xs)) q ∙ take-reverse (suc b) xs
    split false e = if-false _ _ _ e ∙ ap reverse (sym (drop_past (suc b) xs (let h = ltb-false b (length (reverse xs)) e in omega (arith, length-reverse xs))))

-- the differences of lines 100 to 109 stand behind a test that they are not negative
deeper-given : (b : ℕ) (p : State) → deeper b p ≡ some (if (ltb b (length p)) (take (length p - b - 1) p) [])
deeper-given b p = along (λ (o : Option State) (l : State). o ≡ some l) (ltb b (length p)) front (λ _. refl)
  where
    front : ltb b (length p) ≡ true → and_then (minus (length p) b) (λ n. and_then (minus n 1) (λ extra. some (take extra p))) ≡ some (take (length p - b - 1) p)
    front on =
        let less = ltb-true b (length p) on in
        ap (λ (o : Option ℕ). and_then o (λ n. and_then (minus n 1) (λ extra. some (take extra p)))) (if-true _ _ _ (le-leb b (length p) (omega (arith, less))))
        ∙ ap (λ (o : Option ℕ). and_then o (λ extra. some (take extra p))) (if-true _ _ _ (le-leb 1 (length p - b) (omega (arith, less))))

pub resolve-stored : (c p : Stack) → resolve_with_parent (stored c) (stored p) ≡ some (stored (compose c p))
resolve-stored c p =
    let whole : some (map (through p) (Top.stored c) ++ drop (suc c.base) (Top.stored p)) ≡ some (Top.stored (compose c p))
    = sym (ap (λ (o : Option ℕ). Top.with-bottom o (Top.stored c) (Top.stored p)) (Top.stored-bottom c) ∙ top-all p (Top.stored c) (drop (suc c.base) (Top.stored p))) ∙ Top.resolve-stored c p in
    ap (λ (o : Option ℕ). and_then o (λ base-before. and_then (deeper base-before (stored p)) (λ front. and_then (replaced_each (stored p) (stored c)) (λ els. some (front ++ els)))))
    (first-bottom (Top.stored c) ∙ Top.stored-bottom c)
    ∙ ap (λ (o : Option State). and_then o (λ front. and_then (replaced_each (stored p) (stored c)) (λ els. some (front ++ els)))) (deeper-given c.base (stored p))
    ∙ ap (λ (o : Option (List Sym)). and_then o (λ els. some ((if (ltb c.base (length (stored p))) (take (length (stored p) - c.base - 1) (stored p)) []) ++ els))) (replaced-all p (stored c))
    ∙ ap₂ (λ (f g : List Sym). some (f ++ g)) (front-is c.base (Top.stored p)) (map-reverse (through p) (Top.stored c))
    ∙ ap some (sym (reverse-append (map (through p) (Top.stored c)) (drop (suc c.base) (Top.stored p))))
    ∙ ap (λ (o : Option (List Sym)). and_then o (λ l. some (reverse l))) whole

-- ---- exec

-- what is left, with the bottom first
abbrev pub flipped : Option Tops.Out → Option Ended
flipped none = none
flipped (some o) = ended (reverse o.stack) o.symbol

abbrev turned : Option (List Sym) → Option State
turned none = none
turned (some xs) = some (reverse xs)

record Mirrors (x : Option Ended) (u : Option Tops.Out) : Type 0 where
  is : x ≡ flipped u

same-counting : (b n : ℕ) → counting b n ≡ Tops.beneath b n
same-counting b zero = refl
same-counting b (suc n) = ap {B = List Sym} (λ (l : List Sym). before b ∷ l) (same-counting (suc b) n)

-- lines 157 to 172
ensure-mirrored : (taken : ℕ) (xs : List Sym) → ensure taken (reverse xs) ≡ turned (Tops.ensured taken xs)
ensure-mirrored taken xs = split (ltb (length xs) (taken + 1)) refl
  where
    longer : (o : Option ℕ) → and_then o (λ b. some (reverse (counting (b + 1) (taken + 1 - length xs)) ++ reverse xs)) ≡ turned (and_then o (λ b. some (xs ++ Tops.beneath (b + 1) (taken + 1 - length xs))))
    longer none = refl
    longer (some b) =
        ap (λ (l : List Sym). some (reverse l ++ reverse xs)) (same-counting (b + 1) (taken + 1 - length xs)) ∙ ap some (sym (reverse-append xs (Tops.beneath (b + 1) (taken + 1 - length xs))))

    split : (t : Bool) → ltb (length xs) (taken + 1) ≡ t → ensure taken (reverse xs) ≡ turned (Tops.ensured taken xs)
    split true e =
        ap (λ (k : ℕ). if (ltb k (taken + 1)) (and_then (first_before (reverse xs)) (λ b. some (reverse (counting (b + 1) (taken + 1 - k)) ++ reverse xs))) (some (reverse xs))) (length-reverse xs)
        ∙ if-true _ _ _ e ∙ ap (λ (o : Option ℕ). and_then o (λ b. some (reverse (counting (b + 1) (taken + 1 - length xs)) ++ reverse xs))) (first-bottom xs)
        ∙ longer (Top.bottom xs) ∙ ap turned (sym (if-true _ _ _ e))
    split false e =
        ap (λ (k : ℕ). if (ltb k (taken + 1)) (and_then (first_before (reverse xs)) (λ b. some (reverse (counting (b + 1) (taken + 1 - k)) ++ reverse xs))) (some (reverse xs))) (length-reverse xs)
        ∙ if-false _ _ _ e ∙ ap turned (sym (if-false (ltb (length xs) (taken + 1)) _ (some xs) e))

replicate-turned : (n : ℕ) (x : Sym) → reverse (replicate n x) ≡ replicate n x
replicate-turned zero x = refl
replicate-turned (suc n) x = reverse-cons x (replicate n x) ∙ ap (λ (l : List Sym). l ++ x ∷ []) (replicate-turned n x) ∙ snoc n
  where
    snoc : (n : ℕ) → replicate n x ++ x ∷ [] ≡ x ∷ replicate n x
    snoc zero = refl
    snoc (suc n) = ap {B = List Sym} (λ (l : List Sym). x ∷ l) (snoc n)

trade-mirrored : (row : ℕ → Row) (i : Ins) (xs : List Sym) → trade row i (reverse xs) ≡ reverse (Tops.traded row i xs)
trade-mirrored row i xs =
    ap₂ (λ (a b : List Sym). a ++ b) (pops-drop (row i.op).taken xs) (sym (replicate-turned (row i.op).given (other i.pc)))
    ∙ sym (reverse-append (replicate (row i.op).given (other i.pc)) (drop (row i.op).taken xs))

-- ---- symbols

pub same_known : (x : Sym) → known_value x ≡ defined-known x
same_known (before n) = refl
same_known (constant v) = refl
same_known (jumpdest v) = refl
same_known (other pc) = refl

byte_at : (xs : List ℕ) (v : ℕ) → equals_some (get_elem? xs v) 0x5B ≡ eqb (get_or xs v 0) 0x5B
byte_at [] v = refl
byte_at (x ∷ xs) zero = refl
byte_at (x ∷ xs) (suc v) = byte_at xs v

pub same-value : (code : List ℕ) (v : ℕ) → from_value code v ≡ defined-value code v
same-value code v = ap (λ (b : Bool). if b (jumpdest v) (constant v)) (byte_at code v)

eqb-turned : (a b : ℕ) → eqb a b ≡ eqb b a
eqb-turned a b = same_test (λ e. eq-eqb b a (sym (eqb-true a b e))) (λ e. eq-eqb a b (sym (eqb-true b a e)))

same-equals : (o : Option ℕ) (n : ℕ) → equals_some o n ≡ equals n o
same-equals none n = refl
same-equals (some v) n = eqb-turned v n

same-and : (pc : ℕ) (a b : Sym) → and_symbol pc a b ≡ anded pc a b
same-and pc a b =
    ap₂ (λ (s t : Bool). if s b (if t a (other pc))) (same-equals (known_value a) mask ∙ ap (equals mask) (same_known a)) (same-equals (known_value b) mask ∙ ap (equals mask) (same_known b))

same_sum : (code : List ℕ) (pc : ℕ) (o q : Option ℕ) → match_option (and_then o (λ v. and_then q (λ w. checked_add v w))) (from_value code) (other pc) ≡ summed code pc o q
same_sum code pc none none = refl
same_sum code pc none (some w) = refl
same_sum code pc (some v) none = refl
same_sum code pc (some v) (some w) =
    both (λ (o : Option ℕ). match_option o (from_value code) (other pc) ≡ if (ltb (v + w) (2 ^ 64)) (defined-value code (v + w)) (other pc)) (ltb (v + w) (2 ^ 64))
    (λ on. same-value code (v + w) ∙ sym (if-true _ _ _ on)) (λ off. sym (if-false _ _ _ off))

same_add : (code : List ℕ) (pc : ℕ) (a b : Sym) → add_symbol code pc a b ≡ summed code pc (defined-known a) (defined-known b)
same_add code pc a b = same_sum code pc (known_value a) (known_value b) ∙ ap₂ (summed code pc) (same_known a) (same_known b)

-- one instruction; the rest of the loop is mirrored
module _ (row : ℕ → Row) (code : List ℕ) (start : ℕ) (i : Ins) (on : List Sym → Option Tops.Out) (goes : State → Option Ended) (rest : (ys : List Sym) → goes (reverse ys) ≡ flipped (on ys)) where
  pushed : (x : Sym) (xs : List Sym) → goes (push x (reverse xs)) ≡ flipped (on (x ∷ xs))
  pushed x xs = ap goes (sym (reverse-cons x xs)) ∙ rest (x ∷ xs)

  of-value : (o : Option ℕ) (xs : List Sym) → and_then o (λ v. goes (push (from_value code v) (reverse xs))) ≡ flipped (and_then o (λ v. on (defined-value code v ∷ xs)))
  of-value none xs = refl
  of-value (some v) xs = ap (λ (x : Sym). goes (push x (reverse xs))) (same-value code v) ∙ pushed (defined-value code v) xs

  of-copy : (o : Option Sym) (xs : List Sym) → and_then o (λ x. goes (push x (reverse xs))) ≡ flipped (and_then o (λ x. on (x ∷ xs)))
  of-copy none xs = refl
  of-copy (some x) xs = pushed x xs

  dup-mirrored : (n : ℕ) (xs : List Sym)
      → and_then (minus (length (reverse xs)) (n + 1)) (λ at. and_then (get_elem? (reverse xs) at) (λ x. goes (push x (reverse xs)))) ≡ flipped (and_then (get_elem? xs n) (λ x. on (x ∷ xs)))
  dup-mirrored n xs = split (leb (n + 1) (length (reverse xs))) refl
    where
      split : (b : Bool) → leb (n + 1) (length (reverse xs)) ≡ b
          → and_then (minus (length (reverse xs)) (n + 1)) (λ at. and_then (get_elem? (reverse xs) at) (λ x. goes (push x (reverse xs)))) ≡ flipped (and_then (get_elem? xs n) (λ x. on (x ∷ xs)))
      split true e =
          let h = leb-true (n + 1) (length (reverse xs)) e in
          ap (λ (o : Option ℕ). and_then o (λ at. and_then (get_elem? (reverse xs) at) (λ x. goes (push x (reverse xs))))) (if-true _ _ _ e)
          ∙ ap (λ (o : Option Sym). and_then o (λ x. goes (push x (reverse xs)))) (at-reverse xs n (length (reverse xs) - (n + 1)) (omega (arith, length-reverse xs)))
          ∙ of-copy (get_elem? xs n) xs
      split false e =
          let h = leb-false (n + 1) (length (reverse xs)) e in
          ap (λ (o : Option ℕ). and_then o (λ at. and_then (get_elem? (reverse xs) at) (λ x. goes (push x (reverse xs))))) (if-false _ _ _ e)
          ∙ ap (λ (o : Option Sym). flipped (and_then o (λ x. on (x ∷ xs)))) (sym (at_none xs n (omega (arith, length-reverse xs))))

  -- both are there, or one is not
  both-there : (a b : Option Sym) (k : Sym → Sym → Option State) (l : Sym → Sym → Option Tops.Out) → ((x y : Sym) → and_then (k x y) goes ≡ flipped (l x y))
      → and_then (and_then a (λ x. and_then b (λ y. k x y))) goes ≡ flipped (and_then a (λ x. and_then b (λ y. l x y)))
  both-there none b k l h = refl
  both-there (some x) none k l h = refl
  both-there (some x) (some y) k l h = h x y

  none-second : (a b : Option Sym) (l : Sym → Sym → Option Tops.Out) → b ≡ none → none ≡ flipped (and_then a (λ x. and_then b (λ y. l x y)))
  none-second none b l e = refl
  none-second (some x) b l e = ap (λ (o : Option Sym). flipped (and_then o (λ y. l x y))) (sym e)

  swapped : ℕ → List Sym → Option Tops.Out
  swapped n xs = and_then (get_elem? xs 0) (λ a. and_then (get_elem? xs (n + 1)) (λ b. on (set (set xs 0 b) (n + 1) a)))

  swap-mirrored : (n : ℕ) (xs : List Sym)
      → and_then (minus (length (reverse xs)) 1) (λ a. and_then (minus a (n + 1)) (λ b. and_then (swap a b (reverse xs)) goes)) ≡ flipped (swapped n xs)
  unfolding swapped
  swap-mirrored n xs = split (leb 1 (length (reverse xs))) refl (leb (n + 1) (length (reverse xs) - 1)) refl
    where
      len : ℕ
      len = length (reverse xs)

      split : (s : Bool) → leb 1 (length (reverse xs)) ≡ s → (t : Bool) → leb (n + 1) (length (reverse xs) - 1) ≡ t
          → and_then (minus (length (reverse xs)) 1) (λ a. and_then (minus a (n + 1)) (λ b. and_then (swap a b (reverse xs)) goes)) ≡ flipped (swapped n xs)
      split false e t f =
          let h = leb-false 1 (length (reverse xs)) e in
          ap (λ (o : Option ℕ). and_then o (λ a. and_then (minus a (n + 1)) (λ b. and_then (swap a b (reverse xs)) goes))) (if-false _ _ _ e)
          ∙ none-second (get_elem? xs 0) (get_elem? xs (n + 1)) _ (at_none xs (n + 1) (omega (arith, length-reverse xs)))
      split true e false f =
          let h = leb-false (n + 1) (length (reverse xs) - 1) f in
          ap (λ (o : Option ℕ). and_then o (λ a. and_then (minus a (n + 1)) (λ b. and_then (swap a b (reverse xs)) goes))) (if-true _ _ _ e)
          ∙ ap (λ (o : Option ℕ). and_then o (λ b. and_then (swap (length (reverse xs) - 1) b (reverse xs)) goes)) (if-false _ _ _ f)
          ∙ none-second (get_elem? xs 0) (get_elem? xs (n + 1)) _ (at_none xs (n + 1) (omega (arith, length-reverse xs)))
      split true e true f =
          let h = leb-true (n + 1) (length (reverse xs) - 1) f in
          let p : length (reverse xs) - 1 + suc 0 ≡ length xs = omega (arith, length-reverse xs) in
          let q : length (reverse xs) - 1 - (n + 1) + suc (n + 1) ≡ length xs = omega (arith, length-reverse xs) in
          ap (λ (o : Option ℕ). and_then o (λ a. and_then (minus a (n + 1)) (λ b. and_then (swap a b (reverse xs)) goes))) (if-true _ _ _ e)
          ∙ ap (λ (o : Option ℕ). and_then o (λ b. and_then (swap (length (reverse xs) - 1) b (reverse xs)) goes)) (if-true _ _ _ f)
          ∙ ap₂ (λ (a b : Option Sym). and_then (and_then a (λ x. and_then b (λ y. some (set (set (reverse xs) (length (reverse xs) - 1) y) (length (reverse xs) - 1 - (n + 1)) x)))) goes)
          (at-reverse xs 0 (length (reverse xs) - 1) p) (at-reverse xs (n + 1) (length (reverse xs) - 1 - (n + 1)) q)
          ∙ both-there (get_elem? xs 0) (get_elem? xs (n + 1)) (λ x y. some (set (set (reverse xs) (length (reverse xs) - 1) y) (length (reverse xs) - 1 - (n + 1)) x)) (λ a b. on (set (set xs 0 b) (n + 1) a))
          (λ x y. ap goes (ap (λ (l : List Sym). set l (length (reverse xs) - 1 - (n + 1)) x) (set-reverse xs 0 (length (reverse xs) - 1) y p)
          ∙ set-reverse (set xs 0 y) (n + 1) (length (reverse xs) - 1 - (n + 1)) x (q ∙ sym (length-set xs 0 y))) ∙ rest (set (set xs 0 y) (n + 1) x))

  two-mirrored : (h f : Sym → Sym → Sym) → ((a b : Sym) → h a b ≡ f a b) → (xs : List Sym)
      → pop_two (reverse xs) (λ s1 s2 ys. goes (push (h s1 s2) ys)) ≡ flipped (Tops.pop-then xs (λ a ys. Tops.pop-then ys (λ b zs. on (f a b ∷ zs))))
  two-mirrored h f same [] = refl
  two-mirrored h f same (x ∷ []) = refl
  two-mirrored h f same (x ∷ y ∷ zs) =
      ap (λ (p : Popped). and_then p.symbol (λ s1. and_then (pop p.left).symbol (λ s2. goes (push (h s1 s2) (pop p.left).left)))) (pop-top x (y ∷ zs))
      ∙ ap (λ (p : Popped). and_then p.symbol (λ s2. goes (push (h x s2) p.left))) (pop-top y zs) ∙ ap (λ (z : Sym). goes (push z (reverse zs))) (same x y) ∙ pushed (f x y) zs

  jump-mirrored : (xs : List Sym) → and_then (pop (reverse xs)).symbol (λ to. ended (pop (reverse xs)).left (some to)) ≡ flipped (Tops.pop-then xs (λ to ys. Tops.out ys (some to)))
  jump-mirrored [] = refl
  jump-mirrored (x ∷ xs) = ap (λ (p : Popped). and_then p.symbol (λ to. ended p.left (some to))) (pop-top x xs)

  jumpi-mirrored : (xs : List Sym)
      → and_then (pop (reverse xs)).symbol (λ to. ended (pop (pop (reverse xs)).left).left (some to)) ≡ flipped (Tops.pop-then xs (λ to ys. Tops.out (drop 1 ys) (some to)))
  jumpi-mirrored [] = refl
  jumpi-mirrored (x ∷ xs) =
      ap (λ (p : Popped). and_then p.symbol (λ to. ended (pop p.left).left (some to))) (pop-top x xs) ∙ ap (λ (l : List Sym). ended l (some x)) (pops-drop 1 xs)

  -- lines 174 to 255
  op-mirrors : (xs : List Sym) → Mirrors (match_op row code start i goes (reverse xs)) (Tops.operated row code start i on xs)
  unfolding swapped
  op-mirrors xs =
      along Mirrors (within 0x60 0x63 i.op) (λ _. record { is = of-value (four_bytes code (i.pc + 1) (i.op - 0x5F)) xs })
      (λ _. along Mirrors (eqb i.op 0x58) (λ _. record { is = ap (λ (x : Sym). goes (push x (reverse xs))) (same-value code i.pc) ∙ pushed (defined-value code i.pc) xs })
      (λ _. along Mirrors (within 0x80 0x8F i.op) (λ _. record { is = dup-mirrored (i.op - 0x80) xs })
      (λ _. along Mirrors (within 0x90 0x9F i.op) (λ _. record { is = swap-mirrored (i.op - 0x90) xs })
      (λ _. along Mirrors (eqb i.op 0x16) (λ _. record { is = two-mirrored (and_symbol i.pc) (anded i.pc) (same-and i.pc) xs })
      (λ _. along Mirrors (eqb i.op 0x01) (λ _. record { is = two-mirrored (add_symbol code i.pc) (λ a b. summed code i.pc (defined-known a) (defined-known b)) (same_add code i.pc) xs })
      (λ _. along Mirrors (eqb i.op 0x56) (λ _. record { is = jump-mirrored xs })
      (λ _. along Mirrors (eqb i.op 0x57) (λ _. record { is = jumpi-mirrored xs })
      (λ _. along Mirrors (eqb i.op 0x5B) (λ _. along Mirrors (eqb i.pc start) (λ _. record { is = rest xs }) (λ _. record { is = refl }))
      (λ _. along Mirrors (eqb i.op 0x00 || eqb i.op 0xF3 || eqb i.op 0xFD || eqb i.op 0xFE || eqb i.op 0xFF) (λ _. record { is = ap (λ (l : List Sym). ended l none) (trade-mirrored row i xs) })
      (λ _. record { is = ap goes (trade-mirrored row i xs) ∙ rest (Tops.traded row i xs) }))))))))))

  op-mirrored : (xs : List Sym) → match_op row code start i goes (reverse xs) ≡ flipped (Tops.operated row code start i on xs)
  op-mirrored xs = (op-mirrors xs).is

pub real-mirrored : (row : ℕ → Row) (code : List ℕ) (start : ℕ) (is : List Ins) (xs : List Sym) → real_exec row code start is (reverse xs) ≡ flipped (Tops.real-exec row code start is xs)
real-mirrored row code start [] xs = refl
real-mirrored row code start (i ∷ is) xs =
    ap (λ (o : Option State). and_then o (match_op row code start i (real_exec row code start is))) (ensure-mirrored (row i.op).taken xs)
    ∙ split (Tops.ensured (row i.op).taken xs) (real-mirrored row code start is)
  where
    split : (o : Option (List Sym)) → ((ys : List Sym) → real_exec row code start is (reverse ys) ≡ flipped (Tops.real-exec row code start is ys))
        → and_then (turned o) (match_op row code start i (real_exec row code start is)) ≡ flipped (and_then o (Tops.operated row code start i (Tops.real-exec row code start is)))
    split none ih = refl
    split (some ys) ih = op-mirrored row code start i (Tops.real-exec row code start is) (real_exec row code start is) ih ys

same-goes : (base pos : ℕ) (x : Sym) → goes_on base pos x ≡ Tops.continues base pos x
same-goes base pos (before n) = refl
same-goes base pos (constant v) = refl
same-goes base pos (jumpdest v) = refl
same-goes base pos (other pc) = refl

same-prefix : (base pos : ℕ) (xs : List Sym) → prefix_len base pos xs ≡ Tops.prefix base pos xs
same-prefix base pos [] = refl
same-prefix base pos (x ∷ xs) = λ i. if (same-goes base pos x i) (suc (same-prefix base (suc pos) xs i)) 0

-- lines 135 to 144
minimal-mirrored : (base : ℕ) (xs : List Sym)
    → (if (ltb 1 (prefix_len base 0 (reverse xs))) (drain (prefix_len base 0 (reverse xs) - 1) (reverse xs)) (some (reverse xs))) ≡ turned (Tops.minimal base xs)
minimal-mirrored base xs =
    ap (λ (n : ℕ). if (ltb 1 n) (drain (n - 1) (reverse xs)) (some (reverse xs))) (same-prefix base 0 (reverse xs))
    ∙ go (Tops.prefix base 0 (reverse xs))
  where
    drained : (n : ℕ) → drain n (reverse xs) ≡ turned (Tops.drained n xs)
    drained n =
        ap (λ (k : ℕ). if (leb n k) (some (drop n (reverse xs))) none) (length-reverse xs)
        ∙ both (λ (o : Option (List Sym)). if (leb n (length xs)) (some (drop n (reverse xs))) none ≡ turned o) (leb n (length xs))
        (λ on. if-true _ _ _ on ∙ ap some (sym (reverse-reverse (drop n (reverse xs))))) (λ off. if-false _ _ _ off)

    go : (n : ℕ) → if (ltb 1 n) (drain (n - 1) (reverse xs)) (some (reverse xs)) ≡ turned (if (ltb 1 n) (Tops.drained (n - 1) xs) (some xs))
    go n =
        both (λ (o : Option (List Sym)). if (ltb 1 n) (drain (n - 1) (reverse xs)) (some (reverse xs)) ≡ turned o) (ltb 1 n)
        (λ on. if-true _ _ _ on ∙ drained (n - 1)) (λ off. if-false _ _ _ off)

-- Lines 123 to 146, on any stack, panics and all.
pub exec-mirrored : (row : ℕ → Row) (code : List ℕ) (start : ℕ) (is : List Ins) (xs : List Sym) → exec row code start is (reverse xs) ≡ flipped (Tops.exec row code start is xs)
exec-mirrored row code start is xs =
    ap (λ (o : Option ℕ). and_then o (λ _. and_then (real_exec row code start is (reverse xs)) later)) (first-bottom xs)
    ∙ ap (λ (o : Option Ended). and_then (Top.bottom xs) (λ _. and_then o later)) (real-mirrored row code start is xs)
    ∙ outer (Top.bottom xs) (Tops.real-exec row code start is xs)
  where
    later : Ended → Option Ended
    later = λ r. and_then (first_before r.stack) (λ base-before.
        and_then (if (ltb 1 (prefix_len base-before 0 r.stack)) (drain (prefix_len base-before 0 r.stack - 1) r.stack) (some r.stack)) (λ ys. ended ys r.symbol))

    last : (o : Option (List Sym)) (x : Option Sym) → and_then (turned o) (λ ys. ended ys x) ≡ flipped (and_then o (λ ys. Tops.out ys x))
    last none x = refl
    last (some ys) x = refl

    inner : (r : Tops.Out) (o : Option ℕ)
        → and_then o (λ base. and_then (if (ltb 1 (prefix_len base 0 (reverse r.stack))) (drain (prefix_len base 0 (reverse r.stack) - 1) (reverse r.stack)) (some (reverse r.stack))) (λ ys. ended ys r.symbol))
        ≡ flipped (and_then o (λ base. and_then (Tops.minimal base r.stack) (λ ys. Tops.out ys r.symbol)))
    inner r none = refl
    inner r (some base) = ap (λ (o : Option State). and_then o (λ ys. ended ys r.symbol)) (minimal-mirrored base r.stack) ∙ last (Tops.minimal base r.stack) r.symbol

    ran : (o : Option Tops.Out) → and_then (flipped o) later ≡ flipped (and_then o (λ r. and_then (Top.bottom r.stack) (λ base. and_then (Tops.minimal base r.stack) (λ ys. Tops.out ys r.symbol))))
    ran none = refl
    ran (some r) =
        ap (λ (o : Option ℕ). and_then o (λ base. and_then (if (ltb 1 (prefix_len base 0 (reverse r.stack))) (drain (prefix_len base 0 (reverse r.stack) - 1) (reverse r.stack)) (some (reverse r.stack))) (λ ys. ended ys r.symbol))) (first-bottom r.stack)
        ∙ inner r (Top.bottom r.stack)

    outer : (o : Option ℕ) (q : Option Tops.Out) → and_then o (λ _. and_then (flipped q) later)
        ≡ flipped (and_then o (λ _. and_then q (λ r. and_then (Top.bottom r.stack) (λ base. and_then (Tops.minimal base r.stack) (λ ys. Tops.out ys r.symbol)))))
    outer none q = refl
    outer (some b) q = ran q

pub same-stored : (s t : Stack) → eq_syms (stored s) (stored t) ≡ eq_stack s t
same-stored s t = reverse-same (Top.stored s) (Top.stored t) ∙ top-same s t
