-- src/control_flow_graph/state.rs. A `State` is its `stack`, in the Rust's order: the bottom first, the top last. The rows of the bytes are a parameter. Assumes nothing.
use Rattle.std.specs.Prelude.{ℕ, zero, suc, ◌+◌, ◌-◌, ◌^◌, max, Bool, false, ◌&&◌, ◌||◌, List, [], ◌∷◌, ◌++◌, reverse, eqb, leb, ltb, length, take, drop, set, replicate}
use Rattle.std.proofs.Math.Option.{Option, none, some}
use Rattle.std.proofs.Math.ListN.{get_elem?}
use Rattle.spec.specs.Lists.{if, within}
use Rattle.spec.specs.Opcodes.{Row}
use Rattle.spec.specs.Walk.{Ins, big}
use Rattle.spec.specs.Stacks.{Sym, before, constant, jumpdest, other}
use Rattle.laws.specs.Options.{and_then}
use Rattle.source.specs.Collections.{match_option, minus}
use Rattle.source.specs.CodeIterator.{iterate_code}

-- lines 8 to 14, 16 and 32: `StackSym` is the definitions' Sym

-- lines 17 to 23
abbrev pub known_value : Sym → Option ℕ
known_value (constant value) = some value
known_value (jumpdest value) = some value
known_value (before n) = none
known_value (other pc) = none

-- lines 26, 197 and 199: `o == Some(n)`
abbrev pub equals_some : Option ℕ → ℕ → Bool
equals_some none n = false
equals_some (some v) n = eqb v n

-- lines 25 to 31
abbrev pub from_value : List ℕ → ℕ → Sym
from_value code value = if (equals_some (get_elem? code value) 0x5B) (jumpdest value) (constant value)

-- lines 35 to 37, 39 and 260: `State` and its `impl`
abbrev pub State : Type 0
State = List Sym

-- lines 40 to 44
abbrev pub new : State
new = before 0 ∷ []

-- lines 51 and 162 to 164: Before(b), Before(b + 1) and so on, n of them
abbrev pub counting : ℕ → ℕ → State
counting b zero = []
counting b (suc n) = before b ∷ counting (suc b) n

-- lines 49 to 53
abbrev pub with_identity : ℕ → State
with_identity depth = reverse (counting 0 (suc depth))

-- lines 55 to 57
abbrev pub explicit_len : State → ℕ
explicit_len stack = length stack

-- lines 69 to 72: `Some(*idx)` of a Before
abbrev pub index_of : Sym → Option ℕ
index_of (before idx) = some idx
index_of (constant v) = none
index_of (jumpdest v) = none
index_of (other pc) = none

-- line 73: `.max()` of two
abbrev pub max_of : Option ℕ → Option ℕ → Option ℕ
max_of none none = none
max_of none (some b) = some b
max_of (some a) none = some a
max_of (some a) (some b) = some (max a b)

-- lines 66 to 74
unfoldable pub max_before : State → Option ℕ
max_before [] = none
max_before (x ∷ xs) = max_of (index_of x) (max_before xs)

-- lines 82 to 86, 93 to 97, 129 to 133 and 159 to 171: `if let StackSym::Before(v) = self.stack[0] { v } else { panic!(..) }`; lines 124 and 126 ask the same
abbrev pub first_before : State → Option ℕ
first_before stack = and_then (get_elem? stack 0) index_of

-- lines 78 to 87
abbrev pub get_stack : State → ℕ → Option Sym
get_stack stack pos =
    let slen = length stack in
    let here = get_elem? stack (slen - pos - 1) in
    let deeper = and_then (first_before stack) (λ b. some (before (b + 1 + (pos - slen)))) in
    if (ltb pos slen) here deeper

-- lines 99 to 109: what of the parent lies deeper
abbrev pub deeper : ℕ → State → Option State
deeper base_before parent =
    let front = and_then (minus (length parent) base_before) (λ n. and_then (minus n 1) (λ extra. some (take extra parent))) in
    let nothing = some [] in
    if (ltb base_before (length parent)) front nothing

-- lines 112 to 115: of one symbol
abbrev pub replaced : State → Sym → Option Sym
replaced parent (before idx) = get_stack parent idx
replaced parent (constant v) = some (constant v)
replaced parent (jumpdest v) = some (jumpdest v)
replaced parent (other pc) = some (other pc)

-- lines 112 to 115: of each
abbrev pub replaced_each : State → State → Option State
replaced_each parent [] = some []
replaced_each parent (el ∷ els) = and_then (replaced parent el) (λ x. and_then (replaced_each parent els) (λ xs. some (x ∷ xs)))

-- lines 92 to 118
abbrev pub resolve_with_parent : State → State → Option State
resolve_with_parent stack parent =
    and_then (first_before stack) (λ base_before.
    and_then (deeper base_before parent) (λ front.
    and_then (replaced_each parent stack) (λ els. some (front ++ els))))

-- lines 123 and 153: the stack that is left, and the symbol that is returned
pub record Ended : Type 0 where
  pub stack : State
  pub symbol : Option Sym

-- lines 145, 221, 227, 233, 244 and 258: a return
abbrev pub ended : State → Option Sym → Option Ended
ended xs o = some (record { stack = xs; symbol = o })

-- lines 180, 182, 186, 198, 200, 202, 215, 242 and 252: `self.stack.push(x)`
abbrev pub push : Sym → State → State
push x xs = xs ++ x ∷ []

-- lines 194, 195, 206, 207, 219, 224, 226, 239 and 249: what `self.stack.pop()` gives, and what it leaves
pub record Popped : Type 0 where
  pub symbol : Option Sym
  pub left : State

-- lines 194, 195, 206, 207, 219, 224, 226, 239 and 249: `self.stack.pop()`
abbrev pub pop : State → Popped
pop [] = record { symbol = none; left = [] }
pop (x ∷ []) = record { symbol = some x; left = [] }
pop (x ∷ y ∷ ys) = record { symbol = (pop (y ∷ ys)).symbol; left = x ∷ (pop (y ∷ ys)).left }

-- lines 238 to 240 and 248 to 250: `for _ in 0..n { self.stack.pop(); }`
abbrev pub pops : ℕ → State → State
pops zero xs = xs
pops (suc n) xs = pops n (pop xs).left

-- lines 157 to 172
abbrev pub ensure : ℕ → State → Option State
ensure stack_in stack =
    let longer = and_then (first_before stack) (λ base_before. some (reverse (counting (base_before + 1) (stack_in + 1 - length stack)) ++ stack)) in
    if (ltb (length stack) (stack_in + 1)) longer (some stack)

-- lines 176 to 179: `args[4 - n..].copy_from_slice(&code[pc + 1..pc + 1 + n])`, and `u32::from_be_bytes(args)`
abbrev pub four_bytes : List ℕ → ℕ → ℕ → Option ℕ
four_bytes code at n = let v = some (big 0 (replicate (4 - n) 0 ++ take n (drop at code))) in if (leb n 4 && leb (at + n) (length code)) v none

-- lines 194 to 195 and 206 to 207: `pop` twice, where both must be there
abbrev pub pop_two : State → (Sym → Sym → State → Option Ended) → Option Ended
pop_two xs k = let p = pop xs in and_then p.symbol (λ s1. let q = pop p.left in and_then q.symbol (λ s2. k s1 s2 q.left))

-- lines 196 to 203: what AND pushes
abbrev pub and_symbol : ℕ → Sym → Sym → Sym
and_symbol pc s1 s2 = if (equals_some (known_value s1) 0xffffffff) s2 (if (equals_some (known_value s2) 0xffffffff) s1 (other pc))

-- line 211: `v1.checked_add(v2)`
abbrev pub checked_add : ℕ → ℕ → Option ℕ
checked_add v1 v2 = if (ltb (v1 + v2) (2 ^ 64)) (some (v1 + v2)) none

-- lines 208 to 214: what ADD pushes
abbrev pub add_symbol : List ℕ → ℕ → Sym → Sym → Sym
add_symbol code pc s1 s2 = match_option (and_then (known_value s1) (λ v1. and_then (known_value s2) (λ v2. checked_add v1 v2))) (from_value code) (other pc)

-- lines 238 to 243 and 248 to 253
abbrev pub trade : (ℕ → Row) → Ins → State → State
trade row i xs = pops (row i.op).taken xs ++ replicate (row i.op).given (other i.pc)

-- line 191: `self.stack.swap(a, b)`
abbrev pub swap : ℕ → ℕ → State → Option State
swap a b xs = and_then (get_elem? xs a) (λ x. and_then (get_elem? xs b) (λ y. some (set (set xs a y) b x)))

-- lines 174 to 255: the match on the byte; `on` is the rest of the loop
abbrev pub match_op : (ℕ → Row) → List ℕ → ℕ → Ins → (State → Option Ended) → State → Option Ended
match_op row code start i on xs =
    if (within 0x60 0x63 i.op) (and_then (four_bytes code (i.pc + 1) (i.op - 0x5F)) (λ v. on (push (from_value code v) xs)))
    (if (eqb i.op 0x58) (on (push (from_value code i.pc) xs))
    (if (within 0x80 0x8F i.op) (and_then (minus (length xs) (i.op - 0x80 + 1)) (λ at. and_then (get_elem? xs at) (λ x. on (push x xs))))
    (if (within 0x90 0x9F i.op)
    (and_then (minus (length xs) 1) (λ a. and_then (minus a (i.op - 0x90 + 1)) (λ b. and_then (swap a b xs) on)))
    (if (eqb i.op 0x16) (pop_two xs (λ s1 s2 ys. on (push (and_symbol i.pc s1 s2) ys)))
    (if (eqb i.op 0x01) (pop_two xs (λ s1 s2 ys. on (push (add_symbol code i.pc s1 s2) ys)))
    (if (eqb i.op 0x56) (and_then (pop xs).symbol (λ to. ended (pop xs).left (some to)))
    (if (eqb i.op 0x57) (and_then (pop xs).symbol (λ to. ended (pop (pop xs).left).left (some to)))
    (if (eqb i.op 0x5B) (if (eqb i.pc start) (on xs) (ended xs none))
    (if (eqb i.op 0x00 || eqb i.op 0xF3 || eqb i.op 0xFD || eqb i.op 0xFE || eqb i.op 0xFF) (ended (trade row i xs) none)
    (on (trade row i xs)))))))))))

-- lines 148 to 259, over what `iterate_code` yields
abbrev pub real_exec : (ℕ → Row) → List ℕ → ℕ → List Ins → State → Option Ended
real_exec row code start [] xs = ended xs none
real_exec row code start (i ∷ is) xs = and_then (ensure (row i.op).taken xs) (match_op row code start i (real_exec row code start is))

-- line 139: `matches!(el, StackSym::Before(nb) if *nb + pos == base_before)`
abbrev pub goes_on : ℕ → ℕ → Sym → Bool
goes_on base pos (before nb) = eqb (nb + pos) base
goes_on base pos (constant v) = false
goes_on base pos (jumpdest v) = false
goes_on base pos (other pc) = false

-- lines 135 to 140: `.enumerate().take_while(..).count()`
abbrev pub prefix_len : ℕ → ℕ → State → ℕ
prefix_len base pos [] = 0
prefix_len base pos (x ∷ xs) = if (goes_on base pos x) (suc (prefix_len base (suc pos) xs)) 0

-- line 143: `self.stack.drain(..n)`
abbrev pub drain : ℕ → State → Option State
drain n xs = if (leb n (length xs)) (some (drop n xs)) none

-- lines 123 to 146, over what `iterate_code` yields
abbrev pub exec : (ℕ → Row) → List ℕ → ℕ → List Ins → State → Option Ended
exec row code start is xs =
    and_then (first_before xs) (λ _.
    and_then (real_exec row code start is xs) (λ r.
    and_then (first_before r.stack) (λ base_before.
    let n = prefix_len base_before 0 r.stack in
    and_then (if (ltb 1 n) (drain (n - 1) r.stack) (some r.stack)) (λ ys. ended ys r.symbol))))

-- lines 123 and 154: `exec` over what `iterate_code(code, start, end)` yields
abbrev pub exec_code : (ℕ → Row) → List ℕ → ℕ → Option ℕ → State → Option Ended
exec_code row code start end state = and_then (iterate_code row code start end) (λ is. exec row code start is state)
