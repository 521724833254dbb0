-- What the Rust's collections do that is visible: a map is the list of its keys with their values, in the order of insertion (HashMap, IndexMap) or of the
-- keys (BTreeMap); a set is a list, in no order that is looked at; and an index, a slice or a difference that panics is none. Assumes nothing.
use Rattle.std.specs.Prelude.{ℕ, ◌-◌, Bool, true, false, ◌&&◌, List, [], ◌∷◌, eqb, leb, ltb, length, take, drop}
use Rattle.std.proofs.Math.Option.{Option, none, some}
use Rattle.spec.specs.Lists.{if, mem, last_of}

-- `if let Some(x) = o { f(x) } else { d }`
abbrev pub match_option : {A B : Type 0} → Option A → (A → B) → B → B
match_option none f d = d
match_option (some x) f d = f x

abbrev pub unwrap_or : {A : Type 0} → A → Option A → A
unwrap_or d none = d
unwrap_or d (some x) = x

module _ {K W : Type 0} (same_key : K → K → Bool) where
  -- `m.get(&k)`
  abbrev pub get : K → List (K × W) → Option W
  get k [] = none
  get k (e ∷ es) = let later = get k es in if (same_key k e.0) (some e.1) later

  -- `m.contains_key(&k)`
  abbrev pub contains_key : K → List (K × W) → Bool
  contains_key k [] = false
  contains_key k (e ∷ es) = let later = contains_key k es in if (same_key k e.0) true later

  -- `m.insert(k, v)` of a HashMap or an IndexMap: the value of a key that is there is replaced in its place, a new key comes last
  abbrev pub insert : K → W → List (K × W) → List (K × W)
  insert k v [] = (k, v) ∷ []
  insert k v (e ∷ es) =
      let here : List (K × W) = (e.0, v) ∷ es in
      let later = e ∷ insert k v es in
      if (same_key k e.0) here later

-- `m.insert(k, v)` of a BTreeMap with numbers as keys
abbrev pub insert_sorted : {W : Type 0} → ℕ → W → List (ℕ × W) → List (ℕ × W)
insert_sorted k v [] = (k, v) ∷ []
insert_sorted {W} k v (e ∷ es) =
    let first : List (ℕ × W) = (k, v) ∷ e ∷ es in
    let here : List (ℕ × W) = (e.0, v) ∷ es in
    let later = e ∷ insert_sorted k v es in
    if (ltb k e.0) first (if (eqb k e.0) here later)

-- `s.insert(a)` of a HashSet
abbrev pub set_insert : ℕ → List ℕ → List ℕ
set_insert a set = if (mem a set) set (a ∷ set)

-- `path[path.len() - 1]`, `*path.last().unwrap()`
abbrev pub last_unwrapped : List ℕ → Option ℕ
last_unwrapped [] = none
last_unwrapped (x ∷ xs) = some (last_of (x ∷ xs))

-- `a - b`
abbrev pub minus : ℕ → ℕ → Option ℕ
minus a b = let d = some (a - b) in if (leb b a) d none

-- `&code[a..b]`
abbrev pub slice : List ℕ → ℕ → ℕ → Option (List ℕ)
slice code a b = let s = some (take (b - a) (drop a code)) in if (leb a b && leb b (length code)) s none
