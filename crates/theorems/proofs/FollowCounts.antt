-- Document 02, "No. 8": each count is the number of times that the log goes so, and the block counts come to the number of entries. Assumes nothing.
use Prim.Native.Nat.{ℕ, suc, ◌+◌, ◌*◌, ◌≤◌, ◌<◌, min}
use native.Mathlib.Omega.{arith}
use native.Mathlib.Nat.{add_assoc, add-zero, zero-add}
use mathlib.Core.Path.{subst, ◌≡◌, refl, sym, ap, ap₂, fun_ext, ◌∙◌}
use mathlib.Core.Bool.{Bool, true, false, ◌&&◌}
use mathlib.Core.List.{List, [], ◌∷◌, map}
use lib.Dec.{eqb}
use lib.ListN.{length, take, length-take, length-append, length-map}
use borrow.Author.Tests.{eq-eqb, ne_eqb}
use Rattle.spec.specs.Lists.{total}
use Rattle.spec.specs.Ending.{Final}
use Rattle.spec.specs.Entries.{Map, flag}
use Rattle.spec.specs.Eights.{as_eights}
use Rattle.spec.specs.Counting.{count}
use Rattle.spec.specs.Follow.{stands, starts_at, outgoing, Stand, outside, Move, not_in_map, stays_in, begins, takes, Way, Counts, none_taken, bumped, enter, take_edge, counted, Followed, follow, numbers, count_bytes}
use Rattle.laws.proofs.Lists.{Rising, one_more as rises}
use Rattle.laws.proofs.Members.{In, here, there}
use Rattle.laws.proofs.Totals.{total-none, total-sum}
use Rattle.theorems.proofs.Answered.{finals-at}
use Rattle.theorems.proofs.EightsBack.{eights-long}
use Rattle.theorems.proofs.FollowTrace.{InMap, first_step, next_instruction, by_an_edge, Walked, log_ends, map_ends, walks_on, moves, walked, tallied, follow-moves, moves-prefix}

-- ---- what a move is, by itself

-- it enters a block; the block that starts at a; it takes the edge from the block at a to b
abbrev pub enters : Move → Bool
enters not_in_map = false
enters (stays_in f) = false
enters (begins f) = true
enters (takes f g) = true

abbrev pub enters-at : ℕ → Move → Bool
enters-at a not_in_map = false
enters-at a (stays_in f) = false
enters-at a (begins f) = eqb (starts_at f) a
enters-at a (takes f g) = eqb (starts_at g) a

abbrev pub goes-from : ℕ → ℕ → Move → Bool
goes-from a b not_in_map = false
goes-from a b (stays_in f) = false
goes-from a b (begins f) = false
goes-from a b (takes f g) = eqb (starts_at f) a && eqb (starts_at g) b

-- a block's counts, from what they are by addresses
abbrev pub counts-by : (ℕ → ℕ) → (ℕ → ℕ → ℕ) → Final → Counts
counts-by E W f = record { start = starts_at f; entered = E (starts_at f); ways = map (λ (t : ℕ). record { to = t; times = W (starts_at f) t }) (outgoing f) }

-- what the moves say of a block
abbrev pub counts_of : List Move → Final → Counts
counts_of vs = counts-by (λ (a : ℕ). count (enters-at a) vs) (λ (a b : ℕ). count (goes-from a b) vs)

-- ---- each count is that

pub map-map : {A B C : Type 0} (f : B → C) (g : A → B) (xs : List A) → map f (map g xs) ≡ map (λ (x : A). f (g x)) xs
map-map f g [] = refl
map-map {C} f g (x ∷ xs) = ap {B = List C} (λ (l : List C). f (g x) ∷ l) (map-map f g xs)

map_same : {A B : Type 0} (f g : A → B) → ((x : A) → f x ≡ g x) → (xs : List A) → map f xs ≡ map g xs
map_same f g h [] = refl
map_same {B} f g h (x ∷ xs) = ap₂ {C = List B} (λ (y : B) (l : List B). y ∷ l) (h x) (map_same f g h xs)

more-is : (b : Bool) (n : ℕ) → bumped b n ≡ n + flag b
more-is true n = omega arith
more-is false n = omega arith

module _ (E : ℕ → ℕ) (W : ℕ → ℕ → ℕ) where
  ways-more : (a b s : ℕ) (ts : List ℕ)
      → map (λ (w : Way). record { to = w.to; times = bumped (eqb a s && eqb b w.to) w.times }) (map (λ (t : ℕ). record { to = t; times = W s t }) ts)
      ≡ map {B = Way} (λ (t : ℕ). record { to = t; times = W s t + flag (eqb a s && eqb b t) }) ts
  ways-more a b s ts =
      map-map _ (λ (t : ℕ). record { to = t; times = W s t }) ts
      ∙ map_same _ _ (λ (t : ℕ). ap {B = Way} (λ (n : ℕ). record { to = t; times = n }) (more-is (eqb a s && eqb b t) (W s t))) ts

  -- an entry, and an edge, by addresses
  pub entered-is : (a : ℕ) (fs : List Final) → map (enter a) (map (counts-by E W) fs) ≡ map (counts-by (λ (x : ℕ). E x + flag (eqb a x)) W) fs
  entered-is a fs =
      map-map (enter a) (counts-by E W) fs
      ∙ map_same _ _ (λ (g : Final) i. record {
        start = starts_at g;
        entered = more-is (eqb a (starts_at g)) (E (starts_at g)) i;
        ways = map (λ (t : ℕ). record { to = t; times = W (starts_at g) t }) (outgoing g);
      }) fs

  pub taken_is : (a b : ℕ) (fs : List Final) → map (take_edge a b) (map (counts-by E W) fs) ≡ map (counts-by E (λ (x y : ℕ). W x y + flag (eqb a x && eqb b y))) fs
  taken_is a b fs =
      map-map (take_edge a b) (counts-by E W) fs
      ∙ map_same _ _ (λ (g : Final) i. record { start = starts_at g; entered = E (starts_at g); ways = ways-more a b (starts_at g) (outgoing g) i }) fs

by_both : (E : ℕ → ℕ) (W : ℕ → ℕ → ℕ) (F : ℕ → ℕ) (U : ℕ → ℕ → ℕ) → ((a : ℕ) → E a ≡ F a) → ((a b : ℕ) → W a b ≡ U a b) → (fs : List Final) → map (counts-by E W) fs ≡ map (counts-by F U) fs
by_both E W F U p q fs = ap₂ (λ (G : ℕ → ℕ) (X : ℕ → ℕ → ℕ). map (counts-by G X) fs) (fun_ext p) (fun_ext (λ (a : ℕ). fun_ext (q a)))

module _ (E : ℕ → ℕ) (W : ℕ → ℕ → ℕ) where
  -- with one move more
  abbrev E+ : Move → ℕ → ℕ
  E+ v a = E a + flag (enters-at a v)

  abbrev W+ : Move → ℕ → ℕ → ℕ
  W+ v a b = W a b + flag (goes-from a b v)

  none_more : (n : ℕ) → n ≡ n + 0
  none_more n = sym (add-zero n)

  unmoved : (v : Move) → ((a : ℕ) → enters-at a v ≡ false) → ((a b : ℕ) → goes-from a b v ≡ false) → (fs : List Final) → map (counts-by E W) fs ≡ map (counts-by (E+ v) (W+ v)) fs
  unmoved v p q fs =
      ap₂ (λ (F : ℕ → ℕ) (U : ℕ → ℕ → ℕ). map (counts-by F U) fs)
      (fun_ext (λ (a : ℕ). none_more (E a) ∙ ap (λ (x : Bool). E a + flag x) (sym (p a))))
      (fun_ext (λ (a : ℕ). fun_ext (λ (b : ℕ). none_more (W a b) ∙ ap (λ (x : Bool). W a b + flag x) (sym (q a b)))))

  counted_is : (v : Move) (fs : List Final) → counted v (map (counts-by E W) fs) ≡ map (counts-by (E+ v) (W+ v)) fs
  unfolding counted
  counted_is not_in_map fs = unmoved not_in_map (λ a. refl) (λ a b. refl) fs
  counted_is (stays_in f) fs = unmoved (stays_in f) (λ a. refl) (λ a b. refl) fs
  counted_is (begins f) fs =
      entered-is E W (starts_at f) fs ∙ by_both (λ (x : ℕ). E x + flag (eqb (starts_at f) x)) W _ _ (λ (x : ℕ). refl) (λ (x y : ℕ). none_more (W x y)) fs
  counted_is (takes f h) fs =
      ap (map (enter (starts_at h))) (taken_is E W (starts_at f) (starts_at h) fs)
      ∙ entered-is E (λ (x y : ℕ). W x y + flag (eqb (starts_at f) x && eqb (starts_at h) y)) (starts_at h) fs

tallied-is : (vs : List Move) (E : ℕ → ℕ) (W : ℕ → ℕ → ℕ) (fs : List Final)
    → tallied vs (map (counts-by E W) fs) ≡ map (counts-by (λ (a : ℕ). E a + count (enters-at a) vs) (λ (a b : ℕ). W a b + count (goes-from a b) vs)) fs
tallied-is [] E W fs = by_both E W _ _ (λ (a : ℕ). sym (add-zero (E a))) (λ (a b : ℕ). sym (add-zero (W a b))) fs
tallied-is (v ∷ vs) E W fs =
    ap (tallied vs) (counted_is E W v fs) ∙ tallied-is vs (E+ E W v) (W+ E W v) fs
    ∙ by_both _ _ _ _ (λ (a : ℕ). add_assoc (E a) (flag (enters-at a v)) (count (enters-at a) vs)) (λ (a b : ℕ). add_assoc (W a b) (flag (goes-from a b v)) (count (goes-from a b) vs)) fs

module _ (m : Map) (code log : List ℕ) where
  -- the moves of the log
  abbrev pub its-moves : List Move
  its-moves = moves m code outside log

  -- The place is the number of steps before the first that is not in the map; each block's count is how often these enter it, and each edge's how often they go that way.
  pub follow-is : follow m code log ≡ record { place = length its-moves; counts = map (counts_of its-moves) m.blocks }
  follow-is =
      follow-moves m code log outside 0 (map none_taken m.blocks)
      ∙ ap₂ (λ (p : ℕ) (cs : List Counts). record { place = p; counts = cs }) (zero-add (length its-moves))
      (tallied-is its-moves (λ (a : ℕ). 0) (λ (a b : ℕ). 0) m.blocks ∙ by_both _ _ (λ (a : ℕ). count (enters-at a) its-moves) (λ (a b : ℕ). count (goes-from a b) its-moves) (λ (a : ℕ). zero-add _) (λ (a b : ℕ). zero-add _) m.blocks)

-- ---- "The entry counts must come to the number of block entries in the part of the log before that step"

module _ {A : Type 0} where
  total-same : (f g : A → ℕ) → ((x : A) → f x ≡ g x) → (xs : List A) → total f xs ≡ total g xs
  total-same f g h [] = refl
  total-same f g h (x ∷ xs) = ap₂ ◌+◌ (h x) (total-same f g h xs)

total-map : {A B : Type 0} (f : B → ℕ) (g : A → B) (xs : List A) → total f (map g xs) ≡ total (λ (x : A). f (g x)) xs
total-map f g [] = refl
total-map f g (x ∷ xs) = ap (λ (n : ℕ). f (g x) + n) (total-map f g xs)

-- how many of the blocks start at an address: none below the lowest, one of each that is there
unfoldable pub starts-here : ℕ → List Final → ℕ
starts-here a = total (λ (f : Final). flag (eqb a (starts_at f)))

none-start : (fs : List Final) {lo : ℕ} → Rising lo (finals-at fs) → (a : ℕ) → a < lo → starts-here a fs ≡ 0
unfolding starts-here
none-start [] r a h = refl
none-start (f ∷ fs) (rises l r) a h =
    let other = ne_eqb a (starts_at f) (λ e. omega arith) in
    ap₂ (λ (x : Bool) (n : ℕ). flag x + n) other (none-start fs r a (omega arith))

pub above : (fs : List Final) {lo : ℕ} → Rising lo (finals-at fs) → (g : Final) → In g fs → lo ≤ starts_at g
above (f ∷ fs) (rises l r) g here = l
above (f ∷ fs) (rises l r) g (there i) = let k = above fs r g i in omega arith
above [] {lo = lo} _ g x3 = elim x3 [ ]

pub one-starts : (fs : List Final) {lo : ℕ} → Rising lo (finals-at fs) → (g : Final) → In g fs → starts-here (starts_at g) fs ≡ 1
unfolding starts-here
one-starts (f ∷ fs) (rises l r) g here = ap₂ (λ (x : Bool) (n : ℕ). flag x + n) (eq-eqb (starts_at f) (starts_at f) refl) (none-start fs r (starts_at f) (omega arith))
one-starts (f ∷ fs) (rises l r) g (there i) =
    let k = above fs r g i in
    ap₂ (λ (x : Bool) (n : ℕ). flag x + n) (ne_eqb (starts_at g) (starts_at f) (λ e. omega arith)) (one-starts fs r g i)
one-starts [] {lo = lo} _ g x3 = elim x3 [ ]

module _ (m : Map) (code : List ℕ) (rising : Rising 0 (finals-at m.blocks)) where
  entered-once : {at : Stand} {q : ℕ} {v : Move} → InMap m code at q v → total (λ (f : Final). flag (enters-at (starts_at f) v)) m.blocks ≡ flag (enters v)
  unfolding starts-here
  entered-once (first_step {f} z i e) = one-starts m.blocks rising f i
  entered-once (next_instruction l n e h) = total-none m.blocks
  entered-once (by_an_edge {g} l n o i e) = one-starts m.blocks rising g i

  entries-sum : {at : Stand} {log : List ℕ} {vs : List Move} → Walked m code at log vs → total (λ (f : Final). count (enters-at (starts_at f)) vs) m.blocks ≡ count enters vs
  entries-sum log_ends = total-none m.blocks
  entries-sum (map_ends n) = total-none m.blocks
  entries-sum (walks_on {v} {vs} k w) =
      total-sum (λ (f : Final). flag (enters-at (starts_at f) v)) (λ (f : Final). count (enters-at (starts_at f)) vs) m.blocks
      ∙ ap₂ ◌+◌ (entered-once k) (entries-sum w)

  -- The block counts come to the number of the entries that the log makes before the place.
  pub entries_are : (log : List ℕ) → total (λ (c : Counts). c.entered) (follow m code log).counts ≡ count enters (moves m code outside log)
  entries_are log =
      ap (λ (f : Followed). total (λ (c : Counts). c.entered) f.counts) (follow-is m code log)
      ∙ total-map (λ (c : Counts). c.entered) (counts_of (moves m code outside log)) m.blocks ∙ entries-sum (walked m code log outside)

-- ---- there is one way only

one_block : (fs : List Final) {lo : ℕ} → Rising lo (finals-at fs) → (f g : Final) → In f fs → In g fs → starts_at f ≡ starts_at g → f ≡ g
one_block (x ∷ fs) (rises l r) f g here here e = refl
one_block (x ∷ fs) (rises l r) f g here (there j) e = let k = above fs r g j in absurd (omega arith)
one_block (x ∷ fs) (rises l r) f g (there i) here e = let k = above fs r f i in absurd (omega arith)
one_block (x ∷ fs) (rises l r) f g (there i) (there j) e = one_block fs r f g i j e
one_block [] {lo = lo} _ f g x5 _ e = elim x5 [ ]

module _ (m : Map) (code : List ℕ) (rising : Rising 0 (finals-at m.blocks)) where
  in-map-once : {at : Stand} {q : ℕ} {v w : Move} → InMap m code at q v → InMap m code at q w → v ≡ w
  in-map-once (first_step {f} z i e) (first_step {f = g} y j d) = ap begins (one_block m.blocks rising f g i j (e ∙ sym d))
  in-map-once (next_instruction l n e h) (next_instruction k o d g) = refl
  in-map-once (next_instruction l n e h) (by_an_edge k o p i d) = absurd (n o)
  in-map-once (by_an_edge k o p i d) (next_instruction l n e h) = absurd (n o)
  in-map-once (by_an_edge {f} {g} k o p i d) (by_an_edge {g = h} l n r j e) = ap (takes f) (one_block m.blocks rising g h i j (d ∙ sym e))

  -- where the starts of blocks rise, a log has one walk
  pub walked_once : {at : Stand} {log : List ℕ} {vs ws : List Move} → Walked m code at log vs → Walked m code at log ws → vs ≡ ws
  walked_once log_ends log_ends = refl
  walked_once (map_ends n) (map_ends k) = refl
  walked_once (map_ends n) (walks_on i k) = absurd (n _ i)
  walked_once (walks_on i k) (map_ends n) = absurd (n _ i)
  walked_once (walks_on {q} {log} i k) (walks_on {vs = ws} j l) =
      let same = in-map-once i j in
      ap₂ {C = List Move} (λ (v : Move) (l : List Move). v ∷ l) same (walked_once k (subst (λ (v : Move). Walked m code (stands v q) log ws) (sym same) l))

-- ---- the place

-- it is at most the number of steps, and every prefix of a log gives a place no later: as far as the log's own, or the prefix's end
pub place-prefix : (m : Map) (code log : List ℕ) (n : ℕ) → (follow m code (take n log)).place ≡ min n (follow m code log).place
place-prefix m code log n =
    ap (λ (f : Followed). f.place) (follow-is m code (take n log)) ∙ ap length (moves-prefix m code n log outside) ∙ length-take n (moves m code outside log)
    ∙ ap (λ (f : Followed). min n f.place) (sym (follow-is m code log))

-- ---- the room that the counts take

pub numbers-many : (E : ℕ → ℕ) (W : ℕ → ℕ → ℕ) (fs : List Final) → length (numbers (map (counts-by E W) fs)) ≡ total (λ (f : Final). suc (length (outgoing f))) fs
numbers-many E W [] = refl
numbers-many E W (f ∷ fs) =
    let way : ℕ → Way = λ t. record { to = t; times = W (starts_at f) t } in
    let times : Way → ℕ = λ w. w.times in
    let ws = map way (outgoing f) in
    omega (arith, length-append (map times ws) (numbers (map (counts-by E W) fs)), length-map ws times, length-map (outgoing f) way, numbers-many E W fs)

pub counts-room : (m : Map) (code log : List ℕ) → length (as_eights (numbers (follow m code log).counts)) ≡ count_bytes m
counts-room m code log =
    eights-long (numbers (follow m code log).counts)
    ∙ ap (λ (f : Followed). 8 * length (numbers f.counts)) (follow-is m code log) ∙ ap (λ (n : ℕ). 8 * n) (numbers-many (λ (a : ℕ). count (enters-at a) (moves m code outside log)) (λ (a b : ℕ). count (goes-from a b) (moves m code outside log)) m.blocks)
