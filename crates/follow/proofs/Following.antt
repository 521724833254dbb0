-- The walk along the log is the definitions': what is left to follow ends where the whole ends. Assumes nothing.
use Rattle.std.proofs.Common.{◌≡◌, ℕ, zero, suc, ◌+◌, ◌*◌, ◌/◌, ◌%◌, ◌^◌, ◌<◌, ◌≤◌, Bool, true, false, ◌&&◌, eqb, List, [], ◌∷◌, ◌++◌, map, length, get_or, take, drop, set, replicate, sym, refl, ap, ◌∙◌, subst, add-one, arith, drop-drop, Option as Maybe, Some, None}
use lib.ListN.{replicate-append-replicate}
use Rattle.spec.specs.Lists.{little, number}
use Rattle.spec.specs.Ending.{Final}
use Rattle.spec.specs.Entries.{Map, flag}
use Rattle.spec.specs.Reader.{Reading, holds, bad, read}
use Rattle.spec.specs.Eights.{eights, as_eights, over}
use Rattle.spec.specs.Follow as spec
use Rattle.spec.specs.Follow.{starts_at, outgoing, outside, inside, not_in_map, stays_in, begins, takes, move, Counts, none_taken, enter, take_edge, counted, Followed, onward, follow_from, follow, numbers, steps}
use Rattle.laws.proofs.Lists.{Rising}
use Rattle.theorems.proofs.Answered.{finals-at}
use Rattle.theorems.proofs.ReaderPlaces.{never}
use Rattle.theorems.proofs.ReaderAccepted.{read-blocks, read-rises}
use Rattle.theorems.proofs.FollowCounts.{counts-by, entered-is, taken_is, numbers-many}
use Rattle.theorems.proofs.FollowLaws.{zeros}
use Rattle.lent.specs.Bytes.{num_at, patch, Holds, Stored}
use Rattle.lent.proofs.Patch.{length-patch}
use Rattle.lent.proofs.Numbers.{length-little}
use Rattle.reader.specs.Shapes.{from}
use Rattle.reader.specs.Walks.{items_from}
use Rattle.follow.specs.Blocks.{finals_at}
use Rattle.follow.specs.Finding.{slots_of, Ready, Placed}
use Rattle.follow.specs.Stepping.{StandsAs, out_there, in_block, Standing, EdgeOf, MoveAs, no_move, goes_on, begins_with, takes_to, StepsSo}
use Rattle.follow.specs.Walking.{bump_at, bumps_of, turn_of, Turned, Zeroed, Walked}
use Rattle.follow.specs.declared.block.Block.{Block}
use Rattle.follow.specs.declared.find.Counted.{Counted}
use Rattle.follow.specs.declared.step.Stand.{Stand}
use Rattle.follow.specs.declared.step.Move.{Move}
use Rattle.follow.specs.declared.step.Move.TheVariants.{Stays, Begins, Takes}
use Rattle.follow.proofs.Passing.{slots-append, slots-first}
use Rattle.follow.proofs.Moving.{slot-low, place-low}
use Rattle.follow.proofs.Tallying.{bump-number, enters-numbers, entered_here, takes-numbers, taken_here}

-- ---- bump

pub bumped-so : {c c' : List ℕ} (slot : ℕ) {n m : ℕ} → Holds 8 c (8 * slot) n → m ≡ (n + 1) % 2 ^ 64 → Stored 8 c (8 * slot) (little 8 m) c' → c' ≡ bump_at c slot
unfolding bump_at
bumped-so {c} {c'} slot {n} {m} h e s =
    s.is ∙ ap (λ (x : ℕ). patch c (8 * slot) (little 8 x)) (e ∙ ap (λ (x : ℕ). (x + 1) % 2 ^ 64) h.is)

bump-kept : (c : List ℕ) (slot : ℕ) → 8 * slot + 8 ≤ length c → length (bump_at c slot) ≡ length c
unfolding bump_at
bump-kept c slot h =
    let v = (num_at 8 c (8 * slot) + 1) % 2 ^ 64 in
    length-patch c (8 * slot) (little 8 v) (omega (arith, length-little 8 v))

-- ---- the map that the bytes hold

pub held-blocks : (b : List ℕ) (m : Map) → read b ≡ holds m → m.blocks ≡ finals_at b 0
unfolding finals_at items_from from
held-blocks b m e = sym (read-blocks b m e)

pub held-rises : (b : List ℕ) (m : Map) → read b ≡ holds m → Rising 0 (finals-at (finals_at b 0))
held-rises b m e = subst (λ (fs : List Final). Rising 0 (finals-at fs)) (held-blocks b m e) (read-rises b m e)

-- ---- count_step

slots-inside : (b : List ℕ) {v : spec.Move} {k : Counted} → MoveAs b v (Some (Begins k)) → k.slot < slots_of (finals_at b 0)
slots-inside b (begins_with p) = omega (arith, slot-low p)

edge-inside : {b : List ℕ} {f : Final} {to edge : ℕ} → EdgeOf b f to edge → edge < slots_of (finals_at b 0)
edge-inside {f} o =
    let s = ap slots_of o.is ∙ slots-append o.before (f ∷ o.after) in
    let t = slots-first f o.after in
    omega (arith, o.edge_is, place-low o.place)

record InsideBoth (n edge slot : ℕ) : Type 0 where
  first : edge < n
  second : slot < n

takes-inside : (b : List ℕ) {v : spec.Move} {k : Counted} {edge : ℕ} → MoveAs b v (Some (Takes edge k)) → InsideBoth (slots_of (finals_at b 0)) edge k.slot
takes-inside b (takes_to o p) = record { first = edge-inside o; second = omega (arith, slot-low p) }

module _ (b code : List ℕ) (s : Maybe Stand) (q : ℕ) {r : Maybe Move} (h : StepsSo b code s q r) where
  moved : (y : Ready b) (d : Standing b s) → MoveAs b (move y.map code d.at q) r
  moved y d = h.so y.map d.at (held-blocks b y.map y.held) d.stands

  module _ (y : Ready b) (d : Standing b s) (c : List ℕ) (fits : 8 * slots_of (finals_at b 0) ≤ length c) where
    pub begin-fits : {k : Counted} → r ≡ Some (Begins k) → 8 * k.slot + 8 ≤ length c
    begin-fits e = omega (arith, slots-inside b (subst (MoveAs b (move y.map code d.at q)) e (moved y d)))

    pub edge-fits : {k : Counted} {edge : ℕ} → r ≡ Some (Takes edge k) → 8 * edge + 8 ≤ length c
    edge-fits e = omega (arith, (takes-inside b (subst (MoveAs b (move y.map code d.at q)) e (moved y d))).first)

    pub enter-fits : {k : Counted} {edge : ℕ} → r ≡ Some (Takes edge k) → {c₁ : List ℕ} → c₁ ≡ bump_at c edge → 8 * k.slot + 8 ≤ length c₁
    enter-fits {edge} e k =
        omega (arith, (takes-inside b (subst (MoveAs b (move y.map code d.at q)) e (moved y d))).second, ap length k, bump-kept c edge (edge-fits e))

    pub turn-begins : {k : Counted} → r ≡ Some (Begins k) → {c' : List ℕ} → c' ≡ bump_at c k.slot → Turned b code s q c c' (Some (record { at = k; pc = q }))
    turn-begins {k} e g =
        record { move = Some (Begins k); so = subst (StepsSo b code s q) e h; turn = refl; counts = g; kept = ap length g ∙ bump-kept c k.slot (begin-fits e) }

    pub turn-takes : {k : Counted} {edge : ℕ} → r ≡ Some (Takes edge k) → {c₁ c' : List ℕ} → c₁ ≡ bump_at c edge → c' ≡ bump_at c₁ k.slot → Turned b code s q c c' (Some (record { at = k; pc = q }))
    turn-takes {k} {edge} e {c₁} g l =
        record {
          move = Some (Takes edge k);
          so = subst (StepsSo b code s q) e h;
          turn = refl;
          counts = l ∙ ap (λ (x : List ℕ). bump_at x k.slot) g;
          kept = ap length l ∙ bump-kept c₁ k.slot (enter-fits e g) ∙ ap length g ∙ bump-kept c edge (edge-fits e);
        }

  pub turn-no : (c : List ℕ) → r ≡ None → Turned b code s q c c None
  turn-no c e = record { move = None; so = subst (StepsSo b code s q) e h; turn = refl; counts = refl; kept = refl }

  pub turn-stays : (c : List ℕ) {k : Counted} → r ≡ Some (Stays k) → Turned b code s q c c (Some (record { at = k; pc = q }))
  turn-stays c {k} e = record { move = Some (Stays k); so = subst (StepsSo b code s q) e h; turn = refl; counts = refl; kept = refl }

-- ---- the log's steps

steps-at : (n i : ℕ) (b : List ℕ) → i < n → drop i (eights n b) ≡ num_at 8 b (8 * i) ∷ drop (suc i) (eights n b)
unfolding num_at
steps-at zero i b h = absurd (omega arith)
steps-at (suc n) zero b h = refl
steps-at (suc n) (suc i) b h =
    steps-at n i (drop 8 b) (omega arith)
    ∙ ap (λ (x : ℕ). x ∷ drop (suc i) (eights n (drop 8 b))) (ap (λ (l : List ℕ). number (take 8 l)) (drop-drop (8 * i) 8 b ∙ ap (λ (k : ℕ). drop k b) (eight-more i)))
  where
    eight-more : (i : ℕ) → 8 + 8 * i ≡ 8 * suc i
    eight-more i = omega arith

steps-end : (n : ℕ) (b : List ℕ) → drop n (eights n b) ≡ []
steps-end zero b = refl
steps-end (suc n) b = steps-end n (drop 8 b)

zero-eights : (n : ℕ) → as_eights (replicate n 0) ≡ replicate (8 * n) 0
zero-eights zero = refl
zero-eights (suc n) =
    ap (λ (l : List ℕ). little 8 0 ++ l) (zero-eights n) ∙ replicate-append-replicate 8 (8 * n) 0 ∙ ap (λ (k : ℕ). replicate k 0) (eight-more n)
  where
    eight-more : (n : ℕ) → 8 + 8 * n ≡ 8 * suc n
    eight-more n = omega arith

-- ---- the loop

abbrev counts_of : List ℕ → (ℕ → ℕ) → (ℕ → ℕ → ℕ) → List Counts
counts_of b E W = map (counts-by E W) (finals_at b 0)

pub record Following (b code log c₀ : List ℕ) (i : ℕ) (s : Maybe Stand) (c : List ℕ) : Type 0 where
  pub m : Map
  pub held : read b ≡ holds m
  pub at : spec.Stand
  pub stands : StandsAs b s at
  pub low : i ≤ length log / 8
  pub E : ℕ → ℕ
  pub W : ℕ → ℕ → ℕ
  pub e_low : (a : ℕ) → E a ≤ i
  pub w_low : (a t : ℕ) → W a t ≤ i
  pub counts : c ≡ over (as_eights (numbers (map (counts-by E W) (finals_at b 0)))) c₀
  pub same : follow_from m code (drop i (steps log)) at i (map (counts-by E W) (finals_at b 0)) ≡ follow m code (steps log)
  pub kept : length c ≡ length c₀
  pub fits : 8 * slots_of (finals_at b 0) ≤ length c₀

pub follow-start : {b : List ℕ} (code log : List ℕ) {c : List ℕ} → Ready b → Zeroed b c → Following b code log c 0 None c
unfolding slots_of
follow-start {b} code log {c} y z =
    let e = held-blocks b y.map y.held in
    record {
      m = y.map;
      held = y.held;
      at = outside;
      stands = out_there;
      low = omega arith;
      E = λ a. 0;
      W = λ a t. 0;
      e_low = λ a. omega arith;
      w_low = λ a t. omega arith;
      counts = z.zeros ∙ ap (λ (l : List ℕ). over l c) (sym (ap as_eights (zeros (finals_at b 0)) ∙ zero-eights (slots_of (finals_at b 0))));
      same = ap (λ (fs : List Final). follow_from y.map code (steps log) outside 0 (map none_taken fs)) (sym e);
      kept = refl;
      fits = z.fits;
    }

walked-so : {b code log c₀ c' : List ℕ} (m : Map) → read b ≡ holds m → (i : ℕ) (cs : List Counts) → follow m code (steps log) ≡ record { place = i; counts = cs }
    → c' ≡ over (as_eights (numbers cs)) c₀ → Walked b code log c₀ c' i
walked-so {b} {code} {log} {c₀} m held i cs e k =
    record {
      place = λ n g. ap (λ (x : Followed). x.place) (sym (all n g));
      counts = λ n g. k ∙ ap (λ (x : Followed). over (as_eights (numbers x.counts)) c₀) (sym (all n g));
    }
  where
    map_of : Reading → Map
    map_of (holds n) = n
    map_of (bad at) = m

    all : (n : Map) → read b ≡ holds n → follow n code (steps log) ≡ record { place = i; counts = cs }
    all n g = ap (λ (x : Map). follow x code (steps log)) (ap map_of (sym g ∙ held)) ∙ e

flag-low : (t : Bool) → flag t ≤ 1
flag-low true = omega arith
flag-low false = omega arith

-- one more in a block's count, and in an edge's
module _ (b c₀ : List ℕ) (rising : Rising 0 (finals-at (finals_at b 0))) (E : ℕ → ℕ) (W : ℕ → ℕ → ℕ) where
  many : length (numbers (counts_of b E W)) ≡ slots_of (finals_at b 0)
  unfolding slots_of
  many = numbers-many E W (finals_at b 0)

  abbrev buffer : (ℕ → ℕ) → (ℕ → ℕ → ℕ) → List ℕ
  buffer F U = over (as_eights (numbers (counts_of b F U))) c₀

  bump-enters : {g : Final} {k : Block} {slot : ℕ} → Placed b g k slot → E (starts_at g) + 1 < 2 ^ 64 → bump_at (buffer E W) slot ≡ buffer (λ (x : ℕ). E x + flag (eqb (starts_at g) x)) W
  bump-enters {g} {slot} p low =
      bump-number (numbers (counts_of b E W)) c₀ slot (E (starts_at g)) (omega (arith, many, slot-low p))
      (ap (λ (n : ℕ). get_or (numbers (counts_of b E W)) n 0) p.slot_is ∙ entered_here E W (finals_at b 0) p.before g p.after p.is rising) low
      ∙ ap (λ (l : List ℕ). over (as_eights l) c₀)
      (ap (λ (n : ℕ). set (numbers (counts_of b E W)) n (suc (E (starts_at g)))) p.slot_is
      ∙ sym (enters-numbers E W (finals_at b 0) p.before g p.after p.is rising) ∙ ap numbers (entered-is E W (starts_at g) (finals_at b 0)))

  bump_takes : {f : Final} {to edge : ℕ} → EdgeOf b f to edge → W (starts_at f) to + 1 < 2 ^ 64
      → bump_at (buffer E W) edge ≡ buffer E (λ (x y : ℕ). W x y + flag (eqb (starts_at f) x && eqb to y))
  bump_takes {f} {to} {edge} o low =
      bump-number (numbers (counts_of b E W)) c₀ edge (W (starts_at f) to) (omega (arith, many, edge-inside o))
      (ap (λ (n : ℕ). get_or (numbers (counts_of b E W)) n 0) o.edge_is ∙ taken_here E W (finals_at b 0) o.before f o.after o.is rising to o.n o.place) low
      ∙ ap (λ (l : List ℕ). over (as_eights l) c₀)
      (ap (λ (n : ℕ). set (numbers (counts_of b E W)) n (suc (W (starts_at f) to))) o.edge_is
      ∙ sym (takes-numbers E W (finals_at b 0) o.before f o.after o.is rising to o.n o.place) ∙ ap numbers (taken_is E W (starts_at f) to (finals_at b 0)))

module _ {b code log c₀ : List ℕ} {i : ℕ} {s : Maybe Stand} {c : List ℕ} (f : Following b code log c₀ i s c) (left : i < length log / 8) {q : ℕ} (g : Holds 8 log (8 * i) q) where
  abbrev rest : List ℕ
  rest = drop (suc i) (steps log)

  -- the definitions take the step too
  onto : (v : spec.Move) → move f.m code f.at q ≡ v
      → follow f.m code (steps log) ≡ onward i (counts_of b f.E f.W) (λ (t : spec.Stand) (p : ℕ) (ds : List Counts). follow_from f.m code rest t p ds) q v
  unfolding follow_from
  onto v e =
      sym f.same
      ∙ ap (λ (l : List ℕ). follow_from f.m code l f.at i (counts_of b f.E f.W)) (steps-at (length log / 8) i log left ∙ ap (λ (x : ℕ). x ∷ rest) (sym g.is))
      ∙ ap (onward i (counts_of b f.E f.W) (λ (t : spec.Stand) (p : ℕ) (ds : List Counts). follow_from f.m code rest t p ds) q) e

  -- behind a step to a block
  next-so : {c' : List ℕ} {h : Final} {k : Counted} → Placed b h k.block k.slot → (F : ℕ → ℕ) (U : ℕ → ℕ → ℕ) → ((a : ℕ) → F a ≤ i + 1) → ((a t : ℕ) → U a t ≤ i + 1)
      → c' ≡ over (as_eights (numbers (counts_of b F U))) c₀ → length c' ≡ length c
      → follow f.m code (steps log) ≡ follow_from f.m code rest (inside h q) (suc i) (counts_of b F U)
      → Following b code log c₀ (i + 1) (Some (record { at = k; pc = q })) c'
  next-so {c'} {h} p F U x y e l z =
      record {
        m = f.m;
        held = f.held;
        at = inside h q;
        stands = in_block p;
        low = omega arith;
        E = F;
        W = U;
        e_low = x;
        w_low = y;
        counts = e;
        same = ap (λ (n : ℕ). follow_from f.m code (drop n (steps log)) (inside h q) n (counts_of b F U)) (add-one i) ∙ sym z;
        kept = l ∙ f.kept;
        fits = f.fits;
      }

  module _ (small : length log < 2 ^ 64) where
    by_move : {v : spec.Move} {mv : Maybe Move} → MoveAs b v mv → move f.m code f.at q ≡ v → {t : Stand} → Some t ≡ turn_of mv q → {c' : List ℕ} → c' ≡ bumps_of mv c → length c' ≡ length c
        → Following b code log c₀ (i + 1) (Some t) c'
    unfolding counted
    by_move no_move e w k l = never (cc)
    by_move (goes_on {f = h} {k = x} p) e {t} w {c'} k l =
        let is : record { at = x; pc = q } ≡ t = cc in
        subst (λ (u : Stand). Following b code log c₀ (i + 1) (Some u) c') is
        (next-so p f.E f.W (λ a. omega (arith, f.e_low a)) (λ a u. omega (arith, f.w_low a u)) (k ∙ f.counts) l (onto (stays_in h) e))
    by_move (begins_with {f = h} {k = x} p) e {t} w {c'} k l =
        let is : record { at = x; pc = q } ≡ t = cc in
        let rising = held-rises b f.m f.held in
        let F : ℕ → ℕ = λ a. f.E a + flag (eqb (starts_at h) a) in
        subst (λ (u : Stand). Following b code log c₀ (i + 1) (Some u) c') is
        (next-so p F f.W (λ a. omega (arith, f.e_low a, flag-low (eqb (starts_at h) a))) (λ a u. omega (arith, f.w_low a u))
        (k ∙ ap (λ (y : List ℕ). bump_at y x.slot) f.counts ∙ bump-enters b c₀ rising f.E f.W p (omega (arith, f.e_low (starts_at h)))) l
        (onto (begins h) e ∙ ap (λ (ds : List Counts). follow_from f.m code rest (inside h q) (suc i) ds) (entered-is f.E f.W (starts_at h) (finals_at b 0))))
    by_move (takes_to {f = j} {g = h} {k = x} {edge = d} o p) e {t} w {c'} k l =
        let is : record { at = x; pc = q } ≡ t = cc in
        let rising = held-rises b f.m f.held in
        let F : ℕ → ℕ = λ a. f.E a + flag (eqb (starts_at h) a) in
        let U : ℕ → ℕ → ℕ = λ a u. f.W a u + flag (eqb (starts_at j) a && eqb (starts_at h) u) in
        subst (λ (u : Stand). Following b code log c₀ (i + 1) (Some u) c') is
        (next-so p F U (λ a. omega (arith, f.e_low a, flag-low (eqb (starts_at h) a))) (λ a u. omega (arith, f.w_low a u, flag-low (eqb (starts_at j) a && eqb (starts_at h) u)))
        (k ∙ ap (λ (y : List ℕ). bump_at (bump_at y d) x.slot) f.counts
        ∙ ap (λ (y : List ℕ). bump_at y x.slot) (bump_takes b c₀ rising f.E f.W o (omega (arith, f.w_low (starts_at j) (starts_at h))))
        ∙ bump-enters b c₀ rising f.E U p (omega (arith, f.e_low (starts_at h)))) l
        (onto (takes j h) e
        ∙ ap (λ (ds : List Counts). follow_from f.m code rest (inside h q) (suc i) ds)
        (ap (map (enter (starts_at h))) (taken_is f.E f.W (starts_at j) (starts_at h) (finals_at b 0)) ∙ entered-is f.E U (starts_at h) (finals_at b 0))))

  module _ {c' : List ℕ} {r : Maybe Stand} (d : Turned b code s q c c' r) where
    as_moved : MoveAs b (move f.m code f.at q) d.move
    as_moved = d.so.so f.m f.at (held-blocks b f.m f.held) f.stands

    pub follow-on : length log < 2 ^ 64 → {t : Stand} → r ≡ Some t → Following b code log c₀ (i + 1) (Some t) c'
    follow-on small e = by_move small as_moved refl (sym e ∙ d.turn) d.counts d.kept

    -- a step that is not in the map
    off-so : {v : spec.Move} {mv : Maybe Move} → MoveAs b v mv → move f.m code f.at q ≡ v → None ≡ turn_of mv q → c' ≡ bumps_of mv c
        → (follow f.m code (steps log) ≡ record { place = i; counts = counts_of b f.E f.W }) × (c' ≡ c)
    off-so no_move e w k = (onto not_in_map e, k)
    off-so (goes_on p) e w k = never (cc)
    off-so (begins_with p) e w k = never (cc)
    off-so (takes_to o p) e w k = never (cc)

    pub follow-off : r ≡ None → Walked b code log c₀ c' i
    follow-off e =
        let k = off-so as_moved refl (sym e ∙ d.turn) d.counts in
        ends k.0 (k.1 ∙ f.counts)
      where
        ends : follow f.m code (steps log) ≡ record { place = i; counts = counts_of b f.E f.W } → c' ≡ over (as_eights (numbers (counts_of b f.E f.W))) c₀ → Walked b code log c₀ c' i
        ends = walked-so f.m f.held i (counts_of b f.E f.W)

pub follow-ends : {b code log c₀ : List ℕ} {i : ℕ} {s : Maybe Stand} {c : List ℕ} → Following b code log c₀ i s c → length log / 8 ≤ i → Walked b code log c₀ c (length log / 8)
unfolding follow_from
follow-ends {b} {code} {log} {i} f l =
    let n = length log / 8 in
    let e : i ≡ n = omega (arith, f.low) in
    walked-so f.m f.held n (counts_of b f.E f.W)
    (sym f.same
    ∙ ap (λ (x : ℕ). follow_from f.m code (drop x (steps log)) f.at x (counts_of b f.E f.W)) e
    ∙ ap (λ (xs : List ℕ). follow_from f.m code xs f.at n (counts_of b f.E f.W)) (steps-end n log)) f.counts
