-- The counts in their buffer: one more in a count is one more of the numbers. Assumes nothing.
use Rattle.std.proofs.Common.{◌≡◌, ℕ, suc, ◌+◌, ◌*◌, ◌%◌, ◌^◌, ◌<◌, ◌≤◌, eqb, List, [], ◌∷◌, ◌++◌, map, length, get_or, take, drop, set, sym, refl, ap, ◌∙◌, subst, ap₂, append_assoc, arith, length-append, length-take-le, drop-drop, take_at, drop_at, eq-eqb}
use lib.ListN.{length-map}
use lib.Seq.{split_at, set_at}
use Rattle.spec.specs.Lists.{little, number}
use Rattle.spec.specs.Ending.{Final}
use Rattle.spec.specs.Entries.{flag}
use Rattle.spec.specs.Eights.{as_eights, over}
use Rattle.spec.specs.Counting.{count}
use Rattle.spec.specs.Follow.{starts_at, outgoing, Way, Counts, enter, take_edge, numbers}
use Rattle.laws.proofs.Lists.{Rising}
use Rattle.laws.proofs.Members.{In, here, there, in_mem, in_right, gather_append}
use Rattle.theorems.proofs.Answered.{finals-at}
use Rattle.theorems.proofs.ReaderPlaces.{never}
use Rattle.theorems.proofs.Bytes.{number-little}
use Rattle.theorems.proofs.EightsBack.{eights-long}
use Rattle.theorems.proofs.DistinctOnes.{in-distinct, distinct-once}
use Rattle.theorems.proofs.FollowCounts.{counts-by, map-map, numbers-many}
use Rattle.theorems.proofs.FollowSlots.{Others, starts-of, map-append, numbers-enter, count-of-block, numbers-take, count-of-edge, rising-others}
use Rattle.lent.specs.Bytes.{num_at, patch}
use Rattle.lent.proofs.Numbers.{length-little}
use Rattle.follow.specs.Places.{PlaceOf}
use Rattle.follow.specs.Finding.{slots_of}
use Rattle.follow.specs.Walking.{bump_at}

-- ---- a buffer whose front is numbers

module _ (xs : List ℕ) (v : ℕ) (ys old : List ℕ) where
  abbrev front : List ℕ
  front = as_eights xs

  abbrev rest : List ℕ
  rest = as_eights ys ++ drop (8 * length (xs ++ v ∷ ys)) old

  long-front : length front ≡ 8 * length xs
  long-front = eights-long xs

  same-long : (w : ℕ) → length (xs ++ w ∷ ys) ≡ length (xs ++ v ∷ ys)
  same-long w = length-append xs (w ∷ ys) ∙ sym (length-append xs (v ∷ ys))

  parts : (w : ℕ) → over (as_eights (xs ++ w ∷ ys)) old ≡ front ++ (little 8 w ++ rest)
  parts w =
      ap₂ (λ (a : List ℕ) (n : ℕ). a ++ drop n old) (gather_append (little 8) xs (w ∷ ys)) (eights-long (xs ++ w ∷ ys) ∙ ap (λ (n : ℕ). 8 * n) (same-long w))
      ∙ append_assoc front (little 8 w ++ as_eights ys) (drop (8 * length (xs ++ v ∷ ys)) old)
      ∙ ap (λ (l : List ℕ). front ++ l) (append_assoc (little 8 w) (as_eights ys) (drop (8 * length (xs ++ v ∷ ys)) old))

  module _ (slot : ℕ) (here-is : length xs ≡ slot) (low : v + 1 < 2 ^ 64) where
    at_slot : length front ≡ 8 * slot
    at_slot = long-front ∙ ap (λ (n : ℕ). 8 * n) here-is

    reads : num_at 8 (over (as_eights (xs ++ v ∷ ys)) old) (8 * slot) ≡ v
    unfolding num_at
    reads =
        ap (λ (l : List ℕ). number (take 8 (drop (8 * slot) l))) (parts v)
        ∙ ap (λ (l : List ℕ). number (take 8 l)) (drop_at front (little 8 v ++ rest) (8 * slot) at_slot)
        ∙ ap number (take_at (little 8 v) rest 8 (length-little 8 v))
        ∙ number-little 8 v (omega arith)

    writes : (w : ℕ) → patch (over (as_eights (xs ++ v ∷ ys)) old) (8 * slot) (little 8 w) ≡ over (as_eights (xs ++ w ∷ ys)) old
    unfolding patch
    writes w =
        ap₂ (λ (l k : List ℕ). l ++ (little 8 w ++ k))
        (ap (take (8 * slot)) (parts v) ∙ take_at front (little 8 v ++ rest) (8 * slot) at_slot)
        (ap₂ (λ (n : ℕ) (l : List ℕ). drop (8 * slot + n) l) (length-little 8 w) (parts v)
        ∙ sym (drop-drop 8 (8 * slot) (front ++ (little 8 v ++ rest)))
        ∙ ap (drop 8) (drop_at front (little 8 v ++ rest) (8 * slot) at_slot)
        ∙ drop_at (little 8 v) rest 8 (length-little 8 v))
        ∙ sym (parts w)

    more : v + 1 ≡ (v + 1) % 2 ^ 64
    more = omega arith

    bumps : bump_at (over (as_eights (xs ++ v ∷ ys)) old) slot ≡ over (as_eights (xs ++ suc v ∷ ys)) old
    unfolding bump_at
    bumps =
        ap (λ (n : ℕ). patch (over (as_eights (xs ++ v ∷ ys)) old) (8 * slot) (little 8 ((n + 1) % 2 ^ 64))) reads
        ∙ ap (λ (n : ℕ). patch (over (as_eights (xs ++ v ∷ ys)) old) (8 * slot) (little 8 n)) (sym more ∙ one_more)
        ∙ writes (suc v)
      where
        one_more : v + 1 ≡ suc v
        one_more = omega arith

pub bump-number : (ns old : List ℕ) (slot v : ℕ) → slot < length ns → get_or ns slot 0 ≡ v → v + 1 < 2 ^ 64
    → bump_at (over (as_eights ns) old) slot ≡ over (as_eights (set ns slot (suc v))) old
bump-number ns old slot v l e low =
    let split : ns ≡ take slot ns ++ v ∷ drop (suc slot) ns = split_at ns slot 0 l ∙ ap (λ (x : ℕ). take slot ns ++ x ∷ drop (suc slot) ns) e in
    let long : length (take slot ns) ≡ slot = length-take-of in
    ap (λ (k : List ℕ). bump_at (over (as_eights k) old) slot) split
    ∙ bumps (take slot ns) v (drop (suc slot) ns) old slot long low
    ∙ ap (λ (k : List ℕ). over (as_eights k) old) (sym (ap (λ (k : List ℕ). set k slot (suc v)) split ∙ set_at (take slot ns) v (drop (suc slot) ns) (suc v) slot long))
  where
    length-take-of : length (take slot ns) ≡ slot
    length-take-of = length-take-le slot ns (omega arith)

-- ---- the numbers, by addresses

module _ (E : ℕ → ℕ) (W : ℕ → ℕ → ℕ) (fs before : List Final) (f : Final) (after : List Final) (is : fs ≡ before ++ f ∷ after) (rising : Rising 0 (finals-at fs)) where
  abbrev counts : List Final → List Counts
  counts = map (counts-by E W)

  abbrev it : Counts
  it = counts-by E W f

  cut : counts fs ≡ counts before ++ it ∷ counts after
  cut = ap counts is ∙ map-append (counts-by E W) before (f ∷ after)

  others : Others (starts_at f) (counts before) × Others (starts_at f) (counts after)
  others = rising-others (counts before) it (counts after) (subst (λ (l : List ℕ). Rising 0 l) starts-are rising)
    where
      starts-are : finals-at fs ≡ starts-of (counts before ++ it ∷ counts after)
      starts-are = sym (map-map (λ (c : Counts). c.start) (counts-by E W) fs) ∙ ap starts-of cut

  at_before : length (numbers (counts before)) ≡ slots_of before
  unfolding slots_of
  at_before = numbers-many E W before

  pub enters-numbers : numbers (map (enter (starts_at f)) (counts fs)) ≡ set (numbers (counts fs)) (slots_of before) (suc (E (starts_at f)))
  enters-numbers =
      ap (λ (l : List Counts). numbers (map (enter (starts_at f)) l)) cut
      ∙ numbers-enter (counts before) it (counts after) others.0 others.1
      ∙ ap₂ (λ (l : List Counts) (n : ℕ). set (numbers l) n (suc (E (starts_at f)))) (sym cut) at_before

  pub entered_here : get_or (numbers (counts fs)) (slots_of before) 0 ≡ E (starts_at f)
  entered_here =
      ap₂ (λ (l : List Counts) (n : ℕ). get_or (numbers l) n 0) cut (sym at_before)
      ∙ count-of-block (counts before) it (counts after) others.0 others.1

  module _ (to n : ℕ) (p : PlaceOf to (outgoing f) n) where
    way : ℕ → Way
    way t = record { to = t; times = W (starts_at f) t }

    ways-are : it.ways ≡ map way p.before ++ way to ∷ map way p.behind
    unfolding way
    ways-are = ap (map way) p.is ∙ map-append way p.before (to ∷ p.behind)

    unlike : (l : List ℕ) → (In to l → ⊥) → (w : Way) → In w (map way l) → to ≡ w.to → ⊥
    unfolding way
    unlike [] h w i e = elim i [ ]
    unlike (t ∷ l) h w here e = h (subst (λ (x : ℕ). In to (x ∷ l)) e here)
    unlike (t ∷ l) h w (there i) e = unlike l (λ j. h (there j)) w i e

    once : count (eqb to) (p.before ++ to ∷ p.behind) ≡ 1
    once = subst (λ (l : List ℕ). count (eqb to) l ≡ 1) p.is (distinct-once to _ (in-distinct to _ (subst (λ (l : List ℕ). In to l) (sym p.is) (in_right p.before here))))

    not_behind : In to p.behind → ⊥
    not_behind i = omega (arith, once, count-append p.before (to ∷ p.behind), counts-one p.behind i)
      where
        count-append : (xs ys : List ℕ) → count (eqb to) (xs ++ ys) ≡ count (eqb to) xs + count (eqb to) ys
        count-append [] ys = omega arith
        count-append (x ∷ xs) ys = omega (arith, count-append xs ys)

        itself : flag (eqb to to) ≡ 1
        itself = ap flag (eq-eqb to to refl)

        has_one : (ys : List ℕ) → In to ys → 1 ≤ count (eqb to) ys
        has_one (y ∷ ys) here = omega (arith, itself)
        has_one (y ∷ ys) (there j) = omega (arith, has_one ys j)
        has_one [] x' = elim x' [ ]

        counts-one : (ys : List ℕ) → In to ys → 2 ≤ count (eqb to) (to ∷ ys)
        counts-one ys j = omega (arith, itself, has_one ys j)

    not-before : In to p.before → ⊥
    not-before i = let z = in_mem to i in let y = p.first in never (cc)

    edge-slot : length (numbers (counts before)) + suc (length (map way p.before)) ≡ slots_of before + 1 + n
    edge-slot = omega (arith, at_before, length-map p.before way, p.place)

    pub takes-numbers : numbers (map (take_edge (starts_at f) to) (counts fs)) ≡ set (numbers (counts fs)) (slots_of before + 1 + n) (suc (W (starts_at f) to))
    unfolding way
    takes-numbers =
        ap (λ (l : List Counts). numbers (map (take_edge (starts_at f) to) l)) cut
        ∙ numbers-take (counts before) it (counts after) others.0 others.1 (map way p.before) (way to) (map way p.behind) (unlike p.before not-before) (unlike p.behind not_behind) ways-are
        ∙ ap₂ (λ (l : List Counts) (k : ℕ). set (numbers l) k (suc (W (starts_at f) to))) (sym cut) edge-slot

    pub taken_here : get_or (numbers (counts fs)) (slots_of before + 1 + n) 0 ≡ W (starts_at f) to
    unfolding way
    taken_here =
        ap₂ (λ (l : List Counts) (k : ℕ). get_or (numbers l) k 0) cut (sym edge-slot)
        ∙ count-of-edge (counts before) it (counts after) others.0 others.1 (map way p.before) (way to) (map way p.behind) (unlike p.before not-before) (unlike p.behind not_behind) ways-are
