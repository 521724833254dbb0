-- Document 02, "No. 8": where a count stands among the numbers, and that a step adds one there and nowhere else; what code over a buffer of counts does.
-- Assumes nothing.
use Prim.Native.Nat.{ℕ, suc, ◌+◌, ◌≤◌, ◌<◌}
use native.Mathlib.Omega.{arith}
use mathlib.Core.Path.{◌≡◌, refl, sym, ap, ap₂, ◌∙◌}
use mathlib.Core.Bool.{Bool, false, ◌&&◌}
use mathlib.Core.List.{List, [], ◌∷◌, ◌++◌, map, append_assoc}
use lib.Dec.{eqb}
use lib.ListN.{length, get_or, set, length-append, length-map}
use lib.Seq.{set-append_seam, set_at, get_or_at}
use borrow.Author.Tests.{eq-eqb, ne_eqb}
use Rattle.spec.specs.Follow.{Way, Counts, bumped, enter, take_edge, numbers}
use Rattle.laws.proofs.Branch.{and-false}
use Rattle.laws.proofs.Lists.{Rising, one_more}
use Rattle.laws.proofs.Members.{In, here, there, in_right, gather_append}

-- ---- the blocks but one

abbrev pub Others : ℕ → List Counts → Type 0
Others a cs = (c : Counts) → In c cs → a ≡ c.start → ⊥

enter-none : (a : ℕ) (cs : List Counts) → Others a cs → map (enter a) cs ≡ cs
enter-none a [] h = refl
enter-none a (c ∷ cs) h =
    ap₂ {C = List Counts} (λ (b : Bool) (l : List Counts). record { start = c.start; entered = bumped b c.entered; ways = c.ways } ∷ l)
    (ne_eqb a c.start (h c here)) (enter-none a cs (λ d i. h d (there i)))

ways-none : (b : ℕ) (ws : List Way) (t : Bool) → ((w : Way) → In w ws → t && eqb b w.to ≡ false)
    → map (λ (w : Way). record { to = w.to; times = bumped (t && eqb b w.to) w.times }) ws ≡ ws
ways-none b [] t h = refl
ways-none b (w ∷ ws) t h =
    ap₂ {C = List Way} (λ (x : Bool) (l : List Way). record { to = w.to; times = bumped x w.times } ∷ l) (h w here) (ways-none b ws t (λ v i. h v (there i)))

take_none : (a b : ℕ) (cs : List Counts) → Others a cs → map (take_edge a b) cs ≡ cs
take_none a b [] h = refl
take_none a b (c ∷ cs) h =
    ap₂ {C = List Counts} (λ (ws : List Way) (l : List Counts). record { start = c.start; entered = c.entered; ways = ws } ∷ l)
    (ways-none b c.ways (eqb a c.start) (λ w i. ap (λ (x : Bool). x && eqb b w.to) (ne_eqb a c.start (h c here))))
    (take_none a b cs (λ d i. h d (there i)))

-- ---- a block's count stands behind the numbers of the blocks before it

pub map-append : {A B : Type 0} (f : A → B) (xs ys : List A) → map f (xs ++ ys) ≡ map f xs ++ map f ys
map-append f [] ys = refl
map-append {B} f (x ∷ xs) ys = ap {B = List B} (λ (l : List B). f x ∷ l) (map-append f xs ys)

abbrev of-block : Counts → List ℕ
of-block c = c.entered ∷ map (λ (w : Way). w.times) c.ways

module _ (xs : List Counts) (c : Counts) (ys : List Counts) (others-before : Others c.start xs) (others-behind : Others c.start ys) where
  abbrev all : List Counts
  all = xs ++ c ∷ ys

  numbers-parts : (d : Counts) → numbers (xs ++ d ∷ ys) ≡ numbers xs ++ (of-block d ++ numbers ys)
  numbers-parts d = gather_append of-block xs (d ∷ ys)

  only_here : (f : Counts → Counts) → map f xs ≡ xs → map f ys ≡ ys → map f all ≡ xs ++ f c ∷ ys
  only_here f p q = map-append f xs (c ∷ ys) ∙ ap₂ (λ (k l : List Counts). k ++ f c ∷ l) p q

  pub numbers-enter : numbers (map (enter c.start) all) ≡ set (numbers all) (length (numbers xs)) (suc c.entered)
  numbers-enter =
      ap numbers (only_here (enter c.start) (enter-none c.start xs others-before) (enter-none c.start ys others-behind))
      ∙ numbers-parts (enter c.start c)
      ∙ ap (λ (b : Bool). numbers xs ++ (bumped b c.entered ∷ map (λ (w : Way). w.times) c.ways ++ numbers ys)) (eq-eqb c.start c.start refl)
      ∙ sym (ap (λ (l : List ℕ). set l (length (numbers xs)) (suc c.entered)) (numbers-parts c) ∙ set-append_seam (numbers xs) c.entered _ (suc c.entered))

  pub count-of-block : get_or (numbers all) (length (numbers xs)) 0 ≡ c.entered
  count-of-block = ap (λ (l : List ℕ). get_or l (length (numbers xs)) 0) (numbers-parts c) ∙ get_or_at (numbers xs) c.entered _ 0 (length (numbers xs)) refl

-- ---- and an edge's behind it, by its place among the block's edges

abbrev with-ways : Counts → List Way → Counts
with-ways c ws = record { start = c.start; entered = c.entered; ways = ws }

module _ (xs : List Counts) (c : Counts) (ys : List Counts) (others-before : Others c.start xs) (others-behind : Others c.start ys) (us : List Way) (w : Way) (vs : List Way)
    (before-it : (v : Way) → In v us → w.to ≡ v.to → ⊥) (behind-it : (v : Way) → In v vs → w.to ≡ v.to → ⊥) (its-ways : c.ways ≡ us ++ w ∷ vs) where
  times : Way → ℕ
  times v = v.times

  before : List ℕ
  before = numbers xs ++ (c.entered ∷ map times us)

  flat : (v : Way) → numbers (xs ++ with-ways c (us ++ v ∷ vs) ∷ ys) ≡ before ++ (v.times ∷ (map times vs ++ numbers ys))
  unfolding times before
  flat v =
      numbers-parts xs c ys others-before others-behind (with-ways c (us ++ v ∷ vs))
      ∙ ap (λ (l : List ℕ). numbers xs ++ (c.entered ∷ l ++ numbers ys)) (map-append times us (v ∷ vs))
      ∙ ap (λ (l : List ℕ). numbers xs ++ (c.entered ∷ l)) (append_assoc (map times us) (v.times ∷ map times vs) (numbers ys))
      ∙ sym (append_assoc (numbers xs) (c.entered ∷ map times us) (v.times ∷ (map times vs ++ numbers ys)))

  bump : Way → Way
  bump v = record { to = v.to; times = bumped (eqb c.start c.start && eqb w.to v.to) v.times }

  ways-one : map bump (us ++ w ∷ vs) ≡ us ++ record { to = w.to; times = suc w.times } ∷ vs
  unfolding bump
  ways-one =
      map-append bump us (w ∷ vs)
      ∙ ap₂ (λ (k l : List Way). k ++ bump w ∷ l)
      (ways-none w.to us (eqb c.start c.start) (λ v i. and-false (eqb c.start c.start) (ne_eqb w.to v.to (before-it v i))))
      (ways-none w.to vs (eqb c.start c.start) (λ v i. and-false (eqb c.start c.start) (ne_eqb w.to v.to (behind-it v i))))
      ∙ ap₂ (λ (x y : Bool). us ++ record { to = w.to; times = bumped (x && y) w.times } ∷ vs) (eq-eqb c.start c.start refl) (eq-eqb w.to w.to refl)

  long : length before ≡ length (numbers xs) + suc (length us)
  unfolding before
  long = length-append (numbers xs) (c.entered ∷ map times us) ∙ ap (λ (n : ℕ). length (numbers xs) + suc n) (length-map us times)

  pub count-of-edge : get_or (numbers (xs ++ c ∷ ys)) (length (numbers xs) + suc (length us)) 0 ≡ w.times
  count-of-edge =
      ap (λ (l : List Way). get_or (numbers (xs ++ with-ways c l ∷ ys)) (length (numbers xs) + suc (length us)) 0) its-ways
      ∙ ap (λ (l : List ℕ). get_or l (length (numbers xs) + suc (length us)) 0) (flat w)
      ∙ get_or_at before w.times (map times vs ++ numbers ys) 0 (length (numbers xs) + suc (length us)) long

  pub numbers-take : numbers (map (take_edge c.start w.to) (xs ++ c ∷ ys)) ≡ set (numbers (xs ++ c ∷ ys)) (length (numbers xs) + suc (length us)) (suc w.times)
  unfolding before bump
  numbers-take =
      let one : Way = record { to = w.to; times = suc w.times } in
      ap numbers (only_here xs c ys others-before others-behind (take_edge c.start w.to) (take_none c.start w.to xs others-before) (take_none c.start w.to ys others-behind))
      ∙ ap (λ (l : List Way). numbers (xs ++ with-ways c (map bump l) ∷ ys)) its-ways
      ∙ ap (λ (l : List Way). numbers (xs ++ with-ways c l ∷ ys)) ways-one ∙ flat one
      ∙ sym (ap (λ (l : List Way). set (numbers (xs ++ with-ways c l ∷ ys)) (length (numbers xs) + suc (length us)) (suc w.times)) its-ways
      ∙ ap (λ (l : List ℕ). set l (length (numbers xs) + suc (length us)) (suc w.times)) (flat w)
      ∙ set_at before w.times (map times vs ++ numbers ys) (suc w.times) (length (numbers xs) + suc (length us)) long)

-- ---- where starts rise, a block's is no other's

abbrev pub starts-of : List Counts → List ℕ
starts-of = map (λ (c : Counts). c.start)

above : (cs : List Counts) {lo : ℕ} → Rising lo (starts-of cs) → (c : Counts) → In c cs → lo ≤ c.start
above (d ∷ cs) (one_more l r) c here = l
above (d ∷ cs) (one_more l r) c (there i) = let k = above cs r c i in omega arith
above [] {lo = lo} _ c x3 = elim x3 [ ]

pub rising-others : (xs : List Counts) (c : Counts) (ys : List Counts) {lo : ℕ} → Rising lo (starts-of (xs ++ c ∷ ys)) → Others c.start xs × Others c.start ys
rising-others [] c ys (one_more l r) = (λ d i e. elim i [ ], λ d i e. let k = above ys r d i in omega arith)
rising-others (x ∷ xs) c ys (one_more l r) = both-sides (rising-others xs c ys r)
  where
    low : x.start < c.start
    low = above (xs ++ c ∷ ys) r c (in_right xs here)

    both-sides : Others c.start xs × Others c.start ys → Others c.start (x ∷ xs) × Others c.start ys
    both-sides k = (λ d i e. on-left d i e, k.1)
      where
        on-left : Others c.start (x ∷ xs)
        on-left d here e = omega (arith, low)
        on-left d (there i) e = k.0 d i e
