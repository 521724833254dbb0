-- A closure by a worklist, over any edges: what is got is reached, and each edge that leads on has been followed, unless its place or its witness still
-- waits. Assumes nothing.
use mathlib.Core.Path.{◌≡◌, refl, sym, ◌∙◌}
use mathlib.Core.Logic.{◌↔◌, ◌⊎◌, inl, inr}
use mathlib.Core.Bool.{Bool, true, false, not, ◌&&◌, ◌||◌, and-not_self}
use mathlib.Core.List.{List, [], ◌∷◌, ◌++◌}
use Prim.Native.Nat.{ℕ}
use lib.Dec.{eqb}
use borrow.Author.Tests.{eqb-true}
use Rattle.spec.specs.Lists.{mem}
use Rattle.spec.specs.Reach.{Edge}
use Rattle.laws.proofs.Members.{In, and_both, or_cases, or_right}
use Rattle.theorems.proofs.Reached.{Reached, seed, along}
use Rattle.reachable.specs.Promises.{More}
use Rattle.reachable.specs.Pruning.{Waits}
use Rattle.reachable.proofs.Tests.{not-both, decided, mem-append}

pub record Work (es : List Edge) (seeds got todo : List ℕ) : Type 0 where
  pub sound : (x : ℕ) → mem x got ≡ true → Reached es seeds x
  pub seeded : (x : ℕ) → mem x seeds ≡ true → mem x got ≡ true
  pub known : (x : ℕ) → mem x todo ≡ true → mem x got ≡ true
  pub closed : (e : Edge) → In e es → mem e.place got ≡ true → mem e.witness got ≡ true → Waits todo e ⊎ (mem e.to got ≡ true)

-- with nothing left to do, what is got is closed, and is what is reached
module _ {es : List Edge} {seeds got : List ℕ} (k : Work es seeds got []) where
  pub work_closed : (e : Edge) → In e es → mem e.place got ≡ true → mem e.witness got ≡ true → mem e.to got ≡ true
  work_closed e i p q = split (k.closed e i p q)
    where
      split : Waits [] e ⊎ (mem e.to got ≡ true) → mem e.to got ≡ true
      split (inl (inl h)) = not-both h refl
      split (inl (inr h)) = not-both h refl
      split (inr h) = h

  pub work-done : (x : ℕ) → (mem x got ≡ true) ↔ Reached es seeds x
  work-done x = (k.sound x, all x)
    where
      all : (y : ℕ) → Reached es seeds y → mem y got ≡ true
      all y (seed h) = k.seeded y h
      all y (along e i p q) = work_closed e i (all e.place p) (all e.witness q)

-- ---- targets taken

waits-after : (t u old d : Bool) → ((u || (t || old)) && not (t || old)) || (((t || old) && not old) || d) ≡ ((u || (t || old)) && not old) || d
waits-after true true true d = refl
waits-after true true false d = refl
waits-after true false true d = refl
waits-after true false false d = refl
waits-after false true true d = refl
waits-after false true false d = refl
waits-after false false true d = refl
waits-after false false false d = refl

pub more-none : {got todo : List ℕ} → More [] got todo got todo
more-none {got} {todo} = record { all = λ y. refl; waits = λ y. rw (and-not_self (mem y got)) }

pub more-after : {ts us old todo got todo₁ got₂ todo₂ : List ℕ} → More ts old todo got todo₁ → More us got todo₁ got₂ todo₂ → More (ts ++ us) old todo got₂ todo₂
more-after {ts} {us} {old} {todo} p q = record {
  all = λ y. rw (q.all y, p.all y, mem-append y ts us) (swap (mem y ts) (mem y us) (mem y old));
  waits = λ y. rw (q.waits y, p.waits y, q.all y, p.all y) (waits-after (mem y ts) (mem y us) (mem y old) (mem y todo));
}
  where
    swap : (t u g : Bool) → u || (t || g) ≡ (t || u) || g
    swap true true g = refl
    swap true false g = refl
    swap false true g = refl
    swap false false g = refl

module _ {ts old todo got todo' : List ℕ} (m : More ts old todo got todo') where
  pub more-keeps : (y : ℕ) → mem y old ≡ true → mem y got ≡ true
  more-keeps y h = m.all y ∙ or_right (mem y ts) (mem y old) h

  pub more-takes : (y : ℕ) → mem y ts ≡ true → mem y got ≡ true
  more-takes y h = rw (m.all y, h)

  pub more-waits : (y : ℕ) → mem y todo ≡ true → mem y todo' ≡ true
  more-waits y h = m.waits y ∙ or_right (mem y got && not (mem y old)) (mem y todo) h

  -- what is got was got before, or waits
  pub more-new : (y : ℕ) → mem y got ≡ true → (mem y old ≡ true) ⊎ (mem y todo' ≡ true)
  more-new y h = split (decided (mem y old))
    where
      split : (mem y old ≡ true) ⊎ (mem y old ≡ false) → (mem y old ≡ true) ⊎ (mem y todo' ≡ true)
      split (inl p) = inl p
      split (inr p) = inr (rw (m.waits y, h, p))

  -- what waits is got, or waited before
  pub more-only : (y : ℕ) → mem y todo' ≡ true → (mem y got ≡ true) ⊎ (mem y todo ≡ true)
  more-only y h = split (or_cases (mem y got && not (mem y old)) (mem y todo) (sym (m.waits y) ∙ h))
    where
      split : (mem y got && not (mem y old) ≡ true) ⊎ (mem y todo ≡ true) → (mem y got ≡ true) ⊎ (mem y todo ≡ true)
      split (inl p) = inl (and_both (mem y got) (not (mem y old)) p).0
      split (inr p) = inr p

-- ---- a start, and a turn

-- seeds are taken over a closed set
pub work_start : {es : List Edge} {ts old got todo : List ℕ} → ((e : Edge) → In e es → mem e.place old ≡ true → mem e.witness old ≡ true → mem e.to old ≡ true)
    → More ts old [] got todo → Work es got got todo
work_start {es} {old} {got} {todo} c m = record {
  sound = λ x h. seed h;
  seeded = λ x h. h;
  known = λ x h. only x (more-only m x h);
  closed = λ e i p q. split e i (more-new m e.place p) (more-new m e.witness q);
}
  where
    only : (x : ℕ) → (mem x got ≡ true) ⊎ (mem x [] ≡ true) → mem x got ≡ true
    only x (inl h) = h
    only x (inr h) = not-both h refl

    split : (e : Edge) → In e es → (mem e.place old ≡ true) ⊎ (mem e.place todo ≡ true) → (mem e.witness old ≡ true) ⊎ (mem e.witness todo ≡ true)
        → Waits todo e ⊎ (mem e.to got ≡ true)
    split e i (inl p) (inl q) = inr (more-keeps m e.to (c e i p q))
    split e i (inl p) (inr q) = inl (inr q)
    split e i (inr p) q = inl (inl p)

-- x was taken off and followed: each edge from it leads on, or its other end waits
pub work-turn : {es : List Edge} {seeds old todo ts got todo' : List ℕ} {x : ℕ} → Work es seeds old (x ∷ todo) → More ts old todo got todo'
    → ((t : ℕ) → mem t ts ≡ true → Reached es seeds t)
    → ((e : Edge) → In e es → (e.place ≡ x) ⊎ (e.witness ≡ x) → mem e.place got ≡ true → mem e.witness got ≡ true → Waits todo' e ⊎ (mem e.to got ≡ true))
    → Work es seeds got todo'
work-turn {es} {seeds} {old} {todo} {ts} {got} {todo'} {x} k m r f = record {
  sound = λ y h. found y (or_cases (mem y ts) (mem y old) (sym (m.all y) ∙ h));
  seeded = λ y h. more-keeps m y (k.seeded y h);
  known = λ y h. only y (more-only m y h);
  closed = λ e i p q. new e i p q (more-new m e.place p) (more-new m e.witness q);
}
  where
    found : (y : ℕ) → (mem y ts ≡ true) ⊎ (mem y old ≡ true) → Reached es seeds y
    found y (inl h) = r y h
    found y (inr h) = k.sound y h

    only : (y : ℕ) → (mem y got ≡ true) ⊎ (mem y todo ≡ true) → mem y got ≡ true
    only y (inl h) = h
    only y (inr h) = more-keeps m y (k.known y (or_right (eqb y x) (mem y todo) h))

    -- an end that waited is x, or waits
    end : (y : ℕ) → mem y (x ∷ todo) ≡ true → (y ≡ x) ⊎ (mem y todo' ≡ true)
    end y h = split (or_cases (eqb y x) (mem y todo) h)
      where
        split : (eqb y x ≡ true) ⊎ (mem y todo ≡ true) → (y ≡ x) ⊎ (mem y todo' ≡ true)
        split (inl p) = inl (eqb-true y x p)
        split (inr p) = inr (more-waits m y p)

    place : (e : Edge) → In e es → mem e.place got ≡ true → mem e.witness got ≡ true → (e.place ≡ x) ⊎ (mem e.place todo' ≡ true) → Waits todo' e ⊎ (mem e.to got ≡ true)
    place e i p q (inl h) = f e i (inl h) p q
    place e i p q (inr h) = inl (inl h)

    witness : (e : Edge) → In e es → mem e.place got ≡ true → mem e.witness got ≡ true → (e.witness ≡ x) ⊎ (mem e.witness todo' ≡ true) → Waits todo' e ⊎ (mem e.to got ≡ true)
    witness e i p q (inl h) = f e i (inr h) p q
    witness e i p q (inr h) = inl (inr h)

    was : (e : Edge) → In e es → mem e.place got ≡ true → mem e.witness got ≡ true → Waits (x ∷ todo) e ⊎ (mem e.to old ≡ true) → Waits todo' e ⊎ (mem e.to got ≡ true)
    was e i p q (inl (inl h)) = place e i p q (end e.place h)
    was e i p q (inl (inr h)) = witness e i p q (end e.witness h)
    was e i p q (inr h) = inr (more-keeps m e.to h)

    new : (e : Edge) → In e es → mem e.place got ≡ true → mem e.witness got ≡ true
        → (mem e.place old ≡ true) ⊎ (mem e.place todo' ≡ true) → (mem e.witness old ≡ true) ⊎ (mem e.witness todo' ≡ true)
        → Waits todo' e ⊎ (mem e.to got ≡ true)
    new e i p q (inl h) (inl g) = was e i p q (k.closed e i h g)
    new e i p q (inl h) (inr g) = inl (inr g)
    new e i p q (inr h) g = inl (inl h)
