-- What the stored records come to, as document 01 counts them, and finding one among them. Assumes nothing.
use Rattle.std.proofs.Common.{◌≡◌, ℕ, zero, suc, ◌+◌, ◌-◌, ◌*◌, ◌<◌, ◌≤◌, Bool, true, false, ◌&&◌, ◌||◌, eqb, List, [], ◌∷◌, ◌++◌, length, sym, refl, ◌∙◌, arith, length-append, eq-eqb, ne_eqb, eqb-true}
use borrow.Author.Tests.{eqb-false}
use Rattle.spec.specs.Lists.{if, same, some?, total}
use Rattle.spec.specs.Stacks.{Stack}
use Rattle.spec.specs.Search.{nowhere, found, Rec, dest, is_at, is_nowhere, kept}
use Rattle.layout.specs.Marks.{NOWHERE}
use Rattle.layout.specs.Records.{to_at, end_of, kept_of}
use Rattle.state.specs.Cells.{stack_at}
use Rattle.state.proofs.States.{state-lies, lies-count}
use Rattle.tables.specs.Chains.{any}
use Rattle.tables.specs.Records.{path_at, found_at, rec_at, recs_of, is_rec, has_rec, Row}
use Rattle.tables.specs.Tables.{Goes, leads_nowhere, leads}
use Rattle.tables.proofs.Addrs.{addrs-length}

-- ---- a test, and a sum, over a list with one more at its end

some_end : {A : Type 0} (f : A → Bool) (xs : List A) (x : A) → some? f (xs ++ x ∷ []) ≡ f x || some? f xs
some_end f [] x = refl
some_end f (y ∷ xs) x = rw (some_end f xs x) (swap (f y) (f x) (some? f xs))
  where
    swap : (a b c : Bool) → a || (b || c) ≡ b || (a || c)
    swap true true c = refl
    swap true false c = refl
    swap false true c = refl
    swap false false c = refl

total-end : {A : Type 0} (f : A → ℕ) (xs : List A) (x : A) → total f (xs ++ x ∷ []) ≡ total f xs + f x
total-end f [] x = omega arith
total-end f (y ∷ xs) x = rw (total-end f xs x) (omega arith)

-- the destination of a record that may have none
pub dest-if : (b : Bool) (t : ℕ) (k : Stack) → dest (if b nowhere (found t k)) ≡ if b [] (t ∷ [])
unfolding if
dest-if true t k = refl
dest-if false t k = refl

module _ (r q s : List ℕ) (room : ℕ) where
  pub recs-length : (m : ℕ) → length (recs_of r q s room m) ≡ m
  unfolding recs_of
  recs-length zero = refl
  recs-length (suc m) = length-append (recs_of r q s room m) (rec_at r q s room m ∷ []) ∙ rw (recs-length m) (omega arith)

  -- a test of each record is a test of each index
  some-recs : (f : Rec → Bool) (g : ℕ → Bool) (m : ℕ) → ((i : ℕ) → i < m → f (rec_at r q s room i) ≡ g i) → some? f (recs_of r q s room m) ≡ any g m
  unfolding recs_of any
  some-recs f g zero e = refl
  some-recs f g (suc m) e = some_end f (recs_of r q s room m) (rec_at r q s room m) ∙ rw (e m (omega arith), some-recs f g m (λ i l. e i (omega arith)))

  -- ---- what they come to

  addresses-upto : {m : ℕ} → ((i : ℕ) → i < m → Row r q i) → (j : ℕ) → j ≤ m → total (λ (x : Rec). length x.path) (recs_of r q s room j) ≡ end_of r j
  unfolding recs_of rec_at path_at end_of
  addresses-upto rows zero l = refl
  addresses-upto rows (suc j) l =
      total-end (λ (x : Rec). length x.path) (recs_of r q s room j) (rec_at r q s room j)
      ∙ rw (addresses-upto rows j (omega arith), addrs-length q (end_of r j) (end_of r (suc j) - end_of r j))
      (omega (arith, (rows j l).rises))

  pub recs-addresses : {m : ℕ} → ((i : ℕ) → i < m → Row r q i) → total (λ (x : Rec). length x.path) (recs_of r q s room m) ≡ end_of r m
  recs-addresses {m} rows = addresses-upto rows m (omega arith)

  module _ {n : ℕ} (few : n < NOWHERE) where
    kept-one : (i : ℕ) → Goes n room r s i → kept_of r i + kept (found_at r s room i) ≡ kept_of r (suc i)
    unfolding found_at if
    kept-one i (leads_nowhere e z) = rw (eq-eqb (to_at r i) NOWHERE e) (omega arith)
    kept-one i (leads e t) =
        let d : to_at r i ≡ NOWHERE → ⊥ = λ z. omega arith in
        rw (ne_eqb (to_at r i) NOWHERE d)
        (omega (arith, lies-count (state-lies s (9 * (room - kept_of r (suc i))) (kept_of r (suc i) - kept_of r i) t), t.some))

    kept-upto : {m : ℕ} → ((i : ℕ) → i < m → Goes n room r s i) → (j : ℕ) → j ≤ m → total (λ (x : Rec). kept x.to) (recs_of r q s room j) ≡ kept_of r j
    unfolding recs_of rec_at kept_of
    kept-upto goes zero l = refl
    kept-upto goes (suc j) l =
        total-end (λ (x : Rec). kept x.to) (recs_of r q s room j) (rec_at r q s room j) ∙ rw (kept-upto goes j (omega arith)) (kept-one j (goes j l))

    pub recs-kept-cells : {m : ℕ} → ((i : ℕ) → i < m → Goes n room r s i) → total (λ (x : Rec). kept x.to) (recs_of r q s room m) ≡ kept_of r m
    recs-kept-cells {m} goes = kept-upto goes m (omega arith)

  -- ---- one of them leads there, or nowhere, by the path

  leads-at : (t : ℕ) → (t ≡ NOWHERE → ⊥) → (i : ℕ) → is_at t (found_at r s room i) ≡ eqb t (to_at r i)
  unfolding found_at if
  leads-at t d i = go (eqb (to_at r i) NOWHERE) refl
    where
      go : (b : Bool) → eqb (to_at r i) NOWHERE ≡ b → is_at t (if b nowhere (found (to_at r i) (stack_at s (9 * (room - kept_of r (suc i))) (kept_of r (suc i) - kept_of r i)))) ≡ eqb t (to_at r i)
      go true e = sym (ne_eqb t (to_at r i) (λ z. d (z ∙ eqb-true (to_at r i) NOWHERE e)))
      go false e = refl

  leads-none : (i : ℕ) → is_nowhere (found_at r s room i) ≡ eqb NOWHERE (to_at r i)
  unfolding found_at if
  leads-none i = go (eqb (to_at r i) NOWHERE) refl
    where
      go : (b : Bool) → eqb (to_at r i) NOWHERE ≡ b → is_nowhere (if b nowhere (found (to_at r i) (stack_at s (9 * (room - kept_of r (suc i))) (kept_of r (suc i) - kept_of r i)))) ≡ eqb NOWHERE (to_at r i)
      go true e = sym (eq-eqb NOWHERE (to_at r i) (sym (eqb-true (to_at r i) NOWHERE e)))
      go false e = sym (ne_eqb NOWHERE (to_at r i) (λ z. eqb-false (to_at r i) NOWHERE e (sym z)))

  pub recs-at : (t : ℕ) → (t ≡ NOWHERE → ⊥) → (path : List ℕ) (m : ℕ) → some? (λ (x : Rec). is_at t x.to && same path x.path) (recs_of r q s room m) ≡ has_rec r q t path m
  unfolding rec_at is_rec
  recs-at t d path m = some-recs (λ (x : Rec). is_at t x.to && same path x.path) (is_rec r q t path) m (λ i l. rw (leads-at t d i))

  pub recs-nowhere : (path : List ℕ) (m : ℕ) → some? (λ (x : Rec). is_nowhere x.to && same path x.path) (recs_of r q s room m) ≡ has_rec r q NOWHERE path m
  unfolding rec_at is_rec
  recs-nowhere path m = some-recs (λ (x : Rec). is_nowhere x.to && same path x.path) (is_rec r q NOWHERE path) m (λ i l. rw (leads-none i))
