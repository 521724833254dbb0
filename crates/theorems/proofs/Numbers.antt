-- Document 02, No. 5: the number of a record, the energy counted when it was made. No run makes a record past its limit, and from a count on a run makes only
-- records with larger numbers. Assumes nothing.
use Prim.Native.Nat.{ℕ, ◌≤◌, ◌<◌}
use native.Mathlib.Omega.{arith}
use native.Mathlib.Nat.{le_of_lt}
use mathlib.Core.Path.{◌≡◌, refl, sym, subst, ◌∙◌}
use mathlib.Core.Logic.{◌⊎◌, inl, inr}
use mathlib.Core.List.{List, [], ◌∷◌, ◌++◌, append_assoc, append-nil}
use Rattle.spec.specs.Search.{Node, Rec, St, begin, add, search}
use Rattle.laws.proofs.Members.{In, in-only, in-cases}
use Rattle.theorems.proofs.Carried.{Steps, step-rounds}

-- ---- within the limit

-- each record's number is at most n
abbrev pub UpTo : ℕ → St → Type 0
UpTo n s = (x : Rec) → In x s.recs → x.energy ≤ n

add-up-to : (n : ℕ) (r : Rec) (s : St) → r.energy ≤ n → UpTo n s → UpTo n (add r s)
add-up-to n r s e h x i = split (in-cases s.recs i)
  where
    split : In x s.recs ⊎ In x (r ∷ []) → x.energy ≤ n
    split (inl j) = h x j
    split (inr j) = subst (λ (y : Rec). y.energy ≤ n) (sym (in-only j)) e

-- a record is made where the parent's unit is not past the limit
up_to : (n : ℕ) → Steps n (λ s t. UpTo n s → UpTo n t) (λ s t. s.energy ≤ n → UpTo n s → UpTo n t)
up_to n = record {
  keeps = λ s h. h;
  joins = λ s t u f g h. g (f h);
  needs = λ r u s h. h;
  forgets = λ s h. h;
  stops = λ s h. h;
  counts = λ s t e f h. f e h;
  in_level = λ s t f e h. f h;
  in_needs = λ r u s t f. f;
  in_remembers = λ m s t f. f;
  in_adds = λ r s q e h. add-up-to n r s (omega arith) h;
}

-- No record's number is past the limit.
pub search-up-to : (limit : ℕ) (ns : List Node) → UpTo limit (search limit ns)
unfolding search
search-up-to limit ns = step-rounds limit _ _ (up_to limit) 128 ns begin (λ x i. elim i [ ])

-- ---- past a count

-- t's record is s's and then new ones, whose numbers are past m; m units or more are counted
pub record After (m : ℕ) (s t : St) : Type 0 where
  pub new : List Rec
  pub is : t.recs ≡ s.recs ++ new
  pub past : (x : Rec) → In x new → m < x.energy
  pub counted : m ≤ t.energy

pub after_same : (m : ℕ) (s t : St) → t.recs ≡ s.recs → m ≤ t.energy → After m s t
after_same m s t e h = record { new = []; is = e ∙ sym (append-nil s.recs); past = λ x i. elim i [ ]; counted = h }

pub after-trans : {m : ℕ} {s t u : St} → After m s t → After m t u → After m s u
after-trans {m} g h = record { new = g.new ++ h.new; is = h.is ∙ rw (g.is, append_assoc); past = λ x i. split x (in-cases g.new i); counted = h.counted }
  where
    split : (x : Rec) → In x g.new ⊎ In x h.new → m < x.energy
    split x (inl i) = g.past x i
    split x (inr i) = h.past x i

-- what a run adds from m units on: a record comes after a unit more
abbrev pub Onward : ℕ → St → St → Type 0
Onward m s t = m ≤ s.energy → After m s t

abbrev pub OnwardIn : ℕ → St → St → Type 0
OnwardIn m s t = m < s.energy → After m s t

pub onward : (m limit : ℕ) → Steps limit (Onward m) (OnwardIn m)
onward m limit = record {
  keeps = λ s h. after_same m s s refl h;
  joins = λ s t u f g h. let a = f h in after-trans a (g a.counted);
  needs = λ r u s h. after_same m s _ refl h;
  forgets = λ s h. after_same m s _ refl h;
  stops = λ s h. after_same m s _ refl (omega arith);
  counts = λ s t _ f h. let a = f (omega arith) in record { new = a.new; is = a.is; past = a.past; counted = a.counted };
  in_level = λ s t f h. f (le_of_lt h);
  in_needs = λ r u s t f h. let a = f h in record { new = a.new; is = a.is; past = a.past; counted = a.counted };
  in_remembers = λ m s t f h. let a = f h in record { new = a.new; is = a.is; past = a.past; counted = a.counted };
  in_adds = λ r s e h. record { new = r ∷ []; is = refl; past = λ x i. subst (λ (y : Rec). m < y.energy) (sym (in-only i)) (omega arith); counted = le_of_lt h };
}
