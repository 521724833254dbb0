-- What contracts and theorems say of lists. Assumes nothing.
use Rattle.std.specs.Prelude.{ℕ, suc, ◌≤◌, List, [], ◌∷◌}

-- a member, by its place in the list, so that a clause can match on it; the library's `List-as-Memᴰ` carries an equation instead
pub data In {A : Type 0} (x : A) : List A → Type 0 where
  here : {xs : List A} → In x (x ∷ xs)
  there : {y : A} {xs : List A} → In x xs → In x (y ∷ xs)

-- the numbers rise strictly, from lo on
pub data Rising : ℕ → List ℕ → Type 0 where
  none_left : {lo : ℕ} → Rising lo []
  one_more : {lo n : ℕ} {ns : List ℕ} → lo ≤ n → Rising (suc n) ns → Rising lo (n ∷ ns)
