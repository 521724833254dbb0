-- What two functions do one after the other, and what a need noted does. Assumes nothing.
use mathlib.Core.Path.{◌≡◌, refl, ap, ◌∙◌}
use Prim.Native.Nat.{ℕ, zero, suc, ◌≤◌, ◌<◌}
use lib.Dec.{leb}
use borrow.Author.Tests.{le-leb, lt-leb}
use Rattle.spec.specs.Lists.{if}
use Rattle.spec.specs.Search.{Room, St, need}
use Rattle.spec.specs.Rooms.{Lent, refusal, shortage}
use Rattle.laws.proofs.Branch.{if-true, if-false}
use Rattle.theorems.proofs.Growth.{Later}
use Rattle.theorems.proofs.Shortage.{first-stays}
use Rattle.theorems.proofs.Older.{clear}
use Rattle.tables.specs.Recording.{room_of, Lends}
use Rattle.tables.specs.declared.Rooms.{Rooms}
use Rattle.steps.specs.Runs.{Did}

-- ---- one after the other

pub did_nothing : {k : Rooms} {a : St} → Did k (λ s. s) a 0 a
did_nothing = record { short = λ l h mid m n. n; made = λ mid m z. m }

pub did_then : {k : Rooms} (f g : St → St) {a b c : St} {x y : ℕ} → Did k f a x b → x ≡ 0 → Did k g b y c → Did k (λ s. g (f s)) a y c
did_then f g d z e =
    record {
      short = λ l h mid m n. e.short l h (f mid) (d.made mid m z) (d.short l h mid m n ∙ z);
      made = λ mid m. e.made (f mid) (d.made mid m z);
    }

-- a first shortage stays, whatever follows
pub did-stops : {k : Rooms} (f g : St → St) {a b c : St} {x : ℕ} → ((s : St) → Later s (g s)) → Did k f a x b → (x ≡ 0 → ⊥) → Did k (λ s. g (f s)) a x c
did-stops f g {x = x} later d n =
    record { short = λ l h mid m z. stays l (f mid) x n (d.short l h mid m z); made = λ mid m z. absurd (n z) }
  where
    stays : (l : Lent) (s : St) (y : ℕ) → (y ≡ 0 → ⊥) → shortage l s.needs ≡ y → shortage l (g s).needs ≡ y
    stays l s zero n e = absurd (n refl)
    stays l s (suc y) n e = first-stays l s (g s) (later s) y e

-- two functions that do the same from such a state
pub did-same : {k : Rooms} (f g : St → St) {a b : St} {x : ℕ} → ((mid : St) → clear mid ≡ a → g mid ≡ f mid) → Did k f a x b → Did k g a x b
did-same f g e d =
    record {
      short = λ l h mid m n. ap (λ (s : St). shortage l s.needs) (e mid m) ∙ d.short l h mid m n;
      made = λ mid m z. ap clear (e mid m) ∙ d.made mid m z;
    }

-- from a state that is named in another way
pub did-from : {k : Rooms} {f : St → St} {a b c : St} {x : ℕ} → a ≡ c → Did k f c x b → Did k f a x b
did-from e d = record { short = λ l h mid m. d.short l h mid (m ∙ e); made = λ mid m. d.made mid (m ∙ e) }

-- ---- a need

module _ {k : Rooms} {a : St} (r : Room) (u : St → ℕ) (v : ℕ) (is : (mid : St) → clear mid ≡ a → u mid ≡ v) where
  one : (l : Lent) → Lends l k → (mid : St) → clear mid ≡ a → shortage l mid.needs ≡ 0
      → shortage l (need r (u mid) mid).needs ≡ if (leb v (room_of k r)) 0 (refusal r)
  unfolding shortage
  one l h mid m n = rw (n, is mid m, h.is r)

  -- that the room holds
  pub did-need : v ≤ room_of k r → Did k (λ s. need r (u s) s) a 0 a
  did-need f = record { short = λ l h mid m n. one l h mid m n ∙ if-true _ 0 (refusal r) (le-leb _ _ f); made = λ mid m z. m }

  -- and one that it does not
  pub did-short : room_of k r < v → Did k (λ s. need r (u s) s) a (refusal r) a
  did-short f = record { short = λ l h mid m n. one l h mid m n ∙ if-false _ 0 (refusal r) (lt-leb _ _ f); made = λ mid m z. m }
