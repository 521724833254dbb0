-- The reached set and its seeds: it grows with them and with the edges, their order and number do not matter, and what is reached adds nothing as a
-- seed. So seeds may be expanded one after another, or in batches, in any order. Assumes nothing.
use mathlib.Core.Path.{◌≡◌, sym, ◌∙◌}
use mathlib.Core.Logic.{◌↔◌, ◌⊎◌, inl, inr}
use mathlib.Core.Bool.{Bool, true}
use mathlib.Core.List.{List, ◌++◌}
use Prim.Native.Nat.{ℕ}
use Rattle.spec.specs.Lists.{mem}
use Rattle.spec.specs.Reach.{Edge, closure}
use Rattle.laws.proofs.Members.{In, mem-left, in_right, in_mem, mem-in, or_cases}
use Rattle.theorems.proofs.Reached.{Reached, seed, along, closure-sound, closure-complete}
pub use Rattle.theorems.proofs.Batches.{reached-from, closure-same, closure-members}
use Rattle.reachable.proofs.Tests.{same_test, mem-append}

-- more edges reach more
pub along-more : {es ds : List Edge} {seeds : List ℕ} {x : ℕ} → ((e : Edge) → In e es → In e ds) → Reached es seeds x → Reached ds seeds x
along-more f (seed h) = seed h
along-more f (along e i p w) = along e (f e i) (along-more f p) (along-more f w)

-- the closure as a test, by the rule
pub closure-test : (es : List Edge) (seeds : List ℕ) (x : ℕ) {is : Bool} → (is ≡ true) ↔ Reached es seeds x → is ≡ mem x (closure es seeds)
closure-test es seeds x h = same_test (λ p. closure-complete es seeds x (h.0 p)) (λ p. h.1 (closure-sound es seeds x p))

-- edges with the same members have one closure
pub closure-edges : (es ds : List Edge) (seeds : List ℕ) → ((e : Edge) → In e es → In e ds) → ((e : Edge) → In e ds → In e es)
    → (x : ℕ) → mem x (closure es seeds) ≡ mem x (closure ds seeds)
closure-edges es ds seeds f g x =
    closure-test ds seeds x (λ p. along-more f (closure-sound es seeds x p), λ r. closure-complete es seeds x (along-more g r))

-- a round: a batch of seeds expanded over what was reached from earlier ones
pub closure-round : (es : List Edge) (batch seeds got : List ℕ) → ((y : ℕ) → mem y got ≡ mem y (closure es seeds))
    → (x : ℕ) → mem x (closure es (batch ++ got)) ≡ mem x (closure es (batch ++ seeds))
closure-round es batch seeds got h = closure-same es (batch ++ got) (batch ++ seeds) (λ y p. split y (cases y got p)) (λ y p. back y (cases y seeds p))
  where
    cases : (y : ℕ) (others : List ℕ) → mem y (batch ++ others) ≡ true → (mem y batch ≡ true) ⊎ (mem y others ≡ true)
    cases y others p = or_cases (mem y batch) (mem y others) (sym (mem-append y batch others) ∙ p)

    right : (y : ℕ) (others : List ℕ) → mem y others ≡ true → mem y (batch ++ others) ≡ true
    right y others p = in_mem y (in_right batch (mem-in y others p))

    split : (y : ℕ) → (mem y batch ≡ true) ⊎ (mem y got ≡ true) → Reached es (batch ++ seeds) y
    split y (inl p) = seed (mem-left y batch seeds p)
    split y (inr p) = reached-from (λ z q. seed (right z seeds q)) (closure-sound es seeds y (sym (h y) ∙ p))

    back : (y : ℕ) → (mem y batch ≡ true) ⊎ (mem y seeds ≡ true) → Reached es (batch ++ got) y
    back y (inl p) = seed (mem-left y batch got p)
    back y (inr p) = seed (right y got (h y ∙ closure-complete es seeds y (seed p)))
