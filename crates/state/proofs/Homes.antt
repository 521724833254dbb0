-- The laws of composing where the parent lies in its home: apart, or in S too. Assumes nothing.
use mathlib.Core.Path.{◌≡◌, ap, ◌∙◌}
use mathlib.Core.List.{List}
use Prim.Native.Nat.{ℕ, ◌+◌, ◌-◌, ◌*◌, ◌≤◌, ◌<◌}
use native.Mathlib.Omega.{arith}
use lib.ListN.{length, take, drop}
use Rattle.std.specs.Borrow.{Bor}
use Rattle.spec.specs.Stacks.{Sym, Stack, cells, through, compose}
use Rattle.lent.specs.Bytes.{Stored}
use Rattle.state.specs.Cells.{sym_at, Put, stack_at, Lies}
use Rattle.state.specs.Composed.{Resolves, Composes, ComposesKept, Mapped, Composed}
use Rattle.state.specs.Homes.{bytes_in, ComposesIn}
use Rattle.state.specs.declared.compose.Home.{Home}
use Rattle.state.specs.declared.compose.Home.TheVariants.{Apart, Here}
use Rattle.state.proofs.States.{state-lies, lies-apart}
use Rattle.state.proofs.Composing.{Mapping, child-count, cells-compose, map-none, map-asks, map_more, map-done, deep_room, compose-flat, compose-deep}

module _ {h : Home} {s₀ : List ℕ} {child c to parent p : ℕ} (q : ComposesIn h s₀ child c to parent p) where
  pub home-none : Mapping s₀ child c to (stack_at (bytes_in h s₀) parent p) 0 s₀
  home-none = map-none q.both

  module _ {i : ℕ} {s : List ℕ} (m : Mapping s₀ child c to (stack_at (bytes_in h s₀) parent p) i s) where
    pub home-done : c ≤ i → Mapped s₀ child c to (stack_at (bytes_in h s₀) parent p) s
    home-done = map-done q.both m

    -- the parent lies there while the child's cells are written
    home-lies : Lies (bytes_in h s) parent p (stack_at (bytes_in h s₀) parent p)
    home-lies = q.stays _ _ _ m.mapped.wrote.stored m.most

    module _ (g : i < c) {x : Sym} (e : x ≡ sym_at s (child + 9 * i)) where
      pub home-asks : Resolves (bytes_in h s) parent p x
      home-asks = record { state = home-lies.state; small = rw home-lies.is (map-asks q.both m g e).small }

      pub home-more : {y : Sym} {s' : List ℕ} → y ≡ through (stack_at (bytes_in h s) parent p) x → Put s (to + 9 * i) y s' → Mapping s₀ child c to (stack_at (bytes_in h s₀) parent p) (i + 1) s'
      home-more f k = map_more q.both m g e (f ∙ ap (λ (t : Stack). through t x) home-lies.is) k

  module _ {base : ℕ} (e : base ≡ (stack_at s₀ child c).base) {s₁ : List ℕ} (m : Mapped s₀ child c to (stack_at (bytes_in h s₀) parent p) s₁) where
    mapped-lies : Lies (bytes_in h s₁) parent p (stack_at (bytes_in h s₀) parent p)
    mapped-lies = q.stays _ _ _ m.wrote.stored (omega arith)

    pub home-flat : p - 1 ≤ base → Composed s₀ to (compose (stack_at s₀ child c) (stack_at (bytes_in h s₀) parent p)) s₁ c
    home-flat = compose-flat q.both e m

    module _ (g : base < p - 1) where
      pub home-room : (to + 9 * c + 9 * (p - 1 - base) ≤ length s₁) × (parent + 9 * (base + 1) + 9 * (p - 1 - base) ≤ length (bytes_in h s₁))
      home-room = (omega (arith, deep_room q.both e g, m.wrote.stored.kept), omega (arith, mapped-lies.state.fits))

      pub home-deep : {s₂ : List ℕ} → Stored (9 * (p - 1 - base)) s₁ (to + 9 * c) (take (9 * (p - 1 - base)) (drop (parent + 9 * (base + 1)) (bytes_in h s₁))) s₂
          → Composed s₀ to (compose (stack_at s₀ child c) (stack_at (bytes_in h s₀) parent p)) s₂ (c + (p - 1 - base))
      home-deep k = compose-deep q.both e m mapped-lies g k

-- ---- the two homes

pub apart-asks : {w : Bor (List ℕ)} {s : List ℕ} {child c to parent p : ℕ} → Composes s child c to w.now parent p → ComposesIn (Apart w) s child c to parent p
apart-asks {w} {parent = parent} {p = p} q = record { both = q; stays = λ n xs s' k h. state-lies w.now parent p q.parent_state }

pub here-asks : {s : List ℕ} {child c to parent p : ℕ} → ComposesKept s child c to parent p → ComposesIn Here s child c to parent p
here-asks {s} {child} {c} {to} {parent} {p} q =
    let few = cells-compose (stack_at s child c) (stack_at s parent p) in
    record { both = q.both; stays = λ n xs s' k h. lies-apart k (λ l. q.clear (omega (arith, h, few, child-count q.both))) (state-lies s parent p q.both.parent_state) }
