-- What the small functions write and read. Assumes nothing.
use mathlib.Core.Path.{◌≡◌, refl, sym, ap, ◌∙◌}
use mathlib.Core.Bool.{Bool, true, false}
use mathlib.Core.Logic.{◌⊎◌, inl, inr}
use mathlib.Core.List.{List}
use mathlib.Core.Option.{none, some}
use Prim.Native.Nat.{ℕ, ◌+◌, ◌-◌, ◌*◌, ◌≤◌, ◌<◌}
use native.Mathlib.Omega.{arith}
use lib.Dec.{leb, ltb}
use borrow.Author.Tests.{eq-eqb, ne_eqb, lt-ltb, le-ltb, leb-true, leb-false}
use Rattle.std.specs.Prelude as Option
use Rattle.spec.specs.Opcodes.{in_mode}
use Rattle.spec.specs.Lists.{if, little}
use Rattle.spec.specs.Walk.{instructions}
use Rattle.spec.specs.Stacks.{Ran as Run-of, run}
use Rattle.lent.specs.Bytes.{num_at, Holds, Stored}
use Rattle.laws.proofs.Branch.{if-true, if-false}
use Rattle.layout.specs.Parts.{row_place}
use Rattle.layout.specs.Rows.{END, TO, POSITION, FIRST, NEXT, NEXT-OTHER, TAKER, OTHER, next_at, tag_of, typed, read_as, tag_at, type_at, numbered, numbers_at, TypeIs, BlockIs, PutBlock}
use Rattle.layout.specs.declared.row.RowType.{RowType}
use Rattle.layout.specs.declared.row.BlockType.{BlockType}
use Rattle.layout.specs.declared.row.BlockType.TheVariants.{Jump, Jumpi, DynamicJumpi}
use Rattle.layout.proofs.Types.{by-byte, is-jump, is-jumpi, is-dynamic_jumpi, read-block, row-none, row-some, tag-dynamic}
use Rattle.state.specs.Symbols.{sym_of}
use Rattle.exec.specs.Owns.{goes_of, Owned}
use Rattle.state.specs.declared.sym.StackSym.{StackSym}
use Rattle.state.specs.declared.sym.StackSym.TheVariants.{Before, Constant, Jumpdest, Other}
use Rattle.exec.specs.declared.run.Own.{Own}
use Rattle.parents.specs.Writes.{link, link_sides, take_turn, static_type, make_static, place, goes_at}
use Rattle.state.proofs.States.{own-walked}
use Rattle.parents.specs.Promises.{Sides, LinkRoom, Wrote, Settles, Ran, Settled, Placed, Number}

pub number_is : {k at r : ℕ} {w : List ℕ} → Holds k w at r → Number r (num_at k w at) k
number_is h = record { is = h.is; small = h.small }

-- ---- one side

pub link-wrote : (a side t : ℕ) {first : ℕ} {w w₁ w₂ : List ℕ} → Holds 2 w (row_place t + FIRST) first → Stored 2 w (row_place a + NEXT + 2 * side) (little 2 first) w₁
    → Stored 2 w₁ (row_place t + FIRST) (little 2 (a + 1)) w₂ → Wrote w w₂ (link w a side t)
unfolding link
link-wrote a side t h p q = record { is = q.is ∙ rw (p.is, h.is); kept = q.kept ∙ p.kept }

-- ---- every side

module _ {w : List ℕ} {a : ℕ} {n : RowType} (y : TypeIs w a n) where
  module _ {o : Option.Option BlockType} (said : o ≡ read_as n.kind n.to n.other) where
    module _ {t : BlockType} (there : o ≡ Option.Some t) where
      read : {u : BlockType} → t ≡ u → (tag_at w a ≡ 0 → ⊥) × (type_at w a ≡ u)
      read e = let h = row-some (read-block y said) there in (h.0, h.1 ∙ e)

      is-to : {to : ℕ} → t ≡ Jump to → (tag_at w a ≡ 3) × (num_at 2 w (row_place a + TO) ≡ to)
      is-to e = let h = read e in is-jump _ _ _ h.0 h.1

      sides-are : {to f : ℕ} → t ≡ Jumpi to f → (tag_at w a ≡ 4) × (num_at 2 w (row_place a + TO) ≡ to) × (num_at 2 w (row_place a + OTHER) ≡ f)
      sides-are e = let h = read e in is-jumpi _ _ _ h.0 h.1

      is-false : {f : ℕ} → t ≡ DynamicJumpi f → (6 ≤ tag_at w a) × (num_at 2 w (row_place a + OTHER) ≡ f)
      is-false e = let h = read e in is-dynamic_jumpi _ _ _ h.0 h.1

      module _ (s : Sides w a) where
        pub room-to : {to : ℕ} → t ≡ Jump to → LinkRoom w a 0 to
        room-to e = record { own = s.own; to = rw (is-to e).1 at s.to; one = omega arith }

        module _ {to f : ℕ} (e : t ≡ Jumpi to f) where
          pub room-other : LinkRoom w a 1 f
          room-other = record { own = s.own; to = rw (sides-are e).2 at s.other; one = omega arith }

          pub room-once : LinkRoom w a 0 to
          room-once = record { own = s.own; to = rw (sides-are e).1 at s.to; one = omega arith }

          pub room-then : {w₁ v : List ℕ} → Wrote w w₁ v → LinkRoom w₁ a 0 to
          room-then p = record { own = omega (arith, s.own, p.kept); to = rw p.kept (rw (sides-are e).1 at s.to); one = omega arith }

        pub room-false : {f : ℕ} → t ≡ DynamicJumpi f → LinkRoom w a 1 f
        room-false e = record { own = s.own; to = rw (is-false e).1 at s.other; one = omega arith }

      module _ {w' : List ℕ} where
        pub sides-jump : {to : ℕ} → t ≡ Jump to → Wrote w w' (link w a 0 to) → Wrote w w' (link_sides w a (numbers_at w a))
        unfolding link_sides if
        sides-jump e p = let h = is-to e in rw (h.0, h.1) p

        pub sides-once : {to f : ℕ} → t ≡ Jumpi to f → to ≡ f → Wrote w w' (link w a 0 to) → Wrote w w' (link_sides w a (numbers_at w a))
        unfolding link_sides if
        sides-once e q p = let h = sides-are e in rw (h.0, h.1, h.2) (record { is = p.is ∙ sym (if-true _ _ _ (eq-eqb _ _ q)); kept = p.kept })

        pub sides-both : {to f : ℕ} {w₁ : List ℕ} → t ≡ Jumpi to f → (to ≡ f → ⊥) → Wrote w w₁ (link w a 1 f) → Wrote w₁ w' (link w₁ a 0 to)
            → Wrote w w' (link_sides w a (numbers_at w a))
        unfolding link_sides if
        sides-both {to} e q p r =
            let h = sides-are e in
            rw (h.0, h.1, h.2) (record { is = r.is ∙ ap (λ (v : List ℕ). link v a 0 to) p.is ∙ sym (if-false _ _ _ (ne_eqb _ _ q)); kept = r.kept ∙ p.kept })

        -- a DynamicJumpi's byte is 6, and any above reads the same
        pub sides-false : {f : ℕ} {b : Bool} → b ≡ leb n.kind 6 → b ≡ true → t ≡ DynamicJumpi f → Wrote w w' (link w a 1 f) → Wrote w w' (link_sides w a (numbers_at w a))
        unfolding link_sides if
        sides-false k b e p =
            let h = is-false e in
            let low : n.kind ≤ 6 = leb-true n.kind 6 (sym k ∙ b) in
            let six : tag_at w a ≡ 6 = omega (arith, h.0, low, ap (λ (m : RowType). m.kind) y.is) in
            rw (six, h.1) p

    pub sides-empty : o ≡ Option.None → Wrote w w (link_sides w a (numbers_at w a))
    unfolding link_sides if
    sides-empty e = let z : tag_at w a ≡ 0 = row-none (read-block y said) e in record { is = rw z; kept = refl }

  pub sides-unknown : {b : Bool} → b ≡ leb n.kind 6 → b ≡ false → Wrote w w (link_sides w a (numbers_at w a))
  unfolding link_sides if
  sides-unknown k b =
      let above : 6 < tag_at w a = omega (arith, leb-false n.kind 6 (sym k ∙ b), ap (λ (m : RowType). m.kind) y.is) in
      record { is = rw (ne_eqb (tag_at w a) 3 (λ e. omega arith), ne_eqb (tag_at w a) 4 (λ e. omega arith), ne_eqb (tag_at w a) 6 (λ e. omega arith)); kept = refl }

abbrev Sideless : BlockType → Type 0
Sideless t = ((to : ℕ) → t ≡ Jump to → ⊥) × ((to f : ℕ) → t ≡ Jumpi to f → ⊥) × ((f : ℕ) → t ≡ DynamicJumpi f → ⊥)

no-sides : (w : List ℕ) (a k to f : ℕ) → (k ≡ 0 → ⊥) → Sideless (typed k to f) → link_sides w a (numbered k to f) ≡ w
unfolding link_sides if
no-sides w a k to f =
    by-byte k to f (λ t. Sideless t → link_sides w a (numbered k to f) ≡ w) (λ e _. rw e) (λ e _. rw e)
    (λ _ h. absurd (h.0 to refl)) (λ _ h. absurd (h.1 to f refl)) (λ e _. rw e) (λ _ _ h. absurd (h.2 f refl))

pub sides-none : {w : List ℕ} {a : ℕ} {n : RowType} {o : Option.Option BlockType} {t : BlockType} → TypeIs w a n → o ≡ read_as n.kind n.to n.other → o ≡ Option.Some t
    → ((to : ℕ) → t ≡ Jump to → ⊥) → ((to f : ℕ) → t ≡ Jumpi to f → ⊥) → ((f : ℕ) → t ≡ DynamicJumpi f → ⊥) → Wrote w w (link_sides w a (numbers_at w a))
sides-none {w} {a} y said e h g k =
    let r = row-some (read-block y said) e in
    record { is = sym (no-sides w a _ _ _ r.0 (λ x q. h x (sym r.1 ∙ q), λ x z q. g x z (sym r.1 ∙ q), λ x q. k x (sym r.1 ∙ q))); kept = refl }

-- ---- the next parent

module _ (w : List ℕ) (t link : ℕ) {x y : ℕ} (h : Holds 2 w (row_place (link - 1) + TO) x) where
  pub next-to : x ≡ t → Holds 2 w (row_place (link - 1) + NEXT) y → Number y (next_at w t link) 2
  next-to e n = record { is = n.is ∙ sym (if-true _ _ _ (eq-eqb _ _ (sym h.is ∙ e))); small = n.small }

  pub next-other : (x ≡ t → ⊥) → Holds 2 w (row_place (link - 1) + NEXT-OTHER) y → Number y (next_at w t link) 2
  next-other d n = record { is = n.is ∙ sym (if-false _ _ _ (ne_eqb _ _ (λ e. d (h.is ∙ e)))); small = n.small }

-- ---- a turn

pub turn-wrote : (a p many : ℕ) {w w₁ w₂ : List ℕ} → Stored 4 w (row_place a + POSITION) (little 4 p) w₁ → Stored 2 w₁ (row_place many + TAKER) (little 2 a) w₂
    → Wrote w w₂ (take_turn w a p many)
unfolding take_turn
turn-wrote a x many p q = record { is = q.is ∙ rw p.is; kept = q.kept ∙ p.kept }

-- ---- a static type

pub static-wrote : (a : ℕ) (t : BlockType) (to : ℕ) {last : ℕ} {k : BlockType} {w w' : List ℕ} → Holds 2 w (row_place a + END) last → k ≡ static_type t to → PutBlock w a last k w'
    → Wrote w w' (make_static w a t to)
static-wrote a t to h q p = record { is = p.stored.is ∙ rw (q, h.is); kept = p.stored.kept }

-- ---- what a run settles

module _ {w : List ℕ} {a : ℕ} {t : BlockType} (many : ℕ) where
  pub place-jumpdest : (x : StackSym) {to : ℕ} {w' : List ℕ} → x ≡ Jumpdest to → Wrote w w' (make_static w a t to) → Placed w a t (some (sym_of x)) many w' many
  unfolding place
  place-jumpdest x e p = rw e (record { is = p.is; count = refl; kept = p.kept })

  pub place-before : (x : StackSym) {p : ℕ} {w' : List ℕ} → x ≡ Before p → Wrote w w' (take_turn w a p many) → Placed w a t (some (sym_of x)) many w' (many + 1)
  unfolding place
  place-before x e p = rw e (record { is = p.is; count = refl; kept = p.kept })

  pub place-stays : (x : StackSym) → ((v : ℕ) × (x ≡ Constant v)) ⊎ ((pc : ℕ) × (x ≡ Other pc)) → Placed w a t (some (sym_of x)) many w many
  unfolding place
  place-stays x (inl e) = rw e.1 (record { is = refl; count = refl; kept = refl })
  place-stays x (inr e) = rw e.1 (record { is = refl; count = refl; kept = refl })

module _ {code w : List ℕ} {end a many : ℕ} (s : Settles code w end a many) {o : Option.Option BlockType} (y : BlockIs w a o) where
  stays : {mode : ℕ} → tag_at w a < 5 → Settled mode code w end a many w many
  unfolding goes_at place
  stays {mode} h =
      let e = if-true (ltb (tag_at w a) 5) none (run (in_mode mode) code (instructions code) a).goes (lt-ltb (tag_at w a) 5 h) in
      record { after = w; ran = record { front = refl; back = refl; kept = refl }; is = rw e; count = rw e; kept = refl }

  pub settle-none : {mode : ℕ} → o ≡ Option.None → Settled mode code w end a many w many
  settle-none e = stays (omega (arith, row-none y e))

  module _ {t : BlockType} (there : o ≡ Option.Some t) where
    -- a block is dynamic by its byte
    tag_is : {b : Bool} → b ≡ leb 5 (tag_of t) → b ≡ leb 5 (tag_at w a)
    tag_is e = let h = row-some y there in e ∙ ap (λ (u : BlockType). leb 5 (tag_of u)) (sym h.1) ∙ tag-dynamic _ _ _ h.0

    pub settle-static : {mode : ℕ} {b : Bool} → b ≡ leb 5 (tag_of t) → b ≡ false → Settled mode code w end a many w many
    settle-static e f = stays (omega (arith, leb-false 5 (tag_at w a) (sym (tag_is e) ∙ f)))

    module _ {mode : ℕ} {w₁ : List ℕ} {own : Own} {b : Bool} (dynamic : b ≡ leb 5 (tag_of t)) (is : b ≡ true) (d : Owned mode code a w end w₁ own) where
      high : 5 ≤ tag_at w a
      high = leb-true 5 (tag_at w a) (sym (tag_is dynamic) ∙ is)

      ran-in : Ran code w end w₁
      ran-in =
          record {
            front = d.inside.front;
            back = d.inside.back;
            kept = d.inside.kept;
          }

      goes-is : goes_at mode code w a ≡ goes_of own.goes
      unfolding goes_at
      goes-is = if-false _ _ _ (le-ltb (tag_at w a) 5 high) ∙ sym (ap (λ (r : Run-of). r.goes) (own-walked mode code a (s.stands high))) ∙ sym d.goes

      pub settle-nowhere : own.goes ≡ Option.None → Settled mode code w end a many w₁ many
      unfolding place
      settle-nowhere e =
          let g : goes_at mode code w a ≡ none = goes-is ∙ ap goes_of e in
          record { after = w₁; ran = ran-in; is = rw g; count = rw g; kept = d.inside.kept }

      pub settle-placed : {x : StackSym} {w₂ : List ℕ} {r : ℕ} → own.goes ≡ Option.Some x → Placed w₁ a t (some (sym_of x)) many w₂ r → Settled mode code w end a many w₂ r
      settle-placed {x} e p =
          let g : goes_at mode code w a ≡ some (sym_of x) = goes-is ∙ ap goes_of e in
          let q : type_at w a ≡ t = (row-some y there).1 in
          record { after = w₁; ran = ran-in; is = rw (g, q) p.is; count = rw g p.count; kept = p.kept ∙ d.inside.kept }
