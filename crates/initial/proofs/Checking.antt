-- The checks afterwards: a destination is looked up in the rows, a row's block is checked, and all blocks one after the other, each listed. Assumes nothing.
use mathlib.Core.Path.{◌≡◌, refl, sym, ap, ◌∙◌}
use mathlib.Core.Bool.{Bool, true, false, not, and-true}
use mathlib.Core.List.{List, [], ◌∷◌, ◌++◌, map, map-append, append-nil, nil≢cons}
use Prim.Native.Nat.{ℕ, zero, suc, ◌+◌, ◌-◌, ◌^◌, ◌≤◌, ◌<◌}
use native.Mathlib.Nat.{zero-add, suc-add}
use native.Mathlib.Numerals.{add-one}
use native.Mathlib.Omega.{arith}
use lib.Dec.{eqb, leb}
use lib.ListN.{length, get_or, take, drop, get_or-eq_default}
use borrow.Author.Tests.{lt-leb, eqb-true, eqb-false, not-true, not-false, eq-eqb, ne_eqb}
use Rattle.std.specs.Option.{is_some, unwrap_or}
use Rattle.std.specs.Prelude.{Option, Some, None}
use Rattle.spec.specs.Lists.{mem}
use Rattle.spec.specs.Blocks.{Kind, jump, jumpi, Block, block, with_kind, starts, lands, checked, check_all}
use Rattle.lent.specs.Bytes.{num_at, Holds}
use Rattle.lent.proofs.Parts.{take_less, drop_more, part-prefix, part-suffix}
use Rattle.lent.proofs.Stored.{kept-take, kept-drop}
use Rattle.laws.proofs.Branch.{both, if-true, if-false, and-false}
use Rattle.layout.specs.Parts.{ROW, row_place, rows_end, starts_place, start_place, SameRows}
use Rattle.layout.specs.Rows.{END, tag_at, PutBlock, BlockIs, starts_at}
use Rattle.layout.specs.declared.row.BlockType.{BlockType}
use Rattle.layout.specs.declared.row.BlockType.TheVariants.{Terminate, Jump, Jumpi, DynamicJump, DynamicJumpi}
use Rattle.layout.proofs.Types.{is-jump, is-jumpi, row-none, row-some, row-is_some}
use Rattle.initial.specs.Rows.{type_of, kind_of, kind_at, block_at, row_blocks, blocks_from, blocks_at, Laid}
use Rattle.initial.specs.Promises.{Rows, Apart, no_more, one_more, through, rechecked, CheckedRow, Listing, ListedRow, CheckedAll}
use Rattle.initial.proofs.Types.{Good, kind-type, good-terminate, good-jump, good}
use Rattle.initial.proofs.Rows.{part_at, here-row, from-prefix, from-part, from-split, blocks-split, here-empty, here-block, by_row, row-changed, start-at, start-past}
use Rattle.initial.proofs.Writing.{put-here, put-laid, laid-prefix}
use Rattle.initial.proofs.Listing.{list-none, list-suffix}

-- ---- a destination is looked up

module _ (code w : List ℕ) (t : ℕ) where
  pub starts-past : length code < t → leb t (length code) ≡ mem t (starts (blocks_at w (length code)))
  starts-past h = rw (lt-leb t (length code) h) (sym (start-past w t (length code) h))

  pub starts-type : {o : Option BlockType} → t ≤ length code → BlockIs w t o → is_some o ≡ mem t (starts (blocks_at w (length code)))
  starts-type h y = row-is_some y ∙ sym (start-at w t (length code) h)

  pub lands-past : length code ≤ t → false ≡ lands code (starts (blocks_at w (length code))) t
  lands-past h = sym (and-false (mem t (starts (blocks_at w (length code)))) (rw (get_or-eq_default code 0 h)))

  pub lands-other : (get_or code t 0 ≡ 0x5B → ⊥) → false ≡ lands code (starts (blocks_at w (length code))) t
  lands-other h = sym (and-false (mem t (starts (blocks_at w (length code)))) (ne_eqb _ _ h))

  pub lands-starts : {b : Bool} → get_or code t 0 ≡ 0x5B → b ≡ mem t (starts (blocks_at w (length code))) → b ≡ lands code (starts (blocks_at w (length code))) t
  lands-starts e q = q ∙ sym (rw (eq-eqb (get_or code t 0) 0x5B e) (and-true _))

-- ---- a type is checked, where the blocks start so

module _ (code ss : List ℕ) where
  pub jump_kept : {l : Bool} (to : ℕ) → l ≡ lands code ss to → l ≡ true → Jump to ≡ type_of (checked code ss (jump to))
  jump_kept to e p = sym (ap type_of (if-true _ _ _ (sym e ∙ p)))

  pub jump-ends : {l : Bool} (to : ℕ) → l ≡ lands code ss to → l ≡ false → Terminate false ≡ type_of (checked code ss (jump to))
  jump-ends to e p = sym (ap type_of (if-false _ _ _ (sym e ∙ p)))

  pub jumpi-ends : {m : Bool} (to f : ℕ) → m ≡ mem f ss → m ≡ false → Terminate false ≡ type_of (checked code ss (jumpi to f))
  jumpi-ends to f d q = sym (ap type_of (if-false _ _ _ (sym d ∙ q)))

  pub jumpi-kept : {l : Bool} (to f : ℕ) → mem f ss ≡ true → l ≡ lands code ss to → l ≡ true → Jumpi to f ≡ type_of (checked code ss (jumpi to f))
  jumpi-kept to f q e p = sym (ap type_of (if-true _ _ _ q ∙ if-true _ _ _ (sym e ∙ p)))

  pub jumpi-falls : {l : Bool} (to f : ℕ) → mem f ss ≡ true → l ≡ lands code ss to → l ≡ false → Jump f ≡ type_of (checked code ss (jumpi to f))
  jumpi-falls to f q e p = sym (ap type_of (if-true _ _ _ q ∙ if-false _ _ _ (sym e ∙ p)))

  abbrev Fits : Kind → Type 0
  Fits k = Good (type_of k)

  good-checked-jump : (to : ℕ) → to < 65536 → Fits (checked code ss (jump to))
  good-checked-jump to h = both Fits (lands code ss to) (λ _. good-jump to h) (λ _. good-terminate false)

  good-checked-jumpi : (to f : ℕ) → to < 65536 → f < 65536 → Fits (checked code ss (jumpi to f))
  good-checked-jumpi to f h g =
      both Fits (mem f ss) (λ _. both Fits (lands code ss to) (λ _. good (jumpi to f) h g) (λ _. good-jump f g)) (λ _. good-terminate false)

  -- a type that is neither Jump nor Jumpi stays
  kind-same : (t : BlockType) → ((to : ℕ) → t ≡ Jump to → ⊥) → ((to f : ℕ) → t ≡ Jumpi to f → ⊥) → checked code ss (kind_of t) ≡ kind_of t
  kind-same (Terminate success) h g = refl
  kind-same (Jump to) h g = absurd (h to refl)
  kind-same (Jumpi to f) h g = absurd (g to f refl)
  kind-same DynamicJump h g = refl
  kind-same (DynamicJumpi f) h g = refl

-- ---- a row's block is checked

module _ {code w : List ℕ} {a : ℕ} {o : Option BlockType} (r : Rows code w) (h : a ≤ length code) (y : BlockIs w a o) where
  ss : List ℕ
  ss = starts (blocks_at w (length code))

  -- the block that stands there
  there : {t : BlockType} → o ≡ Some t → row_blocks w a ≡ block_at w a ∷ []
  there q = here-block w a (row-some y q).0

  kind-there : {t : BlockType} → o ≡ Some t → kind_at w a ≡ kind_of t
  kind-there q = ap kind_of (row-some y q).1

  row_written : {w' : List ℕ} {t : BlockType} {end : ℕ} {k : BlockType} → o ≡ Some t → Holds 2 w (row_place a + END) end → kind_of k ≡ checked code ss (kind_of t) → Good k → PutBlock w a end k w'
      → CheckedRow code w a w' end
  unfolding ss
  row_written {w'} {t} {end} {k} z e q g p =
      record {
        same = put-here p g e.small ∙ rw (q, e.is, ← kind-there z) (sym (ap (map (rechecked code (starts (blocks_at w (length code))))) (there z)));
        before = kept-take p.stored (row_place a) (omega arith);
        past = kept-drop p.stored (row_place (a + 1)) (omega arith);
        end = e.is ∙ sym (ap (through a) (there z));
        laid = put-laid p (length code) r.laid h g e.small;
        kept = p.stored.kept;
      }

  pub row-jump : {w' : List ℕ} {t : BlockType} {to end : ℕ} {k : BlockType} → o ≡ Some t → t ≡ Jump to → Holds 2 w (row_place a + END) end
      → k ≡ type_of (checked code (starts (blocks_at w (length code))) (jump to)) → PutBlock w a end k w' → CheckedRow code w a w' end
  unfolding ss
  row-jump {w'} {t} {to} z j e q p =
      let z : o ≡ Some (Jump to) = rw j at z in
      let t = row-some y z in
      let side = is-jump _ _ _ t.0 t.1 in
      row_written z e (ap kind_of q ∙ kind-type _) (rw q (good-checked-jump code ss to (rw side.1 at y.to))) p

  pub row-jumpi : {w' : List ℕ} {t : BlockType} {to f end : ℕ} {k : BlockType} → o ≡ Some t → t ≡ Jumpi to f → Holds 2 w (row_place a + END) end
      → k ≡ type_of (checked code (starts (blocks_at w (length code))) (jumpi to f)) → PutBlock w a end k w' → CheckedRow code w a w' end
  unfolding ss
  row-jumpi {w'} {t} {to} {f} z j e q p =
      let z : o ≡ Some (Jumpi to f) = rw j at z in
      let t = row-some y z in
      let sides = is-jumpi _ _ _ t.0 t.1 in
      row_written z e (ap kind_of q ∙ kind-type _) (rw q (good-checked-jumpi code ss to f (rw sides.1 at y.to) (rw sides.2 at y.other))) p

  row_kept : {end : ℕ} → row_blocks w a ≡ map (rechecked code (starts (blocks_at w (length code)))) (row_blocks w a) → end ≡ through a (row_blocks w a) → CheckedRow code w a w end
  row_kept s e = record { same = s; before = refl; past = refl; end = e; laid = r.laid; kept = refl }

  pub row-empty : o ≡ None → CheckedRow code w a w a
  row-empty z =
      let none = here-empty w a (row-none y z) in
      row_kept (rw none) (rw none)

  -- whether a block starts there is said
  pub empty-starts : o ≡ None → false ≡ not (eqb (tag_at w a) 0)
  empty-starts z = sym (ap is_some z) ∙ row-is_some y

  pub some-starts : {t : BlockType} → o ≡ Some t → true ≡ not (eqb (tag_at w a) 0)
  some-starts z = sym (ap is_some z) ∙ row-is_some y

  pub row_same : {t : BlockType} {end : ℕ} → o ≡ Some t → ((to : ℕ) → t ≡ Jump to → ⊥) → ((to f : ℕ) → t ≡ Jumpi to f → ⊥) → Holds 2 w (row_place a + END) end → CheckedRow code w a w end
  row_same {t} z c d e =
      let s = kind-same code (starts (blocks_at w (length code))) t c d in
      row_kept (rw (there z) (ap {B = List Block} (λ (k : Kind). block a a (num_at 2 w (row_place a + END)) k ∷ []) (sym (rw (← kind-there z) at s)))) (e.is ∙ rw (there z))

-- ---- no block starts behind another's start up to its end

any-low : {n lo : ℕ} {bs : List Block} → Apart n lo bs → Apart n 0 bs
any-low no_more = no_more
any-low (one_more {b} l f i s) = one_more {lo = 0} {b = b} (omega arith) f i s

apart-later : {n lo : ℕ} (xs : List Block) {ys : List Block} → Apart n lo (xs ++ ys) → Apart n 0 ys
apart-later [] s = any-low s
apart-later (x ∷ xs) (one_more l f i s) = apart-later xs s

first-low : {n lo : ℕ} {b : Block} {bs : List Block} → Apart n lo (b ∷ bs) → lo ≤ b.start
first-low (one_more l f i s) = l

module _ (w : List ℕ) (n : ℕ) where
  -- none stands in the k rows from a on, where the first is behind them
  apart_none : {lo : ℕ} (a k m : ℕ) → a + k ≤ lo → Apart n lo (blocks_from w a (k + m)) → blocks_from w a k ≡ []
  unfolding blocks_from
  apart_none a zero m h s = refl
  apart_none {lo} a (suc k) m h s =
      by_row w a (λ (bs : List Block). Apart n lo (bs ++ blocks_from w (suc a) (k + m)) → bs ++ blocks_from w (suc a) k ≡ []) (λ _ t. apart_none (suc a) k m (omega arith) t)
      (λ _ t. absurd (omega (arith, first-low t))) (rw suc-add at s)

  -- the checks may go on behind r after the row of a
  record Clear (a r : ℕ) : Type 0 where
    forward : a ≤ r
    inside : r ≤ n
    none : blocks_from w (suc a) (r - a) ≡ []

  clear : (a : ℕ) → a ≤ n → Apart n 0 (blocks_at w n) → Clear a (through a (row_blocks w a))
  unfolding blocks_from
  clear a h s =
      by_row w a (λ (bs : List Block). Apart n 0 (bs ++ blocks_from w (suc a) (n - a)) → Clear a (through a bs)) (λ _ _. alone) (λ _ t. ends t refl)
      (apart-later (blocks_from w 0 a) (rw (blocks-split w n a h) at s))
    where
      alone : Clear a a
      alone = let e : a - a ≡ 0 = omega arith in record { forward = omega arith; inside = h; none = rw e }

      ends : {b : Block} → Apart n 0 (b ∷ blocks_from w (suc a) (n - a)) → b.start ≡ a → Clear a b.end
      ends {b} (one_more l f i t) q =
          let e : n - a ≡ b.end - a + (n - b.end) = omega arith in
          record { forward = omega arith; inside = i; none = apart_none (suc a) (b.end - a) (n - b.end) (omega arith) (rw e at t) }

-- ---- all blocks, one after the other

-- the rows before a are checked, and the starts of their blocks are listed; all else is as it was
pub record Checking (code w₀ w : List ℕ) (a many : ℕ) : Type 0 where
  pub front : blocks_from w 0 a ≡ map (rechecked code (starts (blocks_at w₀ (length code)))) (blocks_from w₀ 0 a)
  pub list : starts_at w (length code) 0 many ≡ starts (blocks_from w₀ 0 a)
  pub few : many ≤ a
  pub back : take (starts_place (length code) - row_place a) (drop (row_place a) w) ≡ take (starts_place (length code) - row_place a) (drop (row_place a) w₀)
  pub past : drop (start_place (length code) many) w ≡ drop (start_place (length code) many) w₀
  pub laid : Laid w (length code)
  pub kept : length w ≡ length w₀
  pub inside : a ≤ length code + 1

-- the checks keep where blocks start
starts-same : (f : Kind → Kind) (xs : List Block) → starts (map (λ (b : Block). with_kind (f b.kind) b) xs) ≡ starts xs
starts-same f [] = refl
starts-same f (x ∷ xs) = ap {B = List ℕ} (λ (ns : List ℕ). x.start ∷ ns) (starts-same f xs)

starts-append : (xs ys : List Block) → starts (xs ++ ys) ≡ starts xs ++ starts ys
starts-append xs ys = map-append (λ (b : Block). b.start) xs ys

pub check-none : {code w : List ℕ} → Rows code w → Checking code w w 0 0
unfolding blocks_from starts_at
check-none r = record { front = refl; list = refl; few = omega arith; back = refl; past = refl; laid = r.laid; kept = refl; inside = omega arith }

module _ {code w₀ w : List ℕ} {a many : ℕ} (r : Rows code w₀) (g : Checking code w₀ w a many) where
  -- a part of the rows that are not checked yet
  ahead : (x m : ℕ) → a ≤ x → x + m ≤ length code + 1 → blocks_from w x m ≡ blocks_from w₀ x m
  ahead x m l h = from-part w w₀ x m (starts_place (length code) - row_place a) (row_place a) g.back (omega arith) (omega (arith, g.inside))

  -- the checks keep where blocks start, so that each looks up what all look up
  starts-kept : starts (blocks_at w (length code)) ≡ starts (blocks_at w₀ (length code))
  starts-kept =
      let k : ℕ = suc (length code) - a in
      let e : suc (length code) ≡ a + k = omega (arith, g.inside) in
      let rest : blocks_from w a k ≡ blocks_from w₀ a k = ahead a k (omega arith) (omega (arith, g.inside)) in
      let front : starts (blocks_from w 0 a) ≡ starts (blocks_from w₀ 0 a) = ap starts g.front ∙ starts-same (checked code (starts (blocks_at w₀ (length code)))) (blocks_from w₀ 0 a) in
      rw (e, from-split w a k 0, from-split w₀ a k 0, zero-add, rest, starts-append (blocks_from w 0 a), starts-append (blocks_from w₀ 0 a), front)

  module _ (s : Apart (length code) 0 (blocks_at w₀ (length code))) (h : a ≤ length code) {w₁ : List ℕ} {end : ℕ} (c : CheckedRow code w a w₁ end) where
    old : row_blocks w a ≡ row_blocks w₀ a
    old = here-row w w₀ a (part_at w w₀ (starts_place (length code) - row_place a) (row_place a) g.back ROW (row_place a) (omega arith) (omega arith))

    passed : Clear w₀ (length code) a end
    passed = rw (c.end, old) (clear w₀ (length code) a h s)

    pub check-listing : Listing (length code) w₁ a many
    check-listing = record { short = r.lent.short; room = omega (arith, c.kept, g.kept, r.lent.room); inside = h; few = g.few }

    fits : end + 1 < 2 ^ 64
    fits = omega (arith, passed.inside, r.lent.short)

    less : length code + 1 - (end + 1) < length code + 1 - a
    less = omega (arith, passed.forward)

    -- the row's block starts where it did
    same_start : starts (row_blocks w₁ a) ≡ starts (row_blocks w₀ a)
    same_start = ap starts c.same ∙ starts-same (checked code (starts (blocks_at w (length code)))) (row_blocks w a) ∙ ap starts old

    behind : blocks_from w (suc a) (end - a) ≡ []
    behind = ahead (suc a) (end - a) (omega arith) (omega (arith, passed.forward, passed.inside)) ∙ passed.none

    -- the blocks before the next turn, as they were
    next : blocks_from w₀ 0 (suc end) ≡ blocks_from w₀ 0 a ++ row_blocks w₀ a
    next = rw (blocks-split w₀ end a passed.forward, passed.none, append-nil)

    module _ {w₂ : List ℕ} {more : ℕ} (l : ListedRow (length code) w₁ a many w₂ more) where
      low : rows_end (length code) ≤ start_place (length code) many
      low = omega arith

      rows_same : SameRows (length code) w₁ w₂
      rows_same = take_less w₂ w₁ (start_place (length code) many) l.before (rows_end (length code)) low

      checked-front : blocks_from w₂ 0 (suc end) ≡ map (rechecked code (starts (blocks_at w₀ (length code)))) (blocks_from w₀ 0 (suc end))
      checked-front =
          from-prefix w₂ w₁ 0 (suc end) (rows_end (length code)) rows_same (omega (arith, passed.inside))
          ∙ row-changed w₁ w end a passed.forward c.before c.past
          ∙ rw (behind, g.front, c.same, old, starts-kept, next, append-nil) (sym (map-append _ (blocks_from w₀ 0 a) (row_blocks w₀ a)))

      listed-front : starts_at w₂ (length code) 0 more ≡ starts (blocks_from w₀ 0 (suc end))
      listed-front =
          l.list
          ∙ rw (list-suffix (length code) w₁ w many (row_place (a + 1)) c.past (omega arith), g.list, same_start, next)
          (sym (starts-append (blocks_from w₀ 0 a) (row_blocks w₀ a)))

      kept_back : take (starts_place (length code) - row_place (end + 1)) (drop (row_place (end + 1)) w₂)
          ≡ take (starts_place (length code) - row_place (end + 1)) (drop (row_place (end + 1)) w₀)
      kept_back =
          let k : ℕ = starts_place (length code) - row_place (end + 1) in
          part-prefix w₂ w₁ (start_place (length code) many) l.before k (row_place (end + 1)) (omega (arith, passed.inside))
          ∙ part-suffix w₁ w (row_place (a + 1)) c.past k (row_place (end + 1)) (omega (arith, passed.forward))
          ∙ part_at w w₀ (starts_place (length code) - row_place a) (row_place a) g.back k (row_place (end + 1)) (omega (arith, passed.forward)) (omega (arith, passed.inside))

      more-checked : Checking code w₀ w₂ (end + 1) more
      more-checked =
          record {
            front = rw add-one checked-front;
            list = rw add-one listed-front;
            few = omega (arith, passed.forward, l.few, g.few);
            back = kept_back;
            past =
                l.past
                ∙ drop_more w₁ w (row_place (a + 1)) c.past (start_place (length code) more) (omega arith)
                ∙ drop_more w w₀ (start_place (length code) many) g.past (start_place (length code) more) (omega (arith, l.low));
            laid = laid-prefix c.laid rows_same;
            kept = l.kept ∙ c.kept ∙ g.kept;
            inside = omega (arith, passed.inside);
          }

  -- as the loop has them: the block's end, if one starts there
  module _ (s : Apart (length code) 0 (blocks_at w₀ (length code))) (h : a ≤ length code) {w₁ : List ℕ} {o : Option ℕ} (c : CheckedRow code w a w₁ (unwrap_or o a))
      (q : is_some o ≡ not (eqb (tag_at w a) 0)) where
    module _ {end : ℕ} (e : o ≡ Some end) where
      is-end : unwrap_or o a ≡ end
      is-end = ap (λ (r : Option ℕ). unwrap_or r a) e

      pub check-starts : tag_at w₁ a ≡ 0 → ⊥
      check-starts z =
          let there = here-block w a (eqb-false _ _ (not-true _ (sym q ∙ ap is_some e))) in
          let kept : row_blocks w₁ a ≡ rechecked code (starts (blocks_at w (length code))) (block_at w a) ∷ [] = c.same ∙ ap (map (rechecked code (starts (blocks_at w (length code))))) there in
          nil≢cons (sym (here-empty w₁ a z) ∙ kept)

      pub check-fits : end + 1 < 2 ^ 64
      check-fits = rw is-end at (fits s h c)

      pub check-less : length code + 1 - (end + 1) < length code + 1 - a
      check-less = rw is-end at (less s h c)

      pub check-more : {w₂ : List ℕ} → ListedRow (length code) w₁ a many w₂ (many + 1) → Checking code w₀ w₂ (end + 1) (many + 1)
      check-more l = rw is-end at (more-checked s h c l)

    pub check-past : o ≡ None → Checking code w₀ w₁ (a + 1) many
    check-past e =
        let none = here-empty w a (eqb-true _ _ (not-false _ (sym q ∙ ap is_some e))) in
        let same : unwrap_or o a ≡ a = ap (λ (r : Option ℕ). unwrap_or r a) e in
        rw same at (more-checked s h c (list-none (check-listing s h c) (c.same ∙ rw none)))

  pub check_done : length code < a → CheckedAll code w₀ w many
  check_done h =
      let e : a ≡ suc (length code) = omega (arith, g.inside) in
      let all : row_place a ≡ rows_end (length code) = omega arith in
      let front : blocks_at w (length code) ≡ check_all code (blocks_at w₀ (length code)) = rw e at g.front in
      let list : starts_at w (length code) 0 many ≡ starts (blocks_at w₀ (length code)) = rw e at g.list in
      record {
        same = front;
        laid = g.laid;
        listed = record { is = list ∙ sym (ap starts front ∙ starts-same (checked code (starts (blocks_at w₀ (length code)))) (blocks_at w₀ (length code))) };
        few = omega (arith, g.few, g.inside);
        between = rw all at g.back;
        past = g.past;
        kept = g.kept;
      }
