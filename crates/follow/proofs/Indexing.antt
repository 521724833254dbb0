-- The index's rows are right, block by block. Assumes nothing.
use Rattle.std.proofs.Common.{◌≡◌, ℕ, ◌+◌, ◌-◌, ◌*◌, ◌^◌, ◌<◌, ◌≤◌, Bool, true, false, eqb, List, [], ◌∷◌, ◌++◌, length, replicate, sym, refl, ap, ◌∙◌, subst, arith, w64, Fits, eqb-true, Option as Maybe, Some, Bor}
use native.Mathlib.Decide.{dec_lt}
use mathlib.Core.Option.{none, some}
use borrow.Author.Tests.{eqb-false}
use Rattle.spec.specs.Lists.{if, little}
use Rattle.spec.specs.Ending.{Final}
use Rattle.spec.specs.Follow.{starts_at, outgoing, starting}
use Rattle.laws.proofs.Branch.{if-true, if-false}
use Rattle.laws.proofs.Lists.{Rising, one_more}
use Rattle.laws.proofs.Members.{here, in_right}
use Rattle.theorems.proofs.Answered.{finals-at}
use Rattle.theorems.proofs.ReaderPlaces.{never}
use Rattle.theorems.proofs.FollowCounts.{above}
use Rattle.lent.specs.Bytes.{num_at, Stored}
use Rattle.lent.proofs.Numbers.{num-zeros}
use Rattle.lent.proofs.Stored.{kept-num, read_back}
use Rattle.follow.specs.Blocks.{finals_at, Begins, GivesBlock}
use Rattle.follow.specs.Finding.{Ready, Spot, RowIs, Rows, RowPut, Tells, Table}
use Rattle.follow.specs.Edges.{Owned, Linked}
use Rattle.follow.specs.declared.block.Block.{Block}
use Rattle.follow.specs.declared.block.Blocks.{Blocks}
use Rattle.follow.proofs.Passing.{Passing, pass_on, pass-sum, its-block, split-here, same-slot, slots-none, ready-walks, starting-append, starting-nil, starting-here, starting-later}
use Rattle.follow.proofs.Following.{held-rises}

-- ---- the first of blocks that starts at an address

starting-keeps : (q : ℕ) (xs ys : List Final) (g : Final) → starting q xs ≡ some g → starting q (xs ++ ys) ≡ some g
unfolding starting
starting-keeps q [] ys g e = never (cc)
starting-keeps q (x ∷ xs) ys g e = go (eqb q (starts_at x)) (λ z. starting-keeps q xs ys g z) e
  where
    go : (t : Bool) → (starting q xs ≡ some g → starting q (xs ++ ys) ≡ some g) → if t (some x) (starting q xs) ≡ some g → if t (some x) (starting q (xs ++ ys)) ≡ some g
    go true ih z = if-true true (some x) _ refl ∙ sym (if-true true (some x) (starting q xs) refl) ∙ z
    go false ih z = if-false false (some x) (starting q (xs ++ ys)) refl ∙ ih (sym (if-false false (some x) (starting q xs) refl) ∙ z)

rising_none : (xs : List Final) (f : Final) (ys : List Final) {lo : ℕ} → Rising lo (finals-at (xs ++ f ∷ ys)) → starting (starts_at f) xs ≡ none
rising_none [] f ys r = starting-nil (starts_at f)
rising_none (x ∷ xs) f ys (one_more l r) =
    let low = above (xs ++ f ∷ ys) r f (in_right xs here) in
    starting-later (starts_at f) x xs (λ e. omega arith) ∙ rising_none xs f ys r

-- ---- a row

pub put-row-is : {w w₁ w₂ : List ℕ} {start own slot : ℕ} → Stored 8 w (16 * start) (little 8 (own + 1)) w₁ → Stored 8 w₁ (16 * start + 8) (little 8 slot) w₂ → own + 1 < 2 ^ 64 → slot < 2 ^ 64
    → RowPut w start own slot w₂
put-row-is {start} s t l m =
    record {
      own_is = kept-num t 8 (16 * start) (λ _. omega arith) ∙ read_back s (omega arith);
      slot_is = read_back t (omega arith);
      apart = λ i h. kept-num t 8 i (λ u. omega (arith, h (omega arith))) ∙ kept-num s 8 i (λ u. h (omega arith));
      kept = t.kept ∙ s.kept;
    }

-- ---- the loop

pub record Filling (b work : List ℕ) (rows : ℕ) (s : Blocks) (slot : ℕ) (w : List ℕ) : Type 0 where
  pub passing : Passing b s slot
  pub filled : Rows b passing.before w rows
  pub table : Table b w rows
  pub kept : length w ≡ length work

pub fill_start : {map : Bor (List ℕ)} {work : List ℕ} {rows : ℕ} {s : Blocks} → s ≡ record { map = map; at = 0 } → Ready map.now → work ≡ replicate (length work) 0 → 16 * rows ≤ length work
    → Filling map.now work rows s 0 work
fill_start {work} {rows} e y z l =
    rw e (record {
      passing = record { same = refl; before = []; is = refl; count = sym slots-none; walking = ready-walks y };
      filled = record {
        fits = l;
        row = λ q _. record { empty = λ e. starting-nil q; full = λ n. absurd (n (nought (16 * q))) };
        beyond = λ q _. starting-nil q;
      };
      table = record { fits = l; entry = λ i. record { so = λ slot n e _. absurd (omega (arith, nought (16 * rows + 24 * i))) } };
      kept = refl;
    })
  where
    nought : (i : ℕ) → num_at 8 work i ≡ 0
    nought i = ap (λ (x : List ℕ). num_at 8 x i) z ∙ num-zeros 8 (length work) i

-- a row in bytes that are the same there
row_moved : {b : List ℕ} {fs : List Final} {w w' : List ℕ} {q : ℕ} → RowIs b fs w q
    → num_at 8 w' (16 * q) ≡ num_at 8 w (16 * q) → num_at 8 w' (16 * q + 8) ≡ num_at 8 w (16 * q + 8) → RowIs b fs w' q
row_moved r e d = record { empty = λ z. r.empty (sym e ∙ z); full = λ z. rw (e, d) (r.full (λ y. z (e ∙ y))) }

-- a row stays right while blocks come that start elsewhere
row-later : {b : List ℕ} {fs : List Final} {w w' : List ℕ} {q : ℕ} (f : Final) → RowIs b fs w q → (q ≡ starts_at f → ⊥)
    → num_at 8 w' (16 * q) ≡ num_at 8 w (16 * q) → num_at 8 w' (16 * q + 8) ≡ num_at 8 w (16 * q + 8) → RowIs b (fs ++ f ∷ []) w' q
row-later {b} {fs} {w} {w'} {q} f r n e d =
    record {
      empty = λ z. starting-append q fs (f ∷ []) (r.empty (sym e ∙ z)) ∙ starting-later q f [] n ∙ starting-nil q;
      full = λ z. moved (r.full (λ y. z (e ∙ y)));
    }
  where
    moved : Spot b fs q (num_at 8 w (16 * q) - 1) (num_at 8 w (16 * q + 8)) → Spot b (fs ++ f ∷ []) q (num_at 8 w' (16 * q) - 1) (num_at 8 w' (16 * q + 8))
    moved s =
        rw (e, d) (record {
          before = s.before;
          final = s.final;
          after = s.after;
          is = s.is;
          here = s.here;
          starts = starting-keeps q fs (f ∷ []) s.final s.starts;
          slot_is = s.slot_is;
          walking = s.walking;
        })

module _ {b work : List ℕ} {rows : ℕ} {s : Blocks} {slot : ℕ} {w : List ℕ} (i : Filling b work rows s slot w) {r : Maybe Block} {t : Blocks} (h : GivesBlock s r t) where
  module _ {k : Block} (z : r ≡ Some k) where
    pub fill-owned : Owned b (slot + 1) k.named
    fill-owned =
        let its = its-block i.passing h z in
        record {
          slot = slot;
          key_is = refl;
          out = λ before f after e n. its.is.named ∙ ap outgoing (same-slot i.passing.before before its.final f (finals_at b k.named.at) after (sym (split-here i.passing h z) ∙ e) (sym i.passing.count ∙ n));
        }

    pub fill_one : Ready b → Fits w64 (slot + 1)
    fill_one y = omega (arith, pass-sum i.passing h z refl, y.few)

    module _ (l : k.start < rows) where
      module _ {w₁ : List ℕ} (put : RowPut w k.start k.own slot w₁) where
        -- the entries stand behind the rows
        pub fill-table : Table b w₁ rows
        fill-table = record { fits = omega (arith, i.table.fits, put.kept); entry = λ j. moved (16 * rows + 24 * j) (omega arith) (i.table.entry j) }
          where
            behind : (x : ℕ) → 16 * rows ≤ x → num_at 8 w₁ x ≡ num_at 8 w x
            behind x g = put.apart x (λ u. omega arith)

            moved : (x : ℕ) → 16 * rows ≤ x → Tells b w x → Tells b w₁ x
            moved x g y =
                record { so = λ slot n e d. rw (behind (x + 8) (omega arith)) (y.so slot n (sym (behind x g) ∙ e) (sym (behind (x + 16) (omega arith)) ∙ d)) }

        module _ (y : Ready b) where
          abbrev first : Begins b s.at k
          first = its-block i.passing h z

          none_before : starting (starts_at first.final) i.passing.before ≡ none
          none_before = rising_none i.passing.before first.final (finals_at b k.named.at) (subst (λ (fs : List Final). Rising 0 (finals-at fs)) (split-here i.passing h z) (held-rises b y.map y.held))

          row_new : RowIs b (i.passing.before ++ first.final ∷ []) w₁ k.start
          row_new =
              record {
                empty = λ n. absurd (omega (arith, put.own_is));
                full = λ _. subst (λ (x : ℕ). Spot b (i.passing.before ++ first.final ∷ []) k.start x (num_at 8 w₁ (16 * k.start + 8))) at-is
                    (record {
                      before = i.passing.before;
                      final = first.final;
                      after = finals_at b k.named.at;
                      is = split-here i.passing h z ∙ ap (λ (l : List Final). i.passing.before ++ l) (sym first.own_here);
                      here = first.own_here;
                      starts = ap (λ (a : ℕ). starting a (i.passing.before ++ first.final ∷ [])) first.is.start
                          ∙ starting-append (starts_at first.final) i.passing.before (first.final ∷ []) none_before ∙ starting-here (starts_at first.final) first.final [] refl;
                      slot_is = put.slot_is ∙ i.passing.count;
                      walking = first.own_walking;
                    });
              }
            where
              at-is : k.own ≡ num_at 8 w₁ (16 * k.start) - 1
              at-is = omega (arith, put.own_is)

          row_old : (q : ℕ) → q < rows → (q ≡ k.start → ⊥) → RowIs b (i.passing.before ++ first.final ∷ []) w₁ q
          row_old q g n =
              row-later first.final (i.filled.row q g) (λ d. n (d ∙ sym first.is.start))
              (put.apart (16 * q) (apart (dec_lt q k.start))) (put.apart (16 * q + 8) (apart-2 (dec_lt q k.start)))
            where
              apart : Dec (q < k.start) → 16 * q < 16 * k.start + 16 → 16 * q + 8 ≤ 16 * k.start
              apart (yes x) _ = omega arith
              apart (no x) u = absurd (n (omega arith))

              apart-2 : Dec (q < k.start) → 16 * q + 8 < 16 * k.start + 16 → 16 * q + 8 + 8 ≤ 16 * k.start
              apart-2 (yes x) _ = omega arith
              apart-2 (no x) u = absurd (n (omega arith))

          pub fill_on : {m : ℕ} {w₂ : List ℕ} → Linked b w₁ rows k.named w₂ m → Filling b work rows t (slot + 1 + m) w₂
          fill_on g =
              record {
                passing = pass_on i.passing h z g.many refl;
                filled = record {
                  fits = g.table.fits;
                  row = λ q f. row_moved (by-start q f (eqb q k.start) refl) (g.rows_kept (16 * q) (omega arith)) (g.rows_kept (16 * q + 8) (omega arith));
                  beyond = λ q f. starting-append q i.passing.before (first.final ∷ []) (i.filled.beyond q f)
                      ∙ starting-later q first.final [] (λ d. omega (arith, first.is.start)) ∙ starting-nil q;
                };
                table = g.table;
                kept = g.kept ∙ put.kept ∙ i.kept;
              }
            where
              by-start : (q : ℕ) → q < rows → (t : Bool) → eqb q k.start ≡ t → RowIs b (i.passing.before ++ first.final ∷ []) w₁ q
              by-start q f true d = subst (RowIs b (i.passing.before ++ first.final ∷ []) w₁) (sym (eqb-true q k.start d)) row_new
              by-start q f false d = row_old q f (eqb-false q k.start d)

    pub fill-sum : Ready b → {w₁ w₂ : List ℕ} {m : ℕ} → Linked b w₁ rows k.named w₂ m → Fits w64 (slot + 1 + m)
    fill-sum y g = omega (arith, pass-sum i.passing h z g.many, y.few)
