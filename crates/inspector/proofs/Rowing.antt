-- The entries that are not right, a row after the other: with what is left to look at the rows end as the whole does. Assumes nothing.
use Prim.Native.Nat.{ℕ, ◌+◌, ◌-◌, ◌^◌, ◌≤◌, ◌<◌}
use native.Mathlib.Omega.{arith}
use mathlib.Core.Path.{◌≡◌, refl, sym, ap, ◌∙◌}
use mathlib.Core.Bool.{Bool, true, false, not}
use mathlib.Core.List.{List, [], ◌∷◌, ◌++◌, append_assoc}
use mir.Syntax.{w64}
use mir.Val.{Fits}
use lib.Dec.{leb}
use lib.ListN.{length, take, drop, take-append-drop, length-drop}
use lib.Seq.{drop-drop}
use borrow.Author.Tests.{leb-true, leb-false, le-leb, lt-leb}
use Rattle.std.specs.Prelude.{Result, Ok, Err}
use Rattle.spec.specs.Lists.{little}
use Rattle.spec.specs.Inspector.{WrongPath, first_of, rows}
use Rattle.laws.proofs.Branch.{if-true, if-false}
use Rattle.theorems.proofs.ReaderPlaces.{never}
use Rattle.lent.specs.Bytes.{Stored}
use Rattle.lent.proofs.Stored.{stored-join, kept-drop, read_take}
use Rattle.reader.specs.Walks.{Walking}
use Rattle.inspector.specs.Tables.{Tables, Filled}
use Rattle.inspector.specs.Entries.{wrong_since, wrong_in, LooksAt}
use Rattle.inspector.specs.Listing.{rows_at, Rowed, Rest, Listed}
use Rattle.inspector.specs.declared.entries.Wrong.{Wrong}
use Rattle.inspector.proofs.Seeking.{off, on}
use Rattle.inspector.proofs.Tabling.{filled-same, filled-then}

-- ---- rows

rows_short : (xs : List WrongPath) (b : List ℕ) → length b < 16 → rows xs b ≡ b
unfolding rows
rows_short [] b h = refl
rows_short (x ∷ xs) b h = if-false (leb 16 (length b)) _ b (lt-leb 16 (length b) h)

pub rows_more : (x : WrongPath) (xs : List WrongPath) (b : List ℕ) → 16 ≤ length b → rows (x ∷ xs) b ≡ little 8 x.offset ++ little 8 x.place ++ rows xs (drop 16 b)
unfolding rows
rows_more x xs b h = if-true (leb 16 (length b)) _ b (le-leb 16 (length b) h)

pub rows_none : (b : List ℕ) → rows [] b ≡ b
unfolding rows
rows_none b = refl

rows_end : (b : List ℕ) (at : ℕ) (xs : List WrongPath) → length b < at + 16 → at ≤ length b → rows_at b at xs ≡ b
rows_end b at xs h l = ap (λ (c : List ℕ). take at b ++ c) (rows_short xs (drop at b) (omega (arith, length-drop at b))) ∙ take-append-drop at b

-- ---- put_row

module _ {b : List ℕ} {at : ℕ} (o p : ℕ) (l : at ≤ length b) where
  pub row-none : length b - at < 16 → Rowed b at o p b false
  row-none h = record { kept = refl; on = λ z. never (cc); room = λ z. never (cc); fits = λ z. never (cc); full = λ _ xs. sym (rows_end b at _ (omega arith) l) }

  module _ (h : 16 ≤ length b - at) {b₁ b₂ : List ℕ} (s : Stored 8 b at (little 8 o) b₁) (t : Stored 8 b₁ (at + 8) (little 8 p) b₂) where
    both-put : Stored 16 b at (little 8 o ++ little 8 p) b₂
    both-put = stored-join s t

    row_on : (xs : List WrongPath) → rows_at b₂ (at + 16) xs ≡ rows_at b at (record { offset = o; place = p } ∷ xs)
    row_on xs =
        ap (λ (c : List ℕ). c ++ rows xs (drop (at + 16) b₂)) (read_take both-put)
        ∙ append_assoc (take at b) (little 8 o ++ little 8 p) (rows xs (drop (at + 16) b₂))
        ∙ ap (λ (c : List ℕ). take at b ++ c)
        (append_assoc (little 8 o) (little 8 p) (rows xs (drop (at + 16) b₂))
        ∙ ap (λ (c : List ℕ). little 8 o ++ little 8 p ++ rows xs c) (kept-drop both-put (at + 16) (omega arith) ∙ sym (drop-drop 16 at b))
        ∙ sym (rows_more (record { offset = o; place = p }) xs (drop at b) (omega (arith, length-drop at b))))

    pub row_put : length b < 2 ^ 64 → Rowed b at o p b₂ (leb 32 (length b - at))
    row_put small = record {
      kept = both-put.kept;
      on = λ _ xs. row_on xs;
      room = λ z. omega (arith, leb-true 32 (length b - at) z, h);
      fits = λ z. omega (arith, h);
      full = λ z xs. sym (rows_end b₂ (at + 16) xs (omega (arith, leb-false 32 (length b - at) z, both-put.kept)) (omega (arith, both-put.kept))) ∙ row_on xs;
    }

-- ---- rest

pub record Resting (mode : ℕ) (b code : List ℕ) (lo start owner : ℕ) (w₀ rs₀ w rs : List ℕ) (to block at : ℕ) : Type 0 where
  pub walking : Walking b to
  pub filled : Filled b code w₀ w
  pub same : rows_at rs at (wrong_since mode b code lo block to) ≡ rows_at rs₀ 16 (wrong_since mode b code lo owner start)
  pub long : length rs ≡ length rs₀
  pub within : at ≤ length rs

pub rest-start : {mode : ℕ} {b code : List ℕ} {lo start owner : ℕ} {w rs : List ℕ} → Walking b start → Tables b code w → 16 ≤ length rs
    → Resting mode b code lo start owner w rs w rs start owner 16
rest-start y t h = record { walking = y; filled = filled-same t; same = refl; long = refl; within = h }

module _ {mode : ℕ} {b code : List ℕ} {lo start owner : ℕ} {w₀ rs₀ w rs : List ℕ} {to block at : ℕ} (k : Resting mode b code lo start owner w₀ rs₀ w rs to block at) where
  pub rest-walking : Walking b to
  rest-walking = k.walking

  pub rest-tables : Tables b code w
  rest-tables = k.filled.tables

  pub rest-within : at ≤ length rs
  rest-within = k.within

  module _ {w₁ : List ℕ} {r : Result Unit Wrong} (f : LooksAt mode b code lo to block w w₁ r) where
    pub rest_over : r ≡ Ok tt → Rest mode b code lo start owner w₀ rs₀ w₁ rs
    rest_over q = record {
      are = sym (ap (λ (c : List ℕ). take at rs ++ c) (rows_none (drop at rs)) ∙ take-append-drop at rs)
          ∙ ap (rows_at rs at) (sym (f.is ∙ ap (wrong_in mode b code lo) q)) ∙ k.same;
      kept = k.long;
      filled = filled-then k.filled f.filled;
    }

    module _ {x : Wrong} (q : r ≡ Err x) where
      wrong-is : wrong_since mode b code lo block to ≡ record { offset = x.offset; place = x.place } ∷ wrong_since mode b code lo x.owner x.behind
      wrong-is = f.is ∙ ap (wrong_in mode b code lo) q

      pub rest-less : length b - x.behind < length b - to
      rest-less = f.less q

      module _ {rs₁ : List ℕ} {more : Bool} (g : Rowed rs at x.offset x.place rs₁ more) where
        pub rest-full : not more ≡ true → Rest mode b code lo start owner w₀ rs₀ w₁ rs₁
        rest-full n = record {
          are = g.full (off more n) (wrong_since mode b code lo x.owner x.behind) ∙ ap (rows_at rs at) (sym wrong-is) ∙ k.same;
          kept = g.kept ∙ k.long;
          filled = filled-then k.filled f.filled;
        }

        module _ (n : not more ≡ false) where
          pub rest_sum : Fits w64 (at + 16)
          rest_sum = omega (arith, g.fits (on more n))

          pub rest-on : Resting mode b code lo start owner w₀ rs₀ w₁ rs₁ x.behind x.owner (at + 16)
          rest-on = record {
            walking = f.walking q;
            filled = filled-then k.filled f.filled;
            same = g.on (on more n) (wrong_since mode b code lo x.owner x.behind) ∙ ap (rows_at rs at) (sym wrong-is) ∙ k.same;
            long = g.kept ∙ k.long;
            within = omega (arith, g.room (on more n), g.kept);
          }

-- ---- listed

module _ {mode : ℕ} {b code : List ℕ} {lo : ℕ} {w rs w₁ : List ℕ} {r : Result Unit Wrong} (f : LooksAt mode b code lo 0 0 w w₁ r) where
  pub listed-none : r ≡ Ok tt → Listed mode b code lo w rs w₁ rs (Ok tt)
  listed-none q =
      let none-there = f.is ∙ ap (wrong_in mode b code lo) q in
      record { is = ap first_of none-there; are = sym (ap (λ (xs : List WrongPath). rows xs rs) none-there ∙ rows_none rs); filled = f.filled }

  module _ {x : Wrong} (q : r ≡ Err x) {rs₁ : List ℕ} {more : Bool} (g : Rowed rs 0 x.offset x.place rs₁ more) where
    some_there : wrong_since mode b code lo 0 0 ≡ record { offset = x.offset; place = x.place } ∷ wrong_since mode b code lo x.owner x.behind
    some_there = f.is ∙ ap (wrong_in mode b code lo) q

    pub listed-full : not more ≡ true → Listed mode b code lo w rs w₁ rs₁ (Err x)
    listed-full n = record {
      is = ap first_of some_there;
      are = g.full (off more n) (wrong_since mode b code lo x.owner x.behind) ∙ ap (λ (xs : List WrongPath). rows xs rs) (sym some_there);
      filled = f.filled;
    }

    pub listed-walking : Walking b x.behind
    listed-walking = f.walking q

    pub listed-tables : Tables b code w₁
    listed-tables = f.filled.tables

    module _ (n : not more ≡ false) where
      pub listed-room : 16 ≤ length rs₁
      listed-room = omega (arith, g.room (on more n), g.kept)

      pub listed-all : {w₂ rs₂ : List ℕ} → Rest mode b code lo x.behind x.owner w₁ rs₁ w₂ rs₂ → Listed mode b code lo w rs w₂ rs₂ (Err x)
      listed-all h = record {
        is = ap first_of some_there;
        are = h.are ∙ g.on (on more n) (wrong_since mode b code lo x.owner x.behind) ∙ ap (λ (xs : List WrongPath). rows xs rs) (sym some_there);
        filled = filled-then f.filled h.filled;
      }
