-- What the search reads of W stays where the counts of the path in hand, or what is behind the buckets in use, change. Assumes nothing.
use mathlib.Core.Path.{◌≡◌, sym, ◌∙◌}
use mathlib.Core.List.{List}
use Prim.Native.Nat.{ℕ, ◌+◌, ◌≤◌}
use native.Mathlib.Omega.{arith}
use lib.ListN.{length, take}
use Rattle.spec.specs.Search.{Rec}
use Rattle.lent.specs.Bytes.{num_at}
use Rattle.lent.proofs.Numbers.{num-prefix, num-suffix, num-within}
use Rattle.lent.proofs.Parts.{take_less}
use Rattle.layout.specs.Fields.{HIGHEST, mark_at, high_at}
use Rattle.layout.specs.Parts.{ROW, rows_end, fields_place, list_place, bucket_place, SameRows}
use Rattle.tables.specs.Tables.{SameLinks}
use Rattle.parents.specs.Promises.{Known}
use Rattle.parents.proofs.Knows.{known-prefix}
use Rattle.reachable.specs.Marks.{flagged}
use Rattle.reachable.specs.Promises.{Room}
use Rattle.reachable.proofs.Flags.{flagged-same}
use Rattle.reachable.proofs.Frames.{num-in}
use Rattle.steps.specs.Paths.{OnPath, CountsOnly}
use Rattle.steps.specs.Lands.{Marks}
use Rattle.steps.proofs.Lands.{marks-kept}

-- the rows, the records' links, the marks, the highest parents and the flags are the same
pub record Alike (n buckets : ℕ) (w w' : List ℕ) : Type 0 where
  pub rows : SameRows n w w'
  pub links : SameLinks n buckets w w'
  pub marks : (a : ℕ) → a ≤ n → mark_at w' n a ≡ mark_at w n a
  pub highs : (a : ℕ) → a ≤ n → high_at w' n a ≡ high_at w n a
  pub flags : flagged w' n ≡ flagged w n

pub alike_then : {n buckets : ℕ} {w w₁ w₂ : List ℕ} → Alike n buckets w w₁ → Alike n buckets w₁ w₂ → Alike n buckets w w₂
alike_then a b =
    record {
      rows = b.rows ∙ a.rows;
      links = record {
        firsts = λ x h. b.links.firsts x h ∙ a.links.firsts x h;
        lasts = λ x h. b.links.lasts x h ∙ a.links.lasts x h;
        heads = λ x h. b.links.heads x h ∙ a.links.heads x h;
        long = b.links.long ∙ a.links.long;
      };
      marks = λ x h. b.marks x h ∙ a.marks x h;
      highs = λ x h. b.highs x h ∙ a.highs x h;
      flags = b.flags ∙ a.flags;
    }

-- ---- other counts

module _ {n : ℕ} {w w' : List ℕ} (c : CountsOnly n w w') where
  -- a number among an address's first twelve bytes
  early : (a : ℕ) → a ≤ n → (k o : ℕ) → o + k ≤ 12 → num_at k w' (fields_place n a + o) ≡ num_at k w (fields_place n a + o)
  early a h = num-within w' w 12 (fields_place n a) (fields_place n a) (c.before a h)

  field : (a : ℕ) → a ≤ n → (k o : ℕ) → o + k ≤ 12 → {i : ℕ} → i ≡ fields_place n a + o → num_at k w' i ≡ num_at k w i
  field a h k o l e = rw e (early a h k o l)

  late : (a : ℕ) → a ≤ n → (k i : ℕ) → fields_place n a + HIGHEST ≤ i → i + k ≤ fields_place n a + ROW → num_at k w' i ≡ num_at k w i
  late a h k i lo hi = num-in w' w 4 (fields_place n a + HIGHEST) (c.after a h) k i lo (omega arith)

  pub alike-counts : (buckets : ℕ) → Alike n buckets w w'
  alike-counts buckets =
      record {
        rows = c.front;
        links = record {
          firsts = λ a h. field a h 4 4 (omega arith) (omega arith);
          lasts = λ a h. field a h 4 8 (omega arith) (omega arith);
          heads = λ b h. num-suffix w' w (list_place n) c.back 4 (bucket_place n b) (omega arith);
          long = c.long;
        };
        marks = λ a h. field a h 4 0 (omega arith) (omega arith);
        highs = λ a h. late a h 2 _ (omega arith) (omega arith);
        flags = flagged-same w w' n (λ a h. late a h 1 _ (omega arith) (omega arith));
      }

-- ---- another part behind the buckets in use

module _ (n buckets : ℕ) (w w' : List ℕ) (front : take (bucket_place n buckets) w' ≡ take (bucket_place n buckets) w) (long : length w' ≡ length w) where
  low : (k at : ℕ) → at + k ≤ bucket_place n buckets → num_at k w' at ≡ num_at k w at
  low k at h = num-prefix w' w (bucket_place n buckets) front k at h

  pub alike-run : Alike n buckets w w'
  alike-run =
      record {
        rows = take_less w' w (bucket_place n buckets) front (rows_end n) (omega arith);
        links = record {
          firsts = λ a h. low 4 _ (omega arith);
          lasts = λ a h. low 4 _ (omega arith);
          heads = λ b h. low 4 _ (omega arith);
          long = long;
        };
        marks = λ a h. low 4 _ (omega arith);
        highs = λ a h. low 2 _ (omega arith);
        flags = flagged-same w w' n (λ a h. low 1 _ (omega arith));
      }

  -- the counts stay too
  pub counts-run : {path : List ℕ} → OnPath n w path → OnPath n w' path
  counts-run o = record { counts = λ a h. low 4 _ (omega arith) ∙ o.counts a h }

-- ---- what follows

module _ {n buckets : ℕ} {w w' : List ℕ} (e : Alike n buckets w w') where
  pub alike-marks : {reached : List ℕ} {since : ℕ} {rs : List Rec} → Marks n w reached since rs → Marks n w' reached since rs
  alike-marks m = marks-kept m e.rows e.marks e.highs

  pub alike-known : {mode : ℕ} {code : List ℕ} {many : ℕ} → n ≡ length code → Known mode code w many → Known mode code w' many
  alike-known is k = known-prefix w' (sym (rw is at e.rows)) k

  pub alike-room : Room n w → Room n w'
  alike-room r = record { short = r.short; room = omega (arith, r.room, e.links.long) }
