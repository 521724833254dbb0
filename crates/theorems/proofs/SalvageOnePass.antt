-- Document 02, "No. 14": the entries of an archive's first map are the first of the archive's, and its runs of 7s are the archive's: what one pass over an
-- archive stands on. Assumes nothing.
use Prim.Native.Nat.{ℕ, suc, ◌+◌, ◌-◌}
use native.Mathlib.Omega.{arith}
use mathlib.Core.Path.{◌≡◌, refl, sym, ap, subst, ◌∙◌}
use mathlib.Core.Bool.{Bool, true, false, not, ◌&&◌}
use mathlib.Core.List.{List, [], ◌∷◌, ◌++◌}
use lib.Dec.{eqb}
use lib.ListN.{length, take, drop, length-drop, take-append-drop}
use lib.Seq.{length-take-le, take_all, take-add, drop-length}
use Rattle.spec.specs.Lists.{if}
use Rattle.spec.specs.Forms.{wide_in, field, announced, Entry, entry, behind, Sort, HEAD, WAY, RECORD, UNKNOWN, BLOCK, sort}
use Rattle.spec.specs.Reader.{Piece, whole, cut, pieces, goes_on, sevens}
use Rattle.spec.specs.BadEntries.{Whole, block_in, record_in}
use Rattle.spec.specs.Salvage.{of_run, runs, ends, map_end, first_map}
use Rattle.theorems.proofs.ReaderSplit.{Split, done, cut_off, more, moved, split, split-once}
use Rattle.theorems.proofs.SalvageEnds.{announced-same, entry-same, behind-same, whole-still, field-append}

-- the pieces that are the map's, with so many blocks and records to come
unfoldable pub own : Bool → ℕ → ℕ → Bool → List Piece → List Piece
own wide n m run [] = []
own wide n m run (cut at ∷ ps) = if (eqb (n + m) 0) [] (cut at ∷ [])
own wide n m run (whole at e ∷ ps) =
    let s = sort wide e.kind in
    let later = whole at e ∷ own wide (n - block_in s) (m - record_in s) (runs s run) ps in
    if (eqb (n + m) 0 && not (of_run s run)) [] later

abbrev pub own-map : Bool → List Piece → List Piece
own-map wide [] = []
own-map wide (cut at ∷ ps) = cut at ∷ []
own-map wide (whole at e ∷ ps) = whole at e ∷ own wide (field 2 2 e.body) (field 4 4 e.body) false ps

-- ---- they are the pieces of its bytes

-- the first entry, and some of what stands behind it
module _ (b : List ℕ) (w : Whole b) (k : ℕ) where
  abbrev head_bytes : List ℕ
  head_bytes = take (6 + announced b) b

  abbrev short : List ℕ
  short = take (6 + announced b + k) b

  head-long : length head_bytes ≡ 6 + announced b
  head-long = length-take-le (6 + announced b) b w

  all-of-it : head_bytes ++ behind b ≡ b
  all-of-it = take-append-drop (6 + announced b) b

  head-announces : announced head_bytes ≡ announced b
  head-announces = sym (field-append 0 4 head_bytes (behind b) (omega (arith, head-long))) ∙ ap announced all-of-it

  head-whole : Whole head_bytes
  head-whole = omega (arith, head-announces, head-long)

  cut_short : short ≡ head_bytes ++ take k (behind b)
  cut_short = take-add (6 + announced b) k b

  short-whole : Whole short
  short-whole = subst Whole (sym cut_short) (whole-still head_bytes (take k (behind b)) head-whole)

  short-entry : entry short ≡ entry b
  short-entry =
      ap entry cut_short ∙ entry-same head_bytes (take k (behind b)) head-whole
      ∙ sym (entry-same head_bytes (behind b) head-whole) ∙ ap entry all-of-it

  short-announces : announced short ≡ announced b
  short-announces = ap announced cut_short ∙ announced-same head_bytes (take k (behind b)) head-whole ∙ head-announces

  short-behind : behind short ≡ take k (behind b)
  short-behind = ap behind cut_short ∙ behind-same head_bytes (take k (behind b)) head-whole ∙ ap (λ (l : List ℕ). l ++ take k (behind b)) none-behind
    where
      none-behind : behind head_bytes ≡ []
      none-behind = ap (λ (i : ℕ). drop i head_bytes) (ap (λ (i : ℕ). 6 + i) head-announces ∙ sym head-long) ∙ drop-length head_bytes

  split-short : {at : ℕ} {ps : List Piece} → Split (at + (6 + announced b)) (take k (behind b)) ps → Split at short (whole at (entry b) ∷ ps)
  split-short {at} {ps} s =
      subst (λ (e : Entry). Split at short (whole at e ∷ ps)) short-entry
      (more short-whole (moved (ap (λ (i : ℕ). at + (6 + i)) (sym short-announces)) (sym short-behind) s))

-- so many bytes are the map's, and their pieces its own
record Owns (at : ℕ) (b : List ℕ) (to : ℕ) (ps : List Piece) : Type 0 where
  size : ℕ
  ends_there : to ≡ at + size
  splits : Split at (take size b) ps

module _ (wide : Bool) where
  owns : {at : ℕ} {b : List ℕ} {ps : List Piece} → Split at b ps → (n m : ℕ) (run : Bool) (end : ℕ) → at + length b ≡ end → Owns at b (ends wide n m run end ps) (own wide n m run ps)
  unfolding ends own if
  owns done n m run end e = record { size = 0; ends_there = sym e; splits = done }
  owns (cut_off {at} {rest} h c) n m run end e = by-test (eqb (n + m) 0)
    where
      by-test : (t : Bool) → Owns at rest (if t at end) (if t [] (cut at ∷ []))
      by-test true = record { size = 0; ends_there = omega arith; splits = done }
      by-test false = record { size = length rest; ends_there = sym e; splits = moved refl (sym (take_all (length rest) rest (omega arith))) (cut_off h c) }
  owns (more {at} {rest} {ps} w s) n m run end e = by-test (eqb (n + m) 0 && not (of_run x run)) (owns s (n - block_in x) (m - record_in x) (runs x run) end reaches)
    where
      x : Sort
      x = sort wide (entry rest).kind

      reaches : at + (6 + announced rest) + length (behind rest) ≡ end
      reaches = rw length-drop (omega arith)

      to : ℕ
      to = ends wide (n - block_in x) (m - record_in x) (runs x run) end ps

      qs : List Piece
      qs = own wide (n - block_in x) (m - record_in x) (runs x run) ps

      by-test : (t : Bool) → Owns (at + (6 + announced rest)) (behind rest) to qs → Owns at rest (if t at to) (if t [] (whole at (entry rest) ∷ qs))
      by-test true k = record { size = 0; ends_there = omega arith; splits = done }
      by-test false k = record { size = 6 + announced rest + k.size; ends_there = omega (arith, k.ends_there); splits = split-short rest w k.size k.splits }

map-owns : (wide : Bool) {b : List ℕ} {ps : List Piece} → Split 0 b ps → Split 0 (take (map_end wide (length b) ps) b) (own-map wide ps)
map-owns wide done = done
map-owns wide (cut_off {rest} h c) = moved refl (sym (take_all (length rest) rest (omega arith))) (cut_off h c)
map-owns wide (more {rest} {ps} w s) =
    let body = (entry rest).body in
    let reaches : 0 + (6 + announced rest) + length (behind rest) ≡ length rest = rw length-drop (omega arith) in
    let k = owns wide s (field 2 2 body) (field 4 4 body) false (length rest) reaches in
    let long : 6 + announced rest + k.size ≡ ends wide (field 2 2 body) (field 4 4 body) false (length rest) ps = omega (arith, k.ends_there) in
    moved refl (ap (λ (i : ℕ). take i rest) long) (split-short rest w k.size k.splits)

-- The pieces of the first map are the archive's own first ones.
pub first_map-pieces : (b : List ℕ) → pieces (first_map b) 0 0 ≡ own-map (wide_in b) (pieces b 0 0)
unfolding first_map
first_map-pieces b = split-once (map-owns (wide_in b) (split b)) (split (take (map_end (wide_in b) (length b) (pieces b 0 0)) b))

-- ---- and so is a run of 7s that the first of them is of

module _ (wide : Bool) where
  pub own-sevens : (n m : ℕ) (ps : List Piece) → sevens wide (own wide n m true ps) ≡ sevens wide ps
  unfolding own sevens if
  own-sevens n m [] = refl
  own-sevens n m (cut at ∷ ps) = by-test (eqb (n + m) 0)
    where
      by-test : (t : Bool) → sevens wide (if t [] (cut at ∷ [])) ≡ 0
      by-test true = refl
      by-test false = refl
  own-sevens n m (whole at e ∷ ps) = by-sort (sort wide e.kind) refl (own-sevens (n - block_in (sort wide e.kind)) (m - record_in (sort wide e.kind)) ps)
    where
      x : Sort
      x = sort wide e.kind

      stops-or-not : Sort → ℕ
      stops-or-not s = sevens wide (if (eqb (n + m) 0 && not (of_run s true)) [] (whole at e ∷ own wide (n - block_in x) (m - record_in x) (runs s true) ps))

      none-there : (t r : Bool) → ((k : ℕ) → goes_on x k ≡ 0) → sevens wide (if t [] (whole at e ∷ own wide (n - block_in x) (m - record_in x) r ps)) ≡ goes_on x (suc (sevens wide ps))
      none-there true r z = sym (z _)
      none-there false r z = z _ ∙ sym (z _)

      one-there : (t : Bool) → sevens wide (own wide (n - block_in x) (m - record_in x) true ps) ≡ sevens wide ps
          → sevens wide (if (t && false) [] (whole at e ∷ own wide (n - block_in x) (m - record_in x) true ps)) ≡ goes_on x (suc (sevens wide ps))
      one-there true ih = ap (λ (k : ℕ). goes_on x (suc k)) ih
      one-there false ih = ap (λ (k : ℕ). goes_on x (suc k)) ih

      by-sort : (s : Sort) → x ≡ s → sevens wide (own wide (n - block_in x) (m - record_in x) true ps) ≡ sevens wide ps → stops-or-not x ≡ goes_on x (suc (sevens wide ps))
      by-sort HEAD q ih = none-there (eqb (n + m) 0 && not (of_run x true)) (runs x true) (λ k. ap (λ (s : Sort). goes_on s k) q)
      by-sort (BLOCK y) q ih = none-there (eqb (n + m) 0 && not (of_run x true)) (runs x true) (λ k. ap (λ (s : Sort). goes_on s k) q)
      by-sort (WAY missing) q ih = ap stops-or-not q ∙ one-there (eqb (n + m) 0) ih
      by-sort (RECORD to missing) q ih = none-there (eqb (n + m) 0 && not (of_run x true)) (runs x true) (λ k. ap (λ (s : Sort). goes_on s k) q)
      by-sort UNKNOWN q ih = none-there (eqb (n + m) 0 && not (of_run x true)) (runs x true) (λ k. ap (λ (s : Sort). goes_on s k) q)
