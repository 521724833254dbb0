-- An archive's first map, judged by a scan over the archive: it is judged as by the reader. Assumes nothing.
use mathlib.Core.Path.{◌≡◌, refl, sym, ap, subst, ◌∙◌}
use mathlib.Core.Bool.{Bool, true, false}
use mathlib.Core.List.{List, ◌∷◌}
use Prim.Native.Nat.{ℕ, ◌+◌, ◌-◌, ◌≤◌, ◌<◌}
use native.Mathlib.Omega.{arith}
use native.Mathlib.Decide.{dec_lt, dec_le}
use Rattle.std.specs.Prelude.{Result, Ok, Err}
use lib.ListN.{length, drop, length-append}
use Rattle.spec.specs.Entries.{wide_code}
use Rattle.spec.specs.Forms.{wide_in, field, announced, Entry as Means, entry, sort}
use Rattle.spec.specs.Reader.{Reading as Said, holds, bad, Piece, whole, read}
use Rattle.spec.specs.BadEntries.{Whole}
use Rattle.spec.specs.Salvage.{first_map}
use Rattle.theorems.proofs.ReaderPlaces.{never}
use Rattle.theorems.proofs.ReaderBack.{code-length}
use Rattle.theorems.proofs.SalvageEnds.{cut-first, none_first}
use Rattle.theorems.proofs.SalvageLaws.{first-and-left}
use Rattle.theorems.proofs.SalvageOnePass.{own, own-map, first_map-pieces}
use Rattle.reader.specs.Shapes.{from, behind_at, shape, entry_at}
use Rattle.reader.specs.Scanning.{Within, begin, head_of, turn_of, last_of, rest_of, reading_of}
use Rattle.reader.specs.declared.entry.Entry.TheVariants.{Head}
use Rattle.reader.specs.declared.entry.Fault.TheVariants.{Cut}
use Rattle.reader.specs.declared.scan.Scan.{Scan}
use Rattle.reader.specs.declared.scan.BadEntry.{BadEntry}
use Rattle.reader.specs.declared.scan.Head.{Head as HeadOf}
use Rattle.reader.proofs.Onward.{split_from, from-whole, from_cut, from_end}
use Rattle.reader.proofs.Judging.{entry_whole, behind-whole, entry-cut}
use Rattle.reader.proofs.Turning.{behind-in}
use Rattle.reader.proofs.Resting.{Scans, scan-start, scan-on, scan-less, scan-bad, scan-last, read_head, head-there as head-is, head-missing, read_none}
use Rattle.salvage.specs.Promises.{Headed, over_of, close, closed_of, first_of}
use Rattle.salvage.proofs.Sorted.{head-counts, head-either}
use Rattle.salvage.proofs.Owned.{SameAt, whole_same, Owns, over-ends, over-left, own-there, same_turn, owns-on}

-- what a reading says of a map of so many bytes
module _ (k : ℕ) where
  said-bad : {e : BadEntry} (x : Said) → Err e ≡ reading_of x → Err e ≡ first_of k x
  said-bad (holds m) q = never (cc)
  said-bad {e} (bad o) q = let g : e ≡ record { offset = o } = cc in ap Err g

  said-last : (x : Said) (r : Result Unit BadEntry) → r ≡ reading_of x → close r k ≡ first_of k x
  said-last (holds m) r e = ap (λ (y : Result Unit BadEntry). close y k) e
  said-last (bad o) r e = ap (λ (y : Result Unit BadEntry). close y k) e

module _ (b : List ℕ) where
  abbrev mine : List ℕ
  mine = first_map b

  shorter : length mine ≤ length b
  shorter = omega (arith, ap length (first-and-left b), length-append mine (drop (length mine) b))

  from_first : from mine 0 ≡ own-map (wide_in b) (from b 0)
  unfolding from
  from_first = first_map-pieces b

  abbrev first_body : List ℕ
  first_body = (entry (drop 0 b)).body

  first-same : Whole (drop 0 b) → SameAt b mine 0 (own (wide_in b) (field 2 2 first_body) (field 4 4 first_body) false (from b (behind_at b 0)))
  first-same w = whole_same b mine 0 w (from_first ∙ ap (own-map (wide_in b)) (from-whole b 0 w ∙ ap {B = List Piece} (λ (k : ℕ). whole 0 (entry (drop 0 b)) ∷ from b k) (sym (behind-whole b 0 w))))

  -- with a head the first entry is the map's, whichever family it is read in
  head_first : {size n m energy : ℕ} → (wide : Bool) → Whole (drop 0 b) → entry_at b 0 ≡ Ok (Head size n m energy) → shape 6 (sort wide (entry (drop 0 b)).kind) first_body ≡ Ok (Head size n m energy)
  head_first wide w e = head-either 6 first_body _ _ _ _ (wide_in b) wide (entry (drop 0 b)).kind (sym (entry_whole b 0 w) ∙ e)

  head-mine : {size n m energy : ℕ} → entry_at mine 0 ≡ Ok (Head size n m energy) → entry_at b 0 ≡ Ok (Head size n m energy)
  head-mine {size} {n} {m} {energy} e = by_whole (dec_le (6 + announced (drop 0 b)) (length (drop 0 b))) (dec_lt 0 (length b))
    where
      none : (Whole (drop 0 mine) → ⊥) → entry_at b 0 ≡ Ok (Head size n m energy)
      none v = let z : Err Cut ≡ Ok (Head size n m energy) = sym (entry-cut mine 0 v) ∙ e in never (cc)

      by_whole : Dec (Whole (drop 0 b)) → Dec (0 < length b) → entry_at b 0 ≡ Ok (Head size n m energy)
      by_whole (yes w) d =
          let z = first-same w in
          entry_whole b 0 w ∙ head-either 6 first_body size n m energy (wide_in mine) (wide_in b) (entry (drop 0 b)).kind
          (ap (λ (x : Means). shape 6 (sort (wide_in mine) x.kind) x.body) (sym z.entry-is) ∙ sym (entry_whole mine 0 z.whole-there) ∙ e)
      by_whole (no v) (yes l) = none (cut-first (split_from mine 0) (from_first ∙ ap (own-map (wide_in b)) (from_cut b 0 l v))).1
      by_whole (no v) (no l) =
          let z = none_first (split_from mine 0) (from_first ∙ ap (own-map (wide_in b)) (from_end b 0 (omega arith))) in
          none (λ w. omega arith)

  -- ---- the ways out of first_map

  module _ {r : Result HeadOf BadEntry} (q : r ≡ head_of b) where
    pub head-there : {h : HeadOf} → r ≡ Ok h → Headed b h.behind h.blocks h.records
    head-there {h} o = let k = head-is b q o in record { size = k.size; energy = h.energy; head = k.is; behind = k.behind }

    pub first-none : {e : BadEntry} → r ≡ Err e → Err e ≡ first_of (length (first_map b)) (read (first_map b))
    first-none {e} o =
        let k = head-missing b q o in
        said-bad (length mine) (read mine)
        (ap (λ (i : ℕ). Err (record { offset = i })) k.offset_is ∙ read_none mine refl (λ size n m energy z. k.other size n m energy (head-mine z)))

  -- ---- entries

  pub record Owned (to n m : ℕ) (s : Scan) : Type 0 where
    pub scans : Scans (first_map b) to s
    pub owns : Owns b n m s

  module _ {to n m : ℕ} (h : Headed b to n m) where
    whole-head : Whole (drop 0 b)
    whole-head = by_whole (dec_le (6 + announced (drop 0 b)) (length (drop 0 b)))
      where
        by_whole : Dec (Whole (drop 0 b)) → Whole (drop 0 b)
        by_whole (yes w) = w
        by_whole (no v) = let z : Err Cut ≡ Ok (Head h.size n m h.energy) = sym (entry-cut b 0 v) ∙ h.head in never (cc)

    abbrev counts : (n ≡ field 2 2 first_body) × (m ≡ field 4 4 first_body) × (length first_body ≡ 12)
    counts = head-counts 6 first_body h.size n m h.energy (sort (wide_in b) (entry (drop 0 b)).kind) (sym (entry_whole b 0 whole-head) ∙ h.head)

    mine-head : entry_at mine 0 ≡ Ok (Head h.size n m h.energy)
    mine-head =
        let z = first-same whole-head in
        entry_whole mine 0 z.whole-there ∙ ap (λ (x : Means). shape 6 (sort (wide_in mine) x.kind) x.body) z.entry-is ∙ head_first (wide_in mine) whole-head h.head

    -- its family is the map's
    family : wide_in mine ≡ wide_in b
    family =
        let z = (first-same whole-head).entry-is in
        let k = counts.2 in
        let long : length (entry mine).body ≡ 12 = ap (λ (x : Means). length x.body) z ∙ k in
        ap wide_code (sym (code-length mine (omega arith)) ∙ ap (λ (x : Means). field 0 2 x.body) z ∙ code-length b (omega arith))

    behind-first : to ≡ behind_at mine 0
    behind-first = h.behind ∙ sym (first-same whole-head).behind-is

    reads : {r : Result Unit BadEntry} → r ≡ rest_of mine to n m → r ≡ reading_of (read mine)
    reads e = read_head mine mine-head behind-first e

    pub owned-start : {s : Scan} → s ≡ begin to → Owned to n m s
    owned-start e =
        let k = counts in
        let x : field 2 2 first_body ≡ n - 0 = omega (arith, k.0) in
        let y : field 4 4 first_body ≡ m - 0 = omega (arith, k.1) in
        let z : from mine to ≡ own (wide_in b) (field 2 2 first_body) (field 4 4 first_body) false (from b to) =
        ap (from mine) h.behind ∙ (first-same whole-head).rest_is ∙ ap (λ (i : ℕ). own (wide_in b) (field 2 2 first_body) (field 4 4 first_body) false (from b i)) (sym h.behind) in
        subst (Owned to n m) (sym e)
        (record {
          scans = scan-start mine to (let e = behind-in mine 0 in rw behind-first e) refl;
          owns = z ∙ ap (λ (i : ℕ). own (wide_in b) i (field 4 4 first_body) false (from b to)) x ∙ ap (λ (i : ℕ). own (wide_in b) (n - 0) i false (from b to)) y;
        })

    module _ {s : Scan} (o : Owned to n m s) {r : Bool} (e : r ≡ over_of b s n m) where
      pub owned-over : r ≡ true → {x : Result ℕ BadEntry} → x ≡ closed_of s n m → x ≡ first_of (length (first_map b)) (read (first_map b))
      owned-over t {x} q =
          let last = over-ends b family n m s o.owns (sym e ∙ t) in
          let w = o.scans.within in
          let end : s.at ≡ length mine = omega arith in
          q ∙ ap (close (last_of s n m)) end ∙ said-last (length mine) (read mine) (last_of s n m) (reads (scan-last o.scans last n m refl))

      module _ (f : r ≡ false) where
        off : over_of b s n m ≡ false
        off = sym e ∙ f

        pub owned-left : s.at < length b
        owned-left = over-left b family n m s o.owns off

        pub owned-within : Within b s
        owned-within = let w = o.scans.within in let l = shorter in record { inside = omega arith; few_blocks = w.few_blocks; few_records = w.few_records }

        module _ {u : Result Scan BadEntry} (t : u ≡ turn_of b s) where
          turned_so : u ≡ turn_of mine s
          turned_so = t ∙ sym (same_turn b family n m s o.owns off)

          there : s.at < length mine
          there = own-there b family n m s o.owns off

          pub owned-on : {v : Scan} → u ≡ Ok v → Owned to n m v
          owned-on q = record { scans = scan-on o.scans there turned_so q; owns = owns-on b family n m s o.owns off (sym t ∙ q) }

          pub owned-less : {v : Scan} → u ≡ Ok v → length (first_map b) - v.at < length (first_map b) - s.at
          owned-less q = scan-less o.scans there turned_so q

          pub owned-bad : {i : BadEntry} → u ≡ Err i → Err i ≡ first_of (length (first_map b)) (read (first_map b))
          owned-bad {i} q = said-bad (length mine) (read mine) (reads (scan-bad o.scans there turned_so n m q))
