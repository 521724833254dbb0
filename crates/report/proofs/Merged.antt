-- A report with new totals, and the two calls. Assumes nothing.
use mathlib.Core.Path.{◌≡◌, refl, sym, ap, ap₂, ◌∙◌}
use mathlib.Core.Bool.{Bool, true, false, ◌&&◌}
use mathlib.Core.List.{List, [], ◌∷◌, ◌++◌}
use Prim.Native.Nat.{ℕ, ◌+◌, ◌^◌, ◌≤◌, ◌<◌}
use native.Mathlib.Nat.{zero-add}
use Rattle.std.specs.Prelude.{Option, Some, Result, Ok, Err}
use lib.Dec.{leb, ltb}
use lib.ListN.{length, get_or, set}
use borrow.Author.Tests.{le-leb, lt-leb, lt-ltb, le-ltb}
use Rattle.spec.specs.Eights.{eights, as_eights, all_fit, over}
use Rattle.spec.specs.Report as spec
use Rattle.spec.specs.Report.{Totals, listed, sums, dynamic_blocks, share, lowest, report_bytes, fits, renewed, ReportOutcome, reported, bad_map, no_fit}
use Rattle.spec.specs.Reader.{Reading as Said, holds, bad, read}
use Rattle.laws.proofs.Branch.{both, if-true, if-false, and-false}
use Rattle.laws.proofs.Members.{and-true}
use Rattle.theorems.proofs.ReaderPlaces.{never}
use Rattle.lent.specs.Bytes.{patch, Stored}
use Rattle.refusal.specs.declared.Refusal.{Refusal}
use Rattle.refusal.specs.declared.Refusal.TheVariants.{Entry, Total}
use Rattle.reader.specs.Scanning.{head_of, reading_of}
use Rattle.reader.specs.declared.scan.BadEntry.{BadEntry}
use Rattle.reader.specs.declared.scan.Head.{Head}
use Rattle.reader.proofs.Resting.{HeadThere, head-there, head-none}
use Rattle.report.specs.Scanning.{Headed, pass_of, numbers_of}
use Rattle.report.specs.Numbers.{summed, share_of}
use Rattle.report.specs.Merging.{said_of, Told, together, fitting, Summed}
use Rattle.report.specs.Calls.{Added}
use Rattle.report.specs.declared.count.Counts.{Counts}
use Rattle.report.specs.declared.share.Share.{Share}
use Rattle.report.proofs.Sums.{is_sum, large_sum}
use Rattle.report.proofs.Placed.{no-sum, tab, tab-is}
use Rattle.report.proofs.Scanned.{energy-is}

-- ---- 16, and the report as it was

not-fit : (b : List ℕ) (t : Totals) → renewed b t ≡ no_fit → Told b (renewed b t) b (Err Total)
not-fit b t e = record { said = sym (ap said_of e); bytes = sym (ap (spec.report_after b) e) }

module _ (b ns : List ℕ) where
  pub told-short : length b < 120 → Told b (renewed b (together b ns)) b (Err Total)
  unfolding renewed
  told-short h = not-fit b (together b ns) (if-false (leb 120 (length b) && fits (together b ns)) _ _ (ap (λ (x : Bool). x && fits (together b ns)) (lt-leb 120 (length b) h)))

  not-fits : fits (together b ns) ≡ false → Told b (renewed b (together b ns)) b (Err Total)
  unfolding renewed
  not-fits e = not-fit b (together b ns) (if-false (leb 120 (length b) && fits (together b ns)) _ _ (and-false (leb 120 (length b)) e))

  -- whether all fit
  fit-no : (t : Bool) {e : Refusal} → Err e ≡ fitting t → (t ≡ false) × (e ≡ Total)
  fit-no true q = never (cc)
  fit-no false q = (refl, cc)

  fit-yes : (t : Bool) → Ok tt ≡ fitting t → t ≡ true
  fit-yes true q = refl
  fit-yes false q = never (cc)

  pub told-large : {ns' : List ℕ} {v : Result Unit Refusal} → Summed b ns ns' v → {e : Refusal} → v ≡ Err e → Told b (renewed b (together b ns)) b (Err e)
  told-large {v = v} s {e} f =
      let k = fit-no (all_fit (sums (together b ns))) (sym f ∙ s.fit) in
      rw k.1 (not-fits (and-false (ltb (dynamic_blocks (together b ns)) (2 ^ 64)) k.0))

  module _ {ns' : List ℕ} {v : Result Unit Refusal} (s : Summed b ns ns' v) {u : Unit} (w : v ≡ Ok u) {r : Option ℕ} (e : r ≡ summed (get_or ns' 6 0 + get_or ns' 7 0 + get_or ns' 8 0)) where
    y : v ≡ Ok tt
    y = w

    all-fit : all_fit (sums (together b ns)) ≡ true
    all-fit = fit-yes (all_fit (sums (together b ns))) (sym w ∙ s.fit)

    dynamic-is : get_or ns' 6 0 + get_or ns' 7 0 + get_or ns' 8 0 ≡ dynamic_blocks (together b ns)
    dynamic-is = ap dynamic_blocks (s.totals y)

    pub told-crowded : ((d : ℕ) → r ≡ Some d → ⊥) → Told b (renewed b (together b ns)) b (Err Total)
    told-crowded q =
        not-fits (ap (λ (x : Bool). x && all_fit (sums (together b ns))) (le-ltb (dynamic_blocks (together b ns)) (2 ^ 64) (rw (← dynamic-is) (large_sum (get_or ns' 6 0 + get_or ns' 7 0 + get_or ns' 8 0) e (no-sum q)))))

    -- ---- 0, and the report anew

    module _ {d : ℕ} (q : r ≡ Some d) {x : Share} (l : share_of x ≡ lowest (get_or ns' 6 0) d) where
      share-is : share_of x ≡ share (together b ns)
      share-is =
          l ∙ ap (lowest (get_or ns' 6 0)) (is_sum (get_or ns' 6 0 + get_or ns' 7 0 + get_or ns' 8 0) e q).0 ∙ ap share (s.totals y)

      numbers-are : set (set ns' 13 x.part) 14 x.whole ≡ sums (together b ns) ++ (share (together b ns)).part ∷ (share (together b ns)).whole ∷ []
      unfolding sums
      numbers-are =
          ap (λ (l : List ℕ). set (set l 13 x.part) 14 x.whole) (sym (ap (λ (n : ℕ). tab n (λ k. get_or ns' k 0)) (sym s.long) ∙ tab-is ns'))
          ∙ ap₂ (λ (t : Totals) (y : spec.Share). sums t ++ y.part ∷ y.whole ∷ []) (s.totals y) share-is

      fits-now : fits (together b ns) ≡ true
      fits-now =
          and-true (ltb (dynamic_blocks (together b ns)) (2 ^ 64)) _
          (lt-ltb (dynamic_blocks (together b ns)) (2 ^ 64) (rw (← dynamic-is) (is_sum (get_or ns' 6 0 + get_or ns' 7 0 + get_or ns' 8 0) e q).1)) (all-fit)

      pub told-anew : {b' : List ℕ} → 120 ≤ length b → Stored 120 b 0 (as_eights (set (set ns' 13 x.part) 14 x.whole)) b' → Told b (renewed b (together b ns)) b' (Ok tt)
      unfolding renewed report_bytes patch
      told-anew {b'} h k =
          let t = together b ns in
          let new : renewed b t ≡ reported (over (report_bytes t) b) = if-true (leb 120 (length b) && fits t) _ _ (and-true (leb 120 (length b)) _ (le-leb 120 (length b) h) fits-now) in
          let put : b' ≡ over (as_eights (set (set ns' 13 x.part) 14 x.whole)) b = rw (k.is, zero-add) in
          record {
            said = sym (ap said_of new);
            bytes = put ∙ ap (λ (l : List ℕ). over (as_eights l) b) numbers-are ∙ sym (ap (spec.report_after b) new);
          }

-- ---- joining another report

module _ (report other : List ℕ) where
  pub join-short : length other < 120 → Told report (spec.report_join report other) report (Err Total)
  join-short h =
      let e : spec.report_join report other ≡ no_fit = if-false (leb 120 (length other)) _ _ (lt-leb 120 (length other) h) in
      record { said = sym (ap said_of e); bytes = sym (ap (spec.report_after report) e) }

  pub numbers-long : {ns : List ℕ} → ns ≡ eights 15 other → length ns ≡ 15
  numbers-long e = ap length e

  pub join-told : {ns report' : List ℕ} {n : Result Unit Refusal} → 120 ≤ length other → ns ≡ eights 15 other → Told report (renewed report (together report ns)) report' n → Told report (spec.report_join report other) report' n
  unfolding spec.totals_in
  join-told {ns} {report'} {n} h e t =
      let j : spec.report_join report other ≡ renewed report (together report ns) =
      if-true (leb 120 (length other)) (renewed report (spec.join (spec.totals_in report) (spec.totals_in other))) no_fit (le-leb 120 (length other) h)
      ∙ ap (λ (l : List ℕ). renewed report (spec.join (spec.totals_in report) (listed l))) (sym e) in
      record { said = t.said ∙ sym (ap said_of j); bytes = t.bytes ∙ sym (ap (spec.report_after report) j) }

-- new totals are never a bad map
renewed-good : (b : List ℕ) (t : Totals) (at : ℕ) → renewed b t ≡ bad_map at → ⊥
unfolding renewed
renewed-good b t at =
    both (λ (o : ReportOutcome). o ≡ bad_map at → ⊥) (leb 120 (length b) && fits t) (λ _ (e : reported (over (report_bytes t) b) ≡ bad_map at). never (cc))
    (λ _ (e : no_fit ≡ bad_map at). never (cc))

-- and what is joined is none
pub join-good : (report other : List ℕ) (at : ℕ) → spec.report_join report other ≡ bad_map at → ⊥
join-good report other at =
    both (λ (o : ReportOutcome). o ≡ bad_map at → ⊥) (leb 120 (length other)) (λ _. renewed-good report _ at) (λ _ (e : no_fit ≡ bad_map at). never (cc))

-- ---- adding a map

module _ (report map : List ℕ) where
  -- "12 as in No. 2"
  refused : {e : BadEntry} {x : Refusal} → x ≡ Entry e.offset → read map ≡ bad e.offset → Added report map report (Err x)
  refused {e} {x} g q =
      record {
        said = ap Err g ∙ sym (ap (λ (s : Said). said_of (spec.added report s)) q);
        bytes = sym (ap (λ (s : Said). spec.report_after report (spec.added report s)) q);
      }

  was-bad : {e : BadEntry} (s : Said) → Err e ≡ reading_of s → s ≡ bad e.offset
  was-bad (holds v) q = never (cc)
  was-bad {e} (bad o) q = let g : e ≡ record { offset = o } = cc in ap (λ (x : BadEntry). bad x.offset) (sym g)

  module _ {h : Result Head BadEntry} (k : h ≡ head_of map) where
    pub add-headless : {e : BadEntry} → h ≡ Err e → {x : Refusal} → x ≡ Entry e.offset → Added report map report (Err x)
    add-headless q g = refused g (was-bad (read map) (head-none map k q))

    module _ {f : Head} (q : h ≡ Ok f) where
      there : HeadThere map f
      there = head-there map k q

      pub add-headed : Headed map f.behind f.blocks f.records
      add-headed = record { size = there.size; energy = f.energy; head = there.is; behind = there.behind }

      module _ {p : Result Counts BadEntry} (l : p ≡ pass_of (read map)) where
        pub add-bad : {e : BadEntry} → p ≡ Err e → {x : Refusal} → x ≡ Entry e.offset → Added report map report (Err x)
        add-bad {e} o g = refused g (by (read map) (sym o ∙ l))
          where
            by : (s : Said) → Err e ≡ pass_of s → s ≡ bad e.offset
            by (holds v) y = never (cc)
            by (bad i) y = let g : e ≡ record { offset = i } = cc in ap (λ (x : BadEntry). bad x.offset) (sym g)

        pub add-told : {c : Counts} → p ≡ Ok c → {ns : List ℕ} → ns ≡ numbers_of c f.energy → {report' : List ℕ} {x : Result Unit Refusal}
            → Told report (renewed report (together report ns)) report' x → Added report map report' x
        unfolding spec.totals_of
        add-told {c} o {ns} a {report'} {x} t = by_said (read map) refl (sym o ∙ l)
          where
            by_said : (s : Said) → read map ≡ s → Ok c ≡ pass_of s → Added report map report' x
            by_said (holds v) r z =
                let y : f.energy ≡ v.energy = energy-is map there.is r in
                let same : listed ns ≡ spec.totals_of v = ap listed (a ∙ ap₂ numbers_of (cc) y) in
                let j : renewed report (together report ns) ≡ spec.report_add report map =
                ap (λ (u : Totals). renewed report (spec.join (spec.totals_in report) u)) same ∙ sym (ap (spec.added report) r) in
                record { said = t.said ∙ ap said_of j; bytes = t.bytes ∙ ap (spec.report_after report) j }
            by_said (bad i) r y = never (cc)

pub numbers-of-long : {c : Counts} {energy : ℕ} {ns : List ℕ} → ns ≡ numbers_of c energy → length ns ≡ 15
numbers-of-long e = ap length e
