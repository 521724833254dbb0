-- The leading bytes at an offset: the ways out of the functions that read them, and what a caller learns. Assumes nothing.
use mathlib.Core.Path.{◌≡◌, refl, sym, ap, ◌∙◌}
use mathlib.Core.Bool.{Bool, false}
use mathlib.Core.List.{List}
use Prim.Native.Nat.{ℕ, ◌+◌, ◌-◌, ◌^◌, ◌≤◌, ◌<◌}
use native.Mathlib.Omega.{arith}
use mir.Syntax.{w64}
use mir.Val.{Fits}
use lib.Dec.{leb}
use Rattle.std.specs.Prelude.{Option, Some, None, Result, Err}
use lib.ListN.{length, take, drop, length-drop}
use lib.Seq.{drop-drop}
use borrow.Author.Tests.{leb-true, leb-false, le-leb, lt-leb}
use Rattle.spec.specs.Forms.{wide_in, field, announced, Sort as Means, sort, UNKNOWN}
use Rattle.spec.specs.BadEntries.{Whole}
use Rattle.laws.proofs.Branch.{both, if-true, if-false}
use Rattle.theorems.proofs.ReaderPlaces.{never}
use Rattle.lent.specs.Bytes.{Holds}
use Rattle.reader.specs.Sorts.{sort_of}
use Rattle.reader.specs.Shapes.{lead_at, way?, leads_way, seven_at, behind_at, shape, entry_at}
use Rattle.reader.specs.declared.kind.Sort.{Sort}
use Rattle.reader.specs.declared.lead.Lead.{Lead}
use Rattle.reader.specs.declared.entry.Entry.{Entry}
use Rattle.reader.specs.declared.entry.Fault.{Fault}
use Rattle.reader.specs.declared.entry.Fault.TheVariants.{Unknown, Cut}
use Rattle.reader.proofs.Bodies.{placed}

module _ (b : List ℕ) (at : ℕ) where
  abbrev rest : List ℕ
  rest = drop at b

  cut : length rest < 6 + announced rest → None ≡ lead_at b at
  unfolding lead_at
  cut h = sym (if-false (leb (6 + announced rest) (length rest)) _ _ (lt-leb _ _ h))

  whole : Whole rest → Some (record { kind = field 4 2 rest; length = announced rest }) ≡ lead_at b at
  unfolding lead_at
  whole h = sym (if-true (leb (6 + announced rest) (length rest)) _ _ (le-leb _ _ h))

  -- ---- the ways out of lead_at

  pub lead-past : length b < at → None ≡ lead_at b at
  lead-past h = cut (omega (arith, length-drop at b))

  pub lead-few : length b - at < 6 → None ≡ lead_at b at
  lead-few h = cut (omega (arith, length-drop at b))

  pub lead-cut : {n : ℕ} → Holds 4 b at n → length b - at - 6 < n → None ≡ lead_at b at
  lead-cut hn h = cut (omega (arith, length-drop at b, placed at 0 hn (omega arith)))

  pub lead-whole : {n k : ℕ} → Holds 4 b at n → Holds 2 b (at + 4) k → 6 ≤ length b - at → n ≤ length b - at - 6 → Some (record { kind = k; length = n }) ≡ lead_at b at
  lead-whole hn hk h f =
      let fn = placed at 0 hn (omega arith) in
      let fk = placed at 4 hk refl in
      cc (whole (omega (arith, length-drop at b)))

  -- ---- what a caller learns

  pub record Leads (k n : ℕ) : Type 0 where
    pub kind : k ≡ field 4 2 rest
    pub size : n ≡ announced rest
    pub there : Whole rest
    pub room : at + 6 + n ≤ length b

  module _ {r : Option Lead} (e : r ≡ lead_at b at) where
    pub leads : {l : Lead} → r ≡ Some l → Leads l.kind l.length
    unfolding lead_at
    leads {l} q =
        both (λ (x : Option Lead). r ≡ x → Leads l.kind l.length) (leb (6 + announced rest) (length rest))
        (λ on p. let w : Whole rest = leb-true _ _ on in let h : l ≡ record { kind = field 4 2 rest; length = announced rest } = cc in let g = ap (λ (x : Lead). x.length) h in
        record { kind = ap (λ (x : Lead). x.kind) h; size = g; there = w; room = omega (arith, length-drop at b) })
        (λ off (p : r ≡ None). never (cc)) e

    pub short : r ≡ None → Whole rest → ⊥
    unfolding lead_at
    short q =
        both (λ (l : Option Lead). r ≡ l → Whole rest → ⊥) (leb (6 + announced rest) (length rest))
        (λ on (p : r ≡ Some (record { kind = field 4 2 rest; length = announced rest })) w. never (cc))
        (λ off p w. omega (arith, leb-false (6 + announced rest) (length rest) off)) e

    -- room for the body
    pub lead-room : {l : Lead} → r ≡ Some l → at + 6 + l.length ≤ length b
    lead-room q = (leads q).room

    pub sum-6 : {l : Lead} → r ≡ Some l → length b < 2 ^ 64 → Fits w64 (at + 6)
    sum-6 q f = let w = leads q in omega arith

    pub sum_body : {l : Lead} → r ≡ Some l → length b < 2 ^ 64 → Fits w64 (at + 6 + l.length)
    sum_body q f = let w = leads q in omega arith

    -- ---- the ways out of next

    pub next-whole : {l : Lead} → r ≡ Some l → at + 6 + l.length ≡ behind_at b at
    unfolding behind_at
    next-whole q =
        let w = leads q in
        sym (if-true (leb (6 + announced rest) (length rest)) _ _ (le-leb _ _ w.there) ∙ omega arith)

    pub next-cut : r ≡ None → length b ≡ behind_at b at
    unfolding behind_at
    next-cut q = both (λ (n : ℕ). length b ≡ n) (leb (6 + announced rest) (length rest)) (λ on. absurd (short q (leb-true _ _ on))) (λ off. refl)

    -- ---- the ways out of seven_at

    pub seven-cut : r ≡ None → false ≡ seven_at b at
    unfolding seven_at
    seven-cut q = sym (ap (leads_way (wide_in b)) (sym e ∙ q))

    pub seven-whole : {l : Lead} → r ≡ Some l → {wide y : Bool} → wide ≡ wide_in b → y ≡ way? (sort wide l.kind) → y ≡ seven_at b at
    unfolding seven_at
    seven-whole {l} q w h = h ∙ rw w (sym (ap (leads_way (wide_in b)) (sym e ∙ q)))

    -- ---- the ways out of entry_at

    pub entry-cut : r ≡ None → Err Cut ≡ entry_at b at
    unfolding entry_at
    entry-cut q = both (λ (x : Result Entry Fault). Err Cut ≡ x) (leb (6 + announced rest) (length rest)) (λ on. absurd (short q (leb-true _ _ on))) (λ off. refl)

    entry_of : {l : Lead} (s : Means) → r ≡ Some l → sort (wide_in b) l.kind ≡ s → shape (at + 6) s (take l.length (drop (at + 6) b)) ≡ entry_at b at
    unfolding entry_at
    entry_of s q t =
        let w = leads q in
        rw (if-true (leb (6 + announced rest) (length rest)) _ _ (le-leb _ _ w.there), ← t, w.kind, w.size, ← drop-drop 6 at b)

    -- by its kind
    module _ {wide : Bool} (w : wide ≡ wide_in b) {l : Lead} (q : r ≡ Some l) {s : Option Sort} (t : sort_of wide s ≡ sort wide l.kind) where
      sorted : {v : Option Sort} → s ≡ v → sort (wide_in b) l.kind ≡ sort_of wide v
      sorted g = ap (λ (x : Bool). sort x l.kind) (sym w) ∙ sym t ∙ ap (sort_of wide) g

      pub entry-none : s ≡ None → Err Unknown ≡ entry_at b at
      unfolding shape
      entry-none g = entry_of UNKNOWN q (sorted g)

      pub entry-sorted : {f v : Sort} {x : Result Entry Fault} → s ≡ Some f → f ≡ v → x ≡ shape (at + 6) (sort_of wide (Some v)) (take l.length (drop (at + 6) b)) → x ≡ entry_at b at
      entry-sorted {f} {v} g k h = h ∙ entry_of (sort_of wide (Some v)) q (sorted (rw k at g))
