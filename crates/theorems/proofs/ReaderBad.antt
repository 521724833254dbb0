-- Document 02, "No. 2": the reader refuses with the offset of the first bad entry, accepts exactly when nothing is bad, and looks at the head's counts last.
-- Assumes nothing.
use Prim.Native.Nat.{ℕ, ◌+◌, ◌*◌, ◌^◌, ◌≤◌, ◌<◌}
use native.Mathlib.Omega.{arith}
use native.Mathlib.Nat.{le_refl}
use mathlib.Core.Path.{◌≡◌, refl, sym, ap, subst, ◌∙◌}
use mathlib.Core.Logic.{◌↔◌, ◌⊎◌, inl, inr}
use mathlib.Core.Bool.{Bool, true, ◌&&◌}
use mathlib.Core.List.{List, [], ◌∷◌}
use mathlib.Core.Option.{Option, none, some}
use lib.Dec.{eqb, ltb}
use lib.ListN.{length, length-drop}
use borrow.Author.Tests.{eqb-true, eq-eqb, lt-ltb}
use Rattle.spec.specs.Entries.{Map}
use Rattle.spec.specs.Forms.{wide_in, field, announced, Entry, entry, behind, TERMINATE, JUMP, JUMPI, DYNAMIC-JUMP, DYNAMIC-JUMPI, Sort, HEAD, WAY, RECORD, UNKNOWN, BLOCK, sort, owes, start_in}
use Rattle.spec.specs.Reader.{Reading, holds, bad, Piece, whole, cut, pieces, formed, Place, first, blocks, records, next, met, taken, first_bad, Item, item_for, items, finals_in, recs_in, numbered_in, counted, held, verdict, reading, read, reads_as}
use Rattle.spec.specs.BadEntries.{Whole, Begins, none_yet, one_more, offset, Bad, no_byte, cut-entry, bad_entry, NothingBad, block_in, record_in, how_many, HeadRight, Refused, at-first-bad, by-its-head}
use Rattle.laws.proofs.Branch.{both, if-true}
use Rattle.laws.proofs.Members.{and_both, and-true}
use Rattle.theorems.proofs.ReaderSplit.{body-long, Split, done, cut_off, more, moved, split, split-whole, split-cut, split-none}
use Rattle.theorems.proofs.ReaderPlaces.{never, Passed, begun, none_passed, Step, passes, refuses, step, refused}

-- ---- what is refused is bad

begins-none : {b rest : List ℕ} {es : List Entry} → Begins b es rest → es ≡ [] → b ≡ rest
begins-none none_yet e = refl
begins-none (one_more g w) e = never (cc)

-- the entries behind a whole one stand at its end
stands-behind : (es : List Entry) (rest : List ℕ) {ps : List Piece} → Whole rest → Split (offset es + (6 + announced rest)) (behind rest) ps
    → Split (offset (entry rest ∷ es)) (behind rest) ps
stands-behind es rest w s = moved (ap (λ (n : ℕ). offset es + (6 + n)) (sym (body-long rest w))) refl s

module _ (wide : Bool) where
  module _ (b : List ℕ) where
    sound : {at : ℕ} {rest : List ℕ} {ps : List Piece} → Split at rest ps → (es : List Entry) → at ≡ offset es → Begins b es rest
        → (p : Place) → Passed wide es p → (o : ℕ) → first_bad wide ps p ≡ some o → Bad wide b o
    unfolding first_bad
    sound done es a g first h o e = subst (Bad wide b) (cc) (no_byte (ap length (begins-none g (none_passed wide h refl))))
    sound done es a g (blocks low d) h o e = never (cc)
    sound done es a g (records by) h o e = never (cc)
    sound (cut_off n c) es a g p h o e = subst (Bad wide b) (cc) (cut-entry g n c)
    sound (more {at} {rest} {ps} w s) es a g p h o e =
        by-step (step wide (entry rest) es (behind rest) at (λ q. first_bad wide ps q) s h) e (λ q k r f. sound s (entry rest ∷ es) (cc (body-long rest w)) (one_more g w) q k r f)
      where
        by-step : {r : Option ℕ} → Step wide (entry rest) es (behind rest) at (λ q. first_bad wide ps q) s h r → r ≡ some o
            → ((q : Place) → Passed wide (entry rest ∷ es) q → (o : ℕ) → first_bad wide ps q ≡ some o → Bad wide b o) → Bad wide b o
        by-step (passes {q} f n k) e ih = ih q k o e
        by-step (refuses k) e ih = subst (Bad wide b) (cc) (bad_entry g w k)

    -- ---- what is bad is refused, there or before

    data Reached (all : List Piece) (es : List Entry) (rest : List ℕ) : Type 0 where
      stopped : {o : ℕ} → o ≤ offset es → first_bad wide all first ≡ some o → Reached all es rest
      arrived : {p : Place} {ps : List Piece} → Split (offset es) rest ps → Passed wide es p → first_bad wide all first ≡ first_bad wide ps p → Reached all es rest

    -- from a whole entry on
    reach-on : {all : List Piece} (es : List Entry) (rest : List ℕ) → Whole rest → Reached all es rest → Reached all (entry rest ∷ es) (behind rest)
    unfolding first_bad
    reach-on es rest w (stopped {o} h e) = let k : o ≤ offset (entry rest ∷ es) = omega arith in stopped k e
    reach-on {all} es rest w (arrived {p} s h e) =
        let t = split-whole s w in
        by-step t.0 t.2 (step wide (entry rest) es (behind rest) (offset es) (λ q. first_bad wide t.0 q) t.2 h) (e ∙ ap (λ (ps : List Piece). first_bad wide ps p) t.1)
      where
        by-step : (ps : List Piece) (t : Split (offset es + (6 + announced rest)) (behind rest) ps) {r : Option ℕ}
            → Step wide (entry rest) es (behind rest) (offset es) (λ q. first_bad wide ps q) t h r → first_bad wide all first ≡ r → Reached all (entry rest ∷ es) (behind rest)
        by-step ps t (passes f n k) e = arrived (stands-behind es rest w t) k e
        by-step ps t (refuses k) e = let k : offset es ≤ offset (entry rest ∷ es) = omega arith in stopped k e

    reach : {all : List Piece} {es : List Entry} {rest : List ℕ} → Begins b es rest → Split 0 b all → Reached all es rest
    reach none_yet s = arrived s begun refl
    reach (one_more {es} {rest} g w) s = reach-on es rest w (reach g s)

    -- refused there or before
    record Stops (all : List Piece) (q : ℕ) : Type 0 where
      at : ℕ
      is : first_bad wide all first ≡ some at
      low : at ≤ q

    complete : {all : List Piece} {q : ℕ} → Split 0 b all → Bad wide b q → Stops all q
    unfolding first_bad
    complete s (no_byte e) = record { at = 0; is = ap (λ (ps : List Piece). first_bad wide ps first) (split-none s e); low = omega arith }
    complete {all} s (cut-entry {es} {rest} g n c) = on (reach g s)
      where
        on : Reached all es rest → Stops all (offset es)
        on (stopped {o} h e) = record { at = o; is = e; low = h }
        on (arrived {p} t h e) = record { at = offset es; is = e ∙ ap (λ (ps : List Piece). first_bad wide ps p) (split-cut t n c); low = le_refl _ }
    complete {all} s (bad_entry {es} {rest} g w k) = on (reach g s)
      where
        on : Reached all es rest → Stops all (offset es)
        on (stopped {o} h e) = record { at = o; is = e; low = h }
        on (arrived {p} t h e) =
            let u = split-whole t w in
            record {
              at = offset es;
              is = e ∙ ap (λ (ps : List Piece). first_bad wide ps p) u.1 ∙ refused wide (entry rest) es (behind rest) (offset es) (λ q. first_bad wide u.0 q) u.2 h k;
              low = le_refl _;
            }

    -- ---- what passes is whole

    all_whole : {at : ℕ} {rest : List ℕ} {ps : List Piece} → Split at rest ps → (es : List Entry) → Begins b es rest
        → (p : Place) → Passed wide es p → first_bad wide ps p ≡ none → (all : List Entry) × Begins b all []
    unfolding first_bad
    all_whole done es g p h e = (es, g)
    all_whole (cut_off n c) es g p h e = never (cc)
    all_whole (more {at} {rest} {ps} w s) es g p h e =
        by-step (step wide (entry rest) es (behind rest) at (λ q. first_bad wide ps q) s h) e (λ q k f. all_whole s (entry rest ∷ es) (one_more g w) q k f)
      where
        by-step : {r : Option ℕ} → Step wide (entry rest) es (behind rest) at (λ q. first_bad wide ps q) s h r → r ≡ none
            → ((q : Place) → Passed wide (entry rest ∷ es) q → first_bad wide ps q ≡ none → (all : List Entry) × Begins b all []) → (all : List Entry) × Begins b all []
        by-step (passes {q} f n k) e ih = ih q k e
        by-step (refuses k) e ih = never (cc)

  -- ---- the head's counts

  abbrev tally : (Sort → ℕ) → List Piece → ℕ
  tally f [] = 0
  tally f (cut at ∷ ps) = tally f ps
  tally f (whole at e ∷ ps) = f (sort wide e.kind) + tally f ps

  -- the blocks and the records that pieces give
  record Given (is : List Item) (n m : ℕ) : Type 0 where
    blocks : length (finals_in is) ≡ n
    recs : length (recs_in is) ≡ m

  given : (ps : List Piece) → Given (items wide ps) (tally block_in ps) (tally record_in ps)
  unfolding finals_in recs_in items
  given [] = record { blocks = refl; recs = refl }
  given (cut at ∷ ps) = given ps
  given (whole at e ∷ ps) = by-sort (sort wide e.kind) (given ps)
    where
      by-sort : (s : Sort) → Given (items wide ps) (tally block_in ps) (tally record_in ps)
          → Given (item_for s e.body ∷ items wide ps) (block_in s + tally block_in ps) (record_in s + tally record_in ps)
      by-sort HEAD h = omega arith
      by-sort (WAY missing) h = omega arith
      by-sort (RECORD to missing) h = omega arith
      by-sort UNKNOWN h = omega arith
      by-sort (BLOCK TERMINATE) h = omega arith
      by-sort (BLOCK JUMP) h = omega arith
      by-sort (BLOCK JUMPI) h = omega arith
      by-sort (BLOCK DYNAMIC-JUMP) h = omega arith
      by-sort (BLOCK DYNAMIC-JUMPI) h = omega arith

  -- the entries that the bytes begin with, and those behind them
  begins-tally : (f : Sort → ℕ) {b : List ℕ} {all : List Piece} {es : List Entry} {rest : List ℕ} → Begins b es rest → Split 0 b all
      → (ps : List Piece) × Split (offset es) rest ps × (tally f all ≡ how_many wide f es + tally f ps)
  begins-tally f {all} none_yet s = (all, s, omega arith)
  begins-tally f (one_more {es} {rest} g w) s =
      let h = begins-tally f g s in
      let u = split-whole h.1 w in
      (u.0, stands-behind es rest w u.2, omega (arith, h.2, ap (tally f) u.1))

  how-many-are : (f : Sort → ℕ) {b : List ℕ} {all : List Piece} {es : List Entry} → Begins b es [] → Split 0 b all → tally f all ≡ how_many wide f es
  how-many-are f g s = let h = begins-tally f g s in omega (arith, h.2, ap (tally f) (split-none h.1 refl))

  -- the first entry of what passes is a head, with a body of 12 bytes
  pub record Headed (b : List ℕ) (all : List Piece) : Type 0 where
    pub more : List Piece
    pub is : all ≡ whole 0 (entry b) ∷ more
    pub head : sort wide (entry b).kind ≡ HEAD
    pub long : length (entry b).body ≡ 12

  pub headed : {b : List ℕ} {all : List Piece} → Split 0 b all → first_bad wide all first ≡ none → Headed b all
  unfolding first_bad
  headed done e = never (cc)
  headed (cut_off n c) e = never (cc)
  headed (more {rest = b} {ps} w s) e = by-sort (sort wide (entry b).kind) refl e
    where
      by-sort : (t : Sort) → sort wide (entry b).kind ≡ t → taken 0 (formed t (entry b).body && met wide (owes t (entry b).body) ps) (λ q. first_bad wide ps q) (next t (start_in (entry b).body) first) ≡ none
          → Headed b (whole 0 (entry b) ∷ ps)
      by-sort HEAD q f =
          both (λ (r : Option ℕ). r ≡ none → Headed b (whole 0 (entry b) ∷ ps)) (formed HEAD (entry b).body && true)
          (λ on _. record { more = ps; is = refl; head = q; long = eqb-true _ _ (and_both _ _ (and_both _ _ on).0).0 }) (λ _ (g : some 0 ≡ none). never (cc)) f
      by-sort (BLOCK x) q f = never (cc)
      by-sort (WAY missing) q f = never (cc)
      by-sort (RECORD to missing) q f = never (cc)
      by-sort UNKNOWN q f = never (cc)

  module _ (b : List ℕ) where
    abbrev all : List Piece
    all = pieces b 0 0

    abbrev said : Option ℕ
    said = first_bad wide all first

    -- what is left is the head's counts
    record Left : Type 0 where
      held-map : Map
      is : reading wide b ≡ counted (field 2 2 (entry b).body) (field 4 4 (entry b).body) held-map
      blocks_are : length held-map.blocks ≡ tally block_in all
      recs-are : length held-map.recs ≡ tally record_in all

    left : said ≡ none → Left
    unfolding reading items
    left e =
        let h = headed (split b) e in
        record {
          held-map = record { size = field 0 2 (entry b).body; energy = field 8 4 (entry b).body; blocks = finals_in (items wide h.more); recs = recs_in (items wide h.more); numbered = numbered_in (items wide h.more) };
          is = ap (verdict wide all) e ∙ ap (λ (ps : List Piece). held (items wide ps)) h.is ∙ ap (λ (s : Sort). held (item_for s (entry b).body ∷ items wide h.more)) h.head;
          blocks_are = omega (arith, (given h.more).blocks, ap (tally block_in) h.is, ap block_in h.head);
          recs-are = omega (arith, (given h.more).recs, ap (tally record_in) h.is, ap record_in h.head);
        }

    is_bad : (o : ℕ) → said ≡ some o → Bad wide b o
    is_bad o e = sound b (split b) [] refl none_yet first begun o e

    nothing-bad : said ≡ none → NothingBad wide b
    nothing-bad e q h = let k = (complete b (split b) h).is in never (cc)

    -- the test of the counts
    abbrev counts : said ≡ none → Bool
    counts e = eqb (field 2 2 (entry b).body) (length (left e).held-map.blocks) && eqb (field 4 4 (entry b).body) (length (left e).held-map.recs)

    head-right : (e : said ≡ none) → counts e ≡ true → HeadRight wide b
    head-right e t =
        let g = all_whole b (split b) [] none_yet first begun e in
        let k = and_both _ _ t in
        record {
          all = g.0;
          are = g.1;
          block_count = eqb-true _ _ k.0 ∙ (left e).blocks_are ∙ how-many-are block_in g.1 (split b);
          record_count = eqb-true _ _ k.1 ∙ (left e).recs-are ∙ how-many-are record_in g.1 (split b);
        }

    right-head : (e : said ≡ none) → HeadRight wide b → counts e ≡ true
    right-head e h =
        and-true _ _ (eq-eqb _ _ (h.block_count ∙ sym ((left e).blocks_are ∙ how-many-are block_in h.are (split b))))
        (eq-eqb _ _ (h.record_count ∙ sym ((left e).recs-are ∙ how-many-are record_in h.are (split b))))

    -- ---- the reader, exactly

    -- how the reader comes to what it says
    data Says : Reading → Type 0 where
      stops_at : (o : ℕ) → said ≡ some o → Says (bad o)
      head-wrong : said ≡ none → (HeadRight wide b → ⊥) → Says (bad 0)
      head-fits : (m : Map) → said ≡ none → HeadRight wide b → Says (holds m)

    says : Says (reading wide b)
    unfolding reading
    says = by_said said refl
      where
        by_said : (o : Option ℕ) → said ≡ o → Says (reading wide b)
        by_said (some o) e = subst Says (ap (verdict wide all) (sym e)) (stops_at o e)
        by_said none e =
            subst Says (sym (left e).is)
            (both Says (counts e) (λ on. head-fits _ e (head-right e on))
            (λ off. head-wrong e (λ h. never (let t = right-head e h in cc))))

    -- what a reader is to refuse is refused, there
    refuses-there : {r : Reading} → Says r → (o : ℕ) → Refused wide b o → r ≡ bad o
    refuses-there (stops_at q e) o (at-first-bad f) =
        let k = complete b (split b) f.is_bad in
        let same : q ≡ k.at = let p = k.is in cc in
        let h : q ≡ o = omega (arith, f.lowest q (is_bad q e), k.low) in
        ap bad h
    refuses-there (stops_at q e) o (by-its-head n h z) = absurd (n q (is_bad q e))
    refuses-there (head-wrong e h) o (at-first-bad f) = absurd (nothing-bad e o f.is_bad)
    refuses-there (head-wrong e h) o (by-its-head n k z) = ap bad (sym z)
    refuses-there (head-fits m e h) o (at-first-bad f) = absurd (nothing-bad e o f.is_bad)
    refuses-there (head-fits m e h) o (by-its-head n k z) = absurd (k h)

    refused-there : {r : Reading} → Says r → (o : ℕ) → r ≡ bad o → Refused wide b o
    refused-there (stops_at q e) o f =
        subst (Refused wide b) (cc) (at-first-bad (record {
          is_bad = is_bad q e;
          lowest = λ p h. let k = complete b (split b) h in let same : q ≡ k.at = let i = k.is in cc in omega (arith, k.low);
        }))
    refused-there (head-wrong e h) o f = by-its-head (nothing-bad e) h (cc)
    refused-there (head-fits m e h) o f = never (cc)

    -- The reader refuses with the offset of the first bad entry; with 0, last, for wrong head counts; and nothing else.
    pub refused-in : (o : ℕ) → (reading wide b ≡ bad o) ↔ Refused wide b o
    refused-in o = (refused-there says o, refuses-there says o)

    accepted-of : {r : Reading} → Says r → NothingBad wide b → HeadRight wide b → (m : Map) × (r ≡ holds m)
    accepted-of (stops_at q e) n h = absurd (n q (is_bad q e))
    accepted-of (head-wrong e k) n h = absurd (k h)
    accepted-of (head-fits m e k) n h = (m, refl)

    of-accepted : {r : Reading} → Says r → (m : Map) → r ≡ holds m → NothingBad wide b × HeadRight wide b
    of-accepted (stops_at q e) m f = never (cc)
    of-accepted (head-wrong e k) m f = never (cc)
    of-accepted (head-fits _ e k) m f = (nothing-bad e, k)

    -- It accepts exactly when nothing is bad and the head's counts are right.
    pub accepted-in : ((m : Map) × (reading wide b ≡ holds m)) ↔ (NothingBad wide b × HeadRight wide b)
    accepted-in = (λ h. of-accepted says h.0 h.1, λ h. accepted-of says h.0 h.1)

-- ---- by the head's code length

module _ (b : List ℕ) where
  -- The reader refuses with the offset of the first bad entry; with 0, last, for wrong head counts; and nothing else.
  pub refused-exactly : (o : ℕ) → (read b ≡ bad o) ↔ Refused (wide_in b) b o
  unfolding read
  refused-exactly o = refused-in (wide_in b) b o

  -- It accepts exactly when nothing is bad and the head's counts are right.
  pub accepted-exactly : ((m : Map) × (read b ≡ holds m)) ↔ (NothingBad (wide_in b) b × HeadRight (wide_in b) b)
  unfolding read
  accepted-exactly = accepted-in (wide_in b) b

-- ---- where a bad entry stands

ends_at : {b rest : List ℕ} {es : List Entry} → Begins b es rest → offset es + length rest ≡ length b
ends_at none_yet = omega arith
ends_at (one_more {es} {rest} g w) = omega (arith, ends_at g, body-long rest w, length-drop (6 + announced rest) rest)

bad-within : {wide : Bool} {b : List ℕ} {o : ℕ} → Bad wide b o → (o ≡ 0) ⊎ (o < length b)
bad-within (no_byte e) = inl refl
bad-within (cut-entry g h n) = inr (omega (arith, ends_at g))
bad-within (bad_entry g w k) = inr (omega (arith, ends_at g))

pub refused-within : {wide : Bool} {b : List ℕ} {o : ℕ} → Refused wide b o → (o ≡ 0) ⊎ (o < length b)
refused-within (at-first-bad f) = bad-within f.is_bad
refused-within (by-its-head n h e) = inl e

-- The exported number tells the whole offset for every length up to 2^56.
pub told-whole : (b : List ℕ) (o : ℕ) → length b ≤ 2 ^ 56 → read b ≡ bad o → reads_as (read b) ≡ 12 + 256 * o
told-whole b o h e = ap reads_as e ∙ ap (λ (n : ℕ). 12 + 256 * n) (if-true (ltb o (2 ^ 56)) o _ (lt-ltb o (2 ^ 56) (small (refused-within ((refused-exactly b o).0 e)))))
  where
    small : (o ≡ 0) ⊎ (o < length b) → o < 2 ^ 56
    small (inl z) = omega arith
    small (inr l) = omega arith
