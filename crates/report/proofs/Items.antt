-- A map's totals by one pass over its items, with what is known of the dynamic block at hand. Assumes nothing.
use Prim.Native.Nat.{ℕ, ◌+◌, ◌≤◌, max}
use native.Mathlib.Omega.{arith}
use mathlib.Core.Path.{◌≡◌, refl, sym, ap, ◌∙◌}
use mathlib.Core.Bool.{Bool, true, false, not, ◌&&◌}
use mathlib.Core.List.{List, [], ◌∷◌, ◌++◌, map, append_assoc}
use lib.Dec.{eqb, leb}
use lib.ListN.{length, replicate}
use borrow.Author.Tests.{ne_eqb, le-leb}
use Rattle.spec.specs.Lists.{if, gather}
use Rattle.spec.specs.Blocks.{Kind, terminate, jump, jumpi, dynamic_jump, dynamic_jumpi}
use Rattle.spec.specs.Search.{Found, nowhere, found, Rec, is_nowhere, dest, dests}
use Rattle.spec.specs.Ending.{Final, all_are}
use Rattle.spec.specs.Entries.{Map, flag}
use Rattle.spec.specs.Reader.{Item, a_head, a_block, a_way, a_record, no_item}
use Rattle.spec.specs.Counting.{count, distinct}
use Rattle.spec.specs.Report.{Totals, of_kind, dynamic_with, longest_of, totals_of, nothing_yet, join, listed}
use Rattle.theorems.proofs.ReaderItems.{way_for, block-items}
use Rattle.theorems.proofs.DistinctOnes.{distinct-one, distinct-several}
use Rattle.theorems.proofs.ReportLaws.{same-totals, join-assoc, join-comm, join-neutral, neutral-join}
use Rattle.report.specs.Counts.{totals_from, counts_of, at_place, shut_of, sees_of}
use Rattle.report.specs.declared.count.Open.{Open}
use Rattle.report.specs.declared.count.Open.TheVariants.{Static, NoneYet, Only, Several}

-- ---- what an item adds

abbrev pub kind-totals : Kind → Totals
kind-totals (terminate success) = at_place 1 1
kind-totals (jump t) = at_place 2 1
kind-totals (jumpi t f) = at_place 3 1
kind-totals dynamic_jump = at_place 4 1
kind-totals (dynamic_jumpi f) = at_place 5 1

abbrev pub record-totals : ℕ → Found → Totals
record-totals n nowhere = join (at_place 10 1) (at_place 11 n)
record-totals n (found t s) = join (at_place 9 1) (at_place 11 n)

-- the block at hand behind a block, and behind a 7
abbrev pub opened : Kind → Open
opened (terminate success) = Static
opened (jump t) = Static
opened (jumpi t f) = Static
opened dynamic_jump = NoneYet
opened (dynamic_jumpi f) = NoneYet

abbrev pub seen : Found → Open → Open
seen nowhere o = o
seen (found t s) o = sees_of t o

-- the head is counted apart
unfoldable pub scan : List Item → Totals → Open → Totals
scan [] t o = join t (shut_of o)
scan (a_head z n m y ∷ is) t o = scan is t o
scan (a_block b n ∷ is) t o = scan is (join (join t (shut_of o)) (kind-totals b.kind)) (opened b.kind)
scan (a_way d p ∷ is) t o = scan is (join t (at_place 11 (length p))) (seen d o)
scan (a_record c r ∷ is) t o = scan is (join t (record-totals (length r.path) r.to)) o
scan (no_item ∷ is) t o = scan is t o

-- ---- the 7s of a block

abbrev seen_all : List Rec → Open → Open
seen_all [] o = o
seen_all (r ∷ rs) o = seen_all rs (seen r.to o)

scan-ways : (is : List Item) (es : List Rec) (t : Totals) (o : Open) → scan (map way_for es ++ is) t o ≡ scan is (join t (at_place 11 (longest_of es))) (seen_all es o)
unfolding scan join
scan-ways is [] t o = ap (λ (u : Totals). scan is u o) (sym (join-neutral t))
scan-ways is (r ∷ es) t o =
    scan-ways is es (join t (at_place 11 (length r.path))) (seen r.to o)
    ∙ ap (λ (u : Totals). scan is u (seen_all es (seen r.to o)))
    (same-totals (join (join t (at_place 11 (length r.path))) (at_place 11 (longest_of es))) (join t (at_place 11 (max (length r.path) (longest_of es)))) (omega arith))

-- their destinations, one after the other
abbrev sees-all : List ℕ → Open → Open
sees-all [] o = o
sees-all (t ∷ ts) o = sees-all ts (sees_of t o)

seen-dests : (es : List Rec) (o : Open) → seen_all es o ≡ sees-all (dests es) o
seen-dests [] o = refl
seen-dests (r ∷ es) o = by-found r.to (λ q. seen-dests es q)
  where
    by-found : (d : Found) → ((q : Open) → seen_all es q ≡ sees-all (dests es) q) → seen_all es (seen d o) ≡ sees-all (dest d ++ dests es) o
    by-found nowhere ih = ih o
    by-found (found t s) ih = ih (sees_of t o)

sees-several : (ts : List ℕ) → sees-all ts Several ≡ Several
sees-several [] = refl
sees-several (t ∷ ts) = sees-several ts

sees-only : (u : ℕ) (ts : List ℕ) → sees-all ts (Only u) ≡ if (all_are u ts) (Only u) Several
unfolding if
sees-only u [] = refl
sees-only u (t ∷ ts) = by-test (eqb u t) (sees-only u ts)
  where
    by-test : (b : Bool) → sees-all ts (Only u) ≡ if (all_are u ts) (Only u) Several → sees-all ts (if b (Only u) Several) ≡ if (b && all_are u ts) (Only u) Several
    by-test true ih = ih
    by-test false ih = sees-several ts

-- by the number of distinct ones
abbrev ways-told : Bool → Bool → Bool → Totals
ways-told a b c = join (at_place 6 (flag a)) (join (at_place 7 (flag b)) (at_place 8 (flag c)))

abbrev ways-totals : ℕ → Totals
ways-totals n = ways-told (eqb 0 n) (eqb 1 n) (leb 2 n)

several-told : (n : ℕ) → 2 ≤ n → ways-told false false true ≡ ways-totals n
several-told n h i = ways-told (sym (ne_eqb 0 n (λ e. omega arith)) i) (sym (ne_eqb 1 n (λ e. omega arith)) i) (sym (le-leb 2 n h) i)

shut-is : (ts : List ℕ) → shut_of (sees-all ts NoneYet) ≡ ways-totals (length (distinct ts))
unfolding join distinct if
shut-is [] = refl
shut-is (t ∷ ts) = ap shut_of (sees-only t ts) ∙ by-test (all_are t ts) refl
  where
    by-test : (b : Bool) → all_are t ts ≡ b → shut_of (if b (Only t) Several) ≡ ways-totals (length (distinct (t ∷ ts)))
    by-test true e = ap (λ (l : List ℕ). ways-totals (length l)) (sym (distinct-one t ts e))
    by-test false e = several-told (length (distinct (t ∷ ts))) (distinct-several t ts e)

sees-none : (ts : List ℕ) → sees-all ts Static ≡ Static
sees-none [] = refl
sees-none (t ∷ ts) = sees-none ts

-- ---- the blocks and the records

longest-append : (rs ss : List Rec) → longest_of (rs ++ ss) ≡ max (longest_of rs) (longest_of ss)
longest-append [] ss = omega arith
longest-append (r ∷ rs) ss = omega (arith, longest-append rs ss)

abbrev entries-in : List Final → List Rec
entries-in = gather (λ (f : Final). f.entries)

abbrev final-totals : List Final → Totals
final-totals fs = record {
  maps = 0;
  kind_2 = count (of_kind 2) fs;
  kind_3 = count (of_kind 3) fs;
  kind_4 = count (of_kind 4) fs;
  kind_5 = count (of_kind 5) fs;
  kind_6 = count (of_kind 6) fs;
  unresolved = count (dynamic_with (eqb 0)) fs;
  with_one = count (dynamic_with (eqb 1)) fs;
  with_several = count (dynamic_with (leb 2)) fs;
  records_to = 0;
  records_nowhere = 0;
  longest = longest_of (entries-in fs);
  energy = 0;
}

abbrev rec-totals : List Rec → Totals
rec-totals rs = listed (replicate 9 0 ++ count (λ (r : Rec). not (is_nowhere r.to)) rs ∷ count (λ (r : Rec). is_nowhere r.to) rs ∷ longest_of rs ∷ [])

-- a block, with its 7s, and the blocks behind it
module _ (i a e : ℕ) (es : List Rec) (fs : List Final) where
  abbrev with_kind : Kind → Final
  with_kind k = record { block = record { id = i; start = a; end = e; kind = k }; entries = es }

  abbrev parts : Kind → Totals → Totals
  parts k s = join (join (kind-totals k) (at_place 11 (longest_of es))) (join s (final-totals fs))

  not-open : shut_of (seen_all es Static) ≡ nothing_yet
  not-open = ap shut_of (seen-dests es Static ∙ sees-none (dests es))

  is_open : shut_of (seen_all es NoneYet) ≡ ways-totals (length (distinct (dests es)))
  is_open = ap shut_of (seen-dests es NoneYet) ∙ shut-is (dests es)

  one-final : (k : Kind) → parts k (shut_of (seen_all es (opened k))) ≡ final-totals (with_kind k ∷ fs)
  unfolding join
  one-final (terminate success) =
      ap (parts (terminate success)) not-open ∙ same-totals (parts (terminate success) nothing_yet) (final-totals (with_kind (terminate success) ∷ fs)) (omega (arith, longest-append es (entries-in fs)))
  one-final (jump t) = ap (parts (jump t)) not-open ∙ same-totals (parts (jump t) nothing_yet) (final-totals (with_kind (jump t) ∷ fs)) (omega (arith, longest-append es (entries-in fs)))
  one-final (jumpi t f) = ap (parts (jumpi t f)) not-open ∙ same-totals (parts (jumpi t f) nothing_yet) (final-totals (with_kind (jumpi t f) ∷ fs)) (omega (arith, longest-append es (entries-in fs)))
  one-final dynamic_jump =
      let w = ways-totals (length (distinct (dests es))) in
      ap (parts dynamic_jump) is_open ∙ same-totals (parts dynamic_jump w) (final-totals (with_kind dynamic_jump ∷ fs)) (omega (arith, longest-append es (entries-in fs)))
  one-final (dynamic_jumpi f) =
      let w = ways-totals (length (distinct (dests es))) in
      ap (parts (dynamic_jumpi f)) is_open ∙ same-totals (parts (dynamic_jumpi f) w) (final-totals (with_kind (dynamic_jumpi f) ∷ fs)) (omega (arith, longest-append es (entries-in fs)))

module _ (r : Rec) (rs : List Rec) where
  abbrev with-to : Found → Totals
  with-to d =
      listed (replicate 9 0 ++ (flag (not (is_nowhere d)) + count (λ (r : Rec). not (is_nowhere r.to)) rs) ∷ (flag (is_nowhere d) + count (λ (r : Rec). is_nowhere r.to) rs)
      ∷ max (length r.path) (longest_of rs) ∷ [])

  one-record : (d : Found) → join (record-totals (length r.path) d) (rec-totals rs) ≡ with-to d
  unfolding join
  one-record nowhere = same-totals (join (record-totals (length r.path) nowhere) (rec-totals rs)) (with-to nowhere) (omega arith)
  one-record (found t s) = same-totals (join (record-totals (length r.path) (found t s)) (rec-totals rs)) (with-to (found t s)) (omega arith)

swapped : (t r s x : Totals) → join (join (join t r) s) x ≡ join (join t s) (join r x)
swapped t r s x = ap (λ (u : Totals). join u x) (join-assoc t r s ∙ ap (join t) (join-comm r s) ∙ sym (join-assoc t s r)) ∙ join-assoc (join t s) r x

scan-records : (c : Bool) (rs : List Rec) (t : Totals) (o : Open) → scan (map (a_record c) rs) t o ≡ join (join t (shut_of o)) (rec-totals rs)
unfolding scan
scan-records c [] t o = sym (join-neutral (join t (shut_of o)))
scan-records c (r ∷ rs) t o = scan-records c rs (join t (record-totals (length r.path) r.to)) o
    ∙ swapped t (record-totals (length r.path) r.to) (shut_of o) (rec-totals rs) ∙ ap (join (join t (shut_of o))) (one-record r rs r.to)

regroup : (t k p s x r : Totals) → join (join (join (join t k) p) s) (join x r) ≡ join t (join (join (join k p) (join s x)) r)
regroup t k p s x r = simp join-assoc

scan-blocks : (c : Bool) (rs : List Rec) (fs : List Final) (t : Totals) (o : Open) → scan (gather block-items fs ++ map (a_record c) rs) t o ≡ join (join t (shut_of o)) (join (final-totals fs) (rec-totals rs))
unfolding scan
scan-blocks c rs [] t o = scan-records c rs t o ∙ ap (join (join t (shut_of o))) (sym (neutral-join (rec-totals rs)))
scan-blocks c rs (f ∷ fs) t o =
    let b = f.block in
    let es = f.entries in
    let k = b.kind in
    let now = join (join t (shut_of o)) (kind-totals k) in
    let later = gather block-items fs ++ map (a_record c) rs in
    ap (λ (is : List Item). scan is now (opened k)) (append_assoc (map way_for es) (gather block-items fs) (map (a_record c) rs))
    ∙ scan-ways later es now (opened k)
    ∙ scan-blocks c rs fs (join now (at_place 11 (longest_of es))) (seen_all es (opened k))
    ∙ regroup (join t (shut_of o)) (kind-totals k) (at_place 11 (longest_of es)) (shut_of (seen_all es (opened k))) (final-totals fs) (rec-totals rs)
    ∙ ap (λ (u : Totals). join (join t (shut_of o)) (join u (rec-totals rs))) (one-final b.id b.start b.end es fs k)

-- ---- the whole

-- all but what its head says
abbrev behind_head : Map → Totals
behind_head m = totals_from (counts_of (totals_of m))

map-parts : (m : Map) → join (final-totals m.blocks) (rec-totals m.recs) ≡ behind_head m
unfolding join totals_of
map-parts m = same-totals (join (final-totals m.blocks) (rec-totals m.recs)) (behind_head m) (omega (arith, longest-append (entries-in m.blocks) m.recs))

-- the items behind a map's head
abbrev pub tail_of : Map → List Item
tail_of m = gather block-items m.blocks ++ map (a_record m.numbered) m.recs

pub scan-is : (m : Map) → scan (tail_of m) nothing_yet Static ≡ totals_from (counts_of (totals_of m))
scan-is m =
    let x = join (final-totals m.blocks) (rec-totals m.recs) in
    scan-blocks m.numbered m.recs m.blocks nothing_yet Static ∙ ap (λ (u : Totals). join u x) (join-neutral nothing_yet) ∙ neutral-join x ∙ map-parts m
