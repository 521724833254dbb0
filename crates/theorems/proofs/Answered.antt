-- What holds of every answer that is given: its blocks, its record and its energy. Assumes nothing.
use Prim.Native.Nat.{ℕ, ◌+◌, ◌*◌, ◌≤◌}
use native.Mathlib.Omega.{arith}
use mathlib.Core.Path.{◌≡◌, refl, sym, ap, ap₂, subst, ◌∙◌}
use mathlib.Core.Bool.{Bool, true, false, not}
use mathlib.Core.List.{List, [], ◌∷◌, ◌++◌, map}
use lib.ListN.{length, length-append}
use borrow.Author.Tests.{not-true, ne_eqb}
use Rattle.spec.specs.Lists.{keep}
use Rattle.spec.specs.Opcodes.{Rules}
use Rattle.spec.specs.Walk.{Ins, instructions}
use Rattle.spec.specs.Blocks.{Kind, terminate, jump, jumpi, dynamic_jump, dynamic_jumpi, Block, with_kind, starts, blocks}
use Rattle.spec.specs.Stacks.{Ran, run}
use Rattle.spec.specs.Search.{Node, node, nodes, Rec, St, is_nowhere, dests}
use Rattle.spec.specs.Ending.{Final, all_are, merged, ended, entries_of, finals}
use Rattle.spec.specs.Rooms.{Lent}
use Rattle.spec.specs.Entries.{wide_code, Map, head, block_entries, record_entry, entries, joined, bytes}
use Rattle.spec.specs.Answer.{answered, prepared, searched, mapped, answer}
use Rattle.laws.proofs.Branch.{both}
use Rattle.laws.proofs.Lists.{Rising, one_more, rising-from}
use Rattle.laws.proofs.Members.{In, in-keep, in_map, gather_append}
use Rattle.theorems.proofs.Counts.{Lawful}
use Rattle.theorems.proofs.Cutting.{Made, made, starts-rise}
use Rattle.theorems.proofs.Energy.{counted-in, energy-is-counted, search-energy}
use Rattle.theorems.proofs.Records.{History, search-rounds, search-history}
use Rattle.theorems.proofs.Demand3.{gave}

-- where final blocks start
abbrev pub finals-at : List Final → List ℕ
finals-at = map (λ (f : Final). f.block.start)

-- ---- a final block is a block of the cut, with another kind

record Kept (b c : Block) : Type 0 where
  id : c.id ≡ b.id
  start : c.start ≡ b.start
  end : c.end ≡ b.end

same_block : {b : Block} {k : Kind} → Kept b (with_kind k b)
same_block = record { id = refl; start = refl; end = refl }

merged_keeps : (b : Block) (es : List Rec) (ts : List ℕ) → Kept b (merged b es ts).block
merged_keeps b es [] = same_block
merged_keeps b es (t ∷ ts) = both (λ (f : Final). Kept b f.block) (all_are t ts) (λ _. same_block) (λ _. same_block)

ended-keeps : (b : Block) (es : List Rec) (k : Kind) → Kept b (ended b es k).block
ended-keeps b es (terminate success) = same_block
ended-keeps b es (jump t) = same_block
ended-keeps b es (jumpi t f) = same_block
ended-keeps b es dynamic_jump = merged_keeps b _ (dests es)
ended-keeps b es (dynamic_jumpi f) = same_block

-- ---- a DynamicJump's entries all have a destination

abbrev AllFound : Final → Type 0
AllFound f = f.block.kind ≡ dynamic_jump → (r : Rec) → In r f.entries → is_nowhere r.to ≡ false

-- `v.to.unwrap()`: entries without destination were dropped
pub kept-found : (es : List Rec) {r : Rec} → In r (keep (λ (r : Rec). not (is_nowhere r.to)) es) → is_nowhere r.to ≡ false
kept-found es {r} i = not-true (is_nowhere r.to) (in-keep (λ (r : Rec). not (is_nowhere r.to)) es i).0

merged-found : (b : Block) (es : List Rec) (ts : List ℕ) → AllFound (merged b (keep (λ (r : Rec). not (is_nowhere r.to)) es) ts)
merged-found b es [] = λ e r i. kept-found es i
merged-found b es (t ∷ ts) = both AllFound (all_are t ts) (λ _ e r i. elim i [ ]) (λ _ e r i. kept-found es i)

ended-found : (b : Block) (es : List Rec) (k : Kind) → AllFound (ended b es k)
ended-found b es (terminate success) = λ e r i. elim i [ ]
ended-found b es (jump t) = λ e r i. elim i [ ]
ended-found b es (jumpi t f) = λ e r i. elim i [ ]
ended-found b es dynamic_jump = merged-found b es (dests es)
ended-found b es (dynamic_jumpi f) = λ e r i. let z : ◌≡◌ {A = ℕ} 0 1 = cc in absurd (omega arith)

-- ---- from a final block back to the cut's

module _ (recs : List Rec) {f : Final} (n : Node) (e : f ≡ ended n.block (entries_of n.block.start recs) n.block.kind) where
  final-found : AllFound f
  final-found = subst AllFound (sym e) (ended-found n.block (entries_of n.block.start recs) n.block.kind)

  final-keeps : (b : Block) (r : Ran) → n ≡ node b r → Kept b f.block
  final-keeps b r q =
      let k = subst (λ (g : Final). Kept n.block g.block) (sym e) (ended-keeps n.block (entries_of n.block.start recs) n.block.kind) in
      record {
        id = k.id ∙ ap (λ (m : Node). m.block.id) q;
        start = k.start ∙ ap (λ (m : Node). m.block.start) q;
        end = k.end ∙ ap (λ (m : Node). m.block.end) q;
      }

made_kept : {code : List ℕ} {b c : Block} → Kept b c → Made code b → Made code c
made_kept k m = record {
  id_start = k.id ∙ m.id_start ∙ sym k.start;
  begins = rw k.start m.begins;
  forward = rw (k.start, k.end) m.forward;
  start_inside = rw k.start m.start_inside;
  end_inside = rw k.end m.end_inside;
}

pub final-starts : (r : Rules) (code : List ℕ) (is : List Ins) (bs : List Block) (recs : List Rec) → finals-at (finals (nodes r code is bs) recs) ≡ starts bs
final-starts r code is [] recs = refl
final-starts r code is (b ∷ bs) recs =
    ap₂ {C = List ℕ} (λ (x : ℕ) (xs : List ℕ). x ∷ xs) (final-keeps recs (node b (run r code is b.start)) refl b (run r code is b.start) refl).start (final-starts r code is bs recs)

-- what is kept of a rising list rises
pub rising-keep : (test : Final → Bool) {lo : ℕ} (fs : List Final) → Rising lo (finals-at fs) → Rising lo (finals-at (keep test fs))
rising-keep test [] r = r
rising-keep test {lo} (f ∷ fs) (one_more h r) =
    both (λ (gs : List Final). Rising lo (finals-at gs)) (test f) (λ _. one_more h (rising-keep test fs r)) (λ _. rising-from (omega arith) (rising-keep test fs r))

-- ---- the final blocks, before pruning

module _ (r : Rules) (code : List ℕ) (recs : List Rec) where
  record FromCut (f : Final) : Type 0 where
    cut : Block
    member : In cut (blocks r.row code (instructions code))
    same : Kept cut f.block
    found : AllFound f

  from_cut : (f : Final) → In f (finals (prepared r code) recs) → FromCut f
  unfolding prepared
  from_cut f i =
      let n = in_map _ (prepared r code) i in
      let b = in_map (λ (b : Block). node b (run r code (instructions code) b.start)) (blocks r.row code (instructions code)) n.1 in
      record { cut = b.0; member = b.1; same = final-keeps recs n.0 n.2 b.0 _ b.2; found = final-found recs n.0 n.2 }

  pub final-made : Lawful r.row → (f : Final) → In f (finals (prepared r code) recs) → Made code f.block
  final-made ok f i = let c = from_cut f i in made_kept c.same (made ok code c.member)

  pub final-order : Lawful r.row → Rising 0 (finals-at (finals (prepared r code) recs))
  unfolding prepared
  final-order ok = subst (Rising 0) (sym (final-starts r code (instructions code) (blocks r.row code (instructions code)) recs)) (starts-rise ok code)

-- ---- every answer

module _ (r : Rules) (l : Lent) (limit choice : ℕ) (code : List ℕ) (a : Map) (e : answer r l limit choice code ≡ answered a) where
  the-map : a ≡ mapped r choice code (searched r limit code)
  the-map = (gave r l limit choice code a e).is

  -- "Energy used is the number of units counted in step 1"
  pub answered-counted : a.energy ≡ counted-in (search-rounds limit (prepared r code))
  unfolding mapped searched
  answered-counted = rw the-map (energy-is-counted limit (prepared r code))

  -- "the total may pass the limit, by at most 256"
  pub answered-energy : a.energy ≤ limit + 256
  unfolding mapped searched
  answered-energy = rw the-map (search-energy limit (prepared r code))

  -- each record came of those before it
  pub answered-history : History (prepared r code) a.recs
  unfolding mapped searched
  answered-history = rw the-map (search-history limit (prepared r code))

  -- its blocks are among those before pruning
  pub answered-final : (f : Final) → In f a.blocks → In f (finals (prepared r code) (searched r limit code).recs)
  unfolding mapped
  answered-final f i = (in-keep _ (finals (prepared r code) (searched r limit code).recs) (subst (λ (m : Map). In f m.blocks) the-map i)).1

  -- "`id` equals `start`", the end is not before the start, and both lie within the code
  pub answered-block : Lawful r.row → (f : Final) → In f a.blocks → Made code f.block
  answered-block ok f i = final-made r code (searched r limit code).recs ok f (answered-final f i)

  -- an entry of a DynamicJump has a destination
  pub answered-entry : (f : Final) → In f a.blocks → f.block.kind ≡ dynamic_jump → (r : Rec) → In r f.entries → is_nowhere r.to ≡ false
  answered-entry f i = (from_cut r code (searched r limit code).recs f (answered-final f i)).found

  -- blocks stand in address order
  pub answered-order : Lawful r.row → Rising 0 (finals-at a.blocks)
  unfolding mapped
  answered-order ok =
      let recs = (searched r limit code).recs in
      subst (λ (m : Map). Rising 0 (finals-at m.blocks)) (sym the-map) (rising-keep _ (finals (prepared r code) recs) (final-order r code recs ok))

-- ---- the bytes of an answer

bytes-long : (m : Map) → length (bytes m) ≡ 18 + (length (joined (block_entries m)) + length (joined (map (record_entry (wide_code m.size) m.numbered) m.recs)))
unfolding bytes entries
bytes-long m = ap (λ (bs : List ℕ). length (head m ++ bs)) (gather_append (λ (e : List ℕ). e) (block_entries m) (map (record_entry (wide_code m.size) m.numbered) m.recs)) ∙ simp length-append (omega arith)

-- the head alone has 18 bytes, so that what the exported entry counts is no refusal's number
pub answered-long : (m : Map) → 18 ≤ length (bytes m)
answered-long m = omega (arith, bytes-long m)

records-long : (wide : Bool) (rs : List Rec) → length (joined (map (record_entry wide true) rs)) ≡ length (joined (map (record_entry wide false) rs)) + 4 * length rs
records-long wide [] = refl
records-long wide (x ∷ rs) = let h = records-long wide rs in simp length-append (omega arith)

-- Document 02, No. 5: "where kind 9 is written the output need grows by 4 bytes a record".
pub numbers-written : (r : Rules) (choice : ℕ) → ¬ (choice ≡ 0) → (code : List ℕ) (s : St)
    → length (bytes (mapped r 0 code s)) ≡ length (bytes (mapped r choice code s)) + 4 * length s.recs
unfolding mapped
numbers-written r choice ne code s =
    let m = mapped r 0 code s in
    let plain : length (bytes (mapped r choice code s)) ≡ 18 + (length (joined (block_entries m)) + length (joined (map (record_entry (wide_code (length code)) false) s.recs))) =
    bytes-long (mapped r choice code s) ∙ rw (ne_eqb choice 0 ne) in
    bytes-long m ∙ rw (records-long (wide_code (length code)) s.recs) (omega arith)
