-- Document 02, "No. 2": "Reading what was written gives it back", of every map whose numbers have room in its entries. Assumes nothing.
use Prim.Native.Nat.{ℕ, suc, ◌+◌, ◌*◌, ◌^◌, ◌≤◌, ◌<◌}
use native.Mathlib.Omega.{arith}
use mathlib.Core.Path.{◌≡◌, refl, sym, ap, ap₂, subst, ◌∙◌}
use mathlib.Core.Bool.{Bool, true, false, ◌&&◌}
use mathlib.Core.List.{List, [], ◌∷◌, ◌++◌, map, append_assoc, append-nil}
use mathlib.Core.Option.{Option, none, some}
use lib.Dec.{eqb, leb}
use lib.ListN.{length, take, drop, length-append, length-map}
use lib.Seq.{take-append_seam, drop-append_seam, drop-drop}
use borrow.Author.Tests.{eq-eqb, ne_eqb, le-leb}
use Rattle.spec.specs.Lists.{if, gather, little, number}
use Rattle.spec.specs.Blocks.{Kind, terminate, jump, jumpi, dynamic_jump, dynamic_jumpi, block}
use Rattle.spec.specs.Search.{Found, nowhere, found, Rec}
use Rattle.spec.specs.Ending.{Final}
use Rattle.spec.specs.Entries.{wide_code, way_kind, record_kind, numbered_kind, Map, item, absent, destination, flag, path_bytes, entries, bytes, block_bytes}
use Rattle.spec.specs.Forms.{wide_in, announced, Entry, behind, Ends, TERMINATE, JUMP, JUMPI, DYNAMIC-JUMP, DYNAMIC-JUMPI, Sort, HEAD, WAY, RECORD, BLOCK, sort, long, dynamic, owes, start_in}
use Rattle.spec.specs.Reader.{holds, Piece, whole, pieces, formed, Place, first, blocks, records, next, goes_on, sevens, met, taken, first_bad, Item, a_head, a_block, a_way, a_record, no_item, destined, item_for, items, ways, finals_in, recs_in, numbered_in, counted, held, verdict, reading, read, stateless, plain_rec, plain_record, told_by, plain_final, plain}
use Rattle.laws.proofs.Branch.{if-true, if-false}
use Rattle.laws.proofs.Lists.{Rising, one_more}
use Rattle.laws.proofs.Members.{In, here, there, and-true}
use Rattle.theorems.proofs.Answered.{finals-at}
use Rattle.theorems.proofs.Bounds.{Bare}
use Rattle.theorems.proofs.ReaderSplit.{Split, done, more, moved, split, split-once}
use Rattle.theorems.proofs.Bytes.{number-little, addressed}
use Rattle.theorems.proofs.ReaderBack.{read-items}
use Rattle.theorems.proofs.ReaderItems.{written, way_for, block-items, items_of, map-bytes, blocks-as-items}

-- ---- what has room: every address, count and length fits its bytes, and a destination is not the number of a missing one

abbrev pub KindFits : Kind → Type 0
KindFits (terminate success) = Unit {0}
KindFits (jump t) = t < 65536
KindFits (jumpi t f) = (t < 65536) × (f < 65536)
KindFits dynamic_jump = Unit {0}
KindFits (dynamic_jumpi f) = f < 65536

module _ (wide : Bool) where
  abbrev pub FoundFits : Found → Type 0
  FoundFits nowhere = Unit {0}
  FoundFits (found t s) = (t < 65536) × (t ≡ (absent wide) → ⊥)

  pub record RecFits (r : Rec) : Type 0 where
    pub start : r.start < 65536
    pub to : FoundFits r.to
    pub path : (a : ℕ) → In a r.path → a < 65536
    pub long : length r.path ≤ 2 ^ 30
    pub number : r.energy < 2 ^ 32

  pub record FinalFits (f : Final) : Type 0 where
    pub id : f.block.id ≡ f.block.start
    pub start : f.block.start < 65536
    pub end : f.block.end < 65536
    pub kind : KindFits f.block.kind
    pub bare : Bare f.entries f.block.kind
    pub many : length f.entries < 2 ^ 32
    pub each : (r : Rec) → In r f.entries → RecFits r
    pub own : (r : Rec) → In r f.entries → r.start ≡ f.block.start

pub record MapFits (m : Map) : Type 0 where
  pub size : m.size < 65536
  pub energy : m.energy < 2 ^ 32
  pub block_count : length m.blocks < 65536
  pub record_count : length m.recs < 2 ^ 32
  pub rising : Rising 0 (finals-at m.blocks)
  pub finals : (f : Final) → In f m.blocks → FinalFits (wide_code m.size) f
  pub recs : (r : Rec) → In r m.recs → RecFits (wide_code m.size) r

-- ---- the kinds of a family

pub absent-fits : (wide : Bool) → absent wide < 256 ^ 2
absent-fits false = omega arith
absent-fits true = omega arith

way-low : (wide : Bool) → way_kind wide < 256 ^ 2
way-low false = omega arith
way-low true = omega arith

record-low : (wide : Bool) → record_kind wide < 256 ^ 2
record-low false = omega arith
record-low true = omega arith

numbered-low : (wide : Bool) → numbered_kind wide < 256 ^ 2
numbered-low false = omega arith
numbered-low true = omega arith

way-sorted : (wide : Bool) → sort wide (way_kind wide) ≡ WAY (absent wide)
unfolding sort if
way-sorted false = refl
way-sorted true = refl

record-sorted : (wide : Bool) → sort wide (record_kind wide) ≡ RECORD 4 (absent wide)
unfolding sort if
record-sorted false = refl
record-sorted true = refl

numbered-sorted : (wide : Bool) → sort wide (numbered_kind wide) ≡ RECORD 8 (absent wide)
unfolding sort if
numbered-sorted false = refl
numbered-sorted true = refl

-- ---- one entry of bytes that were written

abbrev with_kind : ℕ → List ℕ → Entry
with_kind k body = record { kind = k; body = body }

split-written : (k : ℕ) (body rest : List ℕ) {at : ℕ} {ps : List Piece} → k < 256 ^ 2 → length body < 256 ^ 4 → Split (at + (6 + length body)) rest ps
    → Split at (item k body ++ rest) (whole at (with_kind k body) ∷ ps)
split-written k body rest {at} {ps} hk hb s =
    subst (λ (e : Entry). Split at b (whole at e ∷ ps)) (λ i. with_kind (number-little 2 k hk i) (the-body i))
    (more (omega (arith, announces, length-append body rest)) (moved (ap (λ (n : ℕ). at + (6 + n)) (sym announces)) (sym the_rest) s))
  where
    b : List ℕ
    b = item k body ++ rest

    announces : announced b ≡ length body
    announces = number-little 4 (length body) hb

    the-body : take (announced b) (drop 6 b) ≡ body
    the-body = ap (λ (n : ℕ). take n (body ++ rest)) announces ∙ take-append_seam body rest

    the_rest : behind b ≡ rest
    the_rest = ap (λ (n : ℕ). drop (6 + n) b) announces ∙ sym (drop-drop (length body) 6 b) ∙ drop-append_seam body rest

-- ---- what is read of an item's bytes

abbrev pub plain-item : Item → Item
plain-item (a_head s n m e) = a_head s n m e
plain-item (a_block b n) = a_block b n
plain-item (a_way t p) = a_way (stateless t) p
plain-item (a_record b r) = a_record b (plain_record b r)
plain-item no_item = no_item

-- the 7s that come first
abbrev leading : List Item → ℕ
leading [] = 0
leading (a_head s n m e ∷ is) = 0
leading (a_block b n ∷ is) = 0
leading (a_way t p ∷ is) = suc (leading is)
leading (a_record b r ∷ is) = 0
leading (no_item ∷ is) = 0

pub addresses-long : (p : List ℕ) → length (gather (little 2) p) ≡ 2 * length p
addresses-long [] = refl
addresses-long (a ∷ p) = omega (arith, addresses-long p)

-- ---- a block of each kind; a dynamic one owes its count

abbrev takes-sevens : Kind → Bool
takes-sevens (terminate success) = false
takes-sevens (jump t) = false
takes-sevens (jumpi t f) = false
takes-sevens dynamic_jump = true
takes-sevens (dynamic_jumpi f) = true

abbrev owed : Kind → ℕ → Option ℕ
owed (terminate success) n = none
owed (jump t) n = none
owed (jumpi t f) n = none
owed dynamic_jump n = some n
owed (dynamic_jumpi f) n = some n

abbrev CountFits : Kind → ℕ → Type 0
CountFits (terminate success) n = n ≡ 0
CountFits (jump t) n = n ≡ 0
CountFits (jumpi t f) n = n ≡ 0
CountFits dynamic_jump n = n < 2 ^ 32
CountFits (dynamic_jumpi f) n = n < 2 ^ 32

-- ---- the items of a map, from each place on

-- behind the head
abbrev pub behind-items : Bool → List Rec → List Final → List Item
behind-items numbered rs fs = gather block-items fs ++ map (a_record numbered) rs

-- where the path length of a record stands
abbrev path-at : Bool → ℕ
path-at false = 4
path-at true = 8

-- places where such a record may come
pub data Late (at : ℕ) : Place → Type 0 where
  in_blocks : {low : ℕ} {d : Bool} → Late at (blocks low d)
  in_records : Late at (records at)

leading-ways : (es : List Rec) (is : List Item) → leading is ≡ 0 → leading (map way_for es ++ is) ≡ length es
leading-ways [] is e = e
leading-ways (r ∷ es) is e = ap suc (leading-ways es is e)

leading-none : (numbered : Bool) (fs : List Final) (rs : List Rec) → leading (gather block-items fs ++ map (a_record numbered) rs) ≡ 0
leading-none numbered [] [] = refl
leading-none numbered [] (r ∷ rs) = refl
leading-none numbered (f ∷ fs) rs = refl

count_fits : (es : List Rec) (k : Kind) → Bare es k → length es < 2 ^ 32 → CountFits k (length es)
count_fits es (terminate success) e h = ap length e
count_fits es (jump t) e h = ap length e
count_fits es (jumpi t f) e h = ap length e
count_fits es dynamic_jump e h = h
count_fits es (dynamic_jumpi f) e h = h

module _ (wide : Bool) where
  -- the bytes of items, from a place on: they are read, each as it was, and nothing is bad
  record Got (p : Place) (is : List Item) (at : ℕ) : Type 0 where
    ps : List Piece
    splits : Split at (gather (written wide) is) ps
    same : items wide ps ≡ map plain-item is
    good : first_bad wide ps p ≡ none
    run : sevens wide ps ≡ leading is

  -- an item, as the entry that is read, of kind k
  record Reads (it : Item) (k : ℕ) (s : Sort) (body : List ℕ) : Type 0 where
    bytes_are : written wide it ≡ item k body
    low : k < 256 ^ 2
    sorted : sort wide k ≡ s
    fits : length body < 256 ^ 4
    form : formed s body ≡ true
    same : item_for s body ≡ plain-item it

  got-one : (it : Item) (is : List Item) (k : ℕ) (s : Sort) (body : List ℕ) → Reads it k s body → {p q : Place} {at : ℕ} → next s (start_in body) p ≡ some q
      → (g : Got q is (at + (6 + length body))) → met wide (owes s body) g.ps ≡ true → goes_on s (suc (leading is)) ≡ leading (it ∷ is) → Got p (it ∷ is) at
  unfolding items first_bad sevens
  got-one it is k s body r {p} {q} {at} n g m l = record {
    ps = whole at e ∷ g.ps;
    splits = rw r.bytes_are (split-written k body (gather (written wide) is) r.low r.fits g.splits);
    same = ap₂ {C = List Item} (λ (x : Item) (xs : List Item). x ∷ xs) (ap (λ (t : Sort). item_for t body) r.sorted ∙ r.same) g.same;
    good = ap (λ (t : Sort). taken at (formed t body && met wide (owes t body) g.ps) on (next t (start_in body) p)) r.sorted
        ∙ ap (taken at (formed s body && met wide (owes s body) g.ps) on) n
        ∙ if-true (formed s body && met wide (owes s body) g.ps) _ _ (and-true _ _ r.form m) ∙ g.good;
    run = ap₂ (λ (t : Sort) (j : ℕ). goes_on t (suc j)) r.sorted g.run ∙ l;
  }
    where
      e : Entry
      e = with_kind k body

      on : Place → Option ℕ
      on r = first_bad wide g.ps r

  -- ---- each kind

  destined-is : (t : Found) → FoundFits wide t → destined (absent wide) (destination wide t) ≡ stateless t
  unfolding if
  destined-is nowhere h = if-true (eqb (absent wide) (absent wide)) _ _ (eq-eqb (absent wide) _ refl)
  destined-is (found t s) h = if-false (eqb t (absent wide)) _ _ (ne_eqb t (absent wide) (λ e. omega arith))

  destination-fits : (t : Found) → FoundFits wide t → destination wide t < 256 ^ 2
  destination-fits nowhere h = absent-fits wide
  destination-fits (found t s) h = omega arith

  reads-head : (s n m e : ℕ) → s < 65536 → n < 65536 → m < 2 ^ 32 → e < 2 ^ 32
      → Reads (a_head s n m e) 1 HEAD (little 2 s ++ little 2 n ++ little 4 m ++ little 4 e)
  unfolding sort if
  reads-head s n m e hs hn hm he = record {
    bytes_are = refl;
    low = omega arith;
    sorted = refl;
    fits = omega arith;
    form = refl;
    same = λ i. a_head (number-little 2 s hs i) (number-little 2 n hn i) (number-little 4 m hm i) (number-little 4 e he i);
  }

  reads-way : (t : Found) (p : List ℕ) → FoundFits wide t → ((a : ℕ) → In a p → a < 65536) → length p ≤ 2 ^ 30
      → Reads (a_way t p) (way_kind wide) (WAY (absent wide)) (little 2 (destination wide t) ++ path_bytes p)
  unfolding sort if
  reads-way t p ht hp hl =
      let d = number-little 2 (destination wide t) (destination-fits t ht) in
      let n = number-little 4 (length p) (omega arith) in
      let body = little 2 (destination wide t) ++ path_bytes p in
      let sized : length body ≡ long (WAY (absent wide)) body = omega (arith, addresses-long p, n) in
      record {
        bytes_are = refl;
        low = way-low wide;
        sorted = way-sorted wide;
        fits = omega (arith, addresses-long p);
        form = and-true _ _ (eq-eqb _ _ sized) refl;
        same = ap₂ {C = Item} a_way (ap (destined (absent wide)) d ∙ destined-is t ht) (addressed p hp);
      }

  reads-record : (r : Rec) → RecFits wide r → Reads (a_record false r) (record_kind wide) (RECORD 4 (absent wide)) (little 2 r.start ++ little 2 (destination wide r.to) ++ path_bytes r.path)
  unfolding sort if
  reads-record r h =
      let a = number-little 2 r.start h.start in
      let d = ap (destined (absent wide)) (number-little 2 (destination wide r.to) (destination-fits r.to h.to)) ∙ destined-is r.to h.to in
      let n = number-little 4 (length r.path) (omega (arith, h.long)) in
      let p = addressed r.path h.path in
      let body = little 2 r.start ++ little 2 (destination wide r.to) ++ path_bytes r.path in
      let sized : length body ≡ long (RECORD 4 (absent wide)) body = omega (arith, addresses-long r.path, n) in
      record {
        bytes_are = refl;
        low = record-low wide;
        sorted = record-sorted wide;
        fits = omega (arith, addresses-long r.path, h.long);
        form = and-true _ _ (eq-eqb _ _ sized) refl;
        same = λ i. a_record false (record { start = a i; to = d i; path = p i; energy = 0 });
      }

  reads-numbered : (r : Rec) → RecFits wide r
      → Reads (a_record true r) (numbered_kind wide) (RECORD 8 (absent wide)) (little 2 r.start ++ little 2 (destination wide r.to) ++ little 4 r.energy ++ path_bytes r.path)
  unfolding sort if
  reads-numbered r h =
      let a = number-little 2 r.start h.start in
      let d = ap (destined (absent wide)) (number-little 2 (destination wide r.to) (destination-fits r.to h.to)) ∙ destined-is r.to h.to in
      let v = number-little 4 r.energy h.number in
      let n = number-little 4 (length r.path) (omega (arith, h.long)) in
      let p = addressed r.path h.path in
      let body = little 2 r.start ++ little 2 (destination wide r.to) ++ little 4 r.energy ++ path_bytes r.path in
      let sized : length body ≡ long (RECORD 8 (absent wide)) body = omega (arith, addresses-long r.path, n) in
      record {
        bytes_are = refl;
        low = numbered-low wide;
        sorted = numbered-sorted wide;
        fits = omega (arith, addresses-long r.path, h.long);
        form = and-true _ _ (eq-eqb _ _ sized) refl;
        same = λ i. a_record true (record { start = a i; to = d i; path = p i; energy = v i });
      }

  module _ (i a e : ℕ) (same_id : i ≡ a) (ha : a < 65536) (he : e < 65536) where
    record BlockReads (k : Kind) (n : ℕ) : Type 0 where
      number_is : ℕ
      ends : Ends
      body : List ℕ
      reads : Reads (a_block (block i a e k) n) number_is (BLOCK ends) body
      starts : start_in body ≡ a
      dyn : dynamic ends ≡ takes-sevens k
      owing : owes (BLOCK ends) body ≡ owed k n

    -- start and end, before the rest of a body
    abbrev spanned : List ℕ → List ℕ
    spanned rest = little 2 a ++ little 2 e ++ rest

    block-is : {k l : Kind} {n m : ℕ} → k ≡ l → n ≡ m → a_block (block (number (little 2 a)) (number (little 2 a)) (number (little 2 e)) k) n ≡ a_block (block i a e l) m
    block-is q r = λ j. a_block (block ((number-little 2 a ha ∙ sym same_id) j) (number-little 2 a ha j) (number-little 2 e he j) (q j)) (r j)

    success-is : (success : Bool) → eqb (number (flag success ∷ [])) 1 ≡ success
    unfolding number
    success-is true = refl
    success-is false = refl

    success-fair : (success : Bool) → leb (number (flag success ∷ [])) 1 ≡ true
    unfolding number
    success-fair true = refl
    success-fair false = refl

    reads-block : (k : Kind) (n : ℕ) → KindFits k → CountFits k n → BlockReads k n
    unfolding sort if
    reads-block (terminate success) n hk hn = record {
      number_is = 2;
      ends = TERMINATE;
      body = spanned (flag success ∷ []);
      reads = record { bytes_are = refl; low = omega arith; sorted = refl; fits = omega arith; form = success-fair success; same = block-is (ap terminate (success-is success)) (sym hn) };
      starts = number-little 2 a ha;
      dyn = refl;
      owing = refl;
    }
    reads-block (jump t) n hk hn = record {
      number_is = 3;
      ends = JUMP;
      body = spanned (little 2 t);
      reads = record { bytes_are = refl; low = omega arith; sorted = refl; fits = omega arith; form = refl; same = block-is (ap jump (number-little 2 t hk)) (sym hn) };
      starts = number-little 2 a ha;
      dyn = refl;
      owing = refl;
    }
    reads-block (jumpi t f) n hk hn = record {
      number_is = 4;
      ends = JUMPI;
      body = spanned (little 2 t ++ little 2 f);
      reads = record { bytes_are = refl; low = omega arith; sorted = refl; fits = omega arith; form = refl; same = block-is (ap₂ jumpi (number-little 2 t hk.0) (number-little 2 f hk.1)) (sym hn) };
      starts = number-little 2 a ha;
      dyn = refl;
      owing = refl;
    }
    reads-block dynamic_jump n hk hn = record {
      number_is = 5;
      ends = DYNAMIC-JUMP;
      body = spanned (little 4 n);
      reads = record { bytes_are = refl; low = omega arith; sorted = refl; fits = omega arith; form = refl; same = block-is refl (number-little 4 n hn) };
      starts = number-little 2 a ha;
      dyn = refl;
      owing = ap some (number-little 4 n hn);
    }
    reads-block (dynamic_jumpi f) n hk hn = record {
      number_is = 6;
      ends = DYNAMIC-JUMPI;
      body = spanned (little 2 f ++ little 4 n);
      reads = record { bytes_are = refl; low = omega arith; sorted = refl; fits = omega arith; form = refl; same = block-is (ap dynamic_jumpi (number-little 2 f hk)) (number-little 4 n hn) };
      starts = number-little 2 a ha;
      dyn = refl;
      owing = ap some (number-little 4 n hn);
    }

  got-none : {at : ℕ} {p : Place} → Late at p → (to : ℕ) → Got p [] to
  unfolding items first_bad sevens
  got-none in_blocks at = record { ps = []; splits = done; same = refl; good = refl; run = refl }
  got-none in_records at = record { ps = []; splits = done; same = refl; good = refl; run = refl }

  record-next : (at : ℕ) {p : Place} → Late at p → (start : ℕ) → next (RECORD at (absent wide)) start p ≡ some (records at)
  record-next at in_blocks start = refl
  record-next at in_records start = if-true _ _ _ (eq-eqb at at refl)

  got-records : (numbered : Bool) (rs : List Rec) → ((r : Rec) → In r rs → RecFits wide r) → {p : Place} → Late (path-at numbered) p → (at : ℕ) → Got p (map (a_record numbered) rs) at
  got-records numbered [] h p at = got-none p at
  got-records false (r ∷ rs) h p at =
      got-one (a_record false r) (map (a_record false) rs) (record_kind wide) (RECORD 4 (absent wide)) _ (reads-record r (h r here)) (record-next 4 p (start_in (little 2 r.start ++ little 2 (destination wide r.to) ++ path_bytes r.path))) (got-records false rs (λ q i. h q (there i)) in_records _) refl refl
  got-records true (r ∷ rs) h p at =
      got-one (a_record true r) (map (a_record true) rs) (numbered_kind wide) (RECORD 8 (absent wide)) _ (reads-numbered r (h r here)) (record-next 8 p (start_in (little 2 r.start ++ little 2 (destination wide r.to) ++ little 4 r.energy ++ path_bytes r.path))) (got-records true rs (λ q i. h q (there i)) in_records _) refl refl

  got-ways : (es : List Rec) → ((r : Rec) → In r es → RecFits wide r) → {low : ℕ} (is : List Item) → ((at : ℕ) → Got (blocks low true) is at) → (at : ℕ)
      → Got (blocks low true) (map way_for es ++ is) at
  got-ways [] h is g at = g at
  got-ways (r ∷ es) h {low} is g at =
      got-one (way_for r) (map way_for es ++ is) (way_kind wide) (WAY (absent wide)) _ (reads-way r.to r.path (h r here).to (h r here).path (h r here).long) refl (got-ways es (λ q i. h q (there i)) is g _) refl refl

  met-owed : (k : Kind) (n : ℕ) (ps : List Piece) → n ≡ sevens wide ps → met wide (owed k n) ps ≡ true
  met-owed (terminate success) n ps e = refl
  met-owed (jump t) n ps e = refl
  met-owed (jumpi t f) n ps e = refl
  met-owed dynamic_jump n ps e = eq-eqb n (sevens wide ps) e
  met-owed (dynamic_jumpi f) n ps e = eq-eqb n (sevens wide ps) e

  module _ (numbered : Bool) (rs : List Rec) (each : (r : Rec) → In r rs → RecFits wide r) where
    -- the 7s of a block, then what stands behind
    got-behind : (es : List Rec) → ((r : Rec) → In r es → RecFits wide r) → {low : ℕ} (is : List Item) → ((d : Bool) (at : ℕ) → Got (blocks low d) is at)
        → (k : Kind) → Bare es k → (at : ℕ) → Got (blocks low (takes-sevens k)) (map way_for es ++ is) at
    got-behind es h is g (terminate success) e at = rw e (g false at)
    got-behind es h is g (jump t) e at = rw e (g false at)
    got-behind es h is g (jumpi t f) e at = rw e (g false at)
    got-behind es h is g dynamic_jump e at = got-ways es h is (g true) at
    got-behind es h is g (dynamic_jumpi f) e at = got-ways es h is (g true) at

    got-blocks : (fs : List Final) → ((f : Final) → In f fs → FinalFits wide f) → {low : ℕ} → Rising low (finals-at fs) → (d : Bool) (at : ℕ)
        → Got (blocks low d) (behind-items numbered rs fs) at
    got-blocks [] h r d at = got-records numbered rs each in_blocks at
    got-blocks (f ∷ fs) h {low} (one_more l r) d at =
        let k = h f here in
        let b = f.block in
        let es = f.entries in
        let n = length es in
        let w = reads-block b.id b.start b.end k.id k.start k.end b.kind n k.kind (count_fits es b.kind k.bare k.many) in
        let low-enough : low ≤ start_in w.body = rw w.starts l in
        let comes : next (BLOCK w.ends) (start_in w.body) (blocks low d) ≡ some (blocks (suc b.start) (takes-sevens b.kind)) =
        if-true _ _ _ (le-leb low (start_in w.body) low-enough) ∙ ap₂ (λ (a : ℕ) (t : Bool). some (blocks (suc a) t)) w.starts w.dyn in
        let g = got-behind es k.each (behind-items numbered rs fs) (got-blocks fs (λ q i. h q (there i)) r) b.kind k.bare (at + (6 + length w.body)) in
        let count : n ≡ sevens wide g.ps = sym (g.run ∙ leading-ways es (behind-items numbered rs fs) (leading-none numbered fs rs)) in
        subst (λ (is : List Item). Got (blocks low d) is at)
        (ap {B = List Item} (λ (is : List Item). a_block b n ∷ is) (sym (append_assoc (map way_for es) (gather block-items fs) (map (a_record numbered) rs))))
        (got-one (a_block b n) (map way_for es ++ behind-items numbered rs fs) w.number_is (BLOCK w.ends) w.body w.reads comes g
        (ap (λ (o : Option ℕ). met wide o g.ps) w.owing ∙ met-owed b.kind n g.ps count) refl)

-- ---- the map of those items

module _ (is : List Item) where
  ways-plain : (a : ℕ) (es : List Rec) → ((r : Rec) → In r es → r.start ≡ a) → ways a (map plain-item is) ≡ [] → ways a (map plain-item (map way_for es ++ is)) ≡ map plain_rec es
  unfolding ways
  ways-plain a [] h e = e
  ways-plain a (r ∷ es) h e =
      ap₂ {C = List Rec} (λ (n : ℕ) (l : List Rec). record { start = n; to = stateless r.to; path = r.path; energy = 0 } ∷ l) (sym (h r here)) (ways-plain a es (λ q i. h q (there i)) e)

  finals-past : (es : List Rec) → finals_in (map plain-item (map way_for es ++ is)) ≡ finals_in (map plain-item is)
  unfolding finals_in
  finals-past [] = refl
  finals-past (r ∷ es) = finals-past es

  recs-past : (es : List Rec) → recs_in (map plain-item (map way_for es ++ is)) ≡ recs_in (map plain-item is)
  unfolding recs_in
  recs-past [] = refl
  recs-past (r ∷ es) = recs-past es

module _ (is : List Item) where
  numbered-past : (es : List Rec) → numbered_in (map plain-item (map way_for es ++ is)) ≡ numbered_in (map plain-item is)
  unfolding numbered_in
  numbered-past [] = refl
  numbered-past (r ∷ es) = numbered-past es

module _ (numbered : Bool) (rs : List Rec) where
  no-ways : (a : ℕ) (fs : List Final) → ways a (map plain-item (behind-items numbered rs fs)) ≡ []
  unfolding ways
  no-ways a [] = none_in rs
    where
      none_in : (rs : List Rec) → ways a (map plain-item (map (a_record numbered) rs)) ≡ []
      none_in [] = refl
      none_in (r ∷ rs) = refl
  no-ways a (f ∷ fs) = refl

  finals-plain : (fs : List Final) → ((f : Final) → In f fs → (r : Rec) → In r f.entries → r.start ≡ f.block.start) → finals_in (map plain-item (behind-items numbered rs fs)) ≡ map plain_final fs
  unfolding finals_in
  finals-plain [] h = none_in rs
    where
      none_in : (rs : List Rec) → finals_in (map plain-item (map (a_record numbered) rs)) ≡ []
      none_in [] = refl
      none_in (r ∷ rs) = none_in rs
  finals-plain (f ∷ fs) h =
      let es = f.entries in
      let b = f.block in
      ap (λ (is : List Item). finals_in (a_block b (length es) ∷ map plain-item is)) (append_assoc (map way_for es) (gather block-items fs) (map (a_record numbered) rs))
      ∙ ap₂ {C = List Final} (λ (l : List Rec) (gs : List Final). record { block = b; entries = l } ∷ gs)
      (ways-plain (behind-items numbered rs fs) b.start es (h f here) (no-ways b.start fs))
      (finals-past (behind-items numbered rs fs) es ∙ finals-plain fs (λ g i. h g (there i)))

  recs-plain : (fs : List Final) → recs_in (map plain-item (behind-items numbered rs fs)) ≡ map (plain_record numbered) rs
  unfolding recs_in
  recs-plain [] = all_in rs
    where
      all_in : (rs : List Rec) → recs_in (map plain-item (map (a_record numbered) rs)) ≡ map (plain_record numbered) rs
      all_in [] = refl
      all_in (r ∷ rs) = ap {B = List Rec} (λ (l : List Rec). plain_record numbered r ∷ l) (all_in rs)
  recs-plain (f ∷ fs) =
      ap (λ (is : List Item). recs_in (map plain-item is)) (append_assoc (map way_for f.entries) (gather block-items fs) (map (a_record numbered) rs))
      ∙ recs-past (behind-items numbered rs fs) f.entries ∙ recs-plain fs

  numbered-plain : (fs : List Final) → numbered_in (map plain-item (behind-items numbered rs fs)) ≡ told_by rs numbered
  unfolding numbered_in
  numbered-plain [] = by_first rs
    where
      by_first : (rs : List Rec) → numbered_in (map plain-item (map (a_record numbered) rs)) ≡ told_by rs numbered
      by_first [] = refl
      by_first (r ∷ rs) = refl
  numbered-plain (f ∷ fs) =
      ap (λ (is : List Item). numbered_in (map plain-item is)) (append_assoc (map way_for f.entries) (gather block-items fs) (map (a_record numbered) rs))
      ∙ numbered-past (behind-items numbered rs fs) f.entries ∙ numbered-plain fs

module _ (wide : Bool) where
  -- ---- what is not read is not written

  destination-plain : (t : Found) → destination wide (stateless t) ≡ destination wide t
  destination-plain nowhere = refl
  destination-plain (found t s) = refl

  written-plain : (it : Item) → written wide (plain-item it) ≡ written wide it
  written-plain (a_head s n m e) = refl
  written-plain (a_block b n) = refl
  written-plain (a_way t p) = ap (λ (n : ℕ). item (way_kind wide) (little 2 n ++ path_bytes p)) (destination-plain t)
  written-plain (a_record false r) = ap (λ (n : ℕ). item (record_kind wide) (little 2 r.start ++ little 2 n ++ path_bytes r.path)) (destination-plain r.to)
  written-plain (a_record true r) = ap (λ (n : ℕ). item (numbered_kind wide) (little 2 r.start ++ little 2 n ++ little 4 r.energy ++ path_bytes r.path)) (destination-plain r.to)
  written-plain no_item = refl

  gather-plain : (is : List Item) → gather (written wide) (map plain-item is) ≡ gather (written wide) is
  gather-plain [] = refl
  gather-plain (it ∷ is) = ap₂ (λ (x y : List ℕ). x ++ y) (written-plain it) (gather-plain is)

-- ---- the whole

module _ (m : Map) (h : MapFits m) where
  abbrev wide : Bool
  wide = wide_code m.size

  got : Got wide first (items_of m) 0
  got =
      let s = reads-head wide m.size (length m.blocks) (length m.recs) m.energy h.size h.block_count h.record_count h.energy in
      got-one wide _ (behind-items m.numbered m.recs m.blocks) 1 HEAD _ s refl (got-blocks wide m.numbered m.recs h.recs m.blocks h.finals h.rising false _) refl refl

  held_plain : held (map plain-item (items_of m)) ≡ holds (plain m)
  held_plain =
      let blocks_are = finals-plain m.numbered m.recs m.blocks (λ f i. (h.finals f i).own) in
      let recs-are = recs-plain m.numbered m.recs m.blocks in
      let numbered-are = numbered-plain m.numbered m.recs m.blocks in
      ap₂ (λ (fs : List Final) (rs : List Rec). counted (length m.blocks) (length m.recs) (record { size = m.size; energy = m.energy; blocks = fs; recs = rs; numbered = numbered_in (map plain-item (behind-items m.numbered m.recs m.blocks)) })) blocks_are recs-are
      ∙ ap (λ (b : Bool). counted (length m.blocks) (length m.recs) (record { size = m.size; energy = m.energy; blocks = map plain_final m.blocks; recs = map (plain_record m.numbered) m.recs; numbered = b })) numbered-are
      ∙ if-true _ _ _ (and-true _ _ (eq-eqb _ _ (sym (length-map m.blocks plain_final))) (eq-eqb _ _ (sym (length-map m.recs (plain_record m.numbered)))))

  same_bytes : bytes m ≡ gather (written wide) (items_of m)
  same_bytes = map-bytes m (λ f i. (h.finals f i).bare)

  the-pieces : pieces (bytes m) 0 0 ≡ got.ps
  the-pieces = ap (λ (b : List ℕ). pieces b 0 0) same_bytes ∙ split-once got.splits (split (gather (written wide) (items_of m)))

  -- its head names its own family
  named : wide_in (bytes m) ≡ wide
  unfolding bytes entries
  named = ap wide_code (number-little 2 m.size h.size)

  -- Reading what was written gives it back: all of the map but the states kept for destinations and, without kind 9, the records' numbers, which are
  -- not written.
  pub read-written : read (bytes m) ≡ holds (plain m)
  unfolding read reading
  read-written =
      ap (λ (w : Bool). reading w (bytes m)) named ∙ ap (λ (ps : List Piece). verdict wide ps (first_bad wide ps first)) the-pieces ∙ ap (verdict wide got.ps) got.good ∙ ap held got.same ∙ held_plain

  -- Nothing else is lost: the map that is read has the same bytes.
  pub plain-bytes : bytes (plain m) ≡ bytes m
  plain-bytes =
      let back = read-items (bytes m) (plain m) read-written in
      map-bytes (plain m) back.bare ∙ ap (gather (written wide)) (sym back.same ∙ ap (λ (w : Bool). items w (pieces (bytes m) 0 0)) named ∙ ap (items wide) the-pieces ∙ got.same) ∙ gather-plain wide (items_of m) ∙ sym same_bytes

  -- The block entries are read by themselves too.
  got-shown : Got wide (blocks 0 false) (behind-items false [] m.blocks) 0
  got-shown = got-blocks wide false [] (λ r i. elim i [ ]) m.blocks h.finals h.rising false 0

  shown-pieces : pieces (block_bytes m) 0 0 ≡ got-shown.ps
  shown-pieces =
      ap (λ (b : List ℕ). pieces b 0 0) (blocks-as-items m (λ f i. (h.finals f i).bare) ∙ ap (gather (written wide)) (sym (append-nil (gather block-items m.blocks))))
      ∙ split-once got-shown.splits (split (gather (written wide) (behind-items false [] m.blocks)))

  -- Reading the block entries gives the blocks back.
  pub blocks-written : finals_in (items wide (pieces (block_bytes m) 0 0)) ≡ map plain_final m.blocks
  blocks-written = ap (λ (ps : List Piece). finals_in (items wide ps)) shown-pieces ∙ ap finals_in got-shown.same ∙ finals-plain false [] m.blocks (λ f i. (h.finals f i).own)
