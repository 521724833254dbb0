-- What the numbers of an answered map, and of its run's before pruning, are bounded by: addresses by the code's length, counts and lengths by the output's 2^30 bytes. Assumes nothing.
use Prim.Native.Nat.{ℕ, ◌+◌, ◌^◌, ◌≤◌, ◌<◌}
use native.Mathlib.Omega.{arith}
use mathlib.Core.Path.{◌≡◌, refl, sym, ap, subst, ◌∙◌}
use mathlib.Core.Bool.{Bool, true, false, not}
use mathlib.Core.List.{List, [], ◌∷◌, map}
use lib.Dec.{eqb}
use lib.ListN.{length, length-append, length-map}
use borrow.Author.Tests.{eqb-true}
use Rattle.spec.specs.Lists.{keep, gather, little}
use Rattle.spec.specs.Opcodes.{Rules}
use Rattle.spec.specs.Blocks.{Kind, terminate, jump, jumpi, dynamic_jump, dynamic_jumpi, Block}
use Rattle.spec.specs.Search.{Node, Rec, is_nowhere, dest, dests}
use Rattle.spec.specs.Ending.{Final, final, all_are, merged, ended, entries_of, finals}
use Rattle.spec.specs.Rooms.{Lent, longest}
use Rattle.spec.specs.Entries.{wide_code, Map, record_entry, block_entries, entries, joined, bytes}
use Rattle.spec.specs.Answer.{answered, prepared, searched, mapped, answer}
use Rattle.spec.specs.Inspector.{unpruned}
use Rattle.laws.proofs.Branch.{both}
use Rattle.laws.proofs.Lists.{Rising, one_more}
use Rattle.laws.proofs.Members.{In, here, there, in_right, in-keep, length-keep, in-gather, gather_append, in_map, map-in}
use Rattle.theorems.proofs.Counts.{Lawful}
use Rattle.theorems.proofs.Sides.{Within}
use Rattle.theorems.proofs.Passing.{inner, Passes, record-passes}
use Rattle.theorems.proofs.Numbers.{search-up-to}
use Rattle.theorems.proofs.Demand3.{gave}
use Rattle.theorems.proofs.Answered.{finals-at, final-made, final-order, answered-energy, answered-final, answered-order}

-- ---- the statement

-- a record starts in the code, goes along it and ends in it, and was made within the highest limit
pub record RecBounded (n : ℕ) (r : Rec) : Type 0 where
  pub start : r.start < n
  pub path : (a : ℕ) → In a r.path → a < n
  pub to : (t : ℕ) → In t (dest r.to) → t < n
  pub long : length r.path ≤ 2 ^ 30
  pub number : r.energy ≤ 500000

-- a block that is not dynamic has no entries
abbrev pub Bare : List Rec → Kind → Type 0
Bare es (terminate success) = es ≡ []
Bare es (jump t) = es ≡ []
Bare es (jumpi t f) = es ≡ []
Bare es dynamic_jump = Unit {0}
Bare es (dynamic_jumpi f) = Unit {0}

-- a block lies in the code, and so do its sides but for a false one, which may stand right behind it; its entries are records of its own
pub record BlockBounded (n : ℕ) (f : Final) : Type 0 where
  pub id : f.block.id ≡ f.block.start
  pub start : f.block.start < n
  pub end : f.block.end < n
  pub sides : Within n f.block.kind
  pub bare : Bare f.entries f.block.kind
  pub many : length f.entries ≤ 2 ^ 30
  pub each : (r : Rec) → In r f.entries → RecBounded n r
  pub own : (r : Rec) → In r f.entries → r.start ≡ f.block.start

-- a map of a code of n bytes
pub record Bounded (n : ℕ) (m : Map) : Type 0 where
  pub size : m.size ≡ n
  pub size_fits : n ≤ longest
  pub energy : m.energy ≤ 500256
  pub block_count : length m.blocks ≤ n
  pub record_count : length m.recs ≤ 2 ^ 30
  pub rising : Rising 0 (finals-at m.blocks)
  pub blocks : (f : Final) → In f m.blocks → BlockBounded n f
  pub recs : (r : Rec) → In r m.recs → RecBounded n r

-- ---- a block at the end of the search

-- made of the block b, with some of the records es
record Made (n : ℕ) (b : Block) (es : List Rec) (f : Final) : Type 0 where
  start : f.block.start ≡ b.start
  sides : Within n f.block.kind
  bare : Bare f.entries f.block.kind
  among : (r : Rec) → In r f.entries → In r es
  fewer : length f.entries ≤ length es

module _ (n : ℕ) (b : Block) (es : List Rec) where
  abbrev kept-ones : List Rec
  kept-ones = keep (λ (r : Rec). not (is_nowhere r.to)) es

  made-dynamic : Made n b es (final dynamic_jump b kept-ones)
  made-dynamic = record { start = refl; sides = tt; bare = tt; among = λ r i. (in-keep (λ (r : Rec). not (is_nowhere r.to)) es i).1; fewer = length-keep _ es }

  made-jump : (t : ℕ) → t < n → Made n b es (final (jump t) b [])
  made-jump t h = record { start = refl; sides = h; bare = refl; among = λ r i. elim i [ ]; fewer = omega arith }

  made-merged : (ts : List ℕ) → ((t : ℕ) → In t ts → t < n) → Made n b es (merged b kept-ones ts)
  made-merged [] h = made-dynamic
  made-merged (t ∷ ts) h = both (Made n b es) (all_are t ts) (λ _. made-jump t (h t here)) (λ _. made-dynamic)

  made-ended : (k : Kind) → Within n k → ((t : ℕ) → In t (dests es) → t < n) → Made n b es (ended b es k)
  made-ended (terminate success) w h = record { start = refl; sides = tt; bare = refl; among = λ r i. elim i [ ]; fewer = omega arith }
  made-ended (jump t) w h = made-jump t w
  made-ended (jumpi t f) w h = record { start = refl; sides = w; bare = refl; among = λ r i. elim i [ ]; fewer = omega arith }
  made-ended dynamic_jump w h = made-merged (dests es) h
  made-ended (dynamic_jumpi f) w h = record { start = refl; sides = w; bare = tt; among = λ r i. i; fewer = omega arith }

-- ---- counts and lengths: an answer's output holds them

in-joined : {x : List ℕ} {xs : List (List ℕ)} → In x xs → length x ≤ length (joined xs)
in-joined (here {xs}) = simp length-append (omega arith)
in-joined (there {y} {xs} i) = simp length-append (omega (arith, in-joined i))

path-few : (p : List ℕ) → length p ≤ length (gather (little 2) p)
path-few [] = omega arith
path-few (a ∷ p) = omega (arith, path-few p)

recs-few : (wide b : Bool) (recs : List Rec) → length recs ≤ length (joined (map (record_entry wide b) recs))
recs-few wide b [] = omega arith
recs-few wide false (r ∷ recs) = simp length-append (omega (arith, recs-few wide false recs))
recs-few wide true (r ∷ recs) = simp length-append (omega (arith, recs-few wide true recs))

bytes-few : (m : Map) → length m.recs ≤ length (bytes m)
unfolding bytes entries
bytes-few m =
    rw (gather_append (λ (e : List ℕ). e) (block_entries m) (map (record_entry (wide_code m.size) m.numbered) m.recs)) (simp length-append (omega (arith, recs-few (wide_code m.size) m.numbered m.recs)))

record-long : (wide b : Bool) (r : Rec) → length r.path ≤ length (record_entry wide b r)
record-long wide false r = omega (arith, path-few r.path)
record-long wide true r = omega (arith, path-few r.path)

bytes-long : (m : Map) (r : Rec) → In r m.recs → length r.path ≤ length (bytes m)
unfolding bytes entries
bytes-long m r i = omega (arith, record-long (wide_code m.size) m.numbered r, in-joined {xs = entries m} (there (in_right (block_entries m) (map-in (record_entry (wide_code m.size) m.numbered) i))))

-- numbers that rise below n are at most n
rising-few : {low n : ℕ} (ns : List ℕ) → Rising low ns → ((t : ℕ) → In t ns → t < n) → low ≤ n → low + length ns ≤ n
rising-few [] r h l = omega arith
rising-few (a ∷ ns) (one_more k r) h l = let f = rising-few ns r (λ t i. h t (there i)) (h a here) in omega arith

-- ---- every answer

module _ (rules : Rules) (ok : Lawful rules.row) (l : Lent) (limit choice : ℕ) (code : List ℕ) (m : Map) (e : answer rules l limit choice code ≡ answered m) where
  abbrev the-recs : List Rec
  the-recs = (searched rules limit code).recs

  recs-are : m.recs ≡ the-recs
  unfolding mapped
  recs-are = ap (λ (a : Map). a.recs) (gave rules l limit choice code m e).is

  passes : (r : Rec) → In r the-recs → Passes (length code) r
  unfolding searched
  passes r i = record-passes rules ok limit code r i

  -- the records of the block at a
  mine : (a : ℕ) (r : Rec) → In r (entries_of a the-recs) → (eqb a r.start ≡ true) × In r the-recs
  mine a r i = in-keep (λ (q : Rec). eqb a q.start) the-recs i

  record MadeOf (f : Final) : Type 0 where
    block : Block
    made : Made (length code) block (entries_of block.start the-recs) f

  node_made : (x : Node) → In x (prepared rules code) → Made (length code) x.block (entries_of x.block.start the-recs) (ended x.block (entries_of x.block.start the-recs) x.block.kind)
  node_made x i = made-ended (length code) x.block es x.block.kind (inner rules ok code x i).kind low
    where
      es : List Rec
      es = entries_of x.block.start the-recs

      low : (t : ℕ) → In t (dests es) → t < length code
      low t j = let r = in-gather (λ (r : Rec). dest r.to) es j in (passes r.0 (mine x.block.start r.0 r.1).1).lands t r.2

  made_of : (f : Final) → In f (finals (prepared rules code) the-recs) → MadeOf f
  made_of f i =
      let g = in_map (λ (x : Node). ended x.block (entries_of x.block.start the-recs) x.block.kind) (prepared rules code) i in
      record { block = g.0.block; made = subst (Made (length code) g.0.block (entries_of g.0.block.start the-recs)) (sym g.2) (node_made g.0 g.1) }

  -- an entry of a final block is one of the records
  pub final-entry : (f : Final) → In f (finals (prepared rules code) the-recs) → (r : Rec) → In r f.entries → In r the-recs
  final-entry f i r j = let o = made_of f i in (mine o.block.start r (o.made.among r j)).1

  -- "of any room at most 2^30 units count as lent"
  output-short : length (bytes m) ≤ 2 ^ 30
  output-short = let o = (gave rules l limit choice code m e).output in omega arith

  recs-short : length the-recs ≤ 2 ^ 30
  recs-short = omega (arith, bytes-few m, ap length recs-are, output-short)

  -- no record's number is past the limit
  numbers : (r : Rec) → In r the-recs → r.energy ≤ 500000
  unfolding searched
  numbers r i = omega (arith, search-up-to limit (prepared rules code) r i, (gave rules l limit choice code m e).taken.limit-fits)

  rec-bounded : (r : Rec) → In r the-recs → RecBounded (length code) r
  rec-bounded r i =
      let p = passes r i in
      record { start = p.start; path = p.along.within; to = p.lands; long = omega (arith, bytes-long m r (subst (In r) (sym recs-are) i), output-short); number = numbers r i }

  block-bounded : (f : Final) → In f (finals (prepared rules code) the-recs) → BlockBounded (length code) f
  block-bounded f i =
      let b = final-made rules code the-recs ok f i in
      let o = made_of f i in
      record {
        id = b.id_start;
        start = b.start_inside;
        end = b.end_inside;
        sides = o.made.sides;
        bare = o.made.bare;
        many = omega (arith, o.made.fewer, length-keep (λ (q : Rec). eqb o.block.start q.start) the-recs, recs-short);
        each = λ r j. rec-bounded r (mine o.block.start r (o.made.among r j)).1;
        own = λ r j. sym (o.made.start ∙ eqb-true _ _ (mine o.block.start r (o.made.among r j)).0);
      }

  -- blocks in address order that are bounded are few
  blocks-few : (fs : List Final) → Rising 0 (finals-at fs) → ((f : Final) → In f fs → BlockBounded (length code) f) → length fs ≤ length code
  blocks-few fs order bounded = omega (arith, rising-few (finals-at fs) order inside (omega arith), length-map fs (λ (f : Final). f.block.start))
    where
      inside : (t : ℕ) → In t (finals-at fs) → t < length code
      inside t j = let g = in_map (λ (f : Final). f.block.start) fs j in omega (arith, g.2, (bounded g.0 g.1).start)

  -- a map of that run, of blocks that are among those before pruning
  run-bounded : (a : Map) → a.size ≡ length code → a.energy ≡ m.energy → a.recs ≡ the-recs → Rising 0 (finals-at a.blocks)
      → ((f : Final) → In f a.blocks → In f (finals (prepared rules code) the-recs)) → Bounded (length code) a
  run-bounded a size energy recs order among = record {
    size = size;
    size_fits = (gave rules l limit choice code m e).taken.code_fits;
    energy = omega (arith, energy, answered-energy rules l limit choice code m e, (gave rules l limit choice code m e).taken.limit-fits);
    block_count = blocks-few a.blocks order (λ f i. block-bounded f (among f i));
    record_count = omega (arith, recs-short, ap length recs);
    rising = order;
    blocks = λ f i. block-bounded f (among f i);
    recs = λ r i. rec-bounded r (subst (In r) recs i);
  }

  -- Every number of an answered map is bounded,
  pub answered-bounded : Bounded (length code) m
  unfolding mapped
  answered-bounded =
      let is = (gave rules l limit choice code m e).is in
      run-bounded m (ap (λ (a : Map). a.size) is) refl recs-are (answered-order rules l limit choice code m e ok) (answered-final rules l limit choice code m e)

  -- and every number of its run's map before pruning.
  pub unpruned-bounded : Bounded (length code) (unpruned rules choice code (searched rules limit code))
  unfolding unpruned mapped
  unpruned-bounded =
      run-bounded (unpruned rules choice code (searched rules limit code)) refl (sym (ap (λ (a : Map). a.energy) (gave rules l limit choice code m e).is)) refl
      (final-order rules code the-recs ok) (λ f i. i)
