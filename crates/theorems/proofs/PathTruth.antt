-- Document 02, No. 7: "The whole path is true": the target that a recorded path's last jump pops is the recorded destination, on any words that meet what is
-- asked on the way. Assumes nothing.
use Prim.Native.Nat.{ℕ}
use native.Mathlib.Omega.{arith}
use mathlib.Core.Path.{◌≡◌, refl, sym, ap, subst, ◌∙◌}
use mathlib.Core.Bool.{true}
use mathlib.Core.List.{List, [], ◌∷◌, ◌++◌}
use Rattle.spec.specs.Opcodes.{Rules}
use Rattle.spec.specs.Walk.{Ins, instructions, from}
use Rattle.spec.specs.Blocks.{Kind, terminate, jump, jumpi, dynamic_jump, dynamic_jumpi, Block, blocks}
use Rattle.spec.specs.Stacks.{Sym, before, jumpdest, Stack, read, through, compose, Ran, run}
use Rattle.spec.specs.Search.{Node, Parent, found, Rec, dests, Level}
use Rattle.spec.specs.Ending.{Final, all_are, merged, ended, entries_of, finals}
use Rattle.spec.specs.Rooms.{Lent}
use Rattle.spec.specs.Entries.{Map}
use Rattle.spec.specs.Answer.{answered, prepared, searched, mapped, answer}
use Rattle.spec.specs.PathJoins.{joined}
use Rattle.spec.specs.PathMeaning.{fetched, all_known, Leads}
use Rattle.laws.proofs.Branch.{both}
use Rattle.laws.proofs.Members.{In, here, there, in_right, in-keep, in_map}
use Rattle.theorems.proofs.Each.{Each, each_map, each_at, each_in}
use Rattle.theorems.proofs.Cutting.{Passes, walk_over, ends_before, ends_with, goes_past, block-afresh}
use Rattle.theorems.proofs.Composing.{read-compose}
use Rattle.theorems.proofs.PathLeads.{alone, replayed, replayed-append, Sees, path-leads}
use Rattle.theorems.proofs.Records.{Stored, Parented, Opens, first-level, deeper-level, Recorded, arrives, is_lost, too-heavy, Came, History, search-history}
use Rattle.theorems.proofs.Replay.{own, composed-on, Replays, ReplaysRec, own-run, turned, parent-replays, record-replays}
use Rattle.theorems.proofs.Trails.{Uncut, uncut-node, Trailed, grown, level-trail, record-trail}
use Rattle.theorems.proofs.Demand3.{gave}
use Rattle.theorems.proofs.Answered.{answered-history}
use Rattle.theorems.proofs.Counts.{Lawful}

module _ (rules : Rules) (ok : Lawful rules.row) where
  -- ---- a block of a path

  all-passed : {start end p : ℕ} {is : List Ins} → Passes rules.row start end p is → all_known rules.row start is ≡ true
  all-passed walk_over = refl
  all-passed (ends_before k l e) = rw (k, l)
  all-passed (ends_with k l e) = rw (k, l)
  all-passed (goes_past k l r) = rw (k, l) (all-passed r)

  module _ (code : List ℕ) where
    abbrev is : List Ins
    is = instructions code

    abbrev cut : List Block
    cut = blocks rules.row code is

    module _ {b : ℕ} (u : Uncut rules ok code b) where
      pub afresh : from b is ≡ fetched code b
      afresh = subst (λ (a : ℕ). from a is ≡ fetched code a) u.begins (block-afresh ok code u.member)

      known : all_known rules.row b (fetched code b) ≡ true
      known = rw (← afresh) (subst (λ (a : ℕ). all_known rules.row a (from a is) ≡ true) u.begins (all-passed u.passes))

      pub run_alone : run rules code is b ≡ alone rules ok code b
      unfolding run
      run_alone = rw afresh

    abbrev pub AllUncut : List ℕ → Type 0
    AllUncut path = (a : ℕ) → In a path → Uncut rules ok code a

    -- ---- what is read of a path's stack is what is replayed rules ok along the path

    read-composed : (s : Stack) (bs : List ℕ) → AllUncut bs → (n : ℕ) → read (composed-on rules code is s bs) n ≡ replayed rules ok code (read s n) bs
    unfolding composed-on replayed
    read-composed s [] u n = refl
    read-composed s (b ∷ bs) u n =
        read-composed (compose s (own rules code is b)) bs (λ c i. u c (there i)) n
        ∙ ap (λ (x : Sym). replayed rules ok code x bs) (read-compose s (own rules code is b) n ∙ ap (λ (r : Ran). through r.stack (read s n)) (run_alone (u b here)))

    read-replays : {path : List ℕ} {s : Stack} → Replays rules code is path s → AllUncut path → (n : ℕ) → read s n ≡ replayed rules ok code (before n) path
    unfolding replayed through
    read-replays {path} {s} h = subst (λ (p : List ℕ). AllUncut p → (n : ℕ) → read s n ≡ replayed rules ok code (before n) p) (sym h.path-is) go
      where
        go : AllUncut (h.first ∷ h.rest) → (n : ℕ) → read s n ≡ replayed rules ok code (before n) (h.first ∷ h.rest)
        go u n =
            rw h.stack_is (read-composed (own rules code is h.first) h.rest (λ c i. u c (there i)) n
            ∙ ap (λ (r : Ran). replayed rules ok code (read r.stack n) h.rest) (run_alone (u h.first here)))

    -- ---- the search

    module _ (reached : List ℕ) (earlier : List Rec) (all : Each (Trailed rules ok code) earlier) (replayed-all : Each (λ _. ReplaysRec rules code is cut) earlier) where
      abbrev opens : ℕ → ℕ → Level → Type 0
      opens = Opens (prepared rules code) reached earlier

      replays : {p : Parent} → Stored (prepared rules code) earlier p → Replays rules code is p.path p.stack
      unfolding prepared
      replays h = parent-replays rules code is cut earlier replayed-all h

      uncut : {start w : ℕ} {l : Level} {p : Parent} → opens start w l → Parented (prepared rules code) reached earlier l p → AllUncut (l.path ++ p.path)
      uncut o h = let t = grown rules ok code earlier all reached (level-trail rules ok code earlier all reached o) h in subst AllUncut (sym t.is) t.uncut

      -- behind a parent the path sees what the search reads there
      sees-behind : {start w : ℕ} {l : Level} {p : Parent} → opens start w l → Sees rules ok code l.path (before l.position)
          → Parented (prepared rules code) reached earlier l p → Sees rules ok code (l.path ++ p.path) (read p.stack l.position)
      sees-behind {l} {p} o s h = record {
        first = s.first;
        rest = s.rest ++ p.path;
        path-is = rw s.path-is;
        symbol = s.symbol;
        goes = s.goes;
        sees =
            replayed-append rules ok code s.symbol s.rest p.path ∙ ap (λ (x : Sym). replayed rules ok code x p.path) s.sees
            ∙ sym (read-replays (replays h.stored) (λ c i. uncut o h c (in_right l.path i)) l.position);
      }

      -- and at every level a Before
      level-sees : {start w : ℕ} {l : Level} → opens start w l → Sees rules ok code l.path (before l.position)
      unfolding replayed prepared
      level-sees {start} (first-level {k} i e live) =
          let g = turned i in
          let at = sym g.2.start ∙ e in
          record {
            first = start;
            rest = [];
            path-is = refl;
            symbol = before k.position;
            goes =
                ap (λ (r : Ran). r.goes) (sym (run_alone (subst (Uncut rules ok code) at (uncut-node rules ok code g.1 g.2.leads_on))) ∙ ap (run rules code is) (sym at) ∙ sym (own-run rules code is cut g.1))
                ∙ g.2.goes;
            sees = refl;
          }
      level-sees (deeper-level {l} {p} o w h e) = subst (Sees rules ok code (l.path ++ p.path)) e (sees-behind o (level-sees o) h)

      record-sees : {r : Rec} {t : ℕ} {s : Stack} → Recorded (prepared rules code) reached earlier r → r.to ≡ found t s → Sees rules ok code r.path (jumpdest t)
      record-sees (arrives {l} {p} o w h e) q = subst (Sees rules ok code (l.path ++ p.path)) (e ∙ ap jumpdest (cc)) (sees-behind o (level-sees o) h)
      record-sees (is_lost o w h e) q = absurd (let z : ◌≡◌ {A = ℕ} 0 1 = cc in omega arith)
      record-sees (too-heavy o h) q = absurd (let z : ◌≡◌ {A = ℕ} 0 1 = cc in omega arith)

    -- ---- every record

    -- what is known of a record, with those before it
    record Proven (earlier : List Rec) (r : Rec) : Type 0 where
      trail : Trailed rules ok code earlier r
      kept : ReplaysRec rules code is cut r
      sees-there : (t : ℕ) (s : Stack) → r.to ≡ found t s → Sees rules ok code r.path (jumpdest t)

    proven : {recs : List Rec} → History (prepared rules code) recs → Each Proven recs
    unfolding prepared
    proven = each_map made
      where
        made : (earlier : List Rec) (r : Rec) → Each Proven earlier → Came (prepared rules code) earlier r → Proven earlier r
        made earlier r all c =
            let before = each_map (λ e q k (p : Proven e q). p.trail) all in
            let kept = each_map (λ e q k (p : Proven e q). p.kept) all in
            record {
              trail = record-trail rules ok code earlier before _ c.made;
              kept = record-replays rules code is cut earlier kept _ r c.made;
              sees-there = λ t s e. record-sees _ earlier before kept c.made e;
            }

    -- "The whole path is true", of a record and those before it
    pub record TruePath (earlier : List Rec) (r : Rec) : Type 0 where
      -- it begins with the record's block
      pub first : (rest : List ℕ) × (r.path ≡ r.start ∷ rest)
      -- no block of it was cut at an unknown byte
      pub whole : (a : ℕ) → In a r.path → Uncut rules ok code a
      -- "each block in a path is joined to the next by a static edge or by an earlier record"
      pub joins : joined (prepared rules code) earlier r.path ≡ true
      -- where the record has a destination, it is the Jumpdest that the path replays to
      pub sees-there : (t : ℕ) (s : Stack) → r.to ≡ found t s → Sees rules ok code r.path (jumpdest t)
      -- and the run of the path leads there
      pub leads-there : (t : ℕ) (s : Stack) → r.to ≡ found t s → Leads rules code r.path t

    pub true-paths : {recs : List Rec} → History (prepared rules code) recs → Each TruePath recs
    true-paths h = each_map (λ earlier r all (p : Proven earlier r). told p) (proven h)
      where
        told : {earlier : List Rec} {r : Rec} → Proven earlier r → TruePath earlier r
        told p =
            let t = p.trail in
            let whole = subst AllUncut (sym t.is) t.uncut in
            record {
              first = (t.rest, t.is);
              whole = whole;
              joins = rw t.is t.joins;
              sees-there = p.sees-there;
              leads-there = λ u s e. path-leads rules ok code (λ c i. known (whole c i)) (p.sees-there u s e);
            }

  -- Of every search, at any limit, of any code.
  pub search-paths : (limit : ℕ) (code : List ℕ) → Each (TruePath code) (searched rules limit code).recs
  unfolding searched
  search-paths limit code = true-paths code (search-history limit (prepared rules code))

  -- Of every answer that is given.
  pub answered-paths : (l : Lent) (limit choice : ℕ) (code : List ℕ) (a : Map) → answer rules l limit choice code ≡ answered a → Each (TruePath code) a.recs
  answered-paths l limit choice code a e = true-paths code (answered-history rules l limit choice code a e)

  -- "each block in a path is joined to the next by a static edge or by an earlier record", of every record and those before it.
  pub answered-joined : (l : Lent) (limit choice : ℕ) (code : List ℕ) (a : Map) → answer rules l limit choice code ≡ answered a → (earlier : List Rec) (r : Rec) (later : List Rec)
      → a.recs ≡ earlier ++ r ∷ later → joined (prepared rules code) earlier r.path ≡ true
  answered-joined l limit choice code a e earlier r later q = (each_at earlier r later (subst (Each (TruePath code)) q (answered-paths l limit choice code a e))).joins

  -- A record with a destination: the run of its path leads there.
  pub answered-leads : (l : Lent) (limit choice : ℕ) (code : List ℕ) (a : Map) → answer rules l limit choice code ≡ answered a → {r : Rec} → In r a.recs
      → {t : ℕ} {s : Stack} → r.to ≡ found t s → Leads rules code r.path t
  answered-leads l limit choice code a e i {t} {s} f = (each_in (answered-paths l limit choice code a e) i).1.leads-there t s f

  -- ---- the entries of the answer's blocks are records

  merged-in : {r : Rec} (b : Block) (es : List Rec) (ts : List ℕ) → In r (merged b es ts).entries → In r es
  merged-in b es [] i = i
  merged-in {r} b es (t ∷ ts) i = both (λ (f : Final). In r f.entries → In r es) (all_are t ts) (λ _ j. elim j [ ]) (λ _ j. j) i

  ended-in : {r : Rec} (b : Block) (es : List Rec) (k : Kind) → In r (ended b es k).entries → In r es
  ended-in b es (terminate success) i = elim i [ ]
  ended-in b es (jump t) i = elim i [ ]
  ended-in b es (jumpi t f) i = elim i [ ]
  ended-in b es dynamic_jump i = (in-keep _ es (merged-in b _ (dests es) i)).1
  ended-in b es (dynamic_jumpi f) i = i

  -- A path that a block of the answer shows, with a destination: its run leads there.
  pub entry-leads : (l : Lent) (limit choice : ℕ) (code : List ℕ) (a : Map) → answer rules l limit choice code ≡ answered a → {f : Final} → In f a.blocks
      → {r : Rec} → In r f.entries → {t : ℕ} {s : Stack} → r.to ≡ found t s → Leads rules code r.path t
  unfolding mapped
  entry-leads l limit choice code a e {f} i {r} j = answered-leads l limit choice code a e (subst (λ (m : Map). In r m.recs) (sym is-map) member)
    where
      recs : List Rec
      recs = (searched rules limit code).recs

      is-map : a ≡ mapped rules choice code (searched rules limit code)
      is-map = (gave rules l limit choice code a e).is

      of : (n : Node) × In n (prepared rules code) × (f ≡ ended n.block (entries_of n.block.start recs) n.block.kind)
      of = in_map _ (prepared rules code) (in-keep _ (finals (prepared rules code) recs) (subst (λ (m : Map). In f m.blocks) is-map i)).1

      member : In r recs
      member = (in-keep _ recs (ended-in of.0.block _ of.0.block.kind (subst (λ (g : Final). In r g.entries) of.2 j))).1
