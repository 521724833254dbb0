-- Document 02, No. 12: the call. The path entries that it looks at are the map's, each at its offset; each number is given exactly when the request says, in its
-- order; and what it accepts leads where it says. Assumes nothing.
use Prim.Native.Nat.{ℕ, suc, ◌+◌, ◌-◌, ◌/◌, ◌%◌, ◌^◌, ◌≤◌, ◌<◌}
use native.Mathlib.Omega.{arith}
use native.Mathlib.Nat.{le_refl}
use mathlib.Core.Path.{◌≡◌, refl, sym, ap, ap₂, subst, ◌∙◌}
use mathlib.Core.Bool.{Bool}
use mathlib.Core.Logic.{◌⊎◌, inl, inr}
use mathlib.Core.Option.{Option, none, some}
use mathlib.Core.List.{List, [], ◌∷◌, ◌++◌, map, append_assoc, append-nil}
use lib.Dec.{leb, ltb}
use lib.ListN.{length, drop}
use lib.Seq.{drop-drop}
use borrow.Author.Tests.{ltb-true, ltb-false, lt-ltb, le-ltb, le-leb}
use Rattle.spec.specs.Lists.{gather}
use Rattle.spec.specs.Opcodes.{Rules}
use Rattle.spec.specs.Stacks.{Stack}
use Rattle.spec.specs.PathMeaning.{Leads}
use Rattle.spec.specs.Search.{Found, nowhere, found, Rec}
use Rattle.spec.specs.Ending.{Final}
use Rattle.spec.specs.Rooms.{longest, work_need}
use Rattle.spec.specs.Entries.{Map}
use Rattle.spec.specs.Forms.{wide_in, announced, entry, behind, sort}
use Rattle.spec.specs.BadEntries.{Refused}
use Rattle.spec.specs.Reader.{Reading, holds, bad, Piece, pieces, Item, a_head, a_block, a_way, a_record, no_item, item_for, items, ways, finals_in, read, told}
use Rattle.spec.specs.Inspector.{fault_to, fault_of, PathEntry, shows, path_entries, Inspection, refused, bad_entry, not_right, accepted, WrongPath, or_next, all_wrong, first_of, since, looks_at, inspect_from, inspect, number_of, value_of, exported}
use Rattle.laws.proofs.Branch.{both, if-true, if-false}
use Rattle.laws.proofs.Lists.{Rising, none_left, one_more, rising-from}
use Rattle.laws.proofs.Members.{In, here, there, in-only, in-cases, in-keep}
use Rattle.theorems.proofs.ReaderPlaces.{never}
use Rattle.theorems.proofs.ReaderSplit.{Split, done, cut_off, more, split}
use Rattle.theorems.proofs.ReaderItems.{way_for, block-items}
use Rattle.theorems.proofs.ReaderBack.{read-items}
use Rattle.theorems.proofs.ReaderAccepted.{read-blocks}
use Rattle.theorems.proofs.ReaderBad.{refused-exactly}
use Rattle.theorems.proofs.InspectorRight.{Right, Fails, Judged, is_right, fails-at, judged, right-exactly, fails-exactly}
use Rattle.theorems.proofs.InspectorPaths.{right-leads}
use Rattle.theorems.proofs.Counts.{Lawful}

-- ---- the path entries of a map: its 7s, then its records

abbrev pub paths-of : Map → List Rec
paths-of m = gather (λ (f : Final). f.entries) m.blocks ++ m.recs

-- those of items, where b is the block before
abbrev listed : ℕ → List Item → List Rec
listed b [] = []
listed b (a_head s n m e ∷ is) = listed b is
listed b (a_block c n ∷ is) = listed c.start is
listed b (a_way t p ∷ is) = record { start = b; to = t; path = p; energy = 0 } ∷ listed b is
listed b (a_record n r ∷ is) = r ∷ listed b is
listed b (no_item ∷ is) = listed b is

abbrev recs-of : List PathEntry → List Rec
recs-of = map (λ (e : PathEntry). e.entry)

shows-listed : (b at : ℕ) (on : ℕ → List PathEntry) (is : List Item) → ((a : ℕ) → recs-of (on a) ≡ listed a is) → (it : Item)
    → recs-of (shows b at on it) ≡ listed b (it ∷ is)
shows-listed b at on is h (a_head s n m e) = h b
shows-listed b at on is h (a_block c n) = h c.start
shows-listed b at on is h (a_way t p) = ap {B = List Rec} (λ (l : List Rec). record { start = b; to = t; path = p; energy = 0 } ∷ l) (h b)
shows-listed b at on is h (a_record n r) = ap {B = List Rec} (λ (l : List Rec). r ∷ l) (h b)
shows-listed b at on is h no_item = h b

entries-listed : (wide : Bool) {at : ℕ} {rest : List ℕ} {ps : List Piece} → Split at rest ps → (b : ℕ) → recs-of (path_entries wide b ps) ≡ listed b (items wide ps)
unfolding path_entries items
entries-listed wide done b = refl
entries-listed wide (cut_off n c) b = refl
entries-listed wide (more {at} {rest} {ps} w s) b =
    shows-listed b at (λ a. path_entries wide a ps) (items wide ps) (λ a. entries-listed wide s a) (item_for (sort wide (entry rest).kind) (entry rest).body)

-- a 7 as an entry of the block at b
abbrev owned : ℕ → Rec → Rec
owned b r = record { start = b; to = r.to; path = r.path; energy = 0 }

listed-ways : (b : ℕ) (es : List Rec) (is : List Item) → listed b (map way_for es ++ is) ≡ map (owned b) es ++ listed b is
listed-ways b [] is = refl
listed-ways b (r ∷ es) is = ap {B = List Rec} (λ (l : List Rec). owned b r ∷ l) (listed-ways b es is)

listed-records : (b : ℕ) (n : Bool) (rs : List Rec) → listed b (map (a_record n) rs) ≡ rs
listed-records b n [] = refl
listed-records b n (r ∷ rs) = ap {B = List Rec} (λ (l : List Rec). r ∷ l) (listed-records b n rs)

owned-same : (b : ℕ) (es : List Rec) → ((r : Rec) → In r es → (r.start ≡ b) × (r.energy ≡ 0)) → map (owned b) es ≡ es
owned-same b [] h = refl
owned-same b (r ∷ es) h = ap₂ {C = List Rec} (λ (q : Rec) (l : List Rec). q ∷ l) (ap₂ {C = Rec} (λ (a v : ℕ). record { start = a; to = r.to; path = r.path; energy = v }) (sym (h r here).0) (sym (h r here).1)) (owned-same b es (λ q i. h q (there i)))

-- each 7 is of its block, and has no number
abbrev Owning : List Final → Type 0
Owning fs = (f : Final) → In f fs → (r : Rec) → In r f.entries → (r.start ≡ f.block.start) × (r.energy ≡ 0)

listed-blocks : (b : ℕ) (fs : List Final) (n : Bool) (rs : List Rec) → Owning fs → listed b (gather block-items fs ++ map (a_record n) rs) ≡ gather (λ (f : Final). f.entries) fs ++ rs
listed-blocks b [] n rs h = listed-records b n rs
listed-blocks b (f ∷ fs) n rs h =
    ap (listed f.block.start) (append_assoc (map way_for f.entries) (gather block-items fs) (map (a_record n) rs))
    ∙ listed-ways f.block.start f.entries (gather block-items fs ++ map (a_record n) rs)
    ∙ ap₂ (λ (x y : List Rec). x ++ y) (owned-same f.block.start f.entries (h f here)) (listed-blocks f.block.start fs n rs (λ g i. h g (there i)))
    ∙ sym (append_assoc f.entries (gather (λ (f : Final). f.entries) fs) rs)

ways-owned : (b : ℕ) (is : List Item) (r : Rec) → In r (ways b is) → (r.start ≡ b) × (r.energy ≡ 0)
unfolding ways
ways-owned b [] r i = elim i [ ]
ways-owned b (a_way t p ∷ is) r here = (refl, refl)
ways-owned b (a_way t p ∷ is) r (there i) = ways-owned b is r i
ways-owned b (a_head s n m e ∷ is) r i = elim i [ ]
ways-owned b (a_block c n ∷ is) r i = elim i [ ]
ways-owned b (a_record n q ∷ is) r i = elim i [ ]
ways-owned b (no_item ∷ is) r i = elim i [ ]

finals-owning : (is : List Item) → Owning (finals_in is)
unfolding finals_in
finals-owning [] f i r j = elim i [ ]
finals-owning (a_block b n ∷ is) f here r j = ways-owned b.start is r j
finals-owning (a_block b n ∷ is) f (there i) r j = finals-owning is f i r j
finals-owning (a_way t p ∷ is) f i r j = finals-owning is f i r j
finals-owning (a_head s n m e ∷ is) f i r j = finals-owning is f i r j
finals-owning (a_record n q ∷ is) f i r j = finals-owning is f i r j
finals-owning (no_item ∷ is) f i r j = finals-owning is f i r j

module _ (bs : List ℕ) (m : Map) (e : read bs ≡ holds m) where
  map-owning : Owning m.blocks
  map-owning = subst Owning (read-blocks bs m e) (finals-owning (items (wide_in bs) (pieces bs 0 0)))

  -- The path entries of accepted bytes, as they stand in them, are the map's.
  pub entries_are : recs-of (path_entries (wide_in bs) 0 (pieces bs 0 0)) ≡ paths-of m
  entries_are = entries-listed (wide_in bs) (split bs) 0 ∙ ap (listed 0) (read-items bs m e).same ∙ listed-blocks 0 m.blocks m.numbered m.recs map-owning

-- ---- where they stand

-- the bytes have the path entry at its offset: a 7, or a record
pub data StandsAt (bs : List ℕ) (e : PathEntry) : Type 0 where
  as_way : item_for (sort (wide_in bs) (entry (drop e.offset bs)).kind) (entry (drop e.offset bs)).body ≡ a_way e.entry.to e.entry.path → StandsAt bs e
  as_record : {numbered : Bool} → item_for (sort (wide_in bs) (entry (drop e.offset bs)).kind) (entry (drop e.offset bs)).body ≡ a_record numbered e.entry → StandsAt bs e

module _ (bs : List ℕ) where
  shows-stands : (b at : ℕ) (on : ℕ → List PathEntry) → ((a : ℕ) (e : PathEntry) → In e (on a) → StandsAt bs e) → (it : Item)
      → item_for (sort (wide_in bs) (entry (drop at bs)).kind) (entry (drop at bs)).body ≡ it → (e : PathEntry) → In e (shows b at on it) → StandsAt bs e
  shows-stands b at on h (a_head s n m k) q e i = h b e i
  shows-stands b at on h (a_block c n) q e i = h c.start e i
  shows-stands b at on h (a_way t p) q e here = as_way q
  shows-stands b at on h (a_way t p) q e (there i) = h b e i
  shows-stands b at on h (a_record n r) q e here = as_record q
  shows-stands b at on h (a_record n r) q e (there i) = h b e i
  shows-stands b at on h no_item q e i = h b e i

  split-stands : {at : ℕ} {rest : List ℕ} {ps : List Piece} → Split at rest ps → drop at bs ≡ rest → (b : ℕ) (e : PathEntry) → In e (path_entries (wide_in bs) b ps) → StandsAt bs e
  unfolding path_entries
  split-stands done q b e i = elim i [ ]
  split-stands (cut_off n c) q b e i = elim i [ ]
  split-stands (more {at} {rest} {ps} w s) q b e i =
      let next : drop (at + (6 + announced rest)) bs ≡ behind rest = sym (drop-drop (6 + announced rest) at bs) ∙ ap (drop (6 + announced rest)) q in
      shows-stands b at (λ a. path_entries (wide_in bs) a ps) (λ a d j. split-stands s next a d j) (item_for (sort (wide_in bs) (entry rest).kind) (entry rest).body)
      (ap (λ (l : List ℕ). item_for (sort (wide_in bs) (entry l).kind) (entry l).body) q) e i

  -- Each stands in the bytes at its offset,
  pub entry-stands : (e : PathEntry) → In e (path_entries (wide_in bs) 0 (pieces bs 0 0)) → StandsAt bs e
  entry-stands e i = split-stands (split bs) refl 0 e i

abbrev offsets : List PathEntry → List ℕ
offsets = map (λ (e : PathEntry). e.offset)

shows-rise : (b at : ℕ) (on : ℕ → List PathEntry) → ((a : ℕ) → Rising (suc at) (offsets (on a))) → (it : Item) → Rising at (offsets (shows b at on it))
shows-rise b at on h (a_head s n m k) = rising-from (omega arith) (h b)
shows-rise b at on h (a_block c n) = rising-from (omega arith) (h c.start)
shows-rise b at on h (a_way t p) = one_more (le_refl at) (h b)
shows-rise b at on h (a_record n r) = one_more (le_refl at) (h b)
shows-rise b at on h no_item = rising-from (omega arith) (h b)

split-rise : (wide : Bool) {at : ℕ} {rest : List ℕ} {ps : List Piece} → Split at rest ps → (b : ℕ) → Rising at (offsets (path_entries wide b ps))
unfolding path_entries
split-rise wide done b = none_left
split-rise wide (cut_off n c) b = none_left
split-rise wide (more {at} {rest} {ps} w s) b = shows-rise b at (λ a. path_entries wide a ps) (λ a. rising-from (omega arith) (split-rise wide s a)) (item_for (sort wide (entry rest).kind) (entry rest).body)

-- and the offsets rise: the first that is not right is that with the lowest offset.
pub entries-rise : (bs : List ℕ) → Rising 0 (offsets (path_entries (wide_in bs) 0 (pieces bs 0 0)))
entries-rise bs = split-rise (wide_in bs) (split bs) 0

-- ---- those from an offset on

since-all : (es : List PathEntry) → since 0 es ≡ es
since-all [] = refl
since-all (e ∷ es) = if-true (leb 0 e.offset) _ _ (le-leb 0 e.offset (omega arith)) ∙ ap {B = List PathEntry} (λ (l : List PathEntry). e ∷ l) (since-all es)

-- ---- the first that is not right

module _ (rules : Rules) (ok : Lawful rules.row) where
  module _ (code : List ℕ) (m : Map) where
    -- a path entry is right, if it has a destination
    pub record RightEntry (r : Rec) : Type 0 where
      pub right : (t : ℕ) (s : Stack) → r.to ≡ found t s → Right rules ok code m r.start r.path t

    -- the entry at an offset has a destination and is not right, those before it are, and the place is named
    pub record FirstWrong (es : List PathEntry) (offset place : ℕ) : Type 0 where
      pub earlier : List PathEntry
      pub later : List PathEntry
      pub wrong : Rec
      pub are : es ≡ earlier ++ record { offset = offset; entry = wrong } ∷ later
      pub right-before : (e : PathEntry) → In e earlier → RightEntry e.entry
      pub to : ℕ
      pub state : Stack
      pub destined : wrong.to ≡ found to state
      pub fails : Fails rules ok code m wrong.start wrong.path to place

    data Looked (es : List PathEntry) : Inspection → Type 0 where
      none_wrong : ((e : PathEntry) → In e es → RightEntry e.entry) → Looked es accepted
      one-wrong : {offset place : ℕ} → FirstWrong es offset place → Looked es (not_right offset place)

    looked-on : {e : PathEntry} {es : List PathEntry} {i : Inspection} → RightEntry e.entry → Looked es i → Looked (e ∷ es) i
    looked-on {e} {es} r (none_wrong h) = none_wrong all
      where
        all : (d : PathEntry) → In d (e ∷ es) → RightEntry d.entry
        all d here = r
        all d (there i) = h d i
    looked-on {e} r (one-wrong h) = one-wrong (record {
      earlier = e ∷ h.earlier;
      later = h.later;
      wrong = h.wrong;
      are = ap {B = List PathEntry} (λ (l : List PathEntry). e ∷ l) h.are;
      right-before = before;
      to = h.to;
      state = h.state;
      destined = h.destined;
      fails = h.fails;
    })
      where
        before : (d : PathEntry) → In d (e ∷ h.earlier) → RightEntry d.entry
        before d here = r
        before d (there i) = h.right-before d i

    looked-here : (e : PathEntry) (es : List PathEntry) (xs : List WrongPath) → Looked es (first_of xs) → (f : Found) → e.entry.to ≡ f
        → Looked (e ∷ es) (first_of (or_next e.offset xs (fault_to rules code m e.entry.start e.entry.path f)))
    looked-here e es xs h nowhere q = looked-on (record { right = λ t s k. never (cc) }) h
    looked-here e es xs h (found t s) q = by-judged (judged rules ok code m e.entry.start e.entry.path t)
      where
        by-judged : {o : Option ℕ} → Judged rules ok code m e.entry.start e.entry.path t o → Looked (e ∷ es) (first_of (or_next e.offset xs o))
        by-judged (is_right r) = looked-on (record { right = λ u z k. let same : t ≡ u = cc in subst (Right rules ok code m e.entry.start e.entry.path) same r }) h
        by-judged (fails-at f) =
            one-wrong (record { earlier = []; later = es; wrong = e.entry; are = refl; right-before = λ d j. elim j [ ]; to = t; state = s; destined = q; fails = f })

    looked : (es : List PathEntry) → Looked es (first_of (all_wrong rules code m es))
    unfolding all_wrong
    looked [] = none_wrong (λ e i. elim i [ ])
    looked (e ∷ es) = looked-here e es (all_wrong rules code m es) (looked es) e.entry.to refl

    -- and back
    fault-none : (r : Rec) → RightEntry r → (f : Found) → r.to ≡ f → fault_to rules code m r.start r.path f ≡ none
    fault-none r h nowhere q = refl
    fault-none r h (found t s) q = (right-exactly rules ok code m r.start r.path t).1 (h.right t s q)

    past-right : (earlier rest : List PathEntry) → ((e : PathEntry) → In e earlier → RightEntry e.entry) → all_wrong rules code m (earlier ++ rest) ≡ all_wrong rules code m rest
    unfolding all_wrong
    past-right [] rest h = refl
    past-right (e ∷ es) rest h =
        ap (or_next e.offset (all_wrong rules code m (es ++ rest))) (fault-none e.entry (h e here) e.entry.to refl) ∙ past-right es rest (λ d i. h d (there i))

    wrong-there : {es : List PathEntry} {offset place : ℕ} → FirstWrong es offset place → first_of (all_wrong rules code m es) ≡ not_right offset place
    unfolding all_wrong
    wrong-there {offset} h =
        ap first_of
        (ap (all_wrong rules code m) h.are ∙ past-right h.earlier _ h.right-before
        ∙ ap (or_next offset (all_wrong rules code m h.later))
        (ap (fault_to rules code m h.wrong.start h.wrong.path) h.destined ∙ (fails-exactly rules ok code m h.wrong.start h.wrong.path h.to _).1 h.fails))

    none-there : (es : List PathEntry) → ((e : PathEntry) → In e es → RightEntry e.entry) → first_of (all_wrong rules code m es) ≡ accepted
    unfolding all_wrong
    none-there es h = ap first_of (ap (all_wrong rules code m) (sym (append-nil es)) ∙ past-right es [] h)

    -- ---- all that are not right

    -- an entry with a destination that is not right, by its offset and place
    pub record WrongEntry (es : List PathEntry) (x : WrongPath) : Type 0 where
      pub path_entry : PathEntry
      pub member : In path_entry es
      pub offset_is : path_entry.offset ≡ x.offset
      pub to : ℕ
      pub state : Stack
      pub destined : path_entry.entry.to ≡ found to state
      pub fails : Fails rules ok code m path_entry.entry.start path_entry.entry.path to x.place

    wrong-later : {e : PathEntry} {es : List PathEntry} {x : WrongPath} → WrongEntry es x → WrongEntry (e ∷ es) x
    wrong-later h = record { path_entry = h.path_entry; member = there h.member; offset_is = h.offset_is; to = h.to; state = h.state; destined = h.destined; fails = h.fails }

    -- Each that is listed is one of the entries that are not right,
    pub listed-wrong : (es : List PathEntry) (x : WrongPath) → In x (all_wrong rules code m es) → WrongEntry es x
    unfolding all_wrong
    listed-wrong [] x i = elim i [ ]
    listed-wrong (e ∷ es) x i = by-found (λ j. wrong-later (listed-wrong es x j)) e.entry.to refl i
      where
        by-found : (In x (all_wrong rules code m es) → WrongEntry (e ∷ es) x) → (f : Found) → e.entry.to ≡ f → In x (or_next e.offset (all_wrong rules code m es) (fault_to rules code m e.entry.start e.entry.path f)) → WrongEntry (e ∷ es) x
        by-found on nowhere q j = on j
        by-found on (found t s) q j = by-judged (judged rules ok code m e.entry.start e.entry.path t) j
          where
            by-judged : {o : Option ℕ} → Judged rules ok code m e.entry.start e.entry.path t o → In x (or_next e.offset (all_wrong rules code m es) o) → WrongEntry (e ∷ es) x
            by-judged (is_right r) k = on k
            by-judged (fails-at {i = place} f) k = by_first (in-cases (record { offset = e.offset; place = place } ∷ []) k)
              where
                by_first : In x (record { offset = e.offset; place = place } ∷ []) ⊎ In x (all_wrong rules code m es) → WrongEntry (e ∷ es) x
                by_first (inl l) = subst (WrongEntry (e ∷ es)) (sym (in-only l)) (record { path_entry = e; member = here; offset_is = refl; to = t; state = s; destined = q; fails = f })
                by_first (inr l) = on l

    -- and each of these is listed.
    pub wrong-listed : (es : List PathEntry) (x : WrongPath) → WrongEntry es x → In x (all_wrong rules code m es)
    unfolding all_wrong
    wrong-listed es x h = go es h.member
      where
        fault-is : fault_to rules code m h.path_entry.entry.start h.path_entry.entry.path h.path_entry.entry.to ≡ some x.place
        fault-is =
            ap (fault_to rules code m h.path_entry.entry.start h.path_entry.entry.path) h.destined
            ∙ (fails-exactly rules ok code m h.path_entry.entry.start h.path_entry.entry.path h.to _).1 h.fails

        or-there : (at : ℕ) (xs : List WrongPath) (o : Option ℕ) → In x xs → In x (or_next at xs o)
        or-there at xs none i = i
        or-there at xs (some p) i = there i

        go : (ds : List PathEntry) → In h.path_entry ds → In x (all_wrong rules code m ds)
        go (e ∷ ds) here =
            subst (λ (o : Option ℕ). In x (or_next e.offset (all_wrong rules code m ds) o)) (sym fault-is)
            (subst (λ (n : ℕ). In x (record { offset = n; place = x.place } ∷ all_wrong rules code m ds)) (sym h.offset_is) here)
        go (e ∷ ds) (there i) = or-there e.offset (all_wrong rules code m ds) (fault_of rules code m e.entry) (go ds i)
        go [] x'' = elim x'' [ ]

  -- ---- the call

  module _ (code bs : List ℕ) (from work : ℕ) where
    -- the path entries of the map's bytes, from an offset on
    abbrev pub the-entries : List PathEntry
    the-entries = since from (path_entries (wide_in bs) 0 (pieces bs 0 0))

    -- 1, 13 and 3 do not apply
    pub record Taken : Type 0 where
      pub code_fits : length code ≤ longest
      pub mode-fits : rules.mode ≤ 1
      pub work-fits : work_need (length code) ≤ work

    -- "Refusals: 1, 13 and 3 as before; 12 as in No. 2; 17, path entry not right, with its offset": each, given when
    pub data Verdict : Inspection → Type 0 where
      code-over : longest < length code → Verdict (refused 1)
      mode-over : length code ≤ longest → 1 < rules.mode → Verdict (refused 13)
      work-short : length code ≤ longest → rules.mode ≤ 1 → work < work_need (length code) → Verdict (refused 3)
      entry-bad : {offset : ℕ} → Taken → Refused (wide_in bs) bs offset → Verdict (bad_entry offset)
      path-wrong : {m : Map} {offset place : ℕ} → Taken → read bs ≡ holds m → FirstWrong code m the-entries offset place → Verdict (not_right offset place)
      all_right : {m : Map} → Taken → read bs ≡ holds m → ((e : PathEntry) → In e the-entries → RightEntry code m e.entry) → Verdict accepted

    verdict-looked : Taken → (m : Map) → read bs ≡ holds m → {i : Inspection} → Looked code m the-entries i → Verdict i
    verdict-looked t m q (none_wrong h) = all_right t q h
    verdict-looked t m q (one-wrong h) = path-wrong t q h

    verdict-read : Taken → (r : Reading) → read bs ≡ r → Verdict (looks_at rules code bs from r)
    verdict-read t (bad o) q = entry-bad t ((refused-exactly bs o).0 q)
    verdict-read t (holds m) q = verdict-looked t m q (looked code m the-entries)

    -- The answer is one of these,
    pub verdict : Verdict (inspect_from rules code bs from work)
    unfolding inspect_from
    verdict =
        both Verdict (ltb longest (length code)) (λ on. code-over (ltb-true _ _ on))
        (λ c. both Verdict (ltb 1 rules.mode) (λ on. mode-over (ltb-false _ _ c) (ltb-true _ _ on))
        (λ k. both Verdict (ltb work (work_need (length code))) (λ on. work-short (ltb-false _ _ c) (ltb-false _ _ k) (ltb-true _ _ on))
        (λ w. verdict-read (record { code_fits = ltb-false _ _ c; mode-fits = ltb-false _ _ k; work-fits = ltb-false _ _ w }) (read bs) refl)))

    taken-run : Taken → inspect_from rules code bs from work ≡ looks_at rules code bs from (read bs)
    unfolding inspect_from
    taken-run t =
        if-false _ _ _ (le-ltb longest (length code) t.code_fits) ∙ if-false _ _ _ (le-ltb 1 rules.mode t.mode-fits)
        ∙ if-false _ _ _ (le-ltb work (work_need (length code)) t.work-fits)

    -- and none but these: what they give is the answer.
    pub verdict-only : {i : Inspection} → Verdict i → inspect_from rules code bs from work ≡ i
    unfolding inspect_from
    verdict-only (code-over h) = if-true _ _ _ (lt-ltb longest (length code) h)
    verdict-only (mode-over c h) = if-false _ _ _ (le-ltb longest (length code) c) ∙ if-true _ _ _ (lt-ltb 1 rules.mode h)
    verdict-only (work-short c k h) =
        if-false _ _ _ (le-ltb longest (length code) c) ∙ if-false _ _ _ (le-ltb 1 rules.mode k) ∙ if-true _ _ _ (lt-ltb work (work_need (length code)) h)
    verdict-only (entry-bad {offset} t h) = taken-run t ∙ ap (looks_at rules code bs from) ((refused-exactly bs offset).1 h)
    verdict-only (path-wrong {m} t q h) = taken-run t ∙ ap (looks_at rules code bs from) q ∙ wrong-there code m h
    verdict-only (all_right {m} t q h) = taken-run t ∙ ap (looks_at rules code bs from) q ∙ none-there code m the-entries h

    -- The exported number tells the number and the value, which in any buffer is below 2^56.
    tells : (n v : ℕ) → n < 256 → v < 2 ^ 56 → (told n v % 256 ≡ n) × (told n v / 256 ≡ v)
    tells n v k h = rw (if-true (ltb v (2 ^ 56)) v (2 ^ 56 - 1) (lt-ltb v (2 ^ 56) h)) (omega arith, omega arith)

    pub exported-tells : {i : Inspection} → Verdict i → value_of i < 2 ^ 56 → (exported i % 256 ≡ number_of i) × (exported i / 256 ≡ value_of i)
    exported-tells (code-over h) k = tells 1 0 (omega arith) k
    exported-tells (mode-over c h) k = tells 13 0 (omega arith) k
    exported-tells (work-short c k h) l = tells 3 0 (omega arith) l
    exported-tells (entry-bad {offset} t h) k = tells 12 offset (omega arith) k
    exported-tells (path-wrong {offset} t q h) k = tells 17 offset (omega arith) k
    exported-tells (all_right t q h) k = tells 0 0 (omega arith) k

    -- 0 is exported of what is accepted alone.
    pub exported-zero : {i : Inspection} → Verdict i → exported i ≡ 0 → i ≡ accepted
    exported-zero (code-over h) e = absurd (omega (arith, e))
    exported-zero (mode-over c h) e = absurd (omega (arith, e))
    exported-zero (work-short c k h) e = absurd (omega (arith, e))
    exported-zero (entry-bad t h) e = absurd (omega (arith, e))
    exported-zero (path-wrong t q h) e = absurd (omega (arith, e))
    exported-zero (all_right t q h) e = refl

  -- ---- "Whoever made the map, what is accepted has the property of No. 7's first part"

  module _ (code bs : List ℕ) (work : ℕ) where
    recs-in-map : {r : Rec} (es : List PathEntry) → In r (recs-of es) → (e : PathEntry) × In e es × (r ≡ e.entry)
    recs-in-map [] i = elim i [ ]
    recs-in-map (e ∷ es) here = (e, here, refl)
    recs-in-map (e ∷ es) (there i) = let g = recs-in-map es i in (g.0, there g.1, g.2)

    in-recs : {e : PathEntry} {es : List PathEntry} → In e es → In e.entry (recs-of es)
    in-recs here = here
    in-recs (there i) = there (in-recs i)

    -- of the whole map: each of its path entries
    map-right : (m : Map) → read bs ≡ holds m → ((e : PathEntry) → In e (the-entries code bs 0 work) → RightEntry code m e.entry) → (r : Rec) → In r (paths-of m) → RightEntry code m r
    map-right m q h r i =
        let g = recs-in-map (path_entries (wide_in bs) 0 (pieces bs 0 0)) (subst (In r) (sym (entries_are bs m q)) i) in
        subst (RightEntry code m) (sym g.2) (h g.0 (subst (In g.0) (sym (since-all _)) g.1))

    -- A map is accepted if all of them are right,
    pub right-accepted : (m : Map) → Taken code bs 0 work → read bs ≡ holds m → ((r : Rec) → In r (paths-of m) → RightEntry code m r) → inspect rules code bs work ≡ accepted
    right-accepted m t q h =
        verdict-only code bs 0 work
        (all_right t q (λ e i. h e.entry (subst (In e.entry) (entries_are bs m q) (in-recs (in-keep (λ (d : PathEntry). leb 0 d.offset) (path_entries (wide_in bs) 0 (pieces bs 0 0)) i).1))))

    -- what the verdict accepted says
    record Accepted : Type 0 where
      taken : Taken code bs 0 work
      map : Map
      read_as : read bs ≡ holds map
      right : (r : Rec) → In r (paths-of map) → RightEntry code map r

    verdict-accepted : {i : Inspection} → Verdict code bs 0 work i → i ≡ accepted → Accepted
    verdict-accepted (code-over h) e = never (cc)
    verdict-accepted (mode-over c h) e = never (cc)
    verdict-accepted (work-short c k h) e = never (cc)
    verdict-accepted (entry-bad t h) e = never (cc)
    verdict-accepted (path-wrong t k h) e = never (cc)
    verdict-accepted (all_right {m} t k h) e = record { taken = t; map = m; read_as = k; right = map-right m k h }

    -- The exported number 0 says that it is accepted.
    pub zero-accepted : exported (inspect rules code bs work) ≡ 0 → inspect rules code bs work ≡ accepted
    zero-accepted e = exported-zero code bs 0 work (verdict code bs 0 work) e

    module _ (e : inspect rules code bs work ≡ accepted) where
      pub accepted-taken : Taken code bs 0 work
      accepted-taken = (verdict-accepted (verdict code bs 0 work) e).taken

    module _ (m : Map) (e : inspect rules code bs work ≡ accepted) (q : read bs ≡ holds m) {r : Rec} (i : In r (paths-of m)) (t : ℕ) (s : Stack) (f : r.to ≡ found t s) where
      -- and each path entry with a destination of a map that is accepted is right,
      pub accepted-right : Right rules ok code m r.start r.path t
      accepted-right =
          let h = verdict-accepted (verdict code bs 0 work) e in
          let k = h.read_as in
          let same : h.map ≡ m = cc in
          (subst (λ (n : Map). (r : Rec) → In r (paths-of n) → RightEntry code n r) same h.right r i).right t s f

      -- and the run of its path leads there.
      pub inspected-leads : Leads rules code r.path t
      inspected-leads = right-leads rules ok code m r.start r.path t accepted-right
