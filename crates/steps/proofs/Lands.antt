-- The laws of what a path ends in: when an address counts as reached, and what a record more adds to that. Assumes nothing.
use mathlib.Core.Path.{◌≡◌, refl, sym, ap, ap₂, subst, ◌∙◌}
use mathlib.Core.Logic.{◌⊎◌, inl, inr}
use mathlib.Core.Bool.{Bool, true, false, ◌&&◌, ◌||◌, or_assoc}
use mathlib.Core.List.{List, [], ◌∷◌, ◌++◌, append-nil}
use Rattle.std.specs.Prelude.{Some, None}
use Rattle.std.proofs.lemmas.Option.{none-some, same_Some}
use Prim.Native.Nat.{ℕ, zero, suc, ◌+◌, ◌-◌, ◌*◌, ◌^◌, ◌≤◌, ◌<◌}
use native.Mathlib.Decide.{ℕ_discrete}
use native.Mathlib.Omega.{arith}
use lib.Dec.{eqb, ltb, leb}
use lib.ListN.{length, take, length-append}
use lib.Seq.{take_all, take-append-le}
use borrow.Author.Tests.{lt-ltb, le-ltb, le-leb, lt-leb, eq-eqb, ne_eqb}
use Rattle.spec.specs.Lists.{if, mem, little}
use Rattle.spec.specs.Search.{Found, nowhere, found, Rec, dest, dests, kept}
use Rattle.laws.proofs.Branch.{both, if-true, if-false, and-false}
use Rattle.laws.proofs.Members.{gather_append}
use Rattle.lent.specs.Bytes.{Stored}
use Rattle.lent.proofs.Parts.{take_less, drop_more, part-suffix}
use Rattle.lent.proofs.Numbers.{num-suffix}
use Rattle.lent.proofs.Stored.{kept-take, kept-drop, kept-part, kept-num}
use Rattle.layout.specs.Fields.{FIRST-FOUND, LAST-FOUND, COUNT, HIGHEST, FLAG, mark_at, high_at}
use Rattle.layout.specs.Parts.{rows_end, fields_place, list_place, bucket_place, SameRows, SameFields, SameList, PastBuckets}
use Rattle.state.specs.Cells.{stack_at}
use Rattle.reachable.specs.Promises.{Address, SidesWithin, Marked, Highest, raised, Raised}
use Rattle.reachable.proofs.Tests.{mem-append, mem-one}
use Rattle.reachable.proofs.Frames.{num-in, part_in}
use Rattle.reachable.proofs.Rows.{within-sides, sides-kept}
use Rattle.reachable.proofs.Marks.{by-mark, marked-kept, marked-others, marked-one}
use Rattle.reachable.proofs.Raising.{kept-highs, highest-kept, highest-marked, raised-marks}
use Rattle.tables.specs.Addrs.{addrs}
use Rattle.tables.specs.Tables as tables
use Rattle.tables.specs.Tables.{recs, counted, SameLinks, new_found, Enters, enters, enters_nowhere}
use Rattle.tables.specs.Recording.{Recorded}
use Rattle.tables.specs.declared.Rooms.{Rooms}
use Rattle.tables.specs.declared.Counts.{Counts}
use Rattle.tables.specs.declared.Entry.{Entry}
use Rattle.tables.specs.Replies.{Reply}
use Rattle.tables.proofs.Counted.{recs-length}
use Rattle.tables.proofs.Uses.{tables-kept}
use Rattle.tables.proofs.Noted.{new-nowhere, new-at, recorded_more}
use Rattle.steps.specs.Lands.{Marks, Lands, remarked, heightened, FoundMarked, Grows, Noted}
use Rattle.steps.specs.declared.plan.Plan.{Plan}

-- ---- the mark of an address, with a record more

abbrev counts : ℕ → ℕ → Bool
counts f by = ltb 0 f && leb f by

-- an older mark stays
still : (d : Bool) (l f : ℕ) → (f ≡ 0 → ⊥) → remarked d l f ≡ f
still d l f z = if-false (d && eqb f 0) _ _ (and-false d (ne_eqb f 0 z))

-- for those who have the older records only, nothing is new
counts-before : (d : Bool) (l f : ℕ) {j : ℕ} → j ≤ l → counts (remarked d l f) (j + 1) ≡ counts f (j + 1)
unfolding if
counts-before true l zero {j} h = and-false (ltb 0 (l + 2)) (lt-leb (l + 2) (j + 1) (omega arith))
counts-before true l (suc f) {j} h = ap (λ (m : ℕ). counts m (j + 1)) (still true l (suc f) (λ z. omega arith))
counts-before false l f h = refl

-- for those who have it too, it counts
counts_after : (d : Bool) (l f : ℕ) {j : ℕ} → f ≤ l + 1 → j ≡ l + 1 → counts (remarked d l f) (j + 1) ≡ counts f (l + 1) || d
unfolding if
counts_after true l zero {j} h e = rw (lt-ltb 0 (l + 2) (omega arith), le-leb (l + 2) (j + 1) (omega arith))
counts_after false l zero h e = refl
counts_after d l (suc f) {j} h e =
    rw (still d l (suc f) (λ z. omega arith), lt-ltb 0 (suc f) (omega arith), le-leb (suc f) (j + 1) (omega arith), le-leb (suc f) (l + 1) h)

-- ---- marks

-- the destinations with a new one
mem-dests : (rs : List Rec) (x : Rec) (a : ℕ) → mem a (dests (rs ++ x ∷ [])) ≡ mem a (dests rs) || mem a (dest x.to)
mem-dests rs x a =
    ap (mem a) (gather_append (λ (r : Rec). dest r.to) rs (x ∷ [])) ∙ mem-append a (dests rs) (dest x.to ++ [])
    ∙ ap (λ (ds : List ℕ). mem a (dests rs) || mem a ds) (append-nil (dest x.to))

module _ {n since : ℕ} {w reached : List ℕ} {rs : List Rec} (o : Marks n w reached since rs) where
  pub marks-kept : {w' : List ℕ} → SameRows n w w' → ((a : ℕ) → a ≤ n → mark_at w' n a ≡ mark_at w n a) → ((a : ℕ) → a ≤ n → high_at w' n a ≡ high_at w n a)
      → Marks n w' reached since rs
  marks-kept rows e f =
      record {
        by = λ j h g a b. ap (λ (f : ℕ). counts f (j + 1)) (e a b) ∙ o.by j h g a b;
        most = λ a b. omega (arith, e a b, o.most a b);
        high = highest-kept rows e f o.high;
      }

  module _ (w' : List ℕ) (x : Rec) {l : ℕ} (long : length rs ≡ l) (old : since ≤ l)
      (e : (a : ℕ) → a ≤ n → mark_at w' n a ≡ remarked (mem a (dest x.to)) l (mark_at w n a)) (f : Highest n w → Highest n w') where
    longer : length (rs ++ x ∷ []) ≡ l + 1
    longer = length-append rs (x ∷ []) ∙ ap (λ (m : ℕ). m + 1) long

    by-more : (j : ℕ) → since ≤ j → j ≤ l + 1 → (a : ℕ) → a ≤ n → Dec (j ≡ l + 1)
        → counts (mark_at w' n a) (j + 1) ≡ mem a reached || mem a (dests (take j (rs ++ x ∷ [])))
    by-more j h g a b (yes q) =
        ap (λ (f : ℕ). counts f (j + 1)) (e a b)
        ∙ counts_after (mem a (dest x.to)) l (mark_at w n a) (omega (arith, o.most a b, long)) q
        ∙ ap (λ (u : Bool). u || mem a (dest x.to)) (o.by l old (omega arith) a b)
        ∙ or_assoc (mem a reached) (mem a (dests (take l rs))) (mem a (dest x.to))
        ∙ ap (λ (ys : List Rec). mem a reached || (mem a (dests ys) || mem a (dest x.to))) (take_all l rs (omega arith))
        ∙ ap (λ (u : Bool). mem a reached || u) (sym (mem-dests rs x a))
        ∙ ap (λ (ys : List Rec). mem a reached || mem a (dests ys)) (sym (take_all j (rs ++ x ∷ []) (omega (arith, longer))))
    by-more j h g a b (no d) =
        ap (λ (f : ℕ). counts f (j + 1)) (e a b)
        ∙ counts-before (mem a (dest x.to)) l (mark_at w n a) (omega arith)
        ∙ o.by j h (omega arith) a b
        ∙ ap (λ (ys : List Rec). mem a reached || mem a (dests ys)) (sym (take-append-le j rs (x ∷ []) (omega arith)))

    pub marks-more : Marks n w' reached since (rs ++ x ∷ [])
    marks-more =
        record {
          by = λ j h g a b. by-more j h (omega (arith, longer)) a b (ℕ_discrete j (l + 1));
          most = λ a b.
              let now : remarked (mem a (dest x.to)) l (mark_at w n a) ≤ l + 2 =
              both (λ (f : ℕ). f ≤ l + 2) (mem a (dest x.to) && eqb (mark_at w n a) 0) (λ _. omega arith) (λ _. omega (arith, o.most a b)) in
              omega (arith, e a b, longer);
          high = f o.high;
        }

-- ---- W with a mark more: what else stands there stays

record Spared (n buckets : ℕ) (w w' : List ℕ) : Type 0 where
  links : SameLinks n buckets w w'
  front : SameRows n w w'
  rests : SameFields 4 COUNT n w w'
  flags : SameFields 2 FLAG n w w'
  work : SameList n w w'
  back : PastBuckets n buckets w w'

spared-all : {n buckets : ℕ} {w : List ℕ} → Spared n buckets w w
spared-all =
    record {
      links = record { firsts = λ a l. refl; lasts = λ a l. refl; heads = λ h l. refl; long = refl };
      front = refl;
      rests = λ a l. refl;
      flags = λ a l. refl;
      work = refl;
      back = refl;
    }

spared-mark : {n buckets a when : ℕ} {w w' : List ℕ} → Address n w a → Marked n w a when w' → Spared n buckets w w'
spared-mark {n} {buckets} {a} {when} {w} {w'} i m = by-mark i m (λ _ s. stored s) (λ _ e. rw e spared-all)
  where
    stored : Stored 4 w (fields_place n a) (little 4 when) w' → Spared n buckets w w'
    stored s =
        let b = i.inside in
        record {
          links = record {
            firsts = λ y l. kept-num s 4 (fields_place n y + FIRST-FOUND) (λ g. omega arith);
            lasts = λ y l. kept-num s 4 (fields_place n y + LAST-FOUND) (λ g. omega arith);
            heads = λ h l. kept-num s 4 (bucket_place n h) (λ g. omega arith);
            long = s.kept;
          };
          front = kept-take s (rows_end n) (omega arith);
          rests = λ y l. kept-part s 4 (fields_place n y + COUNT) (λ g. omega arith);
          flags = λ y l. kept-part s 2 (fields_place n y + FLAG) (λ g. omega arith);
          work = kept-part s (2 * (n + 1)) (list_place n) (λ g. omega arith);
          back = kept-drop s (bucket_place n buckets) (omega arith);
        }

spared-raised : {n buckets a : ℕ} {ts w w' : List ℕ} → Raised n ts w a w' → Spared n buckets w w'
spared-raised {n} {buckets} {w = w} {w'} r =
    record {
      links = record {
        firsts = λ y l. num-in w' w HIGHEST (fields_place n y) (r.before y l) 4 (fields_place n y + FIRST-FOUND) (omega arith) (omega arith);
        lasts = λ y l. num-in w' w HIGHEST (fields_place n y) (r.before y l) 4 (fields_place n y + LAST-FOUND) (omega arith) (omega arith);
        heads = λ h l. num-suffix w' w (list_place n) r.beyond 4 (bucket_place n h) (omega arith);
        long = r.long;
      };
      front = r.rows;
      rests = λ y l. part_in w' w HIGHEST (fields_place n y) (r.before y l) 4 (fields_place n y + COUNT) (omega arith) (omega arith);
      flags = r.after;
      work = part-suffix w' w (list_place n) r.beyond (2 * (n + 1)) (list_place n) (omega arith);
      back = drop_more w' w (list_place n) r.beyond (bucket_place n buckets) (omega arith);
    }

spared-then : {n buckets : ℕ} {w w₁ w₂ : List ℕ} → Spared n buckets w w₁ → Spared n buckets w₁ w₂ → Spared n buckets w w₂
spared-then p q =
    record {
      links = record {
        firsts = λ y l. q.links.firsts y l ∙ p.links.firsts y l;
        lasts = λ y l. q.links.lasts y l ∙ p.links.lasts y l;
        heads = λ h l. q.links.heads h l ∙ p.links.heads h l;
        long = q.links.long ∙ p.links.long;
      };
      front = q.front ∙ p.front;
      rests = λ y l. q.rests y l ∙ p.rests y l;
      flags = λ y l. q.flags y l ∙ p.flags y l;
      work = q.work ∙ p.work;
      back = q.back ∙ p.back;
    }

-- ---- a destination found: marked, and then its sides raised

-- what `raise_sides` asks
module _ {n a when : ℕ} {w w₁ : List ℕ} (at : Address n w a) (m : Marked n w a when w₁) where
  pub raises-address : Address n w₁ a
  raises-address = record { lent = record { short = at.lent.short; room = omega (arith, at.lent.room, m.long) }; inside = at.inside }

  pub raises-within : SidesWithin w n → SidesWithin w₁ n
  raises-within s = within-sides (sides-kept w w₁ n (marked-kept at m).rows) s

-- ---- noted: recorded, and marked if it is new

-- no record more: the highest parents stay
height-none : (w : List ℕ) (x : Found) (y h : ℕ) {new : Bool} → new ≡ false → heightened w new x y h ≡ h
height-none w nowhere y h e = refl
height-none w (found t s) y h e = if-false _ _ _ (rw e)

module _ {p : List ℕ} {np n buckets start energy : ℕ} {k : Rooms} {m m' : tables.Mem} {c : Counts} {x : Found} {a : Reply} (h : Recorded p np n buckets k m c start energy x m' a) where
  -- recording leaves the marks
  mark-recorded : (y : ℕ) → y ≤ n → mark_at m'.w n y ≡ mark_at m.w n y
  mark-recorded y l =
      num-in m'.w m.w 4 (fields_place n y) (h.beyond.apart.marks y l) 4 (fields_place n y) (omega arith) (omega arith)

  -- and the highest parents
  high-recorded : (y : ℕ) → y ≤ n → high_at m'.w n y ≡ high_at m.w n y
  high-recorded y l =
      num-in m'.w m.w 8 (fields_place n y + COUNT) (h.beyond.apart.rests y l) 2 (fields_place n y + HIGHEST) (omega arith) (omega arith)

  -- and a count that a record more has as it was
  same_count : (f : Counts → ℕ) → f (counted c np (kept x)) ≡ f c → f a.counts ≡ f c
  same_count f g = go (recorded_more h)
    where
      go : {A B : Type 0} → (A × (a.counts ≡ c)) ⊎ (B × (a.counts ≡ counted c np (kept x))) → f a.counts ≡ f c
      go (inl e) = ap f e.1
      go (inr e) = ap f e.1 ∙ g

  recorded-grows : Grows k m c (record { start = start; to = x; path = addrs p 0 np; energy = energy }) m' a.counts
  recorded-grows = go (recorded_more h)
    where
      go : {A B : Type 0} → (A × (a.counts ≡ c)) ⊎ (B × (a.counts ≡ counted c np (kept x)))
          → (A × (a.counts.records ≡ c.records)) ⊎ (B × (a.counts.records ≡ c.records + 1))
      go (inl e) = inl (e.0, ap (λ (d : Counts). d.records) e.1)
      go (inr e) = inr (e.0, ap (λ (d : Counts). d.records) e.1)

module _ {p : List ℕ} {np start energy : ℕ} {k : Plan} {w r q s w₁ r₁ q₁ s₁ : List ℕ} {c : Counts} {x : Found} {a : Reply}
    (h : Recorded p np k.size k.buckets k.rooms (tables.mem w r q s) c start energy x (tables.mem w₁ r₁ q₁ s₁) a) where
  -- what recording leaves, with W marked or as it is
  noted-by : {w₂ : List ℕ} → Spared k.size k.buckets w₁ w₂ → (a.counts.records ≡ c.records → w₂ ≡ w₁)
      → (a.counts.records ≡ c.records + 1 → (y : ℕ) → y ≤ k.size → mark_at w₂ k.size y ≡ remarked (mem y (dest x)) c.records (mark_at w₁ k.size y))
      → (a.counts.records ≡ c.records + 1 → (y : ℕ) → y ≤ k.size → high_at w₂ k.size y ≡ heightened w true x y (high_at w₁ k.size y))
      → (Highest k.size w₁ → Highest k.size w₂)
      → Noted p np k (tables.mem w r q s) c start energy x (tables.mem w₂ r₁ q₁ s₁) a
  noted-by {w₂} o same more lift high =
      let v = h.stays in
      let b = h.beyond in
      let used = same_count h (λ (d : Counts). d.used) refl in
      record {
        code = h.code;
        made = h.made;
        tells = h.tells;
        holds = h.holds;
        counts = h.counts;
        known = λ e.
            let is = h.counts (h.tells ∙ if-true _ _ _ e) ∙ if-true _ _ _ e in
            ap (λ (u : List ℕ). tables.mem u r₁ q₁ s₁) (same (ap (λ (u : Counts). u.records) is)) ∙ h.known e;
        refused = λ d. (ap (λ (u : List ℕ). tables.mem u r₁ q₁ s₁) (same (ap (λ (u : Counts). u.records) (h.refused d).1)) ∙ (h.refused d).0, (h.refused d).1);
        grows = recorded-grows h;
        tables = tables-kept h.tables w₂ s₁ o.links refl refl a.counts.used a.counts.rows h.tables.within.fits_s;
        marked = λ y l. new-mark y l (recorded-grows h);
        heights = λ y l. new-high y l (recorded-grows h);
        marks = λ reached since l g. go l g (recorded-grows h);
        around = record {
          front = o.front ∙ b.apart.front;
          rests = λ y l. o.rests y l ∙ part_in w₁ w 8 (fields_place k.size y + COUNT) (b.apart.rests y l) 4 (fields_place k.size y + COUNT) (omega arith) (omega arith);
          flags = λ y l. o.flags y l ∙ part_in w₁ w 8 (fields_place k.size y + COUNT) (b.apart.rests y l) 2 (fields_place k.size y + FLAG) (omega arith) (omega arith);
          work = o.work ∙ b.work;
          back = o.back ∙ b.back;
          long_w = o.links.long ∙ b.apart.long;
          stays = v;
          bottom = take_less s₁ s (9 * (k.rooms.s - a.counts.kept)) v.front_s (9 * c.used) (omega (arith, used, h.tables.within.fits_s));
          long_s = v.long_s;
        };
        used = used;
        rows = same_count h (λ (d : Counts). d.rows) refl;
      }
    where
      new-mark : {A B : Type 0} (y : ℕ) → y ≤ k.size → (A × (a.counts.records ≡ c.records)) ⊎ (B × (a.counts.records ≡ c.records + 1))
          → mark_at w₂ k.size y ≡ remarked (ltb c.records a.counts.records && mem y (dest x)) c.records (mark_at w k.size y)
      new-mark y l (inl e) =
          rw (same e.1) (mark-recorded h y l) ∙ sym (if-false _ _ _ (rw (le-ltb c.records a.counts.records (omega (arith, e.1)))))
      new-mark y l (inr e) =
          rw (lt-ltb c.records a.counts.records (omega (arith, e.1))) (more e.1 y l ∙ ap (remarked (mem y (dest x)) c.records) (mark-recorded h y l))

      new-high : {A B : Type 0} (y : ℕ) → y ≤ k.size → (A × (a.counts.records ≡ c.records)) ⊎ (B × (a.counts.records ≡ c.records + 1))
          → high_at w₂ k.size y ≡ heightened w (ltb c.records a.counts.records) x y (high_at w k.size y)
      new-high y l (inl e) =
          rw (same e.1) (high-recorded h y l) ∙ sym (height-none w x y _ (le-ltb c.records a.counts.records (omega (arith, e.1))))
      new-high y l (inr e) =
          rw (lt-ltb c.records a.counts.records (omega (arith, e.1))) (lift e.1 y l ∙ ap (heightened w true x y) (high-recorded h y l))

      go : {reached : List ℕ} {since : ℕ} → since ≤ c.records → Marks k.size w reached since (recs k.rooms (tables.mem w r q s) c)
          → Grows k.rooms (tables.mem w r q s) c (record { start = start; to = x; path = addrs p 0 np; energy = energy }) (tables.mem w₁ r₁ q₁ s₁) a.counts
          → Marks k.size w₂ reached since (recs k.rooms (tables.mem w₂ r₁ q₁ s₁) a.counts)
      go l g (inl e) =
          subst (Marks k.size w₂ _ _) (sym e.0) (rw (same e.1) (marks-kept g h.beyond.apart.front (mark-recorded h) (high-recorded h)))
      go l g (inr e) =
          subst (Marks k.size w₂ _ _) (sym e.0) (marks-more g w₂ _ (recs-length r q s k.rooms.s c.records) l
          (λ y b. more e.1 y b ∙ ap (remarked (mem y (dest x)) c.records) (mark-recorded h y b))
          (λ g. high (highest-kept h.beyond.apart.front (mark-recorded h) (high-recorded h) g)))

  -- nothing was added, so nothing is marked
  pub landed-old : a.counts.records ≡ c.records → Noted p np k (tables.mem w r q s) c start energy x (tables.mem w₁ r₁ q₁ s₁) a
  landed-old e = noted-by spared-all (λ _. refl) (λ g. absurd (omega arith)) (λ g. absurd (omega arith)) (λ g. g)

-- no destination: nothing to mark
strayed : {p : List ℕ} {np start energy : ℕ} {k : Plan} {w r q s w₁ r₁ q₁ s₁ : List ℕ} {c : Counts} {a : Reply}
    → Recorded p np k.size k.buckets k.rooms (tables.mem w r q s) c start energy nowhere (tables.mem w₁ r₁ q₁ s₁) a
    → Noted p np k (tables.mem w r q s) c start energy nowhere (tables.mem w₁ r₁ q₁ s₁) a
strayed h = noted-by h spared-all (λ _. refl) (λ _ y l. sym (if-false false _ _ refl)) (λ _ y l. refl) (λ g. g)

-- the number of records, of which there are few, and two more
pub lands-few : {p : List ℕ} {np : ℕ} {k : Plan} {m : tables.Mem} {c : Counts} {e : Entry} → Lands p np k m c e → c.records + 2 < 2 ^ 32
lands-few y = let i = y.ready.tables.within in omega (arith, i.fits_r, i.most_r)

-- a destination is an address
lands-inside : {p : List ℕ} {np : ℕ} {k : Plan} {m : tables.Mem} {c : Counts} {e : Entry} {to : ℕ} → Lands p np k m c e → e.to ≡ Some to → to ≤ k.size
lands-inside {k = k} {m = m} {e = e} {to = to} y d = go y.ready.entry
  where
    go : Enters k.size m.s e → to ≤ k.size
    go (enters_nowhere z _) = absurd (none-some _ (sym z ∙ d))
    go (enters z i _) = omega (arith, i, same_Some _ _ (sym z ∙ d))

module _ {p : List ℕ} {np : ℕ} {k : Plan} {w r q s w₁ r₁ q₁ s₁ : List ℕ} {c : Counts} {e : Entry} {a : Reply} (y : Lands p np k (tables.mem w r q s) c e)
    (h : Recorded p np k.size k.buckets k.rooms (tables.mem w r q s) c e.start e.energy (new_found s e) (tables.mem w₁ r₁ q₁ s₁) a) where
  -- the same of where the entry leads
  recorded-as : {x : Found} → new_found s e ≡ x → Recorded p np k.size k.buckets k.rooms (tables.mem w r q s) c e.start e.energy x (tables.mem w₁ r₁ q₁ s₁) a
  recorded-as is = subst (λ (x : Found). Recorded p np k.size k.buckets k.rooms (tables.mem w r q s) c e.start e.energy x (tables.mem w₁ r₁ q₁ s₁) a) is h

  noted-as : {x : Found} {w₂ : List ℕ} → new_found s e ≡ x → Noted p np k (tables.mem w r q s) c e.start e.energy x (tables.mem w₂ r₁ q₁ s₁) a
      → Noted p np k (tables.mem w r q s) c e.start e.energy (new_found s e) (tables.mem w₂ r₁ q₁ s₁) a
  noted-as {w₂ = w₂} is n = subst (λ (x : Found). Noted p np k (tables.mem w r q s) c e.start e.energy x (tables.mem w₂ r₁ q₁ s₁) a) (sym is) n

  pub landed-nowhere : e.to ≡ None → Noted p np k (tables.mem w r q s) c e.start e.energy (new_found s e) (tables.mem w₁ r₁ q₁ s₁) a
  landed-nowhere z = let is = new-nowhere s e z in noted-as is (strayed (recorded-as is))

  -- what `mark_found` asks
  pub lands-address : {to : ℕ} → e.to ≡ Some to → Address k.size w₁ to
  lands-address some_to =
      record {
        lent = record { short = y.lent.short; room = omega (arith, y.lent.room, h.beyond.apart.long) };
        inside = lands-inside y some_to;
      }

  pub lands_within : SidesWithin w₁ k.size
  lands_within = within-sides (sides-kept w w₁ k.size h.beyond.apart.front) y.within

  -- a record was added, so its destination is marked
  pub landed-new : {to : ℕ} → e.to ≡ Some to → {w₂ : List ℕ} → (a.counts.records ≡ c.records → ⊥) → FoundMarked k.size w₁ to (c.records + 2) w₂
      → Noted p np k (tables.mem w r q s) c e.start e.energy (new_found s e) (tables.mem w₂ r₁ q₁ s₁) a
  landed-new {to} some_to d o =
      let is : new_found s e ≡ found to (stack_at s (9 * e.from) e.cells) = new-at s e some_to in
      let at = lands-address some_to in
      let m = o.marks in
      let v = o.raises in
      let front : SameRows k.size w o.between = (marked-kept at m).rows ∙ h.beyond.apart.front in
      noted-as is
      (noted-by (recorded-as is) (spared-then (spared-mark at m) (spared-raised v)) (λ g. absurd (d g)) (λ _ z l. raised-marks v z l ∙ marked z (ℕ_discrete z to))
      (λ _ z l. v.highs z l ∙ ap₂ (λ (ts : List ℕ) (f : ℕ). raised (mem z ts) to f) (sides-kept w o.between k.size front to (lands-inside y some_to)) (kept-highs (marked-kept at m) z l))
      (λ g. highest-marked g at (omega arith) (lands-few y) m v))
    where
      marked : (z : ℕ) → Dec (z ≡ to) → mark_at o.between k.size z ≡ remarked (mem z (to ∷ [])) c.records (mark_at w₁ k.size z)
      marked z (yes i) =
          rw (mem-one z to, eq-eqb z to i, i) (marked-one (lands-address some_to) o.marks (lands-few y))
      marked z (no i) =
          marked-others (lands-address some_to) o.marks z i ∙ sym (if-false (mem z (to ∷ []) && eqb (mark_at w₁ k.size z) 0) _ _ (rw (mem-one z to, ne_eqb z to i)))

-- ---- for the caller: the older records stay

pub noted-older : {p : List ℕ} {np start energy : ℕ} {k : Plan} {m m' : tables.Mem} {c : Counts} {x : Found} {a : Reply} → Noted p np k m c start energy x m' a
    → take c.records (recs k.rooms m' a.counts) ≡ recs k.rooms m c
noted-older {p} {np} {start} {energy} {k} {m} {m'} {c} {x} {a} h = go h.grows
  where
    long : length (recs k.rooms m c) ≡ c.records
    long = recs-length m.r m.q m.s k.rooms.s c.records

    all : take c.records (recs k.rooms m c) ≡ recs k.rooms m c
    all = take_all c.records (recs k.rooms m c) (omega (arith, long))

    go : Grows k.rooms m c (record { start = start; to = x; path = addrs p 0 np; energy = energy }) m' a.counts
        → take c.records (recs k.rooms m' a.counts) ≡ recs k.rooms m c
    go (inl e) = ap (take c.records) e.0 ∙ all
    go (inr e) = ap (take c.records) e.0 ∙ take-append-le c.records (recs k.rooms m c) _ (omega (arith, long)) ∙ all
