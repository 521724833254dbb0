-- What of a turn's buffers stays when a step changes some of them. Assumes nothing.
use mathlib.Core.Path.{◌≡◌, refl, sym, ap, ◌∙◌}
use mathlib.Core.Logic.{◌⊎◌, inl, inr}
use Prim.Native.Nat.{ℕ, zero, suc, ◌+◌, ◌≤◌}
use native.Mathlib.Omega.{arith}
use mathlib.Core.List.{List, [], ◌∷◌, ◌++◌, map}
use lib.ListN.{length, take}
use Rattle.spec.specs.Stacks.{Stack, cells}
use Rattle.spec.specs.Opcodes.{in_mode}
use Rattle.spec.specs.Blocks.{Block}
use Rattle.spec.specs.Search.{Found, Node, parent, sides, Rec, Turn}
use Rattle.spec.specs.Answer.{prepared}
use Rattle.laws.proofs.Members.{In, in-cases, in-only, in_map, gather-in, map-in}
use Rattle.lent.proofs.Parts.{take_less, drop_more}
use Rattle.lent.proofs.Numbers.{num-prefix}
use Rattle.layout.specs.Fields.{FIRST-FOUND, LAST-FOUND, HIGHEST, FLAG}
use Rattle.layout.specs.Parts.{rows_end, fields_place, bucket_place, SameRows}
use Rattle.layout.specs.Buffers.{Mem, buffers}
use Rattle.tables.specs.Addrs.{addrs}
use Rattle.tables.specs.Records.{recs_of}
use Rattle.tables.specs.Rows.{met_of, used_of}
use Rattle.tables.specs.Tables.{mem, recs, SameLinks}
use Rattle.tables.specs.Mets.{Remembers, Packs, Memorized}
use Rattle.tables.specs.declared.Rooms.{Rooms}
use Rattle.tables.specs.declared.Counts.{Counts}
use Rattle.tables.specs.Replies.{Reply}
use Rattle.tables.specs.declared.row.Seen.{Seen}
use Rattle.tables.proofs.Uses.{tables-kept, recs-stay}
use Rattle.tables.proofs.Turns.{mets-kept, remembers-kept}
use Rattle.parents.specs.Promises.{Known}
use Rattle.parents.proofs.Knows.{direct-within, known-prefix}
use Rattle.initial.specs.Rows.{blocks_at}
use Rattle.reachable.specs.Promises.{SidesWithin}
use Rattle.reachable.proofs.Within.{blocks-within}
use Rattle.reachable.proofs.Flags.{flagged-same}
use Rattle.reachable.proofs.Frames.{num-in}
use Rattle.steps.specs.Sound.{SoundRec}
use Rattle.steps.specs.States.{Took}
use Rattle.steps.specs.Lands.{Noted}
use Rattle.steps.specs.Runs.{st_of}
use Rattle.enter.specs.Fits.{Planned, Fits, Stays}
use Rattle.steps.specs.declared.plan.Plan.{Plan}
use Rattle.steps.specs.declared.Level.{Level}
use Rattle.steps.specs.Goings.{Gone}
use Rattle.steps.specs.declared.state_of.Taken.{Taken}
use Rattle.steps.specs.declared.state_of.Untaken.{Untaken}
use Rattle.std.specs.Prelude.{Result}
use Rattle.steps.specs.Helds.{Helds}
use Rattle.steps.proofs.Helds.{helds-past}
use Rattle.steps.proofs.Founds.{recs-take}
use Rattle.steps.proofs.Lands.{marks-kept, noted-older}

-- ---- W before its part for runs

-- the links depend on what stands before the end of the buckets alone
pub links-prefix : (n buckets : ℕ) {w w' : List ℕ} (k : ℕ) → bucket_place n buckets ≤ k → take k w' ≡ take k w → length w' ≡ length w → SameLinks n buckets w w'
links-prefix n buckets {w} {w'} k h e long = record {
  firsts = λ a l. num-prefix w' w k e 4 (fields_place n a + FIRST-FOUND) (omega arith);
  lasts = λ a l. num-prefix w' w k e 4 (fields_place n a + LAST-FOUND) (omega arith);
  heads = λ b l. num-prefix w' w k e 4 (bucket_place n b) (omega arith);
  long = long;
}

-- ---- sides

-- the rows' blocks have their sides in the code
pub known-within : {mode : ℕ} {code w : List ℕ} {many : ℕ} → Known mode code w many → SidesWithin w (length code)
known-within {mode} {code} {w} k = blocks-within w (length code) side
  where
    side : (b : Block) (t : ℕ) → In b (blocks_at w (length code)) → In t (sides b.kind) → t ≤ length code
    side b t i j =
        let g = in_map (λ (x : Node). x.block) (prepared (in_mode mode) code) (rw k.blocks at i) in
        let there : In t (sides g.0.block.kind) = rw g.2 at j in
        direct-within mode code {p = parent t (g.0.block.start ∷ []) g.0.own.stack}
        (gather-in (λ (x : Node). map (λ (u : ℕ). parent u (x.block.start ∷ []) x.own.stack) (sides x.block.kind)) g.1
        (map-in (λ (u : ℕ). parent u (g.0.block.start ∷ []) g.0.own.stack) there))

pub fits-within : {code : List ℕ} {k : Plan} {t : Turn} {since start : ℕ} {m : Mem} {c : Counts} → Fits code k t since start m c → SidesWithin m.w k.size
fits-within f = rw f.planned.is (known-within f.known)

-- ---- the plan, by the lengths

pub planned-long : {code : List ℕ} {k : Plan} {m : Mem} (w p s t r q : List ℕ) → Planned code k m → Helds k code w → length w ≡ length m.w → length p ≡ length m.p
    → Planned code k (buffers w p s t r q)
planned-long w p s t r q f h e g = record {
  is = f.is;
  limit = f.limit;
  moded = f.moded;
  lent_w = record { short = f.lent_w.short; room = omega (arith, f.lent_w.room) };
  ends = omega (arith, f.ends);
  scratch = f.scratch;
  helds = h;
  lent_p = omega (arith, f.lent_p);
  most_p = f.most_p;
  shelves = f.shelves;
}

-- ---- remembered rows, by the counts that they speak of

pub mets-length : (t s : List ℕ) (m : ℕ) → length (met_of t s m) ≡ m
unfolding met_of
mets-length t s zero = refl
mets-length t s (suc m) = ap suc (mets-length t s m)

pub remembers-counts : {buckets : ℕ} {k : Rooms} {t s : List ℕ} {c d : Counts} → d.rows ≡ c.rows → d.used ≡ c.used → Remembers buckets k t s c → Remembers buckets k t s d
remembers-counts e f r = record {
  rows = λ i l. r.rows i (omega arith);
  inside = λ i l. omega (arith, r.inside i (omega arith));
  shelves = rw e r.shelves;
  fits_t = omega (arith, r.fits_t);
  lent_t = r.lent_t;
  most_t = r.most_t;
  fits_s = omega (arith, r.fits_s);
  most_s = omega (arith, r.most_s);
}

pub packs-counts : {first : ℕ} {t : List ℕ} {c d : Counts} → d.rows ≡ c.rows → d.used ≡ c.used → Packs first t c → Packs first t d
packs-counts {first} {t} e f p = record { is = ap (used_of t first) e ∙ p.is ∙ sym f }

module _ {code : List ℕ} {k : Plan} {t : Turn} {since start : ℕ} {w p s T r q : List ℕ} {c : Counts} (f : Fits code k t since start (buffers w p s T r q) c) where
  -- ---- the path in hand

  pub fits-path : (p' : List ℕ) → length p' ≡ length p → Fits code k t since start (buffers w p' s T r q) c
  fits-path p' e = record {
    planned = planned-long w p' s T r q f.planned f.planned.helds refl e;
    stored = f.stored;
    started = f.started;
    starts = f.starts;
    tables = f.tables;
    remembers = f.remembers;
    packs = f.packs;
    known = f.known;
    began = f.began;
    marks = f.marks;
    sound = f.sound;
  }

  -- ---- a state that was composed right after the cells in use

  module _ {l : Level} {par : Stack} {w' s' : List ℕ} {x : Result Taken Untaken} (o : Took code w s k c l par w' s' x) where
    taken-links : SameLinks k.size k.buckets w w'
    taken-links = links-prefix k.size k.buckets (bucket_place k.size k.buckets) (omega arith) o.front o.long_w

    taken-rows : SameRows k.size w w'
    taken-rows = take_less w' w (bucket_place k.size k.buckets) o.front (rows_end k.size) (omega (arith, f.planned.scratch))

    pub taken-recs : recs_of r q s' k.rooms.s c.records ≡ recs_of r q s k.rooms.s c.records
    taken-recs = recs-stay f.tables w' s' taken-links o.top o.long_s

    pub taken-mets : met_of T s' c.rows ≡ met_of T s c.rows
    taken-mets = mets-kept f.remembers s' o.bottom (omega (arith, o.long_s))

    pub fits-taken : Fits code k t since start (buffers w' p s' T r q) c
    fits-taken = record {
      planned = planned-long w' p s' T r q f.planned o.helds o.long_w refl;
      stored = f.stored;
      started = f.started;
      starts = f.starts;
      tables = tables-kept f.tables w' s' taken-links o.top o.long_s c.used c.rows f.tables.within.fits_s;
      remembers = remembers-kept f.remembers s' o.bottom (omega (arith, o.long_s));
      packs = f.packs;
      known = known-prefix w' (rw (← f.planned.is) (sym taken-rows)) f.known;
      began = f.began;
      marks =
          rw taken-recs
          (marks-kept f.marks taken-rows (λ a h. num-prefix w' w (bucket_place k.size k.buckets) o.front 4 (fields_place k.size a) (omega (arith, f.planned.scratch)))
          (λ a h. num-prefix w' w (bucket_place k.size k.buckets) o.front 2 (fields_place k.size a + HIGHEST) (omega (arith, f.planned.scratch))));
      sound = rw taken-recs f.sound;
    }

    pub stays-taken : (np : ℕ) → Stays k np (buffers w p s T r q) c (buffers w' p s' T r q) c
    stays-taken np = record {
      path = refl;
      bottom = o.bottom;
      rows = taken-rows;
      flags = flagged-same w w' k.size (λ a h. num-prefix w' w (bucket_place k.size k.buckets) o.front 1 (fields_place k.size a + FLAG) (omega (arith, f.planned.scratch)));
      beyond = o.back;
      uses = omega arith;
      more = omega arith;
      older = recs-take r q s' k.rooms.s c.records c.records (omega arith) ∙ taken-recs;
    }

    pub state-taken : (run : Gone) → run.counts ≡ c → st_of k (buffers w' p s' T r q) run ≡ st_of k (buffers w p s T r q) run
    state-taken run e = rw (e, taken-recs, taken-mets)

  -- ---- a row more

  module _ {x : Seen} {T' : List ℕ} {a : Reply} (o : Memorized k.shelves k.rooms T s c x T' a) (z : a.code ≡ 0) (room : c.kept + c.used + x.cells ≤ k.rooms.s) where
    pub fits-met : Fits code k t since start (buffers w p s T' r q) a.counts
    fits-met = record {
      planned = planned-long w p s T' r q f.planned f.planned.helds refl refl;
      stored = f.stored;
      started = f.started;
      starts = f.starts;
      tables = rw (o.counts z) (tables-kept f.tables w s (record { firsts = λ i l. refl; lasts = λ i l. refl; heads = λ i l. refl; long = refl }) refl refl (c.used + x.cells) (c.rows + 1) (omega arith));
      remembers = o.remembers;
      packs = o.packs (cells t.first) f.packs;
      known = f.known;
      began = rw (o.counts z) f.began;
      marks = rw (o.counts z) f.marks;
      sound = rw (o.counts z) f.sound;
    }

    pub stays_met : (np : ℕ) → Stays k np (buffers w p s T r q) c (buffers w p s T' r q) a.counts
    stays_met np = rw (o.counts z) (record {
      path = refl;
      bottom = refl;
      rows = refl;
      flags = refl;
      beyond = refl;
      uses = omega arith;
      more = omega arith;
      older = recs-take r q s k.rooms.s c.records c.records (omega arith);
    })

  -- ---- what a path ends in

  module _ {np energy : ℕ} {x : Found} {w' r' q' s' : List ℕ} {a : Reply} (o : Noted p np k (mem w r q s) c start energy x (mem w' r' q' s') a) where
    noted_more : c.records ≤ a.counts.records
    noted_more = more o.grows
      where
        more : {A B : Type 0} → (A × (a.counts.records ≡ c.records)) ⊎ (B × (a.counts.records ≡ c.records + 1)) → c.records ≤ a.counts.records
        more (inl e) = omega (arith, e.1)
        more (inr e) = omega (arith, e.1)

    pub noted-mets : met_of T s' c.rows ≡ met_of T s c.rows
    noted-mets = mets-kept f.remembers s' o.around.bottom (omega (arith, o.around.long_s))

    pub fits-noted : SoundRec k.size (record { start = start; to = x; path = addrs p 0 np; energy = energy }) → Fits code k t since start (buffers w' p s' T r' q') a.counts
    fits-noted new = record {
      planned = planned-long w' p s' T r' q' f.planned (helds-past (bucket_place k.size k.buckets) (omega arith) o.around.back o.around.long_w f.planned.helds) o.around.long_w refl;
      stored = f.stored;
      started = f.started;
      starts = f.starts;
      tables = o.tables;
      remembers = remembers-counts o.rows o.used (remembers-kept f.remembers s' o.around.bottom (omega (arith, o.around.long_s)));
      packs = packs-counts o.rows o.used f.packs;
      known = known-prefix w' (rw (← f.planned.is) (sym o.around.front)) f.known;
      began = omega (arith, noted_more, f.began);
      marks = o.marks t.reached since f.began f.marks;
      sound = record { each = λ y i. all y i o.grows };
    }
      where
        all : {A B : Type 0} (y : Rec) → In y (recs k.rooms (mem w' r' q' s') a.counts)
            → ((recs k.rooms (mem w' r' q' s') a.counts ≡ recs k.rooms (mem w r q s) c) × A)
            ⊎ ((recs k.rooms (mem w' r' q' s') a.counts ≡ recs k.rooms (mem w r q s) c ++ record { start = start; to = x; path = addrs p 0 np; energy = energy } ∷ []) × B)
            → SoundRec k.size y
        all y i (inl e) = f.sound.each y (rw e.0 at i)
        all y i (inr e) = either (in-cases (recs k.rooms (mem w r q s) c) (rw e.0 at i))
          where
            either : In y (recs k.rooms (mem w r q s) c) ⊎ In y (record { start = start; to = x; path = addrs p 0 np; energy = energy } ∷ []) → SoundRec k.size y
            either (inl h) = f.sound.each y h
            either (inr h) = rw (in-only h) new

    pub stays-noted : Stays k np (buffers w p s T r q) c (buffers w' p s' T r' q') a.counts
    stays-noted = record {
      path = refl;
      bottom = o.around.bottom;
      rows = o.around.front;
      flags = flagged-same w w' k.size (λ a h. num-in w' w 2 (fields_place k.size a + FLAG) (o.around.flags a h) 1 (fields_place k.size a + FLAG) (omega arith) (omega arith));
      beyond = drop_more w' w (bucket_place k.size k.buckets) o.around.back k.end (omega (arith, f.planned.scratch));
      uses = omega (arith, o.used);
      more = noted_more;
      older = noted-older o;
    }
