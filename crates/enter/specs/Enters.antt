-- What is done with a parent of a level, up to the level that it may open. Assumes nothing.
use Rattle.std.specs.Prelude.{Option, Some, None, Result, Ok, Err, ◌≡◌, Bool, true, false, not, ◌&&◌, ℕ, zero, suc, ◌+◌, ◌-◌, ◌*◌, ◌≤◌, ◌<◌, List, ◌++◌, eqb, ltb, length}
use Rattle.spec.specs.Lists.{if}
use Rattle.spec.specs.Search as search
use Rattle.spec.specs.Stacks.{Sym, before, constant, jumpdest, other, Stack}
use Rattle.spec.specs.Search.{Found, nowhere, found, P, St, need, Turn, Parent, record_nowhere, follow, loops, level}
use Rattle.spec.specs.Rooms.{Lent, shortage}
use Rattle.theorems.specs.Needs.{clear, Later}
use Rattle.lent.specs.Bytes.{Holds}
use Rattle.layout.specs.Fields.{count_at}
use Rattle.layout.specs.Rows.{start_of}
use Rattle.layout.specs.Buffers.{Mem}
use Rattle.state.specs.Symbols.{sym_of}
use Rattle.state.specs.Cells.{stack_at, State}
use Rattle.tables.specs.Addrs.{addrs}
use Rattle.tables.specs.Tables as tables
use Rattle.tables.specs.Tables.{Ready, no_entry, new_found}
use Rattle.tables.specs.Recording.{Lends}
use Rattle.tables.specs.declared.Counts.{Counts}
use Rattle.tables.specs.Replies.{Reply}
use Rattle.tables.specs.declared.Entry.{Entry}
use Rattle.tables.specs.declared.row.Seen.{Seen}
use Rattle.reachable.specs.Promises.{Room, Address, SidesWithin}
use Rattle.steps.specs.Paths.{OnPath}
use Rattle.steps.specs.Lands.{Noted}
use Rattle.steps.specs.Runs.{st_of, Did}
use Rattle.steps.specs.declared.plan.Plan.{Plan}
use Rattle.steps.specs.declared.Level.{Level}
use Rattle.steps.specs.Goings.{Gone, gone}
use Rattle.steps.specs.declared.Run.{Run}
use Rattle.refusal.specs.declared.Shortage.{Shortage}
use Rattle.steps.specs.declared.state_of.Taken.{Taken}
use Rattle.enter.specs.Fits.{Fits, level_of, Stands, OnIts, held, Parental, Stays}

-- ---- how the search goes on

abbrev pub after_with : Gone → ℕ → Counts → Gone
after_with o code counts = record { code = code; energy = o.energy; counts = counts }

-- whether a level opens, how the search goes then, and the level
pub record Opening : Type 0 where
  pub opens : Bool
  pub run : Gone
  pub level : Level

abbrev pub shut_with : Gone → Level → Opening
shut_with o l = record { opens = false; run = o; level = l }

-- what a call on a parent of the level l answers, where the search then stands by `run`
abbrev pub opening_of : Run → Level → Result (Option Level) Shortage → Opening
opening_of run l (Ok None) = shut_with (gone run (Ok l)) l
opening_of run l (Ok (Some x)) = record { opens = true; run = gone run (Ok l); level = x }
opening_of run l (Err e) = shut_with (gone {A = Level} run (Err e)) l

abbrev pub ended_with : Gone → Reply → Level → Opening
ended_with o a l = shut_with (after_with o a.code a.counts) l

abbrev pub open_at : ℕ → ℕ → Seen → Level → Level
open_at np position x l = record { np = np; position = position; from = x.from; cells = x.cells; left = l.left - 1 }

abbrev pub open_with : Gone → ℕ → ℕ → Seen → Level → Opening
open_with o np position x l = record { opens = true; run = o; level = open_at np position x l }

abbrev pub refused_with : Gone → ℕ → Gone
refused_with o code = after_with o code o.counts

-- ---- "A one-block parent already on the path is skipped."

pub record SkipAsks (n : ℕ) (w : List ℕ) (at : ℕ) : Type 0 where
  pub some : 1 ≤ at
  pub direct : at < 0x10000 → Address n w (start_of at)

unfoldable pub skips : List ℕ → ℕ → ℕ → Bool
skips w n at = ltb at 0x10000 && not (eqb (count_at w n (start_of at)) 0)

-- ---- document 01's steps 2 to 6 of a parent, `deeper` being what opens a level

-- steps 3 to 6, once the path is grown; the number is 256 less the level's weight
abbrev pub going : Turn → (search.Level → St → St) → ℕ → search.Level → Parent → List ℕ → St → St
going t deeper zero l p = record_nowhere t
going t deeper (suc w) l p = follow t deeper l p

abbrev pub onward : Turn → (search.Level → St → St) → ℕ → search.Level → Parent → St → St
onward t deeper left l p s = if (loops p.path l.path) s (going t deeper left l p (l.path ++ p.path) (need P (length (l.path ++ p.path)) s))

-- ---- what comes of it

-- a level opens, with its state right behind the cells that were in use: from a state whose needs are not short, f goes on by it
pub record Opens (k : Plan) (f : (search.Level → St → St) → St → St) (l : Level) (m : Mem) (o : Gone) (m' : Mem) (e : Opening) : Type 0 where
  pub code : e.run.code ≡ 0
  pub stands : Stands k m' e.run.counts e.level
  pub lighter : l.left ≡ suc e.level.left
  pub longer : l.np ≤ e.level.np
  pub fresh : e.level.from ≡ o.counts.used
  pub next : St → St
  pub is : (deeper : search.Level → St → St) (mid : St) → clear mid ≡ st_of k m o → f deeper mid ≡ deeper (level_of m' e.level) (next mid)
  pub clears : (mid : St) → clear mid ≡ st_of k m o → clear (next mid) ≡ st_of k m' e.run
  pub short : (x : Lent) → Lends x k.rooms → (mid : St) → clear mid ≡ st_of k m o → shortage x mid.needs ≡ 0 → shortage x (next mid).needs ≡ 0

pub record Outcome (code : List ℕ) (k : Plan) (t : Turn) (since start : ℕ) (f : (search.Level → St → St) → St → St) (l : Level) (m : Mem) (o : Gone) (m' : Mem) (e : Opening) : Type 0 where
  pub shut : e.opens ≡ false → (deeper : search.Level → St → St) → ((x : search.Level) (s : St) → Later s (deeper x s)) → Did k.rooms (f deeper) (st_of k m o) e.run.code (st_of k m' e.run)
  pub unopened : e.opens ≡ false → e.level ≡ l
  pub opened : e.opens ≡ true → Opens k f l m o m' e
  pub fits : e.run.code ≡ 0 → Fits code k t since start m' e.run.counts
  pub stays : e.run.code ≡ 0 → Stays k l.np m o.counts m' e.run.counts
  pub counts : e.run.code ≡ 0 → OnPath k.size m'.w (addrs m.p 0 l.np)
  pub energy : e.run.energy ≡ o.energy

-- ---- the functions

-- what the entry says is recorded, and how the search goes on
pub record Landed (p : List ℕ) (np : ℕ) (k : Plan) (m : tables.Mem) (y : Entry) (o : Gone) (m' : tables.Mem) (d : Gone) : Type 0 where
  pub noted : Noted p np k m o.counts y.start y.energy (new_found m.s y) m' (record { code = d.code; counts = d.counts })
  pub is : d ≡ after_with o d.code d.counts

-- the path ends in y, which is recorded, and no level opens
pub record Ended (p : List ℕ) (np : ℕ) (k : Plan) (m : tables.Mem) (start : ℕ) (l : Level) (o : Gone) (y : Found) (m' : tables.Mem) (e : Opening) : Type 0 where
  pub is : e ≡ shut_with e.run l
  pub energy : e.run.energy ≡ o.energy
  pub noted : Noted p np k m o.counts start o.energy y m' (record { code = e.run.code; counts = e.run.counts })

-- what a path ends in, by the symbol read
pub data Ends (s : Stack) : Sym → Found → Type 0 where
  at_jumpdest : {t : ℕ} → Ends s (jumpdest t) (found t s)
  at_constant : {v : ℕ} → Ends s (constant v) nowhere
  at_other : {pc : ℕ} → Ends s (other pc) nowhere

-- what is recorded of a path that ends in the symbol c
unfoldable pub entry_of : ℕ → Seen → ℕ → Sym → Entry
entry_of start x energy (before n) = no_entry start energy
entry_of start x energy (constant v) = no_entry start energy
entry_of start x energy (jumpdest t) = record { start = start; to = Some t; from = x.from; cells = x.cells; energy = energy }
entry_of start x energy (other pc) = no_entry start energy

pub record Arriving (p : List ℕ) (np : ℕ) (k : Plan) (m : tables.Mem) (start : ℕ) (l : Level) (x : Seen) (o : Gone) : Type 0 where
  pub lent : Room k.size m.w
  pub within : SidesWithin m.w k.size
  pub ready : Ready p np k.size k.buckets k.rooms m o.counts (no_entry start o.energy)
  pub state : State m.s (9 * x.from) x.cells
  pub inside : x.from + x.cells ≤ o.counts.used
  pub lands : (t : ℕ) → sym_of x.symbol ≡ jumpdest t → t ≤ k.size
  pub left : l.left ≡ 0 → ⊥

pub record Arrived (p : List ℕ) (np : ℕ) (k : Plan) (m : tables.Mem) (start : ℕ) (l : Level) (x : Seen) (o : Gone) (m' : tables.Mem) (e : Opening) : Type 0 where
  pub opens : (n : ℕ) → sym_of x.symbol ≡ before n → (e ≡ open_with o np n x l) × (m' ≡ m)
  pub ends : (y : Found) → Ends (stack_at m.s (9 * x.from) x.cells) (sym_of x.symbol) y → Ended p np k m start l o y m' e

-- a level and a parent of it in hand, in some turn, whose unit is not past the limit
pub record Entering (code : List ℕ) (k : Plan) (start : ℕ) (l : Level) (at : ℕ) (m : Mem) (o : Gone) : Type 0 where
  pub turn : Turn
  pub since : ℕ
  pub fits : Fits code k turn since start m o.counts
  pub stands : Stands k m o.counts l
  pub on_its : OnIts k m l
  pub parental : Parental code k m o.counts at
  pub energy : o.energy ≤ k.limit
  pub unrefused : o.code ≡ 0

abbrev pub Entered : List ℕ → Plan → ℕ → Level → ℕ → Mem → Gone → Mem → Opening → Type 0
Entered code k start l at m o m' e =
    (t : Turn) (since b : ℕ) → Fits code k t since start m o.counts
    → Outcome code k t since start (λ deeper. onward t deeper l.left (level_of m l) (held code k m b at)) l m o m' e

-- the last address of the path in P, and the symbol and the cells taken
pub record Saw (p : List ℕ) (np : ℕ) (taken : Taken) (used : ℕ) (x : Seen) : Type 0 where
  pub last : Holds 2 p (2 * (np - 1)) x.last
  pub is : x ≡ record { last = x.last; symbol = taken.symbol; from = used; cells = taken.cells }

-- the same once the path has grown to np addresses, with weight left
pub record Following (code : List ℕ) (k : Plan) (start : ℕ) (l : Level) (at np : ℕ) (m : Mem) (o : Gone) : Type 0 where
  pub entering : Entering code k start l at m o
  pub more : ℕ
  pub room : np ≤ k.rooms.p
  pub is : np ≡ l.np + more
  pub some : 1 ≤ more
  pub path : (b : ℕ) → addrs m.p 0 np ≡ addrs m.p 0 l.np ++ (held code k m b at).path
  pub left : l.left ≡ 0 → ⊥

abbrev pub Followed : List ℕ → Plan → ℕ → Level → ℕ → ℕ → Mem → Gone → Mem → Opening → Type 0
Followed code k start l at np m o m' e =
    (t : Turn) (since b : ℕ) → Fits code k t since start m o.counts
    → Outcome code k t since start (λ deeper. follow t deeper (level_of m l) (held code k m b at) (addrs m.p 0 np)) l m o m' e
