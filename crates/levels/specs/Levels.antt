-- A level, and a parent with the level that it may open. Assumes nothing.
use Rattle.std.specs.Prelude.{◌≡◌, ℕ, zero, suc, ◌+◌, ◌≤◌, List}
use Rattle.spec.specs.Search as search
use Rattle.spec.specs.Search.{St, Turn, level}
use Rattle.layout.specs.Buffers.{Mem}
use Rattle.tables.specs.Addrs.{addrs}
use Rattle.steps.specs.Paths.{OnPath}
use Rattle.steps.specs.Runs.{st_of, Did}
use Rattle.steps.specs.declared.plan.Plan.{Plan}
use Rattle.steps.specs.declared.Level.{Level}
use Rattle.steps.specs.Goings.{Gone}
use Rattle.enter.specs.Fits.{Fits, level_of, Stands, OnIts, held, Stays}
use Rattle.enter.specs.Enters.{onward}

abbrev pub spent_with : Gone → Gone
spent_with o = record { code = o.code; energy = o.energy + 1; counts = o.counts }

-- what a function that does f leaves, in a turn, for the level l in hand
pub record Came (code : List ℕ) (k : Plan) (t : Turn) (since start : ℕ) (f : St → St) (l : Level) (m : Mem) (o : Gone) (m' : Mem) (d : Gone) : Type 0 where
  pub did : Did k.rooms f (st_of k m o) d.code (st_of k m' d)
  pub fits : d.code ≡ 0 → Fits code k t since start m' d.counts
  pub stays : d.code ≡ 0 → Stays k l.np m o.counts m' d.counts
  pub counts : d.code ≡ 0 → OnPath k.size m'.w (addrs m.p 0 l.np)

-- a level in hand, in some turn, with energy left
pub record Opened (code : List ℕ) (k : Plan) (start : ℕ) (l : Level) (m : Mem) (o : Gone) : Type 0 where
  pub turn : Turn
  pub since : ℕ
  pub fits : Fits code k turn since start m o.counts
  pub stands : Stands k m o.counts l
  pub on_its : OnIts k m l
  pub energy : o.energy ≤ k.limit
  pub unrefused : o.code ≡ 0

-- it does what document 01's does, and passes the limit by no more than its number and 1
pub record Leveled (code : List ℕ) (k : Plan) (start : ℕ) (l : Level) (m : Mem) (o : Gone) (m' : Mem) (d : Gone) : Type 0 where
  pub came : (t : Turn) (since : ℕ) → Fits code k t since start m o.counts → Came code k t since start (level k.limit t l.left (level_of m l)) l m o m' d
  pub energy : d.code ≡ 0 → d.energy ≤ k.limit + (l.left + 1)

-- what opens a level, by a level's number
abbrev pub deeper_by : ℕ → Turn → ℕ → search.Level → St → St
deeper_by limit t zero l s = s
deeper_by limit t (suc w) l s = level limit t w l s

pub record Tried (code : List ℕ) (k : Plan) (start : ℕ) (l : Level) (at : ℕ) (m : Mem) (o : Gone) (m' : Mem) (d : Gone) : Type 0 where
  pub came : (t : Turn) (since b : ℕ) → Fits code k t since start m o.counts
      → Came code k t since start (onward t (deeper_by k.limit t l.left) l.left (level_of m l) (held code k m b at)) l m o m' d
  pub energy : d.code ≡ 0 → d.energy ≤ k.limit + l.left
