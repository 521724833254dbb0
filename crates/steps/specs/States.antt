-- A parent's state behind a level's. Assumes nothing.
use Rattle.std.specs.Prelude.{Result, Ok, Err, IfOk, IfErr, ◌≡◌, ℕ, suc, ◌+◌, ◌-◌, ◌*◌, ◌^◌, ◌≤◌, ◌<◌, List, [], ◌∷◌, length, take, drop}
use Rattle.spec.specs.Stacks.{Stack, cells, read, compose}
use Rattle.spec.specs.Search.{S}
use Rattle.layout.specs.Parts.{bucket_place}
use Rattle.layout.specs.Records.{RECORD, record_place, kept_of}
use Rattle.layout.specs.Rows.{start_of}
use Rattle.state.specs.Symbols.{sym_of}
use Rattle.state.specs.Cells.{stack_at, State, Lies, reach}
use Rattle.refusal.specs.declared.Shortage.{Shortage}
use Rattle.refusal.specs.declared.Shortage.TheVariants as short
use Rattle.tables.specs.Replies.{code_of}
use Rattle.tables.specs.Recording.{short_of}
use Rattle.tables.specs.declared.Counts.{Counts}
use Rattle.parents.specs.Links.{Comes}
use Rattle.steps.specs.Cursors.{stack_cursor}
use Rattle.steps.specs.Plans.{mode_in, RunsIn}
use Rattle.steps.specs.declared.plan.Plan.{Plan}
use Rattle.steps.specs.Helds.{Helds}
use Rattle.steps.specs.declared.Level.{Level}
use Rattle.steps.specs.declared.state_of.Taken.{Taken}
use Rattle.steps.specs.declared.state_of.Untaken.{Untaken}

-- the level's state stands among the cells in use; the parent's is a block's own, or stands among the kept cells; no number passes 64 bits
pub record Composing (code w s r : List ℕ) (k : Plan) (c : Counts) (l : Level) (at : ℕ) : Type 0 where
  pub some : 1 ≤ at
  pub is : k.size ≡ length code
  pub runs : RunsIn code w k
  pub helds : Helds k code w
  pub child : State s (9 * l.from) l.cells
  pub low : l.from + l.cells ≤ c.used
  pub fits : c.kept + c.used ≤ k.rooms.s
  pub lent_s : 9 * k.rooms.s ≤ length s
  pub most_s : k.rooms.s ≤ 2 ^ 30
  pub direct : at < 0x10000 → Comes code (start_of at)
  pub inside : at < 0x10000 → start_of at ≤ k.size
  pub row : 0x10000 ≤ at → record_place (at - 0x10000) + RECORD ≤ length r
  pub kept : 0x10000 ≤ at → kept_of r (suc (at - 0x10000)) ≤ c.kept
  pub parent : 0x10000 ≤ at → State s (9 * (k.rooms.s - kept_of r (suc (at - 0x10000)))) (kept_of r (suc (at - 0x10000)) - kept_of r (at - 0x10000))
  pub deep : reach (stack_at s (9 * l.from) l.cells) ≤ 2 ^ 50
  pub deeper : reach (stack_cursor (mode_in k) code r s k.rooms.s at) ≤ 2 ^ 50
  pub near : l.position ≤ 2 ^ 50

-- what is told of a parent's state, taken or not
abbrev pub told_of : Result Taken Untaken → Taken
told_of (Ok y) = y
told_of (Err e) = e.taken

-- and the room that is short, if one is
abbrev pub named_in : Result Taken Untaken → Result Taken Shortage
named_in (Ok y) = Ok y
named_in (Err e) = Err e.short

-- The answer tells the shortage of S, and how many cells the new state has or would have, and the symbol; where there is none, the new state lies right after the cells in use. All else of S stays, the kept cells at its top among it, and
-- of W all but what is behind its buckets in use, where the states held are still those of their blocks.
pub record Took (code w s : List ℕ) (k : Plan) (c : Counts) (l : Level) (parent : Stack) (w' s' : List ℕ) (x : Result Taken Untaken) : Type 0 where
  pub code_is : code_of (named_in x) ≡ short_of k.rooms (record { room = S; units = c.kept + c.used + (told_of x).cells } ∷ [])
  pub cells_are : (told_of x).cells ≡ cells (compose (stack_at s (9 * l.from) l.cells) parent)
  pub symbol_is : sym_of (told_of x).symbol ≡ read parent l.position
  pub fits : IfOk x (λ y. c.kept + c.used + y.cells ≤ k.rooms.s)
  pub lies : IfOk x (λ y. Lies s' (9 * c.used) y.cells (compose (stack_at s (9 * l.from) l.cells) parent))
  pub refused : IfErr x (λ e. (e.short ≡ short.S) × (s' ≡ s))
  pub bottom : take (9 * c.used) s' ≡ take (9 * c.used) s
  pub after : IfOk x (λ y. drop (9 * (c.used + y.cells)) s' ≡ drop (9 * (c.used + y.cells)) s)
  pub top : drop (9 * (k.rooms.s - c.kept)) s' ≡ drop (9 * (k.rooms.s - c.kept)) s
  pub long_s : length s' ≡ length s
  pub helds : Helds k code w'
  pub front : take (bucket_place k.size k.buckets) w' ≡ take (bucket_place k.size k.buckets) w
  pub back : drop k.end w' ≡ drop k.end w
  pub long_w : length w' ≡ length w
