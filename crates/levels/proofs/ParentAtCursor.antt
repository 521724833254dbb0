-- The parent at a level's cursor is one that can be entered. Assumes nothing.
use mathlib.Core.Path.{◌≡◌}
use mathlib.Core.List.{List}
use Prim.Native.Nat.{ℕ, ◌≤◌, ◌<◌}
use native.Mathlib.Decide.{dec_lt}
use native.Mathlib.Omega.{arith}
use lib.ListN.{length}
use Rattle.spec.specs.Search.{Parent, Rec}
use Rattle.spec.specs.Rooms.{longest}
use Rattle.layout.specs.Buffers.{Mem}
use Rattle.tables.specs.declared.Counts.{Counts}
use Rattle.steps.specs.Cursors.{path_cursor, stack_cursor}
use Rattle.steps.specs.Sound.{SoundStack, SoundRecs}
use Rattle.enter.specs.Fits.{Parental}
use Rattle.steps.specs.Plans.{mode_in}
use Rattle.steps.specs.declared.plan.Plan.{Plan}
use Rattle.steps.proofs.Cursors.{direct-stack}
use Rattle.steps.proofs.Nexts.{NextLeft, FoundNext}
use Rattle.steps.proofs.Sound.{sound-own}

abbrev Sound : List ℕ → Plan → Mem → ℕ → Type 0
Sound code k m at = SoundStack k.size (length (path_cursor m.r m.q at)) (stack_cursor (mode_in k) code m.r m.s k.rooms.s at)

module _ {code : List ℕ} (k : Plan) (m : Mem) (c : Counts) {b opened high at : ℕ} {rs : List Rec} {ps : List Parent} (is : k.size ≡ length code) (short : k.size ≤ longest)
    (sound : SoundRecs k.size rs) (x : NextLeft (mode_in k) code m.w m.r m.q m.s k.size b opened high k.rooms.s c.records rs at ps) where
  -- a direct one's stack is a block's own
  sound-direct : at < 0x10000 → Sound code k m at
  sound-direct l = rw ((x.direct l).path, direct-stack at l (mode_in k) code m.r m.s k.rooms.s, is) (sound-own (mode_in k) code (omega (arith, is)) _)

  -- a found one's is a record's
  sound-found : 0x10000 ≤ at → Sound code k m at
  sound-found l = go (x.found l)
    where
      go : FoundNext (mode_in k) code m.r m.q m.s k.size b k.rooms.s c.records rs at → Sound code k m at
      go f = rw (← f.path) ((sound.each f.rec f.there).state b (stack_cursor (mode_in k) code m.r m.s k.rooms.s at) f.goes)

  pub parental : Parental code k m c at
  parental = record {
    some = x.cursor.some;
    comes = λ l. (x.direct l).comes;
    near = λ l. (x.direct l).start;
    there = λ l. (x.found l).below;
    leads = λ l. (x.found l).to;
    long = λ l. (x.found l).long;
    inside = x.inside;
    sound = go (dec_lt at 0x10000);
  }
    where
      go : Dec (at < 0x10000) → Sound code k m at
      go (yes l) = sound-direct l
      go (no l) = sound-found (omega arith)
