-- A block that takes turns: its row in W, its position and its own stack. Assumes nothing.
use mathlib.Core.Path.{◌≡◌, refl, ap, subst, ◌∙◌}
use mathlib.Core.List.{List, map}
use Prim.Native.Nat.{ℕ, ◌+◌, ◌*◌, ◌≤◌, ◌<◌}
use native.Mathlib.Omega.{arith}
use lib.ListN.{length}
use Rattle.spec.specs.Opcodes.{in_mode}
use Rattle.spec.specs.Walk.{instructions}
use Rattle.spec.specs.Stacks.{run}
use Rattle.spec.specs.Search.{Taker, takers}
use Rattle.spec.specs.Answer.{prepared}
use Rattle.spec.specs.Rooms.{longest}
use Rattle.laws.proofs.Members.{In, here, there, in_map}
use Rattle.layout.specs.Rows.{position_at}
use Rattle.parents.specs.Links.{Turn, turn_of, Takers, no_taker, next_taker}
use Rattle.parents.specs.Promises.{Known}
use Rattle.parents.proofs.Knows.{Comes, taker_of, takers-again, taker-comes, taker-near}
use Rattle.reachable.proofs.Rows.{map-in}
use Rattle.steps.specs.Sound.{SoundStack}
use Rattle.steps.proofs.Sound.{sound-own}

placed : {w : List ℕ} {n left : ℕ} {ks : List Turn} {k : Turn} → Takers w n left ks → In k ks → (k.start ≤ n) × (k.position ≡ position_at w k.start)
placed no_taker i = elim i [ ]
placed (next_taker r h t) here = (h, refl)
placed (next_taker r h t) (there i) = placed t i

-- all that a turn asks of the block x at `start`
pub record Taking (mode : ℕ) (code w : List ℕ) (n start : ℕ) (x : Taker) : Type 0 where
  pub inside : start ≤ n
  pub position : x.position ≡ position_at w start
  pub first : x.first ≡ (run (in_mode mode) code (instructions code) start).stack
  pub comes : Comes code start
  pub near : x.position < 17 * n + 17
  pub sound : SoundStack n 1 (run (in_mode mode) code (instructions code) start).stack

pub taking : (mode : ℕ) (code : List ℕ) {w : List ℕ} {n many start : ℕ} {x : Taker} → n ≡ length code → n ≤ longest → Known mode code w many → In x (takers (prepared (in_mode mode) code)) → x.start ≡ start
    → Taking mode code w n start x
taking mode code {w} {n} {start = start} {x} e short k i s =
    let row = placed k.takers (map-in turn_of i) in
    let again : In x (map (taker_of mode code) (map turn_of (takers (prepared (in_mode mode) code)))) = subst (λ (ks : List Taker). In x ks) (takers-again mode code) i in
    let g = in_map (taker_of mode code) (map turn_of (takers (prepared (in_mode mode) code))) again in
    let own : x.first ≡ (run (in_mode mode) code (instructions code) x.start).stack = rw g.2 in
    record {
      inside = omega (arith, row.0, s, e);
      position = row.1 ∙ ap (position_at w) s;
      first = own ∙ ap (λ (a : ℕ). (run (in_mode mode) code (instructions code) a).stack) s;
      comes = subst (Comes code) s (taker-comes mode code i);
      near = omega (arith, taker-near mode code i, e);
      sound = rw (e, ← s) (sound-own mode code (omega (arith, short, e)) x.start);
    }
