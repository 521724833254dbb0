-- The loop of `hand_all`: batch after batch of the records' destinations is expanded, over what is reached already. Assumes nothing.
use mathlib.Core.Path.{◌≡◌, refl, ◌∙◌}
use mathlib.Core.Bool.{Bool, true, false, ◌||◌}
use mathlib.Core.List.{List, ◌++◌}
use Prim.Native.Nat.{ℕ, ◌+◌, ◌-◌, ◌≤◌, ◌<◌}
use native.Mathlib.Omega.{arith}
use Rattle.spec.specs.Lists.{mem}
use Rattle.spec.specs.Reach.{Edge, closure}
use Rattle.laws.proofs.Members.{in_mem, mem-in, in_right}
use Rattle.theorems.proofs.Reached.{seed, closure-complete}
use Rattle.reachable.specs.Marks.{flagged}
use Rattle.reachable.specs.Edges.{row_edges}
use Rattle.reachable.specs.Promises.{Closed, KeptBut, Highest, Sets}
use Rattle.reachable.proofs.Tests.{mem-append}
use Rattle.reachable.proofs.Seeds.{closure-members}
use Rattle.reachable.proofs.Frames.{kept-none, kept_but, but-after}
use Rattle.reachable.proofs.Rows.{edges-kept}
use Rattle.reachable.proofs.Entering.{sets-none, sets-after}
use Rattle.reachable.proofs.Expanding.{expand-round}
use Rattle.reachable.proofs.Spreading.{room-but, within-but}
use Rattle.resolver.specs.Turns.{HandsOver, dests_from}
use Rattle.resolver.specs.Batches.{HandedOver}
use Rattle.resolver.proofs.Destinations.{dests-split}
use Rattle.resolver.proofs.ClosedSet.{closed-own}

-- the destinations from `since` to i are expanded
pub record Settling (n : ℕ) (w r : List ℕ) (since records i : ℕ) (w' : List ℕ) : Type 0 where
  pub asks : HandsOver n w r since records
  pub from : since ≤ i
  pub most : i ≤ records
  pub reached : (x : ℕ) → mem x (flagged w' n) ≡ mem x (closure (row_edges w n) (dests_from r since (i - since) ++ flagged w n))
  pub sets : Sets n (records + 1) w w'
  pub closed : Closed w' n
  pub high : Highest n w'
  pub kept : KeptBut n w w'

pub settle-start : {n since records : ℕ} {w r : List ℕ} → HandsOver n w r since records → Settling n w r since records since w
unfolding dests_from
settle-start {n} {since} {records} {w} {r} a =
    let e : since - since ≡ 0 = omega arith in
    record {
      asks = a;
      from = omega arith;
      most = a.order;
      reached = λ x. rw e (closed-own a.closed x);
      sets = sets-none n (records + 1) w;
      closed = a.closed;
      high = a.high;
      kept = kept_but kept-none;
    }

module _ {n since records i : ℕ} {w r w' : List ℕ} (s : Settling n w r since records i w') (l : i < records) where
  pub settle-hands : HandsOver n w' r i records
  settle-hands = record {
    lent = room-but s.kept s.asks.lent;
    within = within-but s.kept s.asks.within;
    closed = s.closed;
    high = s.high;
    order = s.most;
    in_r = s.asks.in_r;
    few = s.asks.few;
    goes = s.asks.goes;
  }

  pub settle-turn : {next : ℕ} {w'' : List ℕ} → HandedOver n w' r i records w'' next → Settling n w r since records next w''
  settle-turn {next} {w''} x = record {
    asks = s.asks;
    from = omega (arith, s.from, x.on);
    most = x.most;
    reached = λ y. onto y ∙ closure-members es (batch ++ seeds) (dests_from r since (next - since) ++ flagged w n) members y;
    sets = sets-after before after s.sets x.expanded.sets;
    closed = x.expanded.closed;
    high = x.expanded.high;
    kept = but-after s.kept x.expanded.kept;
  }
    where
      es : List Edge
      es = row_edges w n

      older : List ℕ
      older = dests_from r since (i - since)

      seeds : List ℕ
      seeds = older ++ flagged w n

      batch : List ℕ
      batch = dests_from r i (next - i)

      same : row_edges w' n ≡ row_edges w n
      same = edges-kept w w' n s.kept.rows

      onto : (y : ℕ) → mem y (flagged w'' n) ≡ mem y (closure (row_edges w n) (batch ++ seeds))
      onto y = rw same at (expand-round seeds x.expanded (λ z. rw same (s.reached z)) y)

      joined : dests_from r since (next - since) ≡ older ++ batch
      joined =
          let e : next - since ≡ i - since + (next - i) = omega (arith, s.from, x.on) in
          let f : since + (i - since) ≡ i = omega (arith, s.from) in
          rw e (rw f at (dests-split r since (i - since) (next - i)))

      members : (y : ℕ) → mem y (batch ++ seeds) ≡ mem y (dests_from r since (next - since) ++ flagged w n)
      members y =
          rw (joined, mem-append y batch seeds, mem-append y older (flagged w n), mem-append y (older ++ batch) (flagged w n), mem-append y older batch)
          (swap (mem y batch) (mem y older) (mem y (flagged w n)))
        where
          swap : (a b c : Bool) → a || (b || c) ≡ (b || a) || c
          swap true true c = refl
          swap true false c = refl
          swap false true c = refl
          swap false false c = refl

      before : (y : ℕ) → mem y (flagged w n) ≡ true → mem y (flagged w' n) ≡ true
      before y p = s.reached y ∙ closure-complete es seeds y (seed (in_mem y (in_right older (mem-in y (flagged w n) p))))

      after : (y : ℕ) → mem y (flagged w' n) ≡ true → mem y (flagged w'' n) ≡ true
      after y p = x.expanded.reached y ∙ closure-complete (row_edges w' n) (batch ++ flagged w' n) y (seed (in_mem y (in_right batch (mem-in y (flagged w' n) p))))
