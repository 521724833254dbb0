-- The own states that are held: where they stay, what one more changes, and what `own_state` leaves. Assumes nothing.
use mathlib.Core.Path.{◌≡◌, refl, sym, ap, subst, ◌∙◌}
use mathlib.Core.Logic.{◌⊎◌, inl, inr}
use mathlib.Core.List.{List}
use Rattle.std.specs.Prelude.{Option, Some, None}
use Prim.Native.Nat.{ℕ, ◌+◌, ◌-◌, ◌*◌, ◌≤◌, ◌<◌}
use native.Mathlib.Omega.{arith}
use lib.ListN.{length, take, drop}
use native.Mathlib.Decide.{ℕ_discrete}
use Rattle.spec.specs.Opcodes.{in_mode}
use Rattle.spec.specs.Lists.{number, little}
use Rattle.spec.specs.Stacks.{own}
use Rattle.lent.specs.Bytes.{num_at, Holds, Stored}
use Rattle.lent.proofs.Parts.{take_less, drop_more, part-prefix, part-suffix}
use Rattle.lent.proofs.Stored.{kept-take, kept-drop, kept-part, kept-num, read_back}
use Rattle.layout.specs.Parts.{bucket_place, link_place, filled_place}
use Rattle.state.specs.Cells.{Lies}
use Rattle.state.proofs.States.{lies_within, lies-copied, lies-apart}
use Rattle.exec.specs.Owns.{runs_room, Owned}
use Rattle.exec.specs.declared.run.Own.{Own}
use Rattle.steps.specs.Plans.{mode_in}
use Rattle.steps.specs.declared.plan.Plan.{Plan}
use Rattle.steps.specs.Helds.{HeldIs, link_of, filled_of, cell_of, count_of, HeldAt, Helds, HoldAsks, HeldRoom, HeldPut, HoldDone, OwnAsks, RanNow, Gave}
use Rattle.steps.specs.declared.own.StateAt.{StateAt}

-- ---- where what lies between the buckets in use and the part for runs stays

module _ (k : Plan) {w w' : List ℕ} (long : length w' ≡ length w)
    (same : (m i : ℕ) → bucket_place k.size k.buckets ≤ i → i + m ≤ k.end - runs_room k.size → take m (drop i w') ≡ take m (drop i w)) where
  num-same : (m i : ℕ) → bucket_place k.size k.buckets ≤ i → i + m ≤ k.end - runs_room k.size → num_at m w' i ≡ num_at m w i
  unfolding num_at
  num-same m i l h = ap number (same m i l h)

  pub helds-kept : {code : List ℕ} → Helds k code w → Helds k code w'
  helds-kept {code} h =
      let filled : filled_of k w' ≡ filled_of k w = num-same 4 (filled_place k.size k.buckets) (omega arith) (omega (arith, h.room)) in
      record { room = omega (arith, h.room, filled); each = each filled }
    where
      each : filled_of k w' ≡ filled_of k w → (a : ℕ) → a ≤ k.size → (link_of k w' a ≡ 0 → ⊥) → HeldAt k code w' a (link_of k w' a)
      each filled a l n =
          let link : link_of k w' a ≡ link_of k w a = num-same 2 (link_place k.size k.buckets a) (omega arith) (omega (arith, h.room)) in
          let i : ℕ = link_of k w a in
          let some : i ≡ 0 → ⊥ = λ z. n (link ∙ z) in
          let x = h.each a l some in
          let count : count_of k w' (i - 1) ≡ count_of k w (i - 1) = num-same 2 (cell_of k (i - 1)) (omega arith) (omega (arith, h.room, x.used, some)) in
          rw link
          (record {
            few = omega (arith, x.few, count);
            used = omega (arith, x.used, count, filled);
            lies = rw count
                (lies_within (sym (same (9 * count_of k w (i - 1)) (cell_of k i) (omega arith) (omega (arith, h.room, x.used)))) (omega (arith, long, x.lies.state.fits)) x.lies);
          })

pub helds-past : {k : Plan} {code w w' : List ℕ} (b : ℕ) → b ≤ bucket_place k.size k.buckets → drop b w' ≡ drop b w → length w' ≡ length w → Helds k code w → Helds k code w'
helds-past {k} {w = w} {w'} b low e long = helds-kept k long (λ m i l h. part-suffix w' w b e m i (omega arith))

-- ---- a state more

module _ {k : Plan} {w w' : List ℕ} {start at cells : ℕ} (a : HoldAsks k w start at cells) (room : HeldRoom k w cells) (p : HeldPut k w start at cells w') where
  few : cells ≤ k.size + 17
  few = omega (arith, a.low, a.high)

  -- what lies apart from the link, the number of cells in use and the new cells
  rest : (m i : ℕ) → (i < link_place k.size k.buckets start + 2 → i + m ≤ link_place k.size k.buckets start)
      → (i < filled_place k.size k.buckets + 4 → i + m ≤ filled_place k.size k.buckets)
      → (i < cell_of k (filled_of k w + 1 + cells) → i + m ≤ cell_of k (filled_of k w)) → take m (drop i w') ≡ take m (drop i w)
  rest m i l t c =
      kept-part p.total m i t ∙ kept-part p.link m i l ∙ kept-part p.state m i (λ h. omega (arith, c (omega arith))) ∙ kept-part p.head m i (λ h. omega (arith, c (omega arith)))

  rest-num : (m i : ℕ) → (i < link_place k.size k.buckets start + 2 → i + m ≤ link_place k.size k.buckets start)
      → (i < filled_place k.size k.buckets + 4 → i + m ≤ filled_place k.size k.buckets)
      → (i < cell_of k (filled_of k w + 1 + cells) → i + m ≤ cell_of k (filled_of k w)) → num_at m w' i ≡ num_at m w i
  unfolding num_at
  rest-num m i l t c = ap number (rest m i l t c)

  put-long : length w' ≡ length w
  put-long = p.total.kept ∙ p.link.kept ∙ p.state.kept ∙ p.head.kept

  filled : filled_of k w' ≡ filled_of k w + 1 + cells
  filled = read_back p.total (omega (arith, few, room.0, a.short))

  new-link : link_of k w' start ≡ filled_of k w + 1
  new-link = kept-num p.total 2 (link_place k.size k.buckets start) (λ h. omega (arith, a.inside)) ∙ read_back p.link (omega (arith, room.0))

  new-count : count_of k w' (filled_of k w) ≡ cells
  new-count =
      kept-num p.total 2 (cell_of k (filled_of k w)) (λ h. omega arith) ∙ kept-num p.link 2 (cell_of k (filled_of k w)) (λ h. omega (arith, a.inside))
      ∙ kept-num p.state 2 (cell_of k (filled_of k w)) (λ h. omega arith) ∙ read_back p.head (omega (arith, few, a.short))

  put-helds : {code : List ℕ} → Lies w at cells (own (in_mode (mode_in k)) code start).stack → Helds k code w → Helds k code w'
  put-helds {code} st h = record { room = omega (arith, room.1, filled); each = λ b l n. either b l n (ℕ_discrete b start) }
    where
      new : HeldAt k code w' start (filled_of k w + 1)
      new =
          let e : filled_of k w + 1 - 1 ≡ filled_of k w = omega arith in
          let count : count_of k w' (filled_of k w + 1 - 1) ≡ cells = ap (count_of k w') e ∙ new-count in
          let at_head : Lies p.w₁ at cells (own (in_mode (mode_in k)) code start).stack = lies-apart p.head (λ i. omega (arith, room.1, a.low)) st in
          let there : Lies p.w₂ (cell_of k (filled_of k w + 1)) cells (own (in_mode (mode_in k)) code start).stack = lies-copied p.state at_head in
          record {
            few = omega (arith, few, count);
            used = omega (arith, filled, count);
            lies = rw count (lies-apart p.total (λ i. omega arith) (lies-apart p.link (λ i. omega (arith, a.inside)) there));
          }

      old : (b : ℕ) → b ≤ k.size → (b ≡ start → ⊥) → (link_of k w' b ≡ 0 → ⊥) → HeldAt k code w' b (link_of k w' b)
      old b l d n =
          let link : link_of k w' b ≡ link_of k w b = rest-num 2 (link_place k.size k.buckets b) (λ i. omega (arith, d)) (λ i. omega (arith, l)) (λ i. omega (arith, l)) in
          let i : ℕ = link_of k w b in
          let some : i ≡ 0 → ⊥ = λ z. n (link ∙ z) in
          let x = h.each b l some in
          let count : count_of k w' (i - 1) ≡ count_of k w (i - 1) =
          rest-num 2 (cell_of k (i - 1)) (λ j. omega (arith, a.inside)) (λ j. omega arith) (λ j. omega (arith, x.used, some)) in
          rw link
          (record {
            few = omega (arith, x.few, count);
            used = omega (arith, x.used, count, filled);
            lies = rw count
                (lies_within (sym (rest (9 * count_of k w (i - 1)) (cell_of k i) (λ j. omega (arith, a.inside)) (λ j. omega arith) (λ j. omega (arith, x.used)))) (omega (arith, put-long, x.lies.state.fits)) x.lies);
          })

      either : (b : ℕ) → b ≤ k.size → (link_of k w' b ≡ 0 → ⊥) → Dec (b ≡ start) → HeldAt k code w' b (link_of k w' b)
      either b l n (yes e) = rw (e, new-link) new
      either b l n (no d) = old b l d n

  put_front : take (bucket_place k.size k.buckets) w' ≡ take (bucket_place k.size k.buckets) w
  put_front =
      let b : ℕ = bucket_place k.size k.buckets in
      kept-take p.total b (omega arith) ∙ kept-take p.link b (omega arith) ∙ kept-take p.state b (omega arith) ∙ kept-take p.head b (omega arith)

  put_back : drop (k.end - runs_room k.size) w' ≡ drop (k.end - runs_room k.size) w
  put_back =
      let e : ℕ = k.end - runs_room k.size in
      kept-drop p.total e (omega (arith, room.1)) ∙ kept-drop p.link e (omega (arith, room.1, a.inside)) ∙ kept-drop p.state e (omega (arith, room.1))
      ∙ kept-drop p.head e (omega (arith, room.1))

-- ---- what `own_state` leaves

-- w became w', behind its buckets in use alone
pub record BehindBuckets (k : Plan) (code w w' : List ℕ) : Type 0 where
  pub helds : Helds k code w'
  pub front : take (bucket_place k.size k.buckets) w' ≡ take (bucket_place k.size k.buckets) w
  pub back : drop k.end w' ≡ drop k.end w
  pub long : length w' ≡ length w

pub record Given (k : Plan) (code : List ℕ) (start : ℕ) (w w' : List ℕ) (x : StateAt) : Type 0 where
  pub lies : Lies w' x.at x.n (own (in_mode (mode_in k)) code start).stack
  pub few : x.n ≤ k.size + 17
  pub beyond : BehindBuckets k code w w'

module _ {k : Plan} {code w : List ℕ} {start : ℕ} (a : OwnAsks k code w start) where
  module _ {w₁ : List ℕ} {y : Own} (o : Owned (mode_in k) code start w k.end w₁ y) where
    -- the run leaves the states that are held, and what lies before the part for runs
    ran-front : take (k.end - runs_room k.size) w₁ ≡ take (k.end - runs_room k.size) w
    ran-front = rw a.is o.inside.front

    ran-beyond : BehindBuckets k code w w₁
    ran-beyond =
        record {
          helds = helds-kept k o.inside.kept (λ m j l h. part-prefix w₁ w (k.end - runs_room k.size) ran-front m j h) a.helds;
          front = take_less w₁ w (k.end - runs_room k.size) ran-front (bucket_place k.size k.buckets) (omega (arith, a.helds.room));
          back = o.inside.back;
          long = o.inside.kept;
        }

    pub own-holds : HoldAsks k w₁ start y.at y.n
    own-holds =
        record {
          inside = a.inside;
          short = omega (arith, a.is, a.runs.runs.short);
          ends = omega (arith, a.runs.runs.inside, ran-beyond.long);
          room = ran-beyond.helds.room;
          low = omega (arith, a.is, o.low);
          high = o.high;
        }

  module _ {w' : List ℕ} {x : StateAt} (r : RanNow k code start w w' x) where
    ran-few : r.own.n ≤ k.size + 17
    ran-few = omega (arith, (own-holds r.owned).low, (own-holds r.owned).high)

    ran-given : Given k code start w w' (record { at = r.own.at; n = r.own.n })
    ran-given = either r.held.is
      where
        either : (HeldRoom k r.w₁ r.own.n × HeldPut k r.w₁ start r.own.at r.own.n w') ⊎ ((HeldRoom k r.w₁ r.own.n → ⊥) × (w' ≡ r.w₁))
            → Given k code start w w' (record { at = r.own.at; n = r.own.n })
        either (inr y) = rw y.1 (record { lies = r.owned.lies; few = ran-few; beyond = ran-beyond r.owned })
        either (inl y) =
            let back = put_back (own-holds r.owned) y.0 y.1 in
            let long = put-long (own-holds r.owned) y.0 y.1 in
            record {
              lies =
                  lies_within (sym (part-suffix w' r.w₁ (k.end - runs_room k.size) back (9 * r.own.n) r.own.at (own-holds r.owned).low))
                  (omega (arith, long, r.owned.lies.state.fits)) r.owned.lies;
              few = ran-few;
              beyond = record {
                helds = put-helds (own-holds r.owned) y.0 y.1 r.owned.lies (ran-beyond r.owned).helds;
                front = put_front (own-holds r.owned) y.0 y.1 ∙ (ran-beyond r.owned).front;
                back = drop_more w' r.w₁ (k.end - runs_room k.size) back k.end (omega arith) ∙ (ran-beyond r.owned).back;
                long = long ∙ (ran-beyond r.owned).long;
              };
            }

  pub given : {w' : List ℕ} {x : StateAt} → Gave k code start w w' x → Given k code start w w' x
  given {w'} {x} g = either g.is
    where
      either : ((link_of k w start ≡ 0 → ⊥) × (w' ≡ w) × (x ≡ record { at = cell_of k (link_of k w start); n = count_of k w (link_of k w start - 1) }))
          ⊎ ((link_of k w start ≡ 0) × RanNow k code start w w' x) → Given k code start w w' x
      either (inl y) =
          let h = a.helds.each start a.inside y.0 in
          rw (y.1, y.2)
          (record { lies = h.lies; few = h.few; beyond = record { helds = a.helds; front = refl; back = refl; long = refl } })
      either (inr y) = rw y.1.is (ran-given y.1)

  -- what is held is given, and where none is, what was run
  module _ {x : Option StateAt} (h : HeldIs k w start x) where
    pub own_held : {y : StateAt} → x ≡ Some y → Gave k code start w w y
    own_held {y} some = either h.is
      where
        either : ((link_of k w start ≡ 0) × (x ≡ None))
            ⊎ ((link_of k w start ≡ 0 → ⊥) × (x ≡ Some (record { at = cell_of k (link_of k w start); n = count_of k w (link_of k w start - 1) }))) → Gave k code start w w y
        either (inl e) = absurd (is_not (sym some ∙ e.1))
          where
            is_not : Some y ≡ None → ⊥
            is_not q = cc
        either (inr e) = record { is = inl (e.0, refl, same (sym some ∙ e.1)) }
          where
            same : {z : StateAt} → Some y ≡ Some z → y ≡ z
            same q = cc

    pub own-ran : {w' : List ℕ} {y : StateAt} → x ≡ None → RanNow k code start w w' y → Gave k code start w w' y
    own-ran {w'} {y} none r = either h.is
      where
        either : ((link_of k w start ≡ 0) × (x ≡ None))
            ⊎ ((link_of k w start ≡ 0 → ⊥) × (x ≡ Some (record { at = cell_of k (link_of k w start); n = count_of k w (link_of k w start - 1) }))) → Gave k code start w w' y
        either (inl e) = record { is = inr (e.0, r) }
        either (inr e) = absurd (is_not (sym e.1 ∙ none))
          where
            is_not : {z : StateAt} → Some z ≡ None → ⊥
            is_not q = cc

-- ---- the ways out of `hold`

module _ (k : Plan) {w : List ℕ} {links v : ℕ} (is : links ≡ bucket_place k.size k.buckets) (h : Holds 4 w (links + 2 * (k.size + 1)) v) where
  filled_is : v ≡ filled_of k w
  filled_is = rw is at h.is

  module _ {start at cells : ℕ} where
    pub hold-unlinked : 65535 ≤ v → HoldDone k w start at cells w
    hold-unlinked l = record { is = inr ((λ r. absurd (omega (arith, r.0, filled_is))), refl) }

    pub hold-short : k.end < links + 2 * (k.size + 1) + 4 + 9 * v + 9 * (1 + cells) + 9 * (k.size + 17) → HoldDone k w start at cells w
    hold-short l = record { is = inr ((λ r. absurd (omega (arith, r.1, filled_is, is))), refl) }

    module _ {w₁ w₂ w₃ w' : List ℕ} (few : v < 65535) (room : links + 2 * (k.size + 1) + 4 + 9 * v + 9 * (1 + cells) + 9 * (k.size + 17) ≤ k.end)
        (head : Stored 2 w (links + 2 * (k.size + 1) + 4 + 9 * v) (little 2 cells) w₁)
        (state : Stored (9 * cells) w₁ (links + 2 * (k.size + 1) + 4 + 9 * v + 9) (take (9 * cells) (drop at w₁)) w₂)
        (link : Stored 2 w₂ (links + 2 * start) (little 2 (v + 1)) w₃) (total : Stored 4 w₃ (links + 2 * (k.size + 1)) (little 4 (v + 1 + cells)) w') where
      pub hold-done : HoldDone k w start at cells w'
      hold-done =
          let next : links + 2 * (k.size + 1) + 4 + 9 * v + 9 ≡ cell_of k (filled_of k w + 1) = omega (arith, filled_is, is) in
          let put : HeldPut k w start at cells w' = record {
            w₁ = w₁;
            head = rw (is, filled_is) at head;
            w₂ = w₂;
            state = subst (λ (i : ℕ). Stored (9 * cells) w₁ i (take (9 * cells) (drop at w₁)) w₂) next state;
            w₃ = w₃;
            link = rw (is, filled_is) at link;
            total = rw (is, filled_is) at total;
          } in
          record { is = inl ((omega (arith, filled_is, few), omega (arith, filled_is, is, room)), put) }
