-- The laws of the loop that prints the entries, a line each, cut apart by their lengths. Assumes nothing.
use mathlib.Core.Path.{◌≡◌, refl, ◌∙◌, ap, sym, subst}
use mathlib.Core.List.{List, [], ◌∷◌, ◌++◌, append-nil, append_assoc}
use Prim.Native.Nat.{ℕ, ◌+◌, ◌*◌, ◌-◌, ◌^◌, ◌≤◌, ◌<◌}
use native.Mathlib.Nat.{zero-add}
use native.Mathlib.Omega.{arith}
use lib.ListN.{length, take, drop, length-append, length-drop}
use lib.Seq.{take_at, drop_at, drop-drop, append_snoc}
use Rattle.spec.specs.Lists.{gather}
use Rattle.spec.specs.Entries.{item, joined}
use Rattle.spec.specs.Program.{hex, line}
use Rattle.laws.proofs.Members.{gather_append}
use Rattle.lent.specs.Bytes.{num_at, Holds, Stored}
use Rattle.lent.proofs.Numbers.{number-little}
use Rattle.lent.proofs.Stored.{stored-none, stored-join}
use Rattle.map.specs.Promises.{PutsHex, Items, end, more, Cut, Lists, lined, Lined}

-- `at` bytes are passed, and the entries in them are printed; the others are ahead
pub record Walk (raw : List ℕ) (n : ℕ) (es : List (List ℕ)) (out₀ out : List ℕ) (at to : ℕ) : Type 0 where
  pub done : List (List ℕ)
  pub rest : List (List ℕ)
  pub all : es ≡ done ++ rest
  pub items : Items rest
  pub ahead : drop at raw ≡ joined rest ++ drop n raw
  pub passed : at + length (joined rest) ≡ n
  pub stored : Stored to out₀ 0 (lined done) out
  pub few : to ≤ 3 * at

-- whatever entries they are
pub record Walks (raw : List ℕ) (n : ℕ) (out₀ out : List ℕ) (at to : ℕ) : Type 0 where
  pub each : (es : List (List ℕ)) → Cut raw n es → Walk raw n es out₀ out at to

pub walks-none : (raw : List ℕ) (n : ℕ) (out : List ℕ) → Walks raw n out out 0 0
walks-none raw n out = record {
  each = λ es c. record {
    done = [];
    rest = es;
    all = refl;
    items = c.items;
    ahead = c.begins;
    passed = omega (arith, c.size);
    stored = stored-none out 0 (omega arith);
    few = omega arith;
  };
}

-- ---- the next entry

pub data Next (es : List (List ℕ)) : Type 0 where
  next : (kind : ℕ) (body : List ℕ) {later : List (List ℕ)} → Items later → es ≡ item kind body ∷ later → Next es

next_of : {es : List (List ℕ)} → Items es → 0 < length (joined es) → Next es
next_of end h = absurd (omega arith)
next_of (more k body i) h = next k body i refl

item-long : (k : ℕ) (body : List ℕ) → length (item k body) ≡ length body + 6
item-long k body = omega arith

-- the bytes from here on: the entry, and all after it
pub record Entry (raw : List ℕ) (n at : ℕ) (kind : ℕ) (body : List ℕ) (later : List (List ℕ)) : Type 0 where
  pub ahead : drop at raw ≡ item kind body ++ (joined later ++ drop n raw)
  pub passed : at + (length body + 6 + length (joined later)) ≡ n
  pub inside : n ≤ length raw

module _ {raw : List ℕ} {n : ℕ} {es : List (List ℕ)} {out₀ out : List ℕ} {at to : ℕ} (w : Walk raw n es out₀ out at to) (l : at < n) where
  following : Next w.rest
  following = next_of w.items (omega (arith, w.passed))

  entry : (kind : ℕ) (body : List ℕ) {later : List (List ℕ)} → w.rest ≡ item kind body ∷ later → Entry raw n at kind body later
  entry kind body {later} e =
      let long : length (joined w.rest) ≡ length body + 6 + length (joined later) = rw e (length-append (item kind body) (joined later) ∙ rw item-long) in
      let both : length raw - at ≡ length (joined w.rest) + (length raw - n) =
      sym (length-drop at raw) ∙ ap length w.ahead ∙ length-append (joined w.rest) (drop n raw) ∙ rw length-drop in
      record {
        ahead = w.ahead ∙ rw e (append_assoc (item kind body) (joined later) (drop n raw));
        passed = omega (arith, long, w.passed);
        inside = omega (arith, both, w.passed);
      }

module _ {raw : List ℕ} {n at kind : ℕ} {body : List ℕ} {later : List (List ℕ)} (e : Entry raw n at kind body later) where
  -- the number before it is its body's length
  entry-size : {v : ℕ} → Holds 4 raw at v → n < 2 ^ 32 → v ≡ length body
  unfolding num_at
  entry-size h f = h.is ∙ rw e.ahead (number-little 4 (length body) (omega (arith, e.passed)))

  entry-take : take (length body + 6) (drop at raw) ≡ item kind body
  entry-take = rw e.ahead (take_at (item kind body) (joined later ++ drop n raw) (length body + 6) (item-long kind body))

  entry-drop : drop (at + (length body + 6)) raw ≡ joined later ++ drop n raw
  entry-drop =
      sym (drop-drop (length body + 6) at raw)
      ∙ rw e.ahead (drop_at (item kind body) (joined later ++ drop n raw) (length body + 6) (item-long kind body))

-- ---- a turn

lined-more : (es : List (List ℕ)) (e : List ℕ) {k : ℕ} {b b' : List ℕ} → Stored k b 0 (lined es ++ line (gather hex e)) b' → Stored k b 0 (lined (es ++ e ∷ [])) b'
lined-more es e s = rw (gather_append, append-nil) s

module _ {raw : List ℕ} {n : ℕ} {out₀ out : List ℕ} {at to : ℕ} (g : Lists raw n out₀) (ws : Walks raw n out₀ out at to) (l : at < n) where
  starts-next : Next (ws.each g.es g.cut).rest → at + 4 ≤ length raw
  starts-next (next k body i e) = let t : Entry _ _ _ _ _ _ = entry (ws.each g.es g.cut) l k body e in omega (arith, t.passed, t.inside)

  pub starts : at + 4 ≤ length raw
  starts = starts-next (following (ws.each g.es g.cut) l)

  puts-next : {v : ℕ} → Holds 4 raw at v → Next (ws.each g.es g.cut).rest → PutsHex raw at (v + 6) out to (2 * (v + 6) + 1)
  puts-next {v} h (next k body i e) =
      let w : Walk _ _ _ _ _ _ _ = ws.each g.es g.cut in
      let t : Entry _ _ _ _ _ _ = entry w l k body e in
      let z : v ≡ length body = entry-size t h g.few in
      record {
        reads = omega (arith, z, t.passed, t.inside);
        room = omega (arith, z, t.passed, w.few, g.room, w.stored.kept);
      }

  pub puts-line : {v : ℕ} → Holds 4 raw at v → PutsHex raw at (v + 6) out to (2 * (v + 6) + 1)
  puts-line h = puts-next h (following (ws.each g.es g.cut) l)

  module _ {v : ℕ} {out' : List ℕ} (h : Holds 4 raw at v) (s : Stored (2 * (v + 6) + 1) out to (line (gather hex (take (v + 6) (drop at raw)))) out') where
    walk-next : {es : List (List ℕ)} (w : Walk raw n es out₀ out at to) → Next w.rest → Walk raw n es out₀ out' (at + (v + 6)) (to + (2 * (v + 6) + 1))
    walk-next w (next k body {later} i e) =
        let t : Entry _ _ _ _ _ _ = entry w l k body e in
        let z : v ≡ length body = entry-size t h g.few in
        let whole : take (v + 6) (drop at raw) ≡ item k body = rw z (entry-take t) in
        let line_of : Stored (2 * (v + 6) + 1) out to (line (gather hex (item k body))) out' =
        subst (λ (e : List ℕ). Stored (2 * (v + 6) + 1) out to (line (gather hex e)) out') whole s in
        record {
          done = w.done ++ item k body ∷ [];
          rest = later;
          all = w.all ∙ rw e (sym (append_snoc w.done (item k body) later));
          items = i;
          ahead = rw z (entry-drop t);
          passed = omega (arith, z, t.passed);
          stored = lined-more w.done (item k body) (stored-join w.stored (rw zero-add line_of));
          few = omega (arith, w.few);
        }

    pub walks_more : Walks raw n out₀ out' (at + (v + 6)) (to + (2 * (v + 6) + 1))
    walks_more = record { each = λ es c. walk-next (ws.each es c) (following (ws.each es c) l) }

-- ---- the end

nothing_left : {es : List (List ℕ)} → Items es → length (joined es) ≡ 0 → es ≡ []
nothing_left end h = refl
nothing_left (more k body i) h = absurd (omega arith)

pub walks-done : {raw : List ℕ} {n : ℕ} {out₀ out : List ℕ} {at to : ℕ} → length out ≡ length out₀ → Walks raw n out₀ out at to → n ≤ at → Lined raw n out₀ out to
walks-done {at} k ws h = record {
  kept = k;
  stored = λ es c.
      let w : Walk _ _ _ _ _ _ _ = ws.each es c in
      let last : w.rest ≡ [] = nothing_left w.items (omega (arith, w.passed)) in
      let all : es ≡ w.done = w.all ∙ rw (last, append-nil) in
      rw all w.stored;
}
