-- The path entries of the map's bytes, one after the other: what is left to look at ends as the whole does. Assumes nothing.
use Prim.Native.Nat.{ℕ, ◌+◌, ◌*◌, ◌-◌, ◌^◌, ◌≤◌, ◌<◌}
use native.Mathlib.Omega.{arith}
use native.Mathlib.Decide.{dec_le}
use native.Mathlib.Nat.{le_refl}
use mathlib.Core.Path.{◌≡◌, refl, sym, ap, subst, ◌∙◌}
use mathlib.Core.Bool.{Bool, true, false}
use mathlib.Core.Option.{Option, none, some}
use mathlib.Core.List.{List, ◌∷◌}
use lib.Dec.{leb}
use lib.ListN.{length, take, drop}
use Rattle.std.specs.Prelude.{Option as Maybe, Some, None, unwrap_or, Result, Ok, Err}
use Rattle.spec.specs.Lists.{if}
use Rattle.spec.specs.Opcodes.{in_mode}
use Rattle.spec.specs.Forms.{wide_in, announced, entry, sort}
use Rattle.spec.specs.Reader.{Item, item_for, items, addresses}
use Rattle.spec.specs.BadEntries.{Whole}
use Rattle.spec.specs.Inspector.{fault, PathEntry, shows, path_entries, WrongPath, or_next, all_wrong, since}
use Rattle.theorems.proofs.Bytes.{Bytes}
use Rattle.theorems.proofs.ReaderPlaces.{never}
use Rattle.reader.specs.Dests.{found_of}
use Rattle.reader.specs.Shapes.{from, entry_at, behind_at, item_of}
use Rattle.reader.specs.Classes.{class_of}
use Rattle.reader.specs.Walks.{walk_at, items_from, Walking, over, here}
use Rattle.reader.specs.declared.entry.Entry.{Entry}
use Rattle.reader.specs.declared.entry.Entry.TheVariants.{Head, Terminate, Jump, Jumpi, DynamicJump, DynamicJumpi, Way, Record}
use Rattle.reader.specs.declared.entry.Fault.{Fault}
use Rattle.reader.specs.declared.walk.Step.{Step}
use Rattle.reader.proofs.Onward.{from-whole, from_end}
use Rattle.reader.proofs.Judging.{entry-cut, behind-whole}
use Rattle.reader.proofs.Paths.{way-inside, record-inside, way-few, record-few}
use Rattle.reader.proofs.Walked.{Steps, stepping}
use Rattle.inspector.specs.Edges.{map_in}
use Rattle.inspector.specs.Tables.{Tables, Filled}
use Rattle.inspector.specs.Judging.{path_in, place_of, InPath, Judged}
use Rattle.inspector.specs.Entries.{shown_by, shown_of, wrong_since, LooksAt}
use Rattle.inspector.specs.declared.path.Path.{Path}
use Rattle.inspector.specs.declared.entries.Shown.{Shown}
use Rattle.inspector.specs.declared.entries.Shown.TheVariants.{Path as Shows, Of}
use Rattle.inspector.specs.declared.entries.Wrong.{Wrong}
use Rattle.inspector.proofs.Seeking.{walk_here, walk_end}
use Rattle.inspector.proofs.Tabling.{filled-same, filled-then}

-- ---- one entry of the definitions

module _ (mode : ℕ) (map code : List ℕ) (lo : ℕ) where
  abbrev wrong : List PathEntry → List WrongPath
  wrong l = all_wrong (in_mode mode) code (map_in map) (since lo l)

  -- what is found by what an entry shows
  abbrev judged_by : ℕ → (ℕ → List PathEntry) → ℕ → Shown → List WrongPath
  judged_by at on b (Shows s p) = or_next at (wrong (on b)) (fault (in_mode mode) code (map_in map) s (path_in map p) p.to)
  judged_by at on b (Of a) = wrong (on a)

  -- one that is asked of or not, with a destination or none
  by-to : (at b s : ℕ) (d : Maybe ℕ) (path n v : ℕ) (on : ℕ → List PathEntry)
      → wrong (record { offset = at; entry = record { start = s; to = found_of d; path = addresses (take (2 * n) (drop path map)); energy = v } } ∷ on b)
      ≡ judged_by at on b (shown_by (leb lo at) b s d path n)
  unfolding all_wrong if
  by-to at b s d path n v on = go (leb lo at) d
    where
      go : (c : Bool) (d : Maybe ℕ)
          → all_wrong (in_mode mode) code (map_in map)
          (if c (record { offset = at; entry = record { start = s; to = found_of d; path = addresses (take (2 * n) (drop path map)); energy = v } } ∷ since lo (on b)) (since lo (on b)))
          ≡ judged_by at on b (shown_by c b s d path n)
      go false d = refl
      go true None = refl
      go true (Some t) = refl

  shown_item : (b at : ℕ) (on : ℕ → List PathEntry) (e : Result Entry Fault) → wrong (shows b at on (item_of map e)) ≡ judged_by at on b (shown_of e b (leb lo at))
  shown_item b at on (Ok (Way d path n)) = by-to at b b d path n 0 on
  shown_item b at on (Ok (Record s d v path n)) = by-to at b s d path n (unwrap_or v 0) on
  shown_item b at on (Ok (Terminate s d ok)) = refl
  shown_item b at on (Ok (Jump s d t)) = refl
  shown_item b at on (Ok (Jumpi s d t f)) = refl
  shown_item b at on (Ok (DynamicJump s d n)) = refl
  shown_item b at on (Ok (DynamicJumpi s d f n)) = refl
  shown_item b at on (Ok (Head size n m energy)) = refl
  shown_item b at on (Err e) = refl

-- ---- the entries that stand in the bytes

-- of a whole entry
entries-whole : (b : List ℕ) (at a : ℕ) → Whole (drop at b) → items (wide_in b) (from b at) ≡ item_of b (entry_at b at) ∷ items (wide_in b) (from b (behind_at b at))
    → path_entries (wide_in b) a (from b at) ≡ shows a at (λ c. path_entries (wide_in b) c (from b (behind_at b at))) (item_of b (entry_at b at))
unfolding path_entries items
entries-whole b at a w e =
    let f = from-whole b at w in
    let g : items (wide_in b) (from b at) ≡ item_for (sort (wide_in b) (entry (drop at b)).kind) (entry (drop at b)).body ∷ items (wide_in b) (from b (at + (6 + announced (drop at b)))) = ap (items (wide_in b)) f in
    let same : item_for (sort (wide_in b) (entry (drop at b)).kind) (entry (drop at b)).body ≡ item_of b (entry_at b at) = cc in
    let to : at + (6 + announced (drop at b)) ≡ behind_at b at = sym (behind-whole b at w) in
    ap (path_entries (wide_in b) a) f
    ∙ ap (λ (i : Item). shows a at (λ c. path_entries (wide_in b) c (from b (at + (6 + announced (drop at b))))) i) same
    ∙ ap (λ (n : ℕ). shows a at (λ c. path_entries (wide_in b) c (from b n)) (item_of b (entry_at b at))) to

entries-here : (b : List ℕ) (at a : ℕ) → (class_of (entry_at b at) ≡ None → ⊥) → items (wide_in b) (from b at) ≡ item_of b (entry_at b at) ∷ items (wide_in b) (from b (behind_at b at))
    → path_entries (wide_in b) a (from b at) ≡ shows a at (λ c. path_entries (wide_in b) c (from b (behind_at b at))) (item_of b (entry_at b at))
entries-here b at a n e = by_whole (dec_le (6 + announced (drop at b)) (length (drop at b)))
  where
    by_whole : Dec (Whole (drop at b)) → path_entries (wide_in b) a (from b at) ≡ shows a at (λ c. path_entries (wide_in b) c (from b (behind_at b at))) (item_of b (entry_at b at))
    by_whole (yes w) = entries-whole b at a w e
    by_whole (no m) = absurd (n (rw (entry-cut b at m)))

-- which entry the walk finds
record AtEntry (b : List ℕ) (at : ℕ) (t : Step) : Type 0 where
  is : t.entry ≡ entry_at b at
  behind : t.behind ≡ behind_at b at
  good : class_of (entry_at b at) ≡ None → ⊥

at_entry : (b : List ℕ) (at : ℕ) → Walking b at → {r : Maybe Step} → r ≡ walk_at b at → {t : Step} → r ≡ Some t → AtEntry b at t
at_entry b at w {r} h {t} q =
    let is = walk_here b at h q in
    let s = stepping w h q in
    by-walk w (omega (arith, s.on, s.inside)) is.0 is.1
  where
    by-walk : Walking b at → at < length b → t.entry ≡ entry_at b at → t.behind ≡ behind_at b at → AtEntry b at t
    by-walk (over z) l p u = absurd (omega arith)
    by-walk (here m n v) l p u = record { is = p; behind = u; good = n }

at-over : (b : List ℕ) (at : ℕ) → Walking b at → {r : Maybe Step} → r ≡ walk_at b at → r ≡ None → length b ≤ at
at-over b at w h q = omega (arith, walk_end b at w h q)

-- ---- the loop

pub record Looking (mode : ℕ) (b code : List ℕ) (lo start block : ℕ) (w₀ : List ℕ) (at owner : ℕ) (w : List ℕ) : Type 0 where
  pub walking : Walking b at
  pub filled : Filled b code w₀ w
  pub rest : wrong_since mode b code lo owner at ≡ wrong_since mode b code lo block start
  pub ahead : length b - at ≤ length b - start

pub looking-start : {mode : ℕ} {b code : List ℕ} {lo start block : ℕ} {w : List ℕ} → Walking b start → Tables b code w → Looking mode b code lo start block w start block w
looking-start y t = record { walking = y; filled = filled-same t; rest = refl; ahead = le_refl _ }

pub looking-tables : {mode : ℕ} {b code : List ℕ} {lo start block : ℕ} {w₀ : List ℕ} {at owner : ℕ} {w : List ℕ} → Looking mode b code lo start block w₀ at owner w → Tables b code w
looking-tables k = k.filled.tables

module _ {mode : ℕ} {b code : List ℕ} {lo start block : ℕ} {w₀ : List ℕ} {at owner : ℕ} {w : List ℕ} (k : Looking mode b code lo start block w₀ at owner w) {r : Maybe Step} (h : r ≡ walk_at b at) where
  pub looking-over : r ≡ None → LooksAt mode b code lo start block w₀ w (Ok tt)
  unfolding path_entries all_wrong
  looking-over q = record {
    is = sym k.rest ∙ ap (λ (l : List PathEntry). all_wrong (in_mode mode) code (map_in b) (since lo l)) (ap (path_entries (wide_in b) owner) (from_end b at (at-over b at k.walking h q)));
    walking = λ z. never (cc);
    less = λ z. never (cc);
    filled = k.filled;
  }

  module _ {v : Step} (q : r ≡ Some v) {s : Shown} (x : s ≡ shown_of v.entry owner (leb lo at)) where
    abbrev to : ℕ
    to = v.behind

    abbrev e : Result Entry Fault
    e = v.entry

    step : Steps b at e to
    step = stepping k.walking h q

    pub looking-less : length b - to < length b - at
    looking-less = omega (arith, step.on, step.inside)

    is-entry : e ≡ entry_at b at
    is-entry = (at_entry b at k.walking h q).is

    on-from : ℕ → List PathEntry
    on-from c = path_entries (wide_in b) c (from b to)

    there : judged_by mode b code lo at on-from owner s ≡ wrong_since mode b code lo block start
    unfolding on-from items_from
    there =
        let a = at_entry b at k.walking h q in
        let first : path_entries (wide_in b) owner (from b at) ≡ shows owner at (λ c. path_entries (wide_in b) c (from b to)) (item_of b e) =
        rw (a.is, a.behind) (entries-here b at owner a.good (rw (← a.is, ← a.behind) step.item)) in
        ap (judged_by mode b code lo at on-from owner) x ∙ sym (shown_item mode b code lo owner at on-from e)
        ∙ ap (λ (l : List PathEntry). all_wrong (in_mode mode) code (map_in b) (since lo l)) (sym first) ∙ k.rest

    pub looking-of : {a : ℕ} → s ≡ Of a → Looking mode b code lo start block w₀ to a w
    unfolding on-from
    looking-of z = record {
      walking = step.walking;
      filled = k.filled;
      rest = ap (judged_by mode b code lo at on-from owner) (sym z) ∙ there;
      ahead = omega (arith, looking-less, k.ahead);
    }

    -- a path of the bytes
    in_path : (path n : ℕ) (d : Maybe ℕ) (c : Bool) (b₁ s₁ a : ℕ) (p : Path) → path + 2 * n ≤ length b → n < 2 ^ 32 → Shows a p ≡ shown_by c b₁ s₁ d path n → InPath b p
    in_path path n d false b₁ s₁ a p f g z = never (cc)
    in_path path n None true b₁ s₁ a p f g z = never (cc)
    in_path path n (Some t) true b₁ s₁ a p f g z = let same : record { at = path; count = n; to = t } ≡ p = cc in subst (InPath b) same (record { fits = f; few = g })

    path-in : (d : Result Entry Fault) (c : ℕ) (asked : Bool) → Bytes b → d ≡ entry_at b at → (a : ℕ) (p : Path) → Shows a p ≡ shown_of d c asked → InPath b p
    path-in (Ok (Way d path n)) c l f i a p z = in_path path n d l c c a p (way-inside b at i refl) (way-few b at i f refl) z
    path-in (Ok (Record s d v path n)) c l f i a p z = in_path path n d l c s a p (record-inside b at i refl) (record-few b at i f refl) z
    path-in (Ok (Terminate s d ok)) c l f i a p z = never (cc)
    path-in (Ok (Jump s d t)) c l f i a p z = never (cc)
    path-in (Ok (Jumpi s d t g)) c l f i a p z = never (cc)
    path-in (Ok (DynamicJump s d n)) c l f i a p z = never (cc)
    path-in (Ok (DynamicJumpi s d g n)) c l f i a p z = never (cc)
    path-in (Ok (Head size n m energy)) c l f i a p z = never (cc)
    path-in (Err e) c l f i a p z = never (cc)

    module _ {a : ℕ} {p : Path} (z : s ≡ Shows a p) where
      pub looking-path : Bytes b → InPath b p
      looking-path f = path-in e owner (leb lo at) f is-entry a p (sym z ∙ x)

      path-there : or_next at (wrong_since mode b code lo owner to) (fault (in_mode mode) code (map_in b) a (path_in b p) p.to) ≡ wrong_since mode b code lo block start
      unfolding on-from
      path-there = ap (judged_by mode b code lo at on-from owner) (sym z) ∙ there

      module _ {w₁ : List ℕ} {y : Result Unit ℕ} (j : Judged mode b code w a p w₁ y) where
        pub looking-right : y ≡ Ok tt → Looking mode b code lo start block w₀ to owner w₁
        looking-right u =
            let none-there : fault (in_mode mode) code (map_in b) a (path_in b p) p.to ≡ none = right-none _ (sym u ∙ j.is) in
            record {
              walking = step.walking;
              filled = filled-then k.filled j.filled;
              rest = ap (or_next at (wrong_since mode b code lo owner to)) (sym none-there) ∙ path-there;
              ahead = omega (arith, looking-less, k.ahead);
            }
          where
            right-none : (o : Option ℕ) → Ok tt ≡ place_of o → o ≡ none
            right-none none f = refl
            right-none (some i) f = never (cc)

        pub looking-wrong : {i : ℕ} → y ≡ Err i → LooksAt mode b code lo start block w₀ w₁ (Err (record { offset = at; place = i; behind = to; owner = owner }))
        looking-wrong {i} u =
            let some_there : fault (in_mode mode) code (map_in b) a (path_in b p) p.to ≡ some i = fails-some _ (sym u ∙ j.is) in
            record {
              is = sym (ap (or_next at (wrong_since mode b code lo owner to)) (sym some_there) ∙ path-there);
              walking = λ {x} z. subst (Walking b) (ap (λ (u : Wrong). u.behind) (same x z)) step.walking;
              less = λ {x} z. omega (arith, ap (λ (u : Wrong). u.behind) (same x z), looking-less, k.ahead);
              filled = filled-then k.filled j.filled;
            }
          where
            same : (x : Wrong) → ◌≡◌ {A = Result Unit Wrong} (Err (record { offset = at; place = i; behind = to; owner = owner })) (Err x) → record { offset = at; place = i; behind = to; owner = owner } ≡ x
            same x z = cc

            fails-some : (o : Option ℕ) → Err i ≡ place_of o → o ≡ some i
            fails-some none f = never (cc)
            fails-some (some l) f = let same : l ≡ i = cc in ap some same
