-- A level's parents one after the other: where the cursor stands at first, what it stands for, and that it rises. Assumes nothing.
use mathlib.Core.Path.{◌≡◌, refl, sym, ap, ◌∙◌, subst}
use mathlib.Core.Bool.{Bool, true, false, ◌&&◌}
use mathlib.Core.List.{List, [], ◌∷◌, ◌++◌, map}
use Prim.Native.Nat.{ℕ, zero, suc, ◌+◌, ◌-◌, ◌*◌, ◌≤◌, ◌<◌}
use native.Mathlib.Decide.{ℕ_discrete, dec_le}
use native.Mathlib.Omega.{arith}
use lib.Dec.{eqb, leb}
use lib.ListN.{length}
use borrow.Author.Tests.{lt-ltb, le-ltb, ne_eqb, eqb-true, eqb-false}
use Rattle.spec.specs.Opcodes.{in_mode}
use Rattle.spec.specs.Lists.{if, mem, keep}
use Rattle.spec.specs.Walk.{instructions}
use Rattle.spec.specs.Stacks.{run}
use Rattle.spec.specs.Search.{Parent, Rec, found_parents, direct, edges, Turn, St, parents}
use Rattle.spec.specs.Reach.{edge}
use Rattle.spec.specs.Answer.{prepared}
use Rattle.spec.specs.Rooms.{or_else}
use Rattle.lent.specs.Bytes.{num_at}
use Rattle.layout.specs.Records as records
use Rattle.tables.specs.Records.{path_at, recs_of}
use Rattle.tables.specs.Tables as tables
use Rattle.tables.specs.Tables.{recs, Tables}
use Rattle.tables.specs.declared.Rooms.{Rooms}
use Rattle.tables.specs.declared.Counts.{Counts}
use Rattle.layout.specs.Rows as rows
use Rattle.parents.specs.Links.{Parents, direct_to, from_of}
use Rattle.parents.specs.Promises.{Known}
use Rattle.parents.proofs.Chains.{walk-parents, end-parents}
use Rattle.parents.proofs.Knows.{parent_of, direct-comes, direct-edge, parents-again}
use Rattle.reachable.specs.Edges.{sides_at, row_edges}
use Rattle.reachable.proofs.Rows.{edge_of, sides-kept, node-edges}
use Rattle.laws.proofs.Branch.{both, if-false}
use Rattle.laws.proofs.Members.{In, here, there, in_mem, in-keep, in_map}
use Rattle.laws.proofs.Lists as rising
use Rattle.laws.proofs.Lists.{Rising, one_more}
use Rattle.steps.specs.Cursors.{clipped, up_to, first_cursor, next_cursor, path_cursor, last_cursor, stack_cursor, found_to, live, DirectParent, Left, none_left, direct_left, found_left}
use Rattle.layout.specs.Fields.{first_found_at}
use Rattle.layout.specs.Records.{end_of}
use Rattle.layout.specs.Parts.{SameRows}
use Rattle.layout.specs.Rows.{start_of}
use Rattle.steps.proofs.Rises.{direct-rises}
use Rattle.steps.proofs.Clips.{up-low, up-high}
use Rattle.steps.proofs.Founds.{state_at, following-left}

-- ---- the parents of a level are those stored for its block, of which the live ones are tried

module _ {A : Type 0} where
  keep_append : (f : A → Bool) (xs ys : List A) → keep f (xs ++ ys) ≡ keep f xs ++ keep f ys
  unfolding if
  keep_append f [] ys = refl
  keep_append f (x ∷ xs) ys = rw (keep_append f xs ys) (go (f x))
    where
      go : (b : Bool) → if b (x ∷ keep f xs ++ keep f ys) (keep f xs ++ keep f ys) ≡ if b (x ∷ keep f xs) (keep f xs) ++ keep f ys
      go true = refl
      go false = refl

  keep-both : (f g : A → Bool) (xs : List A) → keep (λ (x : A). f x && g x) xs ≡ keep g (keep f xs)
  unfolding if
  keep-both f g [] = refl
  keep-both f g (x ∷ xs) = rw (keep-both f g xs) (go (f x))
    where
      go : (b : Bool) → if (b && g x) (x ∷ keep g (keep f xs)) (keep g (keep f xs)) ≡ keep g (if b (x ∷ keep f xs) (keep f xs))
      go true = refl
      go false = refl

pub level-parents : (mode : ℕ) (code : List ℕ) (t : Turn) (b : ℕ) (st : St) → t.stored ≡ direct (prepared (in_mode mode) code)
    → parents t b st ≡ keep (live t.reached st.recs) (direct_to b (prepared (in_mode mode) code) ++ found_to b st.recs)
unfolding parents
level-parents mode code t b st e =
    keep-both (λ (p : Parent). eqb b p.to) (live t.reached st.recs) (t.stored ++ found_parents st.recs)
    ∙ ap (keep (live t.reached st.recs))
    (keep_append (λ (p : Parent). eqb b p.to) t.stored (found_parents st.recs)
    ∙ ap (λ (ps : List Parent). keep (λ (p : Parent). eqb b p.to) ps ++ found_to b st.recs) e)

-- ---- what is left

-- What is left at a number, of parents of which direct ones past the highest may be left out.
pub record LeftUpTo (mode : ℕ) (code w : List ℕ) (n b : ℕ) (rs : List Rec) (high at : ℕ) (ps : List Parent) : Type 0 where
  pub rest : List Parent
  pub left : Left mode code w n b rs at rest
  pub passes : (f : Parent → Bool) → ((a : ℕ) → high ≤ a → DirectParent code w n b a → f (parent_of mode code b a) ≡ false) → keep f ps ≡ keep f rest

-- a direct parent depends on the rows alone
pub direct-rows : {code w v : List ℕ} {n b a : ℕ} → SameRows n w v → DirectParent code w n b a → DirectParent code v n b a
direct-rows {w = w} {v} {n} {a = a} e d = record { comes = d.comes; inside = d.inside; side = rw (sides-kept w v n e a d.inside) d.side }

-- direct parents that are not kept
keep-past : {code w starts : List ℕ} {n b lo high : ℕ} (mode : ℕ) (f : Parent → Bool) (ps : List Parent) → high ≤ lo → Rising lo starts
    → ((a : ℕ) → In a starts → DirectParent code w n b a) → ((a : ℕ) → high ≤ a → DirectParent code w n b a → f (parent_of mode code b a) ≡ false)
    → keep f (map (parent_of mode code b) starts ++ ps) ≡ keep f ps
keep-past mode f ps l rising.none_left c d = refl
keep-past {code = code} {b = b} {lo = lo} mode f ps l (one_more {n = x} h r) c d =
    if-false (f (parent_of mode code b x)) _ _ (d x (omega arith) (c x here)) ∙ keep-past mode f ps (omega arith) r (λ a i. c a (there i)) d

-- a direct parent up to the highest, and if there is none what else is left
pub or_left : {mode : ℕ} {code w starts : List ℕ} {n b lo x : ℕ} {rs : List Rec} (high link : ℕ) → Parents w n b link starts → Rising lo starts
    → ((a : ℕ) → In a starts → DirectParent code w n b a) → Left mode code w n b rs x (found_to b rs)
    → LeftUpTo mode code w n b rs high (or_else (up_to high link) x) (map (parent_of mode code b) starts ++ found_to b rs)
or_left {mode} {code} {w} {starts} {n} {b} {lo} {x} {rs} high link p h c l = split (dec_le link high) (ℕ_discrete link 0)
  where
    some : (k : ℕ) → (k ≡ 0 → ⊥) → k ≡ or_else k x
    some zero d = absurd (d refl)
    some (suc k) d = refl

    -- they start at the link
    above : (link ≡ 0 → ⊥) → Rising (start_of link) starts
    above d = let g = walk-parents p d in rw g.is (go (rw g.is at h))
      where
        go : {rest : List ℕ} → Rising lo (start_of link ∷ rest) → Rising (start_of link) (start_of link ∷ rest)
        go (one_more _ r) = let l : start_of link ≤ start_of link = omega arith in one_more l r

    split : Dec (link ≤ high) → Dec (link ≡ 0)
        → LeftUpTo mode code w n b rs high (or_else (up_to high link) x) (map (parent_of mode code b) starts ++ found_to b rs)
    split (yes q) (yes z) =
        rw (← up-low high link q, z) (record { rest = found_to b rs; left = l; passes = λ f d. rw (end-parents p z) })
    split (yes q) (no d) =
        rw (← up-low high link q, ← some link d) (record { rest = map (parent_of mode code b) starts ++ found_to b rs; left = direct_left {link = link} (omega arith) p h c; passes = λ f e. refl })
    split (no q) z =
        let far : high < link = omega arith in
        rw (← up-high high link far)
        (record { rest = found_to b rs; left = l; passes = λ f e. keep-past mode f (found_to b rs) (omega arith) (above (λ e. omega arith)) c e })

pub end-left : {mode : ℕ} {code w : List ℕ} {n b at : ℕ} {rs : List Rec} {ps : List Parent} → Left mode code w n b rs at ps → at ≡ 0 → ps ≡ []
end-left none_left e = refl
end-left (direct_left l p h c) e = absurd (omega arith)
end-left (found_left h) e = absurd (omega arith)

-- the found ones, from the first on
pub all_found : (mode : ℕ) (code : List ℕ) {w r q s : List ℕ} {n buckets : ℕ} {k : Rooms} {c : Counts} → Tables n buckets k (tables.mem w r q s) c → (b : ℕ) → b ≤ n → (opened : ℕ) → opened ≤ c.records
    → Left mode code w n b (recs_of r q s k.s opened) (clipped opened (first_found_at w n b)) (found_to b (recs_of r q s k.s opened))
all_found mode code {w} {r} {q} {s} {n} {k = k} {c = c} t b inside opened most =
    rw (t.parents.firsts b inside) (following-left r q s k.s b opened mode code w n c.records (omega (arith, t.few)) most 0 (omega arith))

-- a direct parent's block has the address among its sides
module _ {mode : ℕ} {code w : List ℕ} {many : ℕ} (known : Known mode code w many) where
  parent-side : {p : Parent} → In p (direct (prepared (in_mode mode) code)) → DirectParent code w (length code) p.to (from_of p)
  parent-side {p} i =
      let all : row_edges w (length code) ≡ edges (prepared (in_mode mode) code) = node-edges w (length code) (prepared (in_mode mode) code) known.blocks in
      let d = edge_of w (length code) {e = edge (from_of p) (from_of p) p.to} (rw all (direct-edge mode code i)) in
      record {
        comes = direct-comes mode code i;
        inside = omega (arith, d.2.place, d.1);
        side = subst (λ (a : ℕ). mem p.to (sides_at w a) ≡ true) (sym d.2.place) (in_mem p.to d.2.to);
      }

  direct-side : {b a : ℕ} → In a (map from_of (direct_to b (prepared (in_mode mode) code))) → DirectParent code w (length code) b a
  direct-side {b} {a} i =
      let g = in_map from_of (direct_to b (prepared (in_mode mode) code)) i in
      let k = in-keep (λ (p : Parent). eqb b p.to) (direct (prepared (in_mode mode) code)) g.1 in
      subst (λ (t : ℕ). DirectParent code w (length code) t a) (sym (eqb-true b g.0.to k.0))
      (subst (λ (x : ℕ). DirectParent code w (length code) g.0.to x) (sym g.2) (parent-side k.1))

pub first-left : {mode : ℕ} {code w r q s : List ℕ} {many buckets : ℕ} {k : Rooms} {c : Counts} → Tables (length code) buckets k (tables.mem w r q s) c → Known mode code w many
    → (b : ℕ) → b ≤ length code → (opened : ℕ) → c.records ≡ opened
    → (high : ℕ) → LeftUpTo mode code w (length code) b (recs k (tables.mem w r q s) c) high (first_cursor w (length code) b opened high)
    (direct_to b (prepared (in_mode mode) code) ++ found_to b (recs k (tables.mem w r q s) c))
unfolding first_cursor
first-left {mode} {code} {w} {r} {q} {s} {k = k} {c = c} t known b inside opened e high =
    rw (e, parents-again mode code b)
    (or_left high (rows.first_at w b) (known.parents b inside) (direct-rises mode code b) (λ a i. direct-side known i) (all_found mode code t b inside opened (omega arith)))

-- ---- what a number stands for

module _ (at : ℕ) (l : at < 0x10000) where
  pub direct-path : (r q : List ℕ) → path_cursor r q at ≡ start_of at ∷ []
  unfolding path_cursor if
  direct-path r q = rw (lt-ltb at 0x10000 l)

  pub direct-last : (r q : List ℕ) → last_cursor r q at ≡ start_of at
  unfolding last_cursor if
  direct-last r q = rw (lt-ltb at 0x10000 l)

  pub direct-stack : (mode : ℕ) (code r s : List ℕ) (room : ℕ) → stack_cursor mode code r s room at ≡ (run (in_mode mode) code (instructions code) (start_of at)).stack
  unfolding stack_cursor if
  direct-stack mode code r s room = rw (lt-ltb at 0x10000 l)

  pub direct-next : (w r : List ℕ) (n b opened high : ℕ) → next_cursor w r n b opened high at ≡ or_else (up_to high (rows.next_at w b at)) (clipped opened (first_found_at w n b))
  unfolding next_cursor if
  direct-next w r n b opened high = rw (lt-ltb at 0x10000 l)

module _ (at : ℕ) (l : 0x10000 ≤ at) where
  pub found-path : (r q : List ℕ) → path_cursor r q at ≡ path_at r q (at - 0x10000)
  unfolding path_cursor if
  found-path r q = rw (le-ltb at 0x10000 l)

  pub found-last : (r q : List ℕ) → last_cursor r q at ≡ num_at 2 q (2 * (end_of r (suc (at - 0x10000)) - 1))
  unfolding last_cursor if
  found-last r q = rw (le-ltb at 0x10000 l)

  pub found-stack : (mode : ℕ) (code r s : List ℕ) (room : ℕ) → stack_cursor mode code r s room at ≡ state_at r s room (at - 0x10000)
  unfolding stack_cursor if
  found-stack mode code r s room = rw (le-ltb at 0x10000 l)

  pub found-next : (w r : List ℕ) (n b opened high : ℕ) → next_cursor w r n b opened high at ≡ clipped opened (records.next_at r (at - 0x10000))
  unfolding next_cursor if
  found-next w r n b opened high = rw (le-ltb at 0x10000 l)

-- ---- a level's loop ends, since its cursor rises: the loop's measure

unfoldable pub fuel : ℕ → ℕ
fuel at = if (eqb at 0) 0 (0x80000000 - at)

pub fuel-falls : (at next : ℕ) → (at ≡ 0 → ⊥) → at < 0x80000000 → ((next ≡ 0 → ⊥) → at < next) → fuel next < fuel at
unfolding fuel if
fuel-falls at next d l h =
    rw (ne_eqb at 0 d) (both (λ (x : ℕ). x < 0x80000000 - at) (eqb next 0) (λ _. omega arith) (λ e. omega (arith, h (eqb-false next 0 e))))

pub link-rises : {w starts : List ℕ} {n t lo link : ℕ} → Parents w n t link starts → Rising lo starts → (link ≡ 0 → ⊥) → lo + 1 ≤ link
link-rises {lo = lo} {link = link} p h d = go (subst (Rising lo) (walk-parents p d).is h)
  where
    go : {rest : List ℕ} → Rising lo (start_of link ∷ rest) → lo + 1 ≤ link
    go (one_more l r) = omega arith

-- so does a link that is no higher than the highest
pub up-rises : {w starts : List ℕ} {n t lo link : ℕ} (high : ℕ) → Parents w n t link starts → Rising lo starts → (up_to high link ≡ 0 → ⊥) → lo + 1 ≤ up_to high link
unfolding up_to
up-rises {lo = lo} {link} high p h = both (λ (x : ℕ). (x ≡ 0 → ⊥) → lo + 1 ≤ x) (leb link high) (λ _. link-rises p h) (λ _ d. absurd (d refl))

pub or-rises : (at link x : ℕ) → ((link ≡ 0 → ⊥) → at < link) → ((x ≡ 0 → ⊥) → at < x) → (or_else link x ≡ 0 → ⊥) → at < or_else link x
or-rises at zero x f g = g
or-rises at (suc link) x f g = f
