-- The laws of the highest direct parents that are marked: what raising them leaves, and that they are right once all that waits is followed. Assumes nothing.
use mathlib.Core.Path.{◌≡◌, refl, sym, ap, ◌∙◌}
use mathlib.Core.Logic.{◌⊎◌, inl, inr}
use mathlib.Core.Bool.{Bool, true, false, not, ◌&&◌, ◌||◌, or-true}
use mathlib.Core.List.{List, [], ◌∷◌, ◌++◌}
use Prim.Native.Nat.{ℕ, ◌+◌, ◌≤◌, ◌<◌}
use native.Mathlib.Decide.{ℕ_discrete}
use native.Mathlib.Omega.{arith}
use lib.Dec.{eqb, leb}
use borrow.Author.Tests.{le-leb, lt-leb, eqb-true, eqb-false, eq-eqb, ne_eqb, leb-true, leb-false}
use Rattle.std.specs.Prelude.{Option, Some, None, option_to_list}
use Rattle.spec.specs.Lists.{if, mem, little}
use Rattle.laws.proofs.Branch.{both, if-true, if-false, and_right, and-false}
use Rattle.laws.proofs.Members.{mem-append, and_both, or_cases}
use Rattle.lent.specs.Bytes.{Holds, Stored}
use Rattle.lent.proofs.Parts.{drop_more}
use Rattle.lent.proofs.Numbers.{num-suffix}
use Rattle.lent.proofs.Stored.{kept-take, kept-drop, kept-part, kept-num, read_back}
use Rattle.layout.specs.Fields.{HIGHEST, FLAG, LAST, HEADS, mark_at, high_at, flag_at, entry_at}
use Rattle.layout.specs.Parts.{rows_end, fields_place, list_place, entry_place, buckets_place, SameRows}
use Rattle.reachable.specs.Marks.{flagged, entries, remark}
use Rattle.reachable.specs.Edges.{sides_at, SidesOf}
use Rattle.reachable.specs.Promises.{Room, Address, SideWithin, Kept, KeptBut, Marked, Top, Highest, raised, Raised, Took}
use Rattle.reachable.proofs.Tests.{not-both, decided, mem-one}
use Rattle.reachable.proofs.Flags.{flagged-same}
use Rattle.reachable.proofs.Frames.{num-in, part_in, entries-same}
use Rattle.reachable.proofs.Rows.{sides-kept}
use Rattle.reachable.proofs.Marks.{marked-kept, marked-others, marked-one}
use Rattle.reachable.proofs.Pairs.{within-some}

-- ---- one number

raised-on : (a h : ℕ) → a + 1 ≤ raised true a h
raised-on a h = both (λ (x : ℕ). a + 1 ≤ x) (leb h a) (λ _. omega arith) (λ e. omega (arith, leb-false h a e))

raised-least : (is : Bool) (a h : ℕ) → h ≤ raised is a h
raised-least is a h = both (λ (x : ℕ). h ≤ x) (is && leb h a) (λ e. omega (arith, leb-true h a (and_right is (leb h a) e))) (λ _. omega arith)

raised-again : (is more : Bool) (a h : ℕ) → raised more a (raised is a h) ≡ raised (is || more) a h
unfolding if
raised-again false more a h = refl
raised-again true more a h = go (decided (leb h a))
  where
    go : (leb h a ≡ true) ⊎ (leb h a ≡ false) → raised more a (raised true a h) ≡ raised true a h
    go (inl e) = rw (e, lt-leb (a + 1) a (omega arith)) (if-false (more && false) _ _ (and-false more refl))
    go (inr e) = rw (e, e) (if-false (more && false) _ _ (and-false more refl))

-- ---- what stays

raised-none : {n a : ℕ} {w : List ℕ} → Raised n [] w a w
raised-none = record { highs = λ t h. sym (if-false false _ _ refl); rows = refl; before = λ a h. refl; after = λ a h. refl; beyond = refl; long = refl }

raised-after : {n a : ℕ} {ts us w w₁ w₂ : List ℕ} → Raised n ts w a w₁ → Raised n us w₁ a w₂ → Raised n (ts ++ us) w a w₂
raised-after {n} {a} {ts} {us} {w} p q = record {
  highs = λ t h.
      q.highs t h ∙ ap (raised (mem t us) a) (p.highs t h) ∙ raised-again (mem t ts) (mem t us) a (high_at w n t)
      ∙ ap (λ (is : Bool). raised is a (high_at w n t)) (sym (mem-append t ts us));
  rows = q.rows ∙ p.rows;
  before = λ x h. q.before x h ∙ p.before x h;
  after = λ x h. q.after x h ∙ p.after x h;
  beyond = q.beyond ∙ p.beyond;
  long = q.long ∙ p.long;
}

-- other addresses that are the same
raised-same : {n a : ℕ} {ts w w' : List ℕ} (us : List ℕ) → Raised n ts w a w' → ((t : ℕ) → mem t us ≡ mem t ts) → Raised n us w a w'
raised-same {n} {a} {w = w} us p e = record {
  highs = λ t h. p.highs t h ∙ ap (λ (is : Bool). raised is a (high_at w n t)) (sym (e t));
  rows = p.rows;
  before = p.before;
  after = p.after;
  beyond = p.beyond;
  long = p.long;
}

module _ {n a : ℕ} {ts w w' : List ℕ} (r : Raised n ts w a w') where
  pub raised-marks : (x : ℕ) → x ≤ n → mark_at w' n x ≡ mark_at w n x
  raised-marks x h = num-in w' w HIGHEST (fields_place n x) (r.before x h) 4 (fields_place n x) (omega arith) (omega arith)

  pub raised-flags : (x : ℕ) → x ≤ n → flag_at w' n x ≡ flag_at w n x
  raised-flags x h = num-in w' w 2 (fields_place n x + FLAG) (r.after x h) 1 (fields_place n x + FLAG) (omega arith) (omega arith)

  pub raised-flagged : flagged w' n ≡ flagged w n
  raised-flagged = flagged-same w w' n raised-flags

  pub raised-entry : (i : ℕ) → entry_at w' n i ≡ entry_at w n i
  raised-entry i = num-suffix w' w (list_place n) r.beyond 2 (entry_place n i) (omega arith)

  pub raised-entries : (count : ℕ) → entries w' n count ≡ entries w n count
  raised-entries count = entries-same w w' n count (λ i _. raised-entry i)

  pub raised-sides : (x : ℕ) → x ≤ n → sides_at w' x ≡ sides_at w x
  raised-sides = sides-kept w w' n r.rows

  pub raised-kept : KeptBut n w w'
  raised-kept = record {
    rows = r.rows;
    fields = λ x h. part_in w' w HIGHEST (fields_place n x) (r.before x h) 12 (fields_place n x + HEADS) (omega arith) (omega arith);
    spare = λ x h. part_in w' w 2 (fields_place n x + FLAG) (r.after x h) 1 (fields_place n x + LAST) (omega arith) (omega arith);
    beyond = drop_more w' w (list_place n) r.beyond (buckets_place n) (omega arith);
    long = r.long;
  }

-- ---- `raise`

module _ {n t a h : ℕ} {w : List ℕ} (g : Address n w t) (i : a ≤ n) (x : Holds 2 w (fields_place n t + HIGHEST) h) where
  pub raise-stays : a < h → Raised n (t ∷ []) w a w
  raise-stays l = record {
    highs = λ y k. one y (ℕ_discrete y t);
    rows = refl;
    before = λ y k. refl;
    after = λ y k. refl;
    beyond = refl;
    long = refl;
  }
    where
      one : (y : ℕ) → Dec (y ≡ t) → high_at w n y ≡ raised (mem y (t ∷ [])) a (high_at w n y)
      one y (yes e) = sym (if-false _ _ _ (and-false (mem y (t ∷ [])) (lt-leb (high_at w n y) a (omega (arith, rw (← e) at x.is)))))
      one y (no ne) = sym (if-false _ _ _ (rw (mem-one y t, ne_eqb y t ne)))

  pub raise-sets : h ≤ a → {w' : List ℕ} → Stored 2 w (fields_place n t + HIGHEST) (little 2 (a + 1)) w' → Raised n (t ∷ []) w a w'
  raise-sets l {w'} s =
      let b = g.inside in
      record {
        highs = λ y k. one y (ℕ_discrete y t);
        rows = kept-take s (rows_end n) (omega arith);
        before = λ y k. kept-part s HIGHEST (fields_place n y) (λ q. omega arith);
        after = λ y k. kept-part s 2 (fields_place n y + FLAG) (λ q. omega arith);
        beyond = kept-drop s (list_place n) (omega arith);
        long = s.kept;
      }
    where
      one : (y : ℕ) → Dec (y ≡ t) → high_at w' n y ≡ raised (mem y (t ∷ [])) a (high_at w n y)
      one y (yes e) =
          rw e (read_back s (omega (arith, g.lent.short))
          ∙ sym (if-true _ _ _ (rw (mem-one t t, eq-eqb t t refl) (le-leb (high_at w n t) a (omega (arith, x.is))))))
      one y (no ne) = kept-num s 2 (fields_place n y + HIGHEST) (λ q. omega arith) ∙ sym (if-false _ _ _ (rw (mem-one y t, ne_eqb y t ne)))

-- ---- `raise_sides`: one side, if there is one, and both

pub raises-side : {n t : ℕ} {w : List ℕ} {side : Option ℕ} → Room n w → SideWithin n side → side ≡ Some t → Address n w t
raises-side l s e = record { lent = l; inside = within-some s e }

module _ {n a : ℕ} {w : List ℕ} {side : Option ℕ} where
  pub raised-no-side : side ≡ None → Raised n (option_to_list side) w a w
  raised-no-side e = rw e raised-none

module _ {n a : ℕ} {w : List ℕ} {to other : Option ℕ} (p : SidesOf w a to other) {w₁ : List ℕ} (t : Raised n (option_to_list to) w a w₁) where
  pub raised-both : {w₂ : List ℕ} → Raised n (option_to_list other) w₁ a w₂ → Raised n (sides_at w a) w a w₂
  raised-both o = raised-same (sides_at w a) (raised-after t o) p.same

-- ---- they are right

pub kept-highs : {n : ℕ} {w w' : List ℕ} → Kept n w w' → (t : ℕ) → t ≤ n → high_at w' n t ≡ high_at w n t
kept-highs {n} {w} {w'} k t h = num-in w' w 14 (fields_place n t + HEADS) (k.fields t h) 2 (fields_place n t + HIGHEST) (omega arith) (omega arith)

-- but for addresses that wait, which have their marks
pub record HighestBut (n : ℕ) (w todo : List ℕ) : Type 0 where
  pub above : (a t : ℕ) → a ≤ n → t ≤ n → (mark_at w n a ≡ 0 → ⊥) → mem a todo ≡ false → mem t (sides_at w a) ≡ true → a + 1 ≤ high_at w n t
  pub top : (t : ℕ) → t ≤ n → (high_at w n t ≡ 0 → ⊥) → Top n w t
  pub waits : (a : ℕ) → a ≤ n → mem a todo ≡ true → mark_at w n a ≡ 0 → ⊥

pub but-none : {n : ℕ} {w : List ℕ} → Highest n w → HighestBut n w []
but-none h = record { above = λ a t i j m _ s. h.above a t i j m s; top = h.top; waits = λ a i e. not-both e refl }

pub none-but : {n : ℕ} {w : List ℕ} → HighestBut n w [] → Highest n w
none-but h = record { above = λ a t i j m s. h.above a t i j m refl s; top = h.top }

-- a top stays
top_kept : {n t : ℕ} {w w' : List ℕ} → SameRows n w w' → ((x : ℕ) → x ≤ n → (mark_at w n x ≡ 0 → ⊥) → mark_at w' n x ≡ 0 → ⊥) → high_at w' n t ≡ high_at w n t
    → Top n w t → Top n w' t
top_kept {n} {w = w} {w'} rows marks e p = record {
  at = p.at;
  is = e ∙ p.is;
  inside = p.inside;
  marked = marks p.at p.inside p.marked;
  side = rw (sides-kept w w' n rows p.at p.inside) p.side;
}

-- as much as its own bytes, the marks and the rows do
pub highest-kept : {n : ℕ} {w w' : List ℕ} → SameRows n w w' → ((x : ℕ) → x ≤ n → mark_at w' n x ≡ mark_at w n x) → ((x : ℕ) → x ≤ n → high_at w' n x ≡ high_at w n x)
    → Highest n w → Highest n w'
highest-kept {n} {w} {w'} rows marks highs h = record {
  above = λ a t i j m s. rw (highs t j) (h.above a t i j (rw (marks a i) at m) (rw (sides-kept w w' n rows a i) at s));
  top = λ t j ne. top_kept rows (λ x i m. rw (marks x i) m) (highs t j) (h.top t j (rw (highs t j) at ne));
}

-- the one that waited first is done
pub but-raised : {n x : ℕ} {w w₁ todo : List ℕ} → HighestBut n w (x ∷ todo) → x ≤ n → Raised n (sides_at w x) w x w₁ → HighestBut n w₁ todo
but-raised {n} {x} {w} {w₁} {todo} h inside r = record {
  above = λ a t i j m q s. above a t i j m q (rw (raised-sides r a i) at s) (ℕ_discrete a x);
  top = λ t j ne. top t j ne (decided (mem t (sides_at w x) && leb (high_at w n t) x));
  waits = λ a i q z. h.waits a i (rw q (or-true (eqb a x))) (sym (raised-marks r a i) ∙ z);
}
  where
    above : (a t : ℕ) → a ≤ n → t ≤ n → (mark_at w₁ n a ≡ 0 → ⊥) → mem a todo ≡ false → mem t (sides_at w a) ≡ true → Dec (a ≡ x) → a + 1 ≤ high_at w₁ n t
    above a t i j m q s (yes e) =
        let is : high_at w₁ n t ≡ raised true x (high_at w n t) = r.highs t j ∙ ap (λ (b : Bool). raised b x (high_at w n t)) (rw e at s) in
        omega (arith, is, e, raised-on x (high_at w n t))
    above a t i j m q s (no ne) =
        let was : a + 1 ≤ high_at w n t = h.above a t i j (λ z. m (raised-marks r a i ∙ z)) (rw (ne_eqb a x ne, q)) s in
        omega (arith, r.highs t j, raised-least (mem t (sides_at w x)) x (high_at w n t))

    top : (t : ℕ) → t ≤ n → (high_at w₁ n t ≡ 0 → ⊥) → (mem t (sides_at w x) && leb (high_at w n t) x ≡ true) ⊎ (mem t (sides_at w x) && leb (high_at w n t) x ≡ false) → Top n w₁ t
    top t j ne (inl q) = record {
      at = x;
      is = r.highs t j ∙ if-true _ _ _ q;
      inside = inside;
      marked = λ z. h.waits x inside (rw (eq-eqb x x refl)) (sym (raised-marks r x inside) ∙ z);
      side = rw (raised-sides r x inside) (and_both _ _ q).0;
    }
    top t j ne (inr q) =
        let same : high_at w₁ n t ≡ high_at w n t = r.highs t j ∙ if-false _ _ _ q in
        top_kept r.rows (λ y i m z. m (sym (raised-marks r y i) ∙ z)) same (h.top t j (λ z. ne (same ∙ z)))

-- a mark, of an address that is not newly flagged, that had one, and that is newly flagged
remark-old : (when m : ℕ) (was is : Bool) → is && not was ≡ false → remark when was is m ≡ m
unfolding if
remark-old when m true true e = refl
remark-old when m true false e = refl
remark-old when m false true e = cc
remark-old when m false false e = refl

remark-kept : (when m : ℕ) (was is : Bool) → (m ≡ 0 → ⊥) → remark when was is m ≡ m
unfolding if
remark-kept when m true true ne = refl
remark-kept when m true false ne = refl
remark-kept when m false true ne = rw (ne_eqb m 0 ne)
remark-kept when m false false ne = refl

remark-new : (when m : ℕ) (was is : Bool) → 1 ≤ when → is && not was ≡ true → remark when was is m ≡ 0 → ⊥
unfolding if
remark-new when m true true some e = not-both e refl
remark-new when m true false some e = not-both e refl
remark-new when m false true some e = both (λ (x : ℕ). x ≡ 0 → ⊥) (eqb m 0) (λ _ z. omega arith) (λ f. eqb-false m 0 f)
remark-new when m false false some e = not-both e refl

-- addresses were taken: those that are new wait
pub but-took : {n when count count' : ℕ} {ts w w' : List ℕ} → 1 ≤ when → HighestBut n w (entries w n count) → Took n when ts w count w' count' → HighestBut n w' (entries w' n count')
but-took {n} {when} {count} {count'} {ts} {w} {w'} some h k = record {
  above = λ a t i j m q s. rw (highs t j) (h.above a t i j (λ z. m (was a i q ∙ z)) (not-waits a q).1 (rw (sides a i) at s));
  top = λ t j ne. top_kept k.kept.rows stays (highs t j) (h.top t j (λ z. ne (highs t j ∙ z)));
  waits = λ a i q. wait a i (or_cases (new a) (mem a (entries w n count)) (sym (k.more.waits a) ∙ q));
}
  where
    new : ℕ → Bool
    new a = mem a (flagged w' n) && not (mem a (flagged w n))

    sides : (a : ℕ) → a ≤ n → sides_at w' a ≡ sides_at w a
    sides = sides-kept w w' n k.kept.rows

    highs : (t : ℕ) → t ≤ n → high_at w' n t ≡ high_at w n t
    highs = kept-highs k.kept

    -- an older mark stays
    stays : (a : ℕ) → a ≤ n → (mark_at w n a ≡ 0 → ⊥) → mark_at w' n a ≡ 0 → ⊥
    stays a i m z = m (sym (k.sets.marks a i ∙ remark-kept when (mark_at w n a) (mem a (flagged w n)) (mem a (flagged w' n)) m) ∙ z)

    not-waits : (a : ℕ) → mem a (entries w' n count') ≡ false → (new a ≡ false) × (mem a (entries w n count) ≡ false)
    not-waits a q = neither (new a) (mem a (entries w n count)) (sym (k.more.waits a) ∙ q)
      where
        neither : (b c : Bool) → b || c ≡ false → (b ≡ false) × (c ≡ false)
        neither true c e = not-both refl e
        neither false c e = (refl, e)

    was : (a : ℕ) → a ≤ n → mem a (entries w' n count') ≡ false → mark_at w' n a ≡ mark_at w n a
    was a i q = k.sets.marks a i ∙ remark-old when (mark_at w n a) (mem a (flagged w n)) (mem a (flagged w' n)) (not-waits a q).0

    wait : (a : ℕ) → a ≤ n → (new a ≡ true) ⊎ (mem a (entries w n count) ≡ true) → mark_at w' n a ≡ 0 → ⊥
    wait a i (inl q) z = remark-new when (mark_at w n a) (mem a (flagged w n)) (mem a (flagged w' n)) some q (sym (k.sets.marks a i) ∙ z)
    wait a i (inr q) z = stays a i (h.waits a i q) z

-- an address is marked, and its sides are raised
pub highest-marked : {n a when : ℕ} {w w₁ w₂ : List ℕ} → Highest n w → Address n w a → 1 ≤ when → when < 4294967296 → Marked n w a when w₁ → Raised n (sides_at w₁ a) w₁ a w₂ → Highest n w₂
highest-marked {n} {a} {when} {w} {w₁} h i some small m r = none-but (but-raised waiting i.inside r)
  where
    kept : Kept n w w₁
    kept = marked-kept i m

    highs : (t : ℕ) → t ≤ n → high_at w₁ n t ≡ high_at w n t
    highs = kept-highs kept

    stays : (x : ℕ) → x ≤ n → (mark_at w n x ≡ 0 → ⊥) → mark_at w₁ n x ≡ 0 → ⊥
    stays x j ne z = go (ℕ_discrete x a)
      where
        go : Dec (x ≡ a) → ⊥
        go (yes e) = ne (rw e (sym (marked-one i m small ∙ if-false _ _ _ (ne_eqb _ 0 (rw e at ne)))) ∙ z)
        go (no q) = ne (sym (marked-others i m x q) ∙ z)

    waiting : HighestBut n w₁ (a ∷ [])
    waiting = record {
      above = λ x t j l ne q s.
          let other : x ≡ a → ⊥ = λ e. not-both (rw (mem-one x a, eq-eqb x a e)) q in
          rw (highs t l) (h.above x t j l (λ z. ne (marked-others i m x other ∙ z)) (rw (sides-kept w w₁ n kept.rows x j) at s));
      top = λ t l ne. top_kept kept.rows stays (highs t l) (h.top t l (λ z. ne (highs t l ∙ z)));
      waits = λ x j q z. here (rw (eqb-true x a (sym (mem-one x a) ∙ q)) at z);
    }
      where
        here : mark_at w₁ n a ≡ 0 → ⊥
        here z = both (λ (f : ℕ). f ≡ 0 → ⊥) (eqb (mark_at w n a) 0) (λ _ e. omega arith) (λ e. eqb-false (mark_at w n a) 0 e) (sym (marked-one i m small) ∙ z)

-- ---- there is one way to have them right, by the rows and by which addresses are marked

no-higher : {n : ℕ} {v u : List ℕ} → SameRows n u v → ((x : ℕ) → x ≤ n → (mark_at v n x ≡ 0 → ⊥) → mark_at u n x ≡ 0 → ⊥) → Highest n v → Highest n u
    → (t : ℕ) → t ≤ n → high_at v n t ≤ high_at u n t
no-higher {n} {v} {u} rows marks p q t j = go (ℕ_discrete (high_at v n t) 0)
  where
    go : Dec (high_at v n t ≡ 0) → high_at v n t ≤ high_at u n t
    go (yes e) = omega arith
    go (no ne) =
        let x = p.top t j ne in
        let least = q.above x.at t x.inside j (marks x.at x.inside x.marked) (rw (sides-kept u v n rows x.at x.inside) at x.side) in
        omega (arith, x.is)

pub highest-once : {n : ℕ} {v u : List ℕ} → SameRows n u v → ((x : ℕ) → x ≤ n → (mark_at v n x ≡ 0 → ⊥) → mark_at u n x ≡ 0 → ⊥)
    → ((x : ℕ) → x ≤ n → (mark_at u n x ≡ 0 → ⊥) → mark_at v n x ≡ 0 → ⊥) → Highest n v → Highest n u → (t : ℕ) → t ≤ n → high_at v n t ≡ high_at u n t
highest-once rows to from p q t j = omega (arith, no-higher rows to p q t j, no-higher (sym rows) from q p t j)
