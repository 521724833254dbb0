-- The laws of `enter`: an address is taken. Assumes nothing.
use mathlib.Core.Path.{◌≡◌, refl, sym, ◌∙◌}
use mathlib.Core.Bool.{Bool, true, false, not, ◌&&◌, ◌||◌, and-not_self}
use mathlib.Core.List.{List, [], ◌∷◌, ◌++◌}
use Prim.Native.Nat.{ℕ, suc, ◌+◌, ◌≤◌}
use native.Mathlib.Decide.{ℕ_discrete}
use native.Mathlib.Numerals.{add-one}
use native.Mathlib.Omega.{arith}
use lib.Dec.{eqb}
use lib.ListN.{length}
use borrow.Author.Tests.{eq-eqb, ne_eqb}
use Rattle.spec.specs.Lists.{if, mem, little}
use Rattle.laws.proofs.Branch.{if-true}
use Rattle.lent.specs.Bytes.{Holds, Stored}
use Rattle.lent.proofs.Stored.{read_back}
use Rattle.layout.specs.Fields.{FLAG, mark_at, flag_at, entry_at}
use Rattle.layout.specs.Parts.{fields_place, entry_place}
use Rattle.reachable.specs.Marks.{flagged, entries, remark}
use Rattle.reachable.specs.Promises.{Address, Kept, Marked, Sets, Fresh, More, Going, Took}
use Rattle.reachable.proofs.Flags.{flagged-test, flagged-agree, flagged-fewer, flagged-more}
use Rattle.reachable.proofs.Frames.{kept-none, kept-after, entries-same, flag-kept, flag-others, flag-marks, flag-entries, entry_kept, entry-others, entry-marks, entry-flags}
use Rattle.reachable.proofs.Marks.{marked-kept, marked-flags, marked-entries, marked-others, marked-one}
use Rattle.reachable.proofs.Tests.{not-both, mem-again}
use Rattle.reachable.proofs.Worklist.{more-none, more-after, more-keeps}

-- ---- marks and flags, one step after the other

remark-after : (when m : ℕ) (a b c : Bool) → (a ≡ true → b ≡ true) → (b ≡ true → c ≡ true) → remark when b c (remark when a b m) ≡ remark when a c m
unfolding if
remark-after when m true true c h g = rw (g refl)
remark-after when m true false c h g = not-both (h refl) refl
remark-after when m false true c h g = rw (g refl)
remark-after when m false false c h g = refl

remark-none : (when m : ℕ) (a : Bool) → m ≡ remark when a a m
unfolding if
remark-none when m true = refl
remark-none when m false = refl

pub sets-none : (n when : ℕ) (w : List ℕ) → Sets n when w w
sets-none n when w =
    record { marks = λ y h. remark-none when (mark_at w n y) (mem y (flagged w n)); flags = λ y h. remark-none 1 (flag_at w n y) (mem y (flagged w n)) }

pub sets-after : {n when : ℕ} {w w₁ w₂ : List ℕ} → ((y : ℕ) → mem y (flagged w n) ≡ true → mem y (flagged w₁ n) ≡ true)
    → ((y : ℕ) → mem y (flagged w₁ n) ≡ true → mem y (flagged w₂ n) ≡ true) → Sets n when w w₁ → Sets n when w₁ w₂ → Sets n when w w₂
sets-after {n} {when} {w} {w₁} {w₂} f g p q = record {
  marks = λ y h. rw (q.marks y h, p.marks y h) (both-steps when (mark_at w n y) y);
  flags = λ y h. rw (q.flags y h, p.flags y h) (both-steps 1 (flag_at w n y) y);
}
  where
    both-steps : (k m y : ℕ) → remark k (mem y (flagged w₁ n)) (mem y (flagged w₂ n)) (remark k (mem y (flagged w n)) (mem y (flagged w₁ n)) m)
        ≡ remark k (mem y (flagged w n)) (mem y (flagged w₂ n)) m
    both-steps k m y = remark-after k m (mem y (flagged w n)) (mem y (flagged w₁ n)) (mem y (flagged w₂ n)) (f y) (g y)

-- what was neither marked nor flagged
pub sets-fresh : {n : ℕ} {w w' : List ℕ} → flagged w n ≡ [] → ((x : ℕ) → x ≤ n → mark_at w n x ≡ 0) → ((x : ℕ) → x ≤ n → flag_at w n x ≡ 0) → Sets n 1 w w' → Fresh n w'
sets-fresh {n} {w'} e m f s = record {
  marks = λ x h. s.marks x h ∙ rw (m x h, e) (first (mem x (flagged w' n)));
  flags = λ x h. s.flags x h ∙ rw (f x h, e) (first (mem x (flagged w' n)));
}
  where
    first : (is : Bool) → remark 1 false is 0 ≡ if is 1 0
    first true = refl
    first false = refl

-- ---- targets, one step after the other

pub took-none : (n when count : ℕ) (w : List ℕ) → Took n when [] w count w count
took-none n when count w = record { more = more-none; sets = sets-none n when w; number = refl; grew = omega arith; kept = kept-none }

pub took-after : {n when count count₁ count₂ : ℕ} {ts us w w₁ w₂ : List ℕ} → Took n when ts w count w₁ count₁ → Took n when us w₁ count₁ w₂ count₂
    → Took n when (ts ++ us) w count w₂ count₂
took-after p q = record {
  more = more-after p.more q.more;
  sets = sets-after (more-keeps p.more) (more-keeps q.more) p.sets q.sets;
  number = omega (arith, p.number, q.number);
  grew = omega (arith, p.grew, q.grew);
  kept = kept-after p.kept q.kept;
}

-- other targets that add the same
pub took-same : {n when count count' : ℕ} {ts w w' : List ℕ} (us : List ℕ) → Took n when ts w count w' count'
    → ((y : ℕ) → mem y us || mem y (flagged w n) ≡ mem y ts || mem y (flagged w n)) → Took n when us w count w' count'
took-same us p e = record {
  more = record { all = λ y. p.more.all y ∙ sym (e y); waits = p.more.waits };
  sets = p.sets;
  number = p.number;
  grew = p.grew;
  kept = p.kept;
}

-- ---- one address

-- the flag says that it was taken
pub entered-before : {n x when count f : ℕ} {w : List ℕ} → Going n w x when count → Holds 1 w (fields_place n x + FLAG) f → (f ≡ 0 → ⊥)
    → Took n when (x ∷ []) w count w count
entered-before {n} {x} {when} {count} {f} {w} g h ne =
    let is : mem x (flagged w n) ≡ true = rw (flagged-test w n x g.at.inside, ← h.is, ne_eqb f 0 ne) in
    took-same (x ∷ []) (took-none n when count w) (λ y. mem-again y x (flagged w n) is)

-- what the three stores leave, read address by address
record Enters (n : ℕ) (w : List ℕ) (x when count : ℕ) (w' : List ℕ) : Type 0 where
  flag : flag_at w' n x ≡ 1
  flags : (y : ℕ) → y ≤ n → (y ≡ x → ⊥) → flag_at w' n y ≡ flag_at w n y
  mark : mark_at w' n x ≡ if (eqb (mark_at w n x) 0) when (mark_at w n x)
  marks : (y : ℕ) → y ≤ n → (y ≡ x → ⊥) → mark_at w' n y ≡ mark_at w n y
  entry : entry_at w' n count ≡ x
  before : entries w' n count ≡ entries w n count
  kept : Kept n w w'

module _ {n x when count : ℕ} {w w' : List ℕ} (h : x ≤ n) (was : flag_at w n x ≡ 0) (e : Enters n w x when count w') where
  not_yet : mem x (flagged w n) ≡ false
  not_yet = rw (flagged-test w n x h, was)

  is-now : mem x (flagged w' n) ≡ true
  is-now = rw (flagged-test w' n x h, e.flag)

  others : (y : ℕ) → (y ≡ x → ⊥) → mem y (flagged w' n) ≡ mem y (flagged w n)
  others y ne = flagged-agree w w' n y (λ l. e.flags y l ne)

  enters-more : More (x ∷ []) (flagged w n) (entries w n count) (flagged w' n) (entries w' n (count + 1))
  unfolding entries
  enters-more = record { all = λ y. all y (ℕ_discrete y x); waits = λ y. rw (add-one count, e.entry, e.before) (waits y (ℕ_discrete y x)) }
    where
      all : (y : ℕ) → Dec (y ≡ x) → mem y (flagged w' n) ≡ mem y (x ∷ []) || mem y (flagged w n)
      all y (yes q) = rw (q, is-now, eq-eqb x x refl)
      all y (no q) = rw (others y q, ne_eqb y x q)

      waits : (y : ℕ) → Dec (y ≡ x) → eqb y x || mem y (entries w n count) ≡ (mem y (flagged w' n) && not (mem y (flagged w n))) || mem y (entries w n count)
      waits y (yes q) = rw (q, is-now, not_yet, eq-eqb x x refl)
      waits y (no q) = rw (others y q, ne_eqb y x q, and-not_self (mem y (flagged w n)))

  enters-sets : Sets n when w w'
  enters-sets = record { marks = λ y l. marks y l (ℕ_discrete y x); flags = λ y l. flags y l (ℕ_discrete y x) }
    where
      marks : (y : ℕ) → y ≤ n → Dec (y ≡ x) → mark_at w' n y ≡ remark when (mem y (flagged w n)) (mem y (flagged w' n)) (mark_at w n y)
      marks y l (yes q) = rw (q, is-now, not_yet) e.mark
      marks y l (no q) = rw (others y q, e.marks y l q) (remark-none when (mark_at w n y) (mem y (flagged w n)))

      flags : (y : ℕ) → y ≤ n → Dec (y ≡ x) → flag_at w' n y ≡ remark 1 (mem y (flagged w n)) (mem y (flagged w' n)) (flag_at w n y)
      flags y l (yes q) = rw (q, is-now, not_yet, was) (e.flag ∙ sym (if-true true 1 0 refl))
      flags y l (no q) = rw (others y q, e.flags y l q) (remark-none 1 (flag_at w n y) (mem y (flagged w n)))

  enters-took : Took n when (x ∷ []) w count w' (count + 1)
  enters-took =
      let one : length (flagged w' n) ≡ suc (length (flagged w n)) = flagged-more w w' n x h was (λ z. omega (arith, e.flag)) e.flags in
      record { more = enters-more; sets = enters-sets; number = omega arith; grew = omega arith; kept = e.kept }

module _ {n x when count f : ℕ} {w : List ℕ} (g : Going n w x when count) (h : Holds 1 w (fields_place n x + FLAG) f) (z : f ≡ 0) where
  -- there is room for one more entry
  pub entry-room : count ≤ n
  entry-room = omega (arith, flagged-fewer w n x g.at.inside (sym h.is ∙ z), g.few)

  module _ {w₁ w₂ w₃ : List ℕ} (a : Stored 1 w (fields_place n x + FLAG) (little 1 1) w₁) (m : Marked n w₁ x when w₂)
      (b : Stored 2 w₂ (entry_place n count) (little 2 x) w₃) where
    still : Address n w₁ x
    still = record { lent = record { short = g.at.lent.short; room = omega (arith, a.kept, g.at.lent.room) }; inside = g.at.inside }

    pub entered : Took n when (x ∷ []) w count w₃ (count + 1)
    entered =
        let inside : x ≤ n = g.at.inside in
        enters-took inside (sym h.is ∙ z)
        (record {
          flag = entry-flags entry-room b x inside ∙ marked-flags still m x ∙ read_back a (omega arith);
          flags = λ y l ne. entry-flags entry-room b y l ∙ marked-flags still m y ∙ flag-others inside a y ne;
          mark = entry-marks entry-room b x inside ∙ rw (← flag-marks inside a x) (marked-one still m g.small);
          marks = λ y l ne. entry-marks entry-room b y l ∙ marked-others still m y ne ∙ flag-marks inside a y;
          entry = read_back b (omega (arith, g.at.lent.short));
          before = entries-same w w₃ n count (λ i l. entry-others entry-room b i l ∙ marked-entries still m i ∙ flag-entries inside a i);
          kept = kept-after (flag-kept inside a) (kept-after (marked-kept still m) (entry_kept entry-room b));
        })
