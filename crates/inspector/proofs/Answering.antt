-- The inspector's answers and refusals. Assumes nothing.
use Prim.Native.Nat.{ℕ, ◌+◌, ◌*◌, ◌≤◌, ◌<◌}
use native.Mathlib.Omega.{arith}
use mathlib.Core.Path.{◌≡◌, refl, sym, ap, subst, ◌∙◌}
use mathlib.Core.Bool.{Bool, true, false}
use mathlib.Core.List.{List, [], ◌∷◌, ◌++◌}
use lib.Dec.{leb, ltb}
use lib.ListN.{length, take, drop, replicate, length-replicate}
use lib.Seq.{take-append_seam, drop-append_seam}
use borrow.Author.Tests.{lt-ltb, le-ltb, ltb-false, le-leb, lt-leb}
use Rattle.std.specs.Prelude.{Result, Ok, Err, IsErr, IsErrAnd}
use Rattle.spec.specs.Lists.{if, little}
use Rattle.spec.specs.Opcodes.{Rules, in_mode}
use Rattle.spec.specs.Rooms.{longest, work_need}
use Rattle.spec.specs.Reader.{Reading as Said, holds, bad, read}
use Rattle.spec.specs.Inspector.{Inspection, refused, bad_entry, not_right, accepted, WrongPath, first_of, wrong_from, looks_at, inspect_from, inspect, number_of, value_of, place_after, rows, rows_after, work_after}
use Rattle.laws.proofs.Branch.{both, if-true, if-false}
use Rattle.theorems.proofs.ReaderPlaces.{never}
use Rattle.lent.proofs.Numbers.{length-little}
use Rattle.reader.specs.Shapes.{from}
use Rattle.reader.specs.Scanning.{reading_of}
use Rattle.reader.specs.declared.scan.BadEntry.{BadEntry}
use Rattle.exec.specs.Modes.{mode_of, Decodes}
use Rattle.exec.specs.declared.mode.Mode.{Mode}
use Rattle.exec.specs.declared.mode.Mode.TheVariants.{Plain, KnownZero}
use Rattle.refusal.specs.Numbers as refusal
use Rattle.refusal.specs.declared.Refusal.{Refusal}
use Rattle.refusal.specs.declared.Refusal.TheVariants as case
use Rattle.inspector.specs.Edges.{map_in}
use Rattle.inspector.specs.Tables.{TablesTo, Tables, Filled}
use Rattle.inspector.specs.Symbols.{Lent}
use Rattle.inspector.specs.Entries.{wrong_since}
use Rattle.inspector.specs.Listing.{first_in, Listed}
use Rattle.inspector.specs.Calling.{refused_by, refusal_of, early_in, Found, result_of, number_in, value_in, InspectedFrom, Tells, InspectedAs}
use Rattle.inspector.specs.declared.entries.Wrong.{Wrong}
use Rattle.inspector.proofs.Seeking.{holds-map}
use Rattle.inspector.proofs.Tabling.{tables-zero}
use Rattle.inspector.proofs.Rowing.{rows_more, rows_none}

-- ---- early

-- what `?` passes on
pub passed_on : {A : Type 0} {r : Result A Refusal} {e : Refusal} → IsErr r × IsErrAnd r (λ (x : Refusal). x ≡ e) → r ≡ Err e
passed_on {r = Ok x} h = let z : false ≡ true = h.0 in never (cc)
passed_on {r = Err x} h = ap (λ (y : Refusal). Err y) h.1

first-case : {k : ℕ} (n : ℕ) {e : Refusal} → k ≡ n → (n ≡ 0 → ⊥) → e ≡ refusal_of n → (k ≡ 0 → ⊥) × (e ≡ refusal_of k)
first-case n q z e = rw q (z, e)

module _ (n mode w : ℕ) where
  pub early-long : longest < n → early_in n mode w (Err case.Code)
  unfolding if
  early-long h = first-case 1 (if-true _ _ _ (lt-ltb longest n h)) (λ z. absurd (omega (arith, z))) refl

  module _ (a : n ≤ longest) {x : Result Mode Refusal} (d : Decodes mode x) where
    pub early-mode : {o : Refusal} → x ≡ Err o → early_in n mode w (Err o)
    unfolding if
    early-mode {o} e =
        let h : (o ≡ case.Mode) × (1 < mode) = subst (Decodes mode) e d in
        first-case 13 (if-false _ _ _ (le-ltb longest n a) ∙ if-true _ _ _ (lt-ltb 1 mode h.1)) (λ z. absurd (omega (arith, z))) h.0

    module _ {m : Mode} (e : x ≡ Ok m) where
      its : mode_of m ≡ mode
      its = subst (Decodes mode) e d

      low : mode ≤ 1
      low = small m its
        where
          small : (m : Mode) → mode_of m ≡ mode → mode ≤ 1
          small Plain q = omega arith
          small KnownZero q = omega arith

      pub early-short : w < 64 * n + 256 → early_in n mode w (Err case.Work)
      unfolding if
      early-short h = first-case 3 (if-false _ _ _ (le-ltb longest n a) ∙ if-false _ _ _ (le-ltb 1 mode low) ∙ if-true _ _ _ (lt-ltb w (work_need n) h)) (λ z. absurd (omega (arith, z))) refl

      pub early-none : 64 * n + 256 ≤ w → early_in n mode w (Ok m)
      early-none h = (if-false _ _ _ (le-ltb longest n a) ∙ if-false _ _ _ (le-ltb 1 mode low) ∙ if-false _ _ _ (le-ltb w (work_need n) h), its)

-- ---- found

module _ {map code w w₁ : List ℕ} (l : Lent code w) (e : w₁ ≡ replicate (length w) 0) where
  pub found-tables : TablesTo map code 0 w₁
  found-tables = tables-zero l e

  module _ {w₂ : List ℕ} (f : Filled map code w₁ w₂) where
    pub found-filled : Tables map code w₂
    found-filled = f.tables

    pub found-is : {mode lo : ℕ} {rs rs' : List ℕ} {r : Result Unit Wrong} {w₃ w₄ : List ℕ} → Listed mode map code lo w₂ rs w₃ rs' r → w₄ ≡ replicate (length w₃) 0 → Found mode map code lo w rs w₄ rs' r
    found-is k q = record {
      is = k.is;
      are = k.are;
      wiped = q ∙ ap (λ (n : ℕ). replicate n 0) (k.filled.kept ∙ f.kept ∙ ap length e ∙ length-replicate (length w) 0);
    }

-- ---- inspect_from

module _ (mode : ℕ) (code map : List ℕ) (lo : ℕ) (w rs : List ℕ) where
  abbrev the-answer : Inspection
  the-answer = inspect_from (in_mode mode) code map lo (length w)

  abbrev the-wrong : List WrongPath
  the-wrong = wrong_from (in_mode mode) code map lo (read map)

  answers : {w' rs' : List ℕ} {r : Result Unit Refusal} (i : Inspection) → the-answer ≡ i → r ≡ result_of i → (number_in (result_of i) ≡ number_of i) × (value_in (result_of i) ≡ value_of i)
      → w' ≡ work_after i w → rs' ≡ rows_after i the-wrong rs → InspectedFrom mode code map lo w rs w' rs' r
  answers i e a k b c = record {
    result = record {
      is = a ∙ ap result_of (sym e);
      number = ap number_in a ∙ k.0 ∙ ap number_of (sym e);
      value = ap value_in a ∙ k.1 ∙ ap value_of (sym e);
    };
    w_is = b ∙ ap (λ (j : Inspection). work_after j w) (sym e);
    rows_are = c ∙ ap (λ (j : Inspection). rows_after j the-wrong rs) (sym e);
  }

  abbrev the-number : ℕ
  the-number = refused_by (length code) mode (length w)

  refused-is : (the-number ≡ 0 → ⊥) → the-answer ≡ refused the-number
  unfolding inspect_from if
  refused-is z = go (ltb longest (length code)) (ltb 1 mode) (ltb (length w) (work_need (length code))) z
    where
      run : Inspection
      run = looks_at (in_mode mode) code map lo (read map)

      go : (a b c : Bool) → (◌≡◌ {A = ℕ} (if a 1 (if b 13 (if c 3 0))) 0 → ⊥) → if a (refused 1) (if b (refused 13) (if c (refused 3) run)) ≡ refused (if a 1 (if b 13 (if c 3 0)))
      go true b c q = refl
      go false true c q = refl
      go false false true q = refl
      go false false false q = absurd (q refl)

  -- its case has the number
  refused-number : (the-number ≡ 0 → ⊥) → (refusal.number_of (refusal_of the-number) ≡ the-number) × (refusal.value_of (refusal_of the-number) ≡ 0)
  unfolding if
  refused-number z = go (ltb longest (length code)) (ltb 1 mode) (ltb (length w) (work_need (length code))) z
    where
      go : (a b c : Bool) → (◌≡◌ {A = ℕ} (if a 1 (if b 13 (if c 3 0))) 0 → ⊥)
          → (refusal.number_of (refusal_of (if a 1 (if b 13 (if c 3 0)))) ≡ if a 1 (if b 13 (if c 3 0))) × (refusal.value_of (refusal_of (if a 1 (if b 13 (if c 3 0)))) ≡ 0)
      go true b c q = (refl, refl)
      go false true c q = (refl, refl)
      go false false true q = (refl, refl)
      go false false false q = absurd (q refl)

  module _ {x : Result Mode Refusal} (e : early_in (length code) mode (length w) x) where
    pub from-refused : {o : Refusal} → x ≡ Err o → InspectedFrom mode code map lo w rs w rs (Err o)
    from-refused {o} z =
        let h : (the-number ≡ 0 → ⊥) × (o ≡ refusal_of the-number) = subst (early_in (length code) mode (length w)) z e in
        answers (refused the-number) (refused-is h.0) (ap (λ (r : Refusal). Err r) h.1) (refused-number h.0) refl refl

    module _ {m : Mode} (z : x ≡ Ok m) where
      good : (the-number ≡ 0) × (mode_of m ≡ mode)
      good = subst (early_in (length code) mode (length w)) z e

      record Taken : Type 0 where
        short : length code ≤ longest
        room : work_need (length code) ≤ length w
        runs : the-answer ≡ looks_at (in_mode mode) code map lo (read map)

      taken : Taken
      unfolding inspect_from if
      taken = go (ltb longest (length code)) (ltb 1 mode) (ltb (length w) (work_need (length code))) refl refl refl good.0
        where
          go : (a b c : Bool) → ltb longest (length code) ≡ a → ltb 1 mode ≡ b → ltb (length w) (work_need (length code)) ≡ c → ◌≡◌ {A = ℕ} (if a 1 (if b 13 (if c 3 0))) 0 → Taken
          go true b c p q s k = absurd (omega arith)
          go false true c p q s k = absurd (omega arith)
          go false false true p q s k = absurd (omega arith)
          go false false false p q s k = record { short = ltb-false _ _ p; room = ltb-false _ _ s; runs = rw (p, q, s) }

      pub from-lent : Lent code w
      from-lent = record { short = taken.short; room = taken.room }

      module _ {s : Result Unit BadEntry} (f : s ≡ reading_of (read map)) where
        pub from-bad : {o : BadEntry} → s ≡ Err o → {w₁ : List ℕ} → w₁ ≡ replicate (length w) 0 → {y : Refusal} → y ≡ case.Entry o.offset → InspectedFrom mode code map lo w rs w₁ rs (Err y)
        from-bad {o} b {w₁} q {y} g = by_said (read map) refl
          where
            by_said : (k : Said) → read map ≡ k → InspectedFrom mode code map lo w rs w₁ rs (Err y)
            by_said (holds m) k = let j : Ok tt ≡ Err o = sym (f ∙ ap reading_of k) ∙ b in never (cc)
            by_said (bad at) k =
                let j : Err o ≡ Err (record { offset = at }) = sym b ∙ f ∙ ap reading_of k in
                let off : o ≡ record { offset = at } = cc in
                answers (bad_entry at) (taken.runs ∙ ap (looks_at (in_mode mode) code map lo) k) (ap (λ (r : Refusal). Err r) (g ∙ ap (λ (v : BadEntry). case.Entry v.offset) off)) (refl, refl) q refl

        module _ {u : Unit} (g : s ≡ Ok u) where
          pub from-ready : read map ≡ holds (map_in map)
          from-ready = by_said (read map) refl
            where
              by_said : (k : Said) → read map ≡ k → read map ≡ holds (map_in map)
              by_said (holds m) k = k ∙ ap holds (sym (holds-map map m k))
              by_said (bad o) k = let j : ◌≡◌ {A = Result Unit BadEntry} (Err (record { offset = o })) (Ok u) = sym (f ∙ ap reading_of k) ∙ g in never (cc)

          looked-is : the-answer ≡ first_of (wrong_since mode map code lo 0 0)
          unfolding from
          looked-is = taken.runs ∙ ap (looks_at (in_mode mode) code map lo) from-ready

          wrong-is : the-wrong ≡ wrong_since mode map code lo 0 0
          unfolding from
          wrong-is = ap (wrong_from (in_mode mode) code map lo) from-ready

          module _ {w₁ rs₁ : List ℕ} {r : Result Unit Wrong} (k : Found (mode_of m) map code lo w rs w₁ rs₁ r) where
            found_as : first_of (wrong_since mode map code lo 0 0) ≡ first_in r
            found_as = subst (λ (x : ℕ). first_of (wrong_since x map code lo 0 0) ≡ first_in r) good.1 k.is

            rows_as : rs₁ ≡ rows (wrong_since mode map code lo 0 0) rs
            rows_as = subst (λ (x : ℕ). rs₁ ≡ rows (wrong_since x map code lo 0 0) rs) good.1 k.are

            pub from-right : {v : Unit} → r ≡ Ok v → InspectedFrom mode code map lo w rs w₁ rs₁ (Ok tt)
            from-right q =
                let is = found_as ∙ ap first_in q in
                answers accepted (looked-is ∙ is) refl (refl, refl) k.wiped (rows_as ∙ ap (λ (xs : List WrongPath). rows xs rs) (none_wrong _ is) ∙ rows_none rs)
              where
                none_wrong : (xs : List WrongPath) → first_of xs ≡ accepted → xs ≡ []
                none_wrong [] e = refl
                none_wrong (x ∷ xs) e = never (cc)

            pub from_wrong : {v : Wrong} → r ≡ Err v → InspectedFrom mode code map lo w rs w₁ rs₁ (Err (case.Path v.offset))
            from_wrong {v} q =
                answers (not_right v.offset v.place) (looked-is ∙ found_as ∙ ap first_in q) refl (refl, refl) k.wiped (rows_as ∙ ap (λ (xs : List WrongPath). rows xs rs) (sym wrong-is))

-- ---- tell

-- they are listed in src/call.rt, and there is no answer, which would go by the number 8
pub untold : (front place : List ℕ) → length place < 8 → if (leb 8 (length place)) front place ≡ place
untold front place h = if-false (leb 8 (length place)) front place (lt-leb 8 (length place) h)

pub told : (front place : List ℕ) → 8 ≤ length place → if (leb 8 (length place)) front place ≡ front
told front place h = if-true (leb 8 (length place)) front place (le-leb 8 (length place) h)

-- ---- inspect: of the first row the place

-- what is said, by the list of those that are not right
data SaysFirst (xs : List WrongPath) : Inspection → Type 0 where
  refuses : {n : ℕ} → n ≤ 13 → SaysFirst xs (refused n)
  is_bad : {o : ℕ} → SaysFirst xs (bad_entry o)
  none_wrong : SaysFirst xs accepted
  first_wrong : {x : WrongPath} {ys : List WrongPath} → xs ≡ x ∷ ys → SaysFirst xs (not_right x.offset x.place)

says-looked : (xs : List WrongPath) → SaysFirst xs (first_of xs)
says-looked [] = none_wrong
says-looked (x ∷ xs) = first_wrong refl

says-read : (rules : Rules) (code map : List ℕ) (lo : ℕ) (r : Said) → SaysFirst (wrong_from rules code map lo r) (looks_at rules code map lo r)
says-read rules code map lo (bad o) = is_bad
says-read rules code map lo (holds m) = says-looked _

says : (rules : Rules) (code map : List ℕ) (lo work : ℕ) → SaysFirst (wrong_from rules code map lo (read map)) (inspect_from rules code map lo work)
unfolding inspect_from
says rules code map lo work =
    both (SaysFirst (wrong_from rules code map lo (read map))) (ltb longest (length code)) (λ _. refuses (omega arith))
    (λ _. both (SaysFirst (wrong_from rules code map lo (read map))) (ltb 1 rules.mode) (λ _. refuses (omega arith))
    (λ _. both (SaysFirst (wrong_from rules code map lo (read map))) (ltb work (work_need (length code))) (λ _. refuses (omega arith))
    (λ _. says-read rules code map lo (read map))))

module _ {mode : ℕ} {code map w row w' row' : List ℕ} {r : Result Unit Refusal} (long : length row ≡ 16) (f : InspectedFrom mode code map 0 w row w' row' r) (place : List ℕ) where
  -- the place alone is asked for
  placed : {place' : List ℕ} → place' ≡ place_after (inspect (in_mode mode) code map (length w)) place → InspectedAs mode code map w place w' place' r
  placed e = record { result = f.result; w_is = f.w_is; place_is = e }

  number_is : number_in r ≡ number_of (inspect (in_mode mode) code map (length w))
  number_is = f.result.number

  pub inspect-wrong : number_in r ≡ 17 → {place' : List ℕ} → Tells place row' place' → InspectedAs mode code map w place w' place' r
  inspect-wrong q {place'} t = placed (go (says (in_mode mode) code map 0 (length w)) (sym q ∙ number_is) f.rows_are)
    where
      second : (o p : ℕ) (l : List ℕ) → take 8 (drop 8 (little 8 o ++ little 8 p ++ l)) ≡ little 8 p
      second o p l =
          ap (λ (n : ℕ). take 8 (drop n (little 8 o ++ little 8 p ++ l))) (sym (length-little 8 o)) ∙ ap (take 8) (drop-append_seam (little 8 o) (little 8 p ++ l))
          ∙ ap (λ (n : ℕ). take n (little 8 p ++ l)) (sym (length-little 8 p)) ∙ take-append_seam (little 8 p) l

      go : {xs : List WrongPath} {i : Inspection} → SaysFirst xs i → 17 ≡ number_of i → row' ≡ rows_after i xs row → place' ≡ place_after i place
      go (refuses h) e k = absurd (omega (arith, h, e))
      go is_bad e k = absurd (omega (arith, e))
      go none_wrong e k = absurd (omega (arith, e))
      go (first_wrong {x} {ys} z) e k =
          let is : row' ≡ little 8 x.offset ++ little 8 x.place ++ rows ys (drop 16 row) = k ∙ ap (λ (l : List WrongPath). rows l row) z ∙ rows_more x ys row (omega (arith, long)) in
          t.is ∙ ap (λ (l : List ℕ). if (leb 8 (length place)) (take 8 (drop 8 l) ++ drop 8 place) place) is
          ∙ ap (λ (l : List ℕ). if (leb 8 (length place)) (l ++ drop 8 place) place) (second x.offset x.place (rows ys (drop 16 row)))
