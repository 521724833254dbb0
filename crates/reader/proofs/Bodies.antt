-- A body's numbers, read where they stand among the bytes, and the ways out of the functions that read a body. Assumes nothing.
use mathlib.Core.Path.{◌≡◌, refl, sym, ap, ◌∙◌}
use mathlib.Core.Bool.{Bool}
use mathlib.Core.List.{List}
use Prim.Native.Nat.{ℕ, ◌+◌, ◌*◌, ◌≤◌, ◌<◌}
use native.Mathlib.Nat.{le_refl}
use native.Mathlib.Omega.{arith}
use lib.Dec.{eqb}
use Rattle.std.specs.Prelude.{Option, Some, None, Result, Ok, Err}
use lib.ListN.{length, take, drop}
use lib.Seq.{take-take, drop-drop}
use borrow.Author.Tests.{eq-eqb, ne_eqb, eqb-true, eqb-false}
use Rattle.spec.specs.Lists.{number}
use Rattle.spec.specs.Entries.{absent}
use Rattle.spec.specs.Forms.{field, Sort, HEAD, BLOCK, WAY, RECORD, TERMINATE, JUMP, JUMPI, DYNAMIC-JUMP, DYNAMIC-JUMPI, long}
use Rattle.laws.proofs.Branch.{both, if-true, if-false}
use Rattle.theorems.proofs.ReaderPlaces.{never}
use Rattle.lent.specs.Bytes.{num_at, Holds}
use Rattle.lent.proofs.Parts.{length_part, part-prefix}
use Rattle.reader.specs.Dests.{goes_to}
use Rattle.reader.specs.Shapes.{path_of, number_of, numbers, known, shape}
use Rattle.reader.specs.declared.entry.Entry.TheVariants.{Head, Terminate, Jump, Jumpi, DynamicJump, DynamicJumpi, Way, Record}
use Rattle.reader.specs.declared.entry.Fault.{Fault}
use Rattle.reader.specs.declared.entry.Fault.TheVariants.{Wrong}
use Rattle.reader.specs.declared.body.Path.{Path}

-- the number at a place, and as a field of the bytes from a place on
pub placed : {k j v : ℕ} {b : List ℕ} (at i : ℕ) → Holds k b j v → j ≡ at + i → v ≡ field i k (drop at b)
unfolding num_at
placed {k} {j} {v} {b} at i h e = h.is ∙ rw (e, ← drop-drop i at b)

-- a number as a field of a body
pub held : {k j v : ℕ} {b : List ℕ} (at n i : ℕ) → Holds k b j v → j ≡ at + i → i + k ≤ n → v ≡ field i k (take n (drop at b))
held {k} {j} {v} {b} at n i h e f = placed at i h e ∙ sym (ap number (part-prefix (take n (drop at b)) (drop at b) n (take-take n n (drop at b) (le_refl n)) k i f))

module _ (b : List ℕ) (at n : ℕ) (room : at + n ≤ length b) where
  abbrev body : List ℕ
  body = take n (drop at b)

  -- the length that the kind says, or another
  fit : (s : Sort) → n ≡ long s body → known s (numbers at s body) ≡ shape at s body
  unfolding shape
  fit s e = ap (known s) (sym (if-true (eqb (length body) (long s body)) _ _ (eq-eqb _ _ (length_part n at b room ∙ e))))

  misfit : (s : Sort) → (n ≡ long s body → ⊥) → known s (Err Wrong) ≡ shape at s body
  unfolding shape
  misfit s f = ap (known s) (sym (if-false (eqb (length body) (long s body)) _ _ (ne_eqb _ _ (λ e. f (sym (length_part n at b room) ∙ e)))))

  -- ---- the ways out

  pub head-wrong : (n ≡ 12 → ⊥) → Err Wrong ≡ shape at HEAD body
  head-wrong f = misfit HEAD f

  pub head-right : {s k m e : ℕ} → n ≡ 12 → Holds 2 b at s → Holds 2 b (at + 2) k → Holds 4 b (at + 4) m → Holds 4 b (at + 8) e → Ok (Head s k m e) ≡ shape at HEAD body
  head-right q hs hk hm he =
      let fs = held at n 0 hs (omega arith) (omega arith) in
      let fk = held at n 2 hk refl (omega arith) in
      let fm = held at n 4 hm refl (omega arith) in
      let fe = held at n 8 he refl (omega arith) in
      cc (fit HEAD q)

  pub terminate-wrong : (n ≡ 5 → ⊥) → Err Wrong ≡ shape at (BLOCK TERMINATE) body
  terminate-wrong f = misfit (BLOCK TERMINATE) f

  pub terminate-right : {s e ok : ℕ} → n ≡ 5 → Holds 2 b at s → Holds 2 b (at + 2) e → Holds 1 b (at + 4) ok → Ok (Terminate s e ok) ≡ shape at (BLOCK TERMINATE) body
  terminate-right q hs he hk =
      let fs = held at n 0 hs (omega arith) (omega arith) in
      let fe = held at n 2 he refl (omega arith) in
      let fk = held at n 4 hk refl (omega arith) in
      cc (fit (BLOCK TERMINATE) q)

  pub jump-wrong : (n ≡ 6 → ⊥) → Err Wrong ≡ shape at (BLOCK JUMP) body
  jump-wrong f = misfit (BLOCK JUMP) f

  pub jump-right : {s e t : ℕ} → n ≡ 6 → Holds 2 b at s → Holds 2 b (at + 2) e → Holds 2 b (at + 4) t → Ok (Jump s e t) ≡ shape at (BLOCK JUMP) body
  jump-right q hs he ht =
      let fs = held at n 0 hs (omega arith) (omega arith) in
      let fe = held at n 2 he refl (omega arith) in
      let ft = held at n 4 ht refl (omega arith) in
      cc (fit (BLOCK JUMP) q)

  pub jumpi-wrong : (n ≡ 8 → ⊥) → Err Wrong ≡ shape at (BLOCK JUMPI) body
  jumpi-wrong f = misfit (BLOCK JUMPI) f

  pub jumpi-right : {s e t f : ℕ} → n ≡ 8 → Holds 2 b at s → Holds 2 b (at + 2) e → Holds 2 b (at + 4) t → Holds 2 b (at + 6) f → Ok (Jumpi s e t f) ≡ shape at (BLOCK JUMPI) body
  jumpi-right q hs he ht hf =
      let fs = held at n 0 hs (omega arith) (omega arith) in
      let fe = held at n 2 he refl (omega arith) in
      let ft = held at n 4 ht refl (omega arith) in
      let ff = held at n 6 hf refl (omega arith) in
      cc (fit (BLOCK JUMPI) q)

  pub dynamic_jump-wrong : (n ≡ 8 → ⊥) → Err Wrong ≡ shape at (BLOCK DYNAMIC-JUMP) body
  dynamic_jump-wrong f = misfit (BLOCK DYNAMIC-JUMP) f

  pub dynamic_jump-right : {s e c : ℕ} → n ≡ 8 → Holds 2 b at s → Holds 2 b (at + 2) e → Holds 4 b (at + 4) c → Ok (DynamicJump s e c) ≡ shape at (BLOCK DYNAMIC-JUMP) body
  dynamic_jump-right q hs he hc =
      let fs = held at n 0 hs (omega arith) (omega arith) in
      let fe = held at n 2 he refl (omega arith) in
      let fc = held at n 4 hc refl (omega arith) in
      cc (fit (BLOCK DYNAMIC-JUMP) q)

  pub dynamic_jumpi-wrong : (n ≡ 10 → ⊥) → Err Wrong ≡ shape at (BLOCK DYNAMIC-JUMPI) body
  dynamic_jumpi-wrong f = misfit (BLOCK DYNAMIC-JUMPI) f

  pub dynamic_jumpi-right : {s e f c : ℕ} → n ≡ 10 → Holds 2 b at s → Holds 2 b (at + 2) e → Holds 2 b (at + 4) f → Holds 4 b (at + 6) c
      → Ok (DynamicJumpi s e f c) ≡ shape at (BLOCK DYNAMIC-JUMPI) body
  dynamic_jumpi-right q hs he hf hc =
      let fs = held at n 0 hs (omega arith) (omega arith) in
      let fe = held at n 2 he refl (omega arith) in
      let ff = held at n 4 hf refl (omega arith) in
      let fc = held at n 6 hc refl (omega arith) in
      cc (fit (BLOCK DYNAMIC-JUMPI) q)

  -- ---- the path of a path entry

  module _ (i : ℕ) where
    abbrev long? : Bool
    long? = eqb (length body) (i + 4 + 2 * field i 4 body)

    path-off : (n ≡ i + 4 + 2 * field i 4 body → ⊥) → Err Wrong ≡ path_of at i body
    path-off f = sym (if-false long? _ _ (ne_eqb _ _ (λ e. f (sym (length_part n at b room) ∙ e))))

    pub path-short : n < i + 4 → Err Wrong ≡ path_of at i body
    path-short h = path-off (λ e. omega arith)

    module _ {c : ℕ} (h : i + 4 ≤ n) (hc : Holds 4 b (at + i) c) where
      pub path-wrong : (n ≡ i + 4 + 2 * c → ⊥) → Err Wrong ≡ path_of at i body
      path-wrong f = path-off (λ e. f (omega (arith, held at n i hc refl h)))

      pub path-right : n ≡ i + 4 + 2 * c → Ok (record { at = at + i + 4; count = c }) ≡ path_of at i body
      path-right q =
          let fc = held at n i hc refl h in
          let e : at + i + 4 ≡ at + (i + 4) = omega arith in
          rw (e, fc) (sym (if-true long? _ _ (eq-eqb _ _ (length_part n at b room ∙ rw fc at q))))

  -- what one that is there says
  record Pathed (i path c : ℕ) : Type 0 where
    long_is : n ≡ i + 4 + 2 * c
    path_is : path ≡ at + (i + 4)
    count_is : c ≡ field i 4 body

  module _ (i : ℕ) {r : Result Path Fault} (e : r ≡ path_of at i body) where
    path-there : {p : Path} → r ≡ Ok p → Pathed i p.at p.count
    path-there {p} q =
        both (λ (x : Result Path Fault). r ≡ x → Pathed i p.at p.count) (long? i)
        (λ y h. let g : p ≡ record { at = at + (i + 4); count = field i 4 body } = cc in
        record { long_is = omega (arith, eqb-true _ _ y, length_part n at b room, ap (λ (x : Path). x.count) g); path_is = ap (λ (x : Path). x.at) g; count_is = ap (λ (x : Path). x.count) g })
        (λ _ (h : r ≡ Err Wrong). never (cc)) e

    -- or what is wrong
    path-none : {f : Fault} → r ≡ Err f → (s : Sort) → long s body ≡ i + 4 + 2 * field i 4 body → known s (Err Wrong) ≡ Err Wrong → Err f ≡ shape at s body
    path-none {f} q s l k =
        both (λ (x : Result Path Fault). r ≡ x → Err f ≡ shape at s body) (long? i)
        (λ y (h : r ≡ Ok (record { at = at + (i + 4); count = field i 4 body })). never (cc))
        (λ z h. let g : Err f ≡ Err Wrong = cc in g ∙ sym k ∙ misfit s (λ v. eqb-false _ _ z (length_part n at b room ∙ v ∙ l))) e

  -- a path that is there leaves room for what stands before its length
  module _ (i : ℕ) {r : Result Path Fault} (e : r ≡ path_of at i body) {p : Path} (q : r ≡ Ok p) where
    pub path-room : i + 4 ≤ n
    path-room = omega (arith, (path-there i e q).long_is)

  module _ (wide : Bool) {r : Result Path Fault} {f : Fault} where
    pub way-wrong : r ≡ path_of at 2 body → r ≡ Err f → Err f ≡ shape at (WAY (absent wide)) body
    way-wrong e q = path-none 2 e q (WAY (absent wide)) refl refl

    pub record-wrong : r ≡ path_of at 4 body → r ≡ Err f → Err f ≡ shape at (RECORD 4 (absent wide)) body
    record-wrong e q = path-none 4 e q (RECORD 4 (absent wide)) refl refl

    pub numbered-wrong : r ≡ path_of at 8 body → r ≡ Err f → Err f ≡ shape at (RECORD 8 (absent wide)) body
    numbered-wrong e q = path-none 8 e q (RECORD 8 (absent wide)) refl refl

  module _ (wide : Bool) {r : Result Path Fault} {p : Path} (q : r ≡ Ok p) {d : Option ℕ} {t : ℕ} (g : d ≡ goes_to (absent wide) t) where
    pub way-right : r ≡ path_of at 2 body → Holds 2 b at t → Ok (Way d p.at p.count) ≡ shape at (WAY (absent wide)) body
    way-right e ht =
        let w = path-there 2 e q in
        let ft = held at n 0 ht (omega arith) (omega (arith, w.long_is)) in
        let fp = w.path_is in
        let fc = w.count_is in
        cc (fit (WAY (absent wide)) (omega (arith, w.long_is)))

    module _ {s : ℕ} (hs : Holds 2 b at s) (ht : Holds 2 b (at + 2) t) where
      pub record-right : r ≡ path_of at 4 body → Ok (Record s d None p.at p.count) ≡ shape at (RECORD 4 (absent wide)) body
      record-right e =
          let w = path-there 4 e q in
          let fs = held at n 0 hs (omega arith) (omega (arith, w.long_is)) in
          let ft = held at n 2 ht refl (omega (arith, w.long_is)) in
          let fv : number_of 4 body ≡ None = if-false (eqb 4 8) _ _ refl in
          let fp = w.path_is in
          let fc = w.count_is in
          cc (fit (RECORD 4 (absent wide)) (omega (arith, w.long_is)))

      pub numbered-right : {v : ℕ} → r ≡ path_of at 8 body → Holds 4 b (at + 4) v → Ok (Record s d (Some v) p.at p.count) ≡ shape at (RECORD 8 (absent wide)) body
      numbered-right {v} e hv =
          let w = path-there 8 e q in
          let fs = held at n 0 hs (omega arith) (omega (arith, w.long_is)) in
          let ft = held at n 2 ht refl (omega (arith, w.long_is)) in
          let fv : number_of 8 body ≡ Some v = if-true (eqb 8 8) _ _ refl ∙ ap Some (sym (held at n 4 hv refl (omega (arith, w.long_is)))) in
          let fp = w.path_is in
          let fc = w.count_is in
          cc (fit (RECORD 8 (absent wide)) (omega (arith, w.long_is)))
