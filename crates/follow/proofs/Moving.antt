-- A step of the code is the definitions' move. Assumes nothing.
use Rattle.std.proofs.Common.{◌≡◌, ℕ, suc, ◌+◌, ◌<◌, ◌≤◌, Bool, true, false, ◌&&◌, eqb, ltb, leb, List, [], ◌∷◌, length, sym, ap, ◌∙◌, subst, arith, length-append, w64, Fits, le-ltb, lt-ltb, eq-eqb, ne_eqb, eqb-true, Option as Maybe, Some, None}
use mathlib.Core.Option.{Option, some}
use Rattle.spec.specs.Lists.{if, mem}
use Rattle.spec.specs.Opcodes.{row}
use Rattle.spec.specs.Ending.{Final}
use Rattle.spec.specs.Entries.{Map}
use Rattle.spec.specs.Follow as spec
use Rattle.spec.specs.Follow.{starts_at, outgoing, starting, outside, inside, not_in_map, stays_in, begins, takes, beginning, taking, size_at, move}
use Rattle.laws.proofs.Branch.{both, if-true, if-false}
use Rattle.laws.proofs.Members.{In, here, in_right, in_mem}
use Rattle.theorems.proofs.ReaderPlaces.{never}
use Rattle.evm.specs.Rows.{SizeIs}
use Rattle.evm.proofs.Listed.{row-size}
use Rattle.follow.specs.Blocks.{finals_at}
use Rattle.follow.specs.Places.{PlaceOf, place_in}
use Rattle.follow.specs.Finding.{slots_of, Ready, Placed, FoundAt, found_in}
use Rattle.follow.specs.Edges.{PlaceSo}
use Rattle.follow.specs.Stepping.{StandsAs, out_there, in_block, Stood, Standing, EdgeOf, MoveAs, no_move, goes_on, begins_with, takes_to, BeginsSo, edge_of, EdgeSo, on_of, InsideSo, StepsSo}
use Rattle.follow.specs.declared.block.Block.{Block}
use Rattle.follow.specs.declared.find.Counted.{Counted}
use Rattle.follow.specs.declared.step.Stand.{Stand}
use Rattle.follow.specs.declared.step.Move.{Move}
use Rattle.follow.specs.declared.step.Move.TheVariants.{Stays, Begins, Takes}
use Rattle.follow.proofs.Passing.{slots-append, slots-first}

-- ---- begin

module _ (b : List ℕ) {q : ℕ} where
  pub begin-other : (q ≡ 0 → ⊥) → BeginsSo b q None
  begin-other n = subst (λ (v : spec.Move). MoveAs b v None) (sym (if-false (eqb q 0) _ _ (ne_eqb q 0 n))) no_move

  at_zero : q ≡ 0 → (v : Maybe Move) → MoveAs b (beginning (starting 0 (finals_at b 0))) v → BeginsSo b q v
  at_zero z v k = subst (λ (x : spec.Move). MoveAs b x v) (sym (if-true (eqb q 0) _ _ (eq-eqb q 0 z))) k

  module _ (z : q ≡ 0) {r : Maybe Counted} (h : found_in b 0 r) where
    pub begin-none : r ≡ None → BeginsSo b q None
    begin-none e = at_zero z None (subst (λ (o : Option Final). MoveAs b (beginning o) None) (sym (subst (found_in b 0) e h)) no_move)

    pub begin-at : {k : Counted} → r ≡ Some k → BeginsSo b q (Some (Begins k))
    begin-at {k} e =
        let f : FoundAt b 0 k.block k.slot = subst (found_in b 0) e h in
        at_zero z (Some (Begins k)) (subst (λ (o : Option Final). MoveAs b (beginning o) (Some (Begins k))) (sym f.starts) (begins_with f.placed))

-- ---- edge

starting-starts : (q : ℕ) (fs : List Final) (g : Final) → starting q fs ≡ some g → starts_at g ≡ q
unfolding starting
starting-starts q [] g e = never (cc)
starting-starts q (f ∷ fs) g e =
    both (λ (o : Option Final). o ≡ some g → starts_at g ≡ q) (eqb q (starts_at f))
    (λ on (k : some f ≡ some g). let same : f ≡ g = cc in ap starts_at (sym same) ∙ sym (eqb-true q (starts_at f) on)) (λ _ k. starting-starts q fs g k) e

module _ {b : List ℕ} {f : Final} {k : Block} {slot : ℕ} (p : Placed b f k slot) where
  pub slot-low : slot + suc (length (outgoing f)) ≤ slots_of (finals_at b 0)
  slot-low =
      let s = ap slots_of p.is ∙ slots-append p.before (f ∷ p.after) in
      let t = slots-first f p.after in
      omega (arith, p.slot_is)

pub edge-one : {b : List ℕ} {k : Counted} → Ready b → Stood b k → Fits w64 (k.slot + 1)
edge-one y d = omega (arith, slot-low d.placed, y.few)

pub place-low : {q n : ℕ} {ds : List ℕ} → PlaceOf q ds n → n < length ds
place-low {q} p = omega (arith, p.place, ap length p.is, length-append p.before (q ∷ p.behind))

module _ (b : List ℕ) (k : Counted) (q : ℕ) {r : Maybe ℕ} (h : PlaceSo b k q r) where
  pub edge-not : r ≡ None → EdgeSo b k q None
  edge-not e =
      record {
        so = λ f p.
            let m : mem q (outgoing f) ≡ false = subst (place_in q (outgoing f)) e (h.so f p) in
            subst (λ (v : spec.Move). MoveAs b v None) (sym (if-false (mem q (outgoing f)) _ _ m)) no_move;
      }

  module _ {n : ℕ} (e : r ≡ Some n) where
    place : {f : Final} → Placed b f k.block k.slot → PlaceOf q (outgoing f) n
    place {f} p = subst (place_in q (outgoing f)) e (h.so f p)

    pub edge-sum : Ready b → Stood b k → Fits w64 (k.slot + 1 + n)
    edge-sum y d = omega (arith, slot-low d.placed, y.few, place-low (place d.placed))

    module _ {x : Maybe Counted} (g : found_in b q x) where
      pub edge-nowhere : x ≡ None → EdgeSo b k q None
      edge-nowhere z =
          record {
            so = λ f p.
                both (λ (v : spec.Move). MoveAs b v None) (mem q (outgoing f))
                (λ _. subst (λ (o : Option Final). MoveAs b (taking f o) None) (sym (subst (found_in b q) z g)) no_move) (λ _. no_move);
          }

      pub edge-takes : {to : Counted} → x ≡ Some to → EdgeSo b k q (Some (Takes (k.slot + 1 + n) to))
      edge-takes {to} z = record { so = λ f p. goes f p (subst (found_in b q) z g) }
        where
          goes : (f : Final) → Placed b f k.block k.slot → FoundAt b q to.block to.slot → MoveAs b (edge_of b f q) (Some (Takes (k.slot + 1 + n) to))
          goes f p t =
              let l = place p in
              let i : In q (outgoing f) = subst (λ (ds : List ℕ). In q ds) (sym l.is) (in_right l.before here) in
              let o : EdgeOf b f q (k.slot + 1 + n) = record { before = p.before; after = p.after; is = p.is; n = n; place = l; edge_is = ap (λ (s : ℕ). s + 1 + n) p.slot_is } in
              let v : MoveAs b (takes f t.final) (Some (Takes (k.slot + 1 + n) to)) = takes_to (subst (λ (a : ℕ). EdgeOf b f a (k.slot + 1 + n)) (sym (starting-starts q (finals_at b 0) t.final t.starts)) o) t.placed in
              subst (λ (w : spec.Move). MoveAs b w (Some (Takes (k.slot + 1 + n) to)))
              (sym (if-true (mem q (outgoing f)) _ _ (in_mem q i) ∙ ap (taking f) t.starts)) v

-- ---- size

pub size_is : {op s : ℕ} → SizeIs op s → op < 256 → s ≡ (row op).size
size_is {op} h l = h.size ∙ sym (row-size op l)

-- ---- inside

module _ (b code : List ℕ) (s : Stand) (q : ℕ) where
  abbrev inside_of : Final → spec.Move
  inside_of f = if (ltb s.pc (length code)) (if (eqb s.pc f.block.end) (edge_of b f q) (on_of code f s.pc q)) not_in_map

  pub inside_past : length code ≤ s.pc → InsideSo b code s q None
  inside_past l = record { so = λ f p. subst (λ (v : spec.Move). MoveAs b v None) (sym (if-false (ltb s.pc (length code)) _ _ (le-ltb s.pc (length code) l))) no_move }

  module _ (l : s.pc < length code) where
    in_code : {r : Maybe Move} (f : Final) → MoveAs b (if (eqb s.pc f.block.end) (edge_of b f q) (on_of code f s.pc q)) r → MoveAs b (inside_of f) r
    in_code {r} f v = subst (λ (x : spec.Move). MoveAs b x r) (sym (if-true (ltb s.pc (length code)) _ _ (lt-ltb s.pc (length code) l))) v

    pub inside-edge : s.pc ≡ s.at.block.end → {r : Maybe Move} → EdgeSo b s.at q r → InsideSo b code s q r
    inside-edge e {r} h =
        record {
          so = λ f p.
              in_code f (subst (λ (x : spec.Move). MoveAs b x r) (sym (if-true (eqb s.pc f.block.end) _ _ (eq-eqb s.pc f.block.end (e ∙ p.block.end)))) (h.so f p));
        }

    module _ (n : s.pc ≡ s.at.block.end → ⊥) {t : Bool} (h : t ≡ (eqb q (s.pc + size_at code s.pc) && leb q s.at.block.end)) where
      before-end : {r : Maybe Move} (f : Final) → Placed b f s.at.block s.at.slot → MoveAs b (on_of code f s.pc q) r → MoveAs b (inside_of f) r
      before-end {r} f p v = in_code f (subst (λ (x : spec.Move). MoveAs b x r) (sym (if-false (eqb s.pc f.block.end) _ _ (ne_eqb s.pc f.block.end (λ e. n (e ∙ sym p.block.end))))) v)

      test : {f : Final} → Placed b f s.at.block s.at.slot → t ≡ (eqb q (s.pc + size_at code s.pc) && leb q f.block.end)
      test p = h ∙ ap (λ (e : ℕ). eqb q (s.pc + size_at code s.pc) && leb q e) p.block.end

      pub inside-stays : t ≡ true → InsideSo b code s q (Some (Stays s.at))
      inside-stays z =
          record { so = λ f p. before-end f p (subst (λ (x : spec.Move). MoveAs b x (Some (Stays s.at))) (sym (if-true _ (stays_in f) not_in_map (sym (test p) ∙ z))) (goes_on p)) }

      pub inside-not : t ≡ false → InsideSo b code s q None
      inside-not z =
          record { so = λ f p. before-end f p (subst (λ (x : spec.Move). MoveAs b x None) (sym (if-false _ (stays_in f) not_in_map (sym (test p) ∙ z))) no_move) }

-- ---- step

module _ (b code : List ℕ) (q : ℕ) where
  pub step-begins : {s : Maybe Stand} {r : Maybe Move} → BeginsSo b q r → s ≡ None → StepsSo b code s q r
  unfolding move
  step-begins {s} {r} h e = record { so = λ m at g a. by-stand m at g (subst (λ (x : Maybe Stand). StandsAs b x at) e a) }
    where
      by-stand : (m : Map) (at : spec.Stand) → m.blocks ≡ finals_at b 0 → StandsAs b None at → MoveAs b (move m code at q) r
      by-stand m outside g out_there = subst (λ (fs : List Final). MoveAs b (if (eqb q 0) (beginning (starting 0 fs)) not_in_map) r) (sym g) h
      by-stand m (inside _ _) g x4 = elim x4 [ ]

  pub step-inside : {s : Maybe Stand} {x : Stand} {r : Maybe Move} → InsideSo b code x q r → s ≡ Some x → StepsSo b code s q r
  unfolding move
  step-inside {s} {x} {r} h e = record { so = λ m at g a. by-stand m at g (subst (λ (x : Maybe Stand). StandsAs b x at) e a) }
    where
      by-stand : (m : Map) (at : spec.Stand) → m.blocks ≡ finals_at b 0 → StandsAs b (Some x) at → MoveAs b (move m code at q) r
      by-stand m (inside f pc) g (in_block p) =
          subst (λ (fs : List Final). MoveAs b (if (ltb x.pc (length code)) (if (eqb x.pc f.block.end) (if (mem q (outgoing f)) (taking f (starting q fs)) not_in_map) (on_of code f x.pc q)) not_in_map) r) (sym g) (h.so f p)
      by-stand m outside g x'' = elim x'' [ ]

pub step-stood : {b : List ℕ} {s : Maybe Stand} {x : Stand} → Standing b s → s ≡ Some x → Stood b x.at
step-stood {b} {s} {x} d e = by-stand d.at (subst (λ (y : Maybe Stand). StandsAs b y d.at) e d.stands)
  where
    by-stand : (at : spec.Stand) → StandsAs b (Some x) at → Stood b x.at
    by-stand (inside f pc) (in_block p) = record { final = f; placed = p }
    by-stand outside x' = elim x' [ ]
