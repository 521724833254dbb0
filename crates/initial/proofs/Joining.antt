-- The cutting and the checks together are the blocks of document 01: a destination past any code lands nowhere, cut off or not. Assumes nothing.
use mathlib.Core.Path.{◌≡◌, refl, sym, ap, ap₂, ◌∙◌}
use mathlib.Core.Bool.{Bool, true, false}
use mathlib.Core.List.{List, [], ◌∷◌, map}
use Prim.Native.Nat.{ℕ, ◌-◌, ◌≤◌, ◌<◌, min}
use native.Mathlib.Omega.{arith}
use native.Mathlib.Decide.{dec_le}
use lib.ListN.{length, take}
use Rattle.spec.specs.Lists.{if, mem}
use Rattle.spec.specs.Opcodes.{row}
use Rattle.spec.specs.Walk.{instructions}
use Rattle.spec.specs.Blocks.{Kind, terminate, jump, jumpi, dynamic_jump, dynamic_jumpi, Block, with_kind, lands, checked, starts, check_all, blocks}
use Rattle.lent.proofs.Parts.{drop_more}
use Rattle.laws.proofs.Branch.{if-false}
use Rattle.theorems.proofs.Counts.{lawful}
use Rattle.theorems.proofs.Cutting.{Ordered, then, ordered}
use Rattle.layout.specs.Parts.{rows_end, starts_place, start_place}
use Rattle.initial.specs.Rows.{blocks_at}
use Rattle.initial.specs.Turn.{clip, clipped}
use Rattle.initial.specs.Promises.{Lent, Written, Apart, no_more, one_more, cutting, CheckedAll, Initial}
use Rattle.initial.proofs.Rows.{start_inside}

-- a test that nothing past the code passes
no_start : (n t : ℕ) (b : Bool) → (b ≡ true → t ≤ n) → n < t → b ≡ false
no_start n t true h l = absurd (let k = h refl in omega arith)
no_start n t false h l = refl

module _ (code ss : List ℕ) (n : ℕ) (small : n < 0xFFFF) (inside : (t : ℕ) → mem t ss ≡ true → t ≤ n) where
  nowhere : (t : ℕ) → n < t → lands code ss t ≡ false
  nowhere t h = rw (no_start n t (mem t ss) (inside t) h)

  -- the destination stays, or neither it nor what stands for it lands
  by-clip : (F : ℕ → Type 0) (t : ℕ) → F t → (lands code ss t ≡ false → lands code ss 0xFFFF ≡ false → F 0xFFFF) → F (min t 0xFFFF)
  by-clip F t f g = go (dec_le t 0xFFFF)
    where
      go : Dec (t ≤ 0xFFFF) → F (min t 0xFFFF)
      go (yes h) = let e : min t 0xFFFF ≡ t = omega arith in rw e f
      go (no h) = let e : min t 0xFFFF ≡ 0xFFFF = omega arith in rw e (g (nowhere t (omega arith)) (nowhere 0xFFFF small))

  clip-jump : (t : ℕ) → checked code ss (jump (min t 0xFFFF)) ≡ checked code ss (jump t)
  clip-jump t =
      by-clip (λ (v : ℕ). checked code ss (jump v) ≡ checked code ss (jump t)) t refl
      (λ p q. if-false _ _ _ q ∙ sym (if-false _ _ _ p))

  clip-checked : (k : Kind) → checked code ss (clip k) ≡ checked code ss k
  clip-checked (terminate success) = refl
  clip-checked (jump t) = clip-jump t
  clip-checked (jumpi t f) =
      by-clip (λ (v : ℕ). checked code ss (jumpi v f) ≡ checked code ss (jumpi t f)) t refl
      (λ p q. ap (λ (k : Kind). if (mem f ss) k (terminate false)) (if-false _ _ _ q ∙ sym (if-false _ _ _ p)))
  clip-checked dynamic_jump = refl
  clip-checked (dynamic_jumpi f) = refl

  clip-map : (bs : List Block) → map (λ (b : Block). with_kind (checked code ss b.kind) b) (map clipped bs) ≡ map (λ (b : Block). with_kind (checked code ss b.kind) b) bs
  clip-map [] = refl
  clip-map (b ∷ bs) = ap₂ {C = List Block} (λ (k : Kind) (cs : List Block). with_kind k b ∷ cs) (clip-checked b.kind) (clip-map bs)

clip-starts : (bs : List Block) → starts (map clipped bs) ≡ starts bs
clip-starts [] = refl
clip-starts (b ∷ bs) = ap {B = List ℕ} (λ (ns : List ℕ). b.start ∷ ns) (clip-starts bs)

clip-all : (code : List ℕ) (bs : List Block) (n : ℕ) → n < 0xFFFF → ((t : ℕ) → mem t (starts bs) ≡ true → t ≤ n) → check_all code (map clipped bs) ≡ check_all code bs
clip-all code bs n h g = rw (clip-starts bs) (clip-map code (starts bs) n h g bs)

blocks-checked : (code : List ℕ) → check_all code (cutting code) ≡ blocks row code (instructions code)
unfolding cutting blocks
blocks-checked [] = refl
blocks-checked (b ∷ code) = refl

-- the cutting's blocks are apart as the document's are, of which only kinds differ
spaced : (code : List ℕ) (f g : Kind → Kind) (bs : List Block) {lo : ℕ} → Ordered row code lo (map (λ (b : Block). with_kind (f b.kind) b) bs)
    → Apart (length code) lo (map (λ (b : Block). with_kind (g b.kind) b) bs)
spaced code f g [] o = no_more
spaced code f g (b ∷ bs) (then l m h o) = one_more l m.forward (omega (arith, m.end_inside)) (spaced code f g bs o)

pub cut_apart : (code : List ℕ) {w v : List ℕ} → Written (length code) (map clipped (cutting code)) w v → Apart (length code) 0 (blocks_at v (length code))
cut_apart code c =
    let o : Ordered row code 0 (check_all code (cutting code)) = rw (blocks-checked code) (ordered lawful code) in
    rw c.blocks (spaced code _ clip (cutting code) o)

pub joined : {code w v u : List ℕ} {many : ℕ} → Lent code w → Written (length code) (map clipped (cutting code)) w v → CheckedAll code v u many → Initial code w u many
joined {code} {w} {v} {u} {many} l c d =
    let inside : (t : ℕ) → mem t (starts (cutting code)) ≡ true → t ≤ length code =
    λ t e. start_inside v t (length code) (rw (c.blocks, clip-starts (cutting code)) e) in
    record {
      same = d.same ∙ ap (check_all code) c.blocks ∙ clip-all code (cutting code) (length code) (omega arith) inside ∙ blocks-checked code;
      laid = d.laid;
      listed = d.listed;
      few = d.few;
      between = d.between ∙ ap (λ (x : List ℕ). take (starts_place (length code) - rows_end (length code)) x) c.beyond.others;
      past = d.past ∙ drop_more v w (rows_end (length code)) c.beyond.others (start_place (length code) many) (omega arith);
      kept = d.kept ∙ c.beyond.kept;
    }
