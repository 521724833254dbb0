-- The blocks that are kept: one or none more, the loop over the addresses, and the brackets. Assumes nothing.
use mathlib.Core.Path.{◌≡◌, sym, ◌∙◌}
use mathlib.Core.Bool.{Bool, true, false}
use mathlib.Core.List.{List, [], ◌∷◌, ◌++◌}
use Prim.Native.Nat.{ℕ, ◌+◌, ◌*◌, ◌^◌, ◌≤◌, ◌<◌}
use native.Mathlib.Omega.{arith}
use lib.ListN.{length}
use Rattle.spec.specs.Lists.{keep}
use Rattle.lent.specs.Bytes.{Holds}
use Rattle.layout.specs.Parts.{start_place}
use Rattle.layout.specs.Rows.{tag_at}
use Rattle.initial.specs.Rows.{Listed}
use Rattle.entries.specs.Rows.{upto, kept, kept_below}
use Rattle.output.specs.declared.Output.{Output}
use Rattle.output.specs.Promises.{PutsFew}
use Rattle.entries.specs.Promises.{PutsBlocks, PutsBlock}
use Rattle.entries.proofs.Keeping.{keep-on, keep-off}
use Rattle.output.proofs.Puts.{puts_none, few-join, few-less}
use Rattle.entries.proofs.Starts.{Passed, passed_none, passed-next, passed-room, passed-more, passed-all}
use Rattle.entries.proofs.Blocks.{below_more, below-gap}
use Rattle.json_text.specs.Rows.{lined, mark, next, block_text, map_text}
use Rattle.json_text.proofs.Lines.{lined-next}
use Rattle.json_text.proofs.Pieces.{map-pieces}
use Rattle.json_text.proofs.Ways.{Says, said}
use Rattle.json_text.proofs.Types.{block-some}

-- ---- one address

pub kept-far : {n m a : ℕ} {w r q bs : List ℕ} {o o' : Output} → PutsBlock n m w r q a o.end → o.end + 1 ≤ 2 ^ 60 → PutsFew 1 o bs o' → PutsBlock n m w r q a o'.end
kept-far b h p = record {
  blocks = record { linked = b.blocks.linked; rows = b.blocks.rows; far = omega (arith, p.few, p.puts.next) };
  inside = b.inside;
}

module _ (w r q : List ℕ) (n m a begin : ℕ) {is : Bool} (f : is ≡ kept w n a) {o : Output} where
  pub kept_on : {o₁ o₂ : Output} → is ≡ true → PutsFew 1 o (mark begin o.end) o₁
      → PutsFew (2 ^ 36 + 256) o₁ (block_text w r q m a) o₂ → PutsFew (2 ^ 37) o (next begin o.end (block_text w r q m) (keep (kept w n) (a ∷ []))) o₂
  unfolding next
  kept_on e p s = rw (keep-on (kept w n) a (sym f ∙ e)) (few-less (few-join p s) (omega arith))

  pub kept_off : is ≡ false → PutsFew (2 ^ 37) o (next begin o.end (block_text w r q m) (keep (kept w n) (a ∷ []))) o
  unfolding next
  kept_off e = rw (keep-off (kept w n) a (sym f ∙ e)) record { puts = puts_none o; few = omega arith }

-- ---- all of them

pub record Keeping (w r q : List ℕ) (n m : ℕ) (o₀ o : Output) (a : ℕ) : Type 0 where
  pub inside : a ≤ n + 1
  pub puts : PutsFew (a * 2 ^ 37) o₀ (lined (block_text w r q m) (kept_below w n a)) o

pub keep-start : (w r q : List ℕ) (n m : ℕ) (o : Output) → Keeping w r q n m o o 0
unfolding upto kept_below lined
keep-start w r q n m o = record { inside = omega arith; puts = record { puts = puts_none o; few = omega arith } }

-- so many entries of the list are passed, and what is kept before an address with them is put
pub record Lining (w r q : List ℕ) (n m blocks : ℕ) (o₀ o : Output) (i : ℕ) : Type 0 where
  pub a : ℕ
  pub passed : Passed w n blocks i a
  pub keeps : Keeping w r q n m o₀ o a

pub line-start : {w r q : List ℕ} {n m blocks : ℕ} (o : Output) → Listed n w blocks → Lining w r q n m blocks o o 0
line-start {w} {r} {q} {n} {m} o l = record { a = 0; passed = passed_none l; keeps = keep-start w r q n m o }

module _ {n m blocks i : ℕ} {w r q : List ℕ} {o₀ o : Output} (p : PutsBlocks n m w r q o₀.end) (g : Lining w r q n m blocks o₀ o i) where
  pub line-far : o₀.end ≤ 2 ^ 32 → o.end + 1 ≤ 2 ^ 60
  line-far f = omega (arith, g.keeps.puts.few, g.keeps.puts.puts.next, g.keeps.inside, p.linked.lent.short)

  module _ (h : i < blocks) where
    pub line-room : start_place n i + 2 ≤ length w
    line-room = passed-room g.passed h p.linked.lent

    module _ {b : ℕ} (e : Holds 2 w (start_place n i) b) where
      pub line-tag : tag_at w b ≡ 0 → ⊥
      line-tag = rw e.is (passed-next g.passed h).tag

      pub line-block : o₀.end ≤ 2 ^ 32 → PutsBlock n m w r q b o.end
      line-block f =
          record {
            blocks = record { linked = p.linked; rows = p.rows; far = omega (arith, line-far f) };
            inside = omega (arith, (passed-next g.passed h).high, g.passed.inside, e.is);
          }

      pub line-turn : {o' : Output} → PutsFew (2 ^ 37) o (next o₀.end o.end (block_text w r q m) (keep (kept w n) (b ∷ []))) o'
          → Lining w r q n m blocks o₀ o' (i + 1)
      line-turn t =
          let y = passed-next g.passed h in
          let low : g.a ≤ b = omega (arith, y.low, e.is) in
          let so : List ℕ = kept_below w n g.a in
          let more : lined (block_text w r q m) (kept_below w n (b + 1)) ≡ lined (block_text w r q m) so ++ next o₀.end o.end (block_text w r q m) (keep (kept w n) (b ∷ []))
          = rw (below_more w n b, below-gap w n {b = b} low (λ z l f. y.free z l (omega (arith, e.is))), g.keeps.puts.puts.next)
          (lined-next (block_text w r q m) (block-some w r q m) (kept w n) so b o₀.end) in
          record {
            a = b + 1;
            passed = passed-more g.passed h e.is;
            keeps = record { inside = omega (arith, y.high, g.passed.inside, e.is); puts = rw more (few-less (few-join g.keeps.puts t) (omega (arith, low))) };
          }

  pub line-done : blocks ≤ i → PutsFew (2 ^ 53) o₀ (lined (block_text w r q m) (kept_below w n (n + 1))) o
  line-done h = rw (below-gap w n g.passed.inside (passed-all g.passed h)) (few-less g.keeps.puts (omega (arith, g.passed.inside, p.linked.lent.short)))

-- ---- in brackets

pub blocks_from : {n m : ℕ} {w r q : List ℕ} {o o' : Output} → PutsBlocks n m w r q o.end → o.end ≡ 0 → Says "[" o o' → PutsBlocks n m w r q o'.end
blocks_from g z p = record { linked = g.linked; rows = g.rows; far = omega (arith, p.next) }

pub map-put : (w r q : List ℕ) (n m : ℕ) {o o₁ o₂ o₃ : Output} → Says "[" o o₁
    → PutsFew (2 ^ 53) o₁ (lined (block_text w r q m) (kept_below w n (n + 1))) o₂ → Says "]" o₂ o₃ → PutsFew (2 ^ 54) o (map_text w r q n m) o₃
map-put w r q n m p s u = rw (map-pieces w r q n m) (few-less (few-join (few-join (said p) s) (said u)) (omega arith))
