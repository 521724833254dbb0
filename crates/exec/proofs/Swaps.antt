-- The laws of SWAP on the stack in hand: a stack that is spelled out reads the same, and two cells change places. Assumes nothing.
use mathlib.Core.Path.{◌≡◌, refl, sym, ap, ap₂, ◌∙◌}
use mathlib.Core.List.{List, [], ◌∷◌, ◌++◌, append_assoc, append-nil}
use Prim.Native.Nat.{ℕ, zero, suc, ◌+◌, ◌-◌, ◌*◌, ◌≤◌, ◌<◌}
use native.Mathlib.Nat.{add-zero, suc-add}
use native.Mathlib.Decide.{dec_le}
use native.Mathlib.Numerals.{add-one}
use native.Mathlib.Omega.{arith}
use lib.ListN.{length, take, drop, length-append, drop_of_length-le}
use Rattle.spec.specs.Stacks.{Sym, before, Stack, reads, read, span, pops, pushes, swap}
use Rattle.lent.specs.Bytes.{Stored}
use Rattle.lent.proofs.Stored.{kept-take, kept-drop, kept-part, read_all}
use Rattle.state.specs.Cells.{sym_at, syms_at, befores, Put, Wrote}
use Rattle.exec.specs.Working.{stack_of, end_of, deepen, Held, Deepens, Becomes}
use Rattle.exec.specs.declared.top.Top.{Top}
use Rattle.state.proofs.Syms.{length-syms, syms-add, syms-drop, syms-within, reads-inside, cells-within, cells-join}
use Rattle.state.proofs.Puts.{put-syms, before-syms, over-syms, over-cells, wrote_none, wrote-more, wrote-cells}

-- ---- what the numbering gives, spelled out

pub befores-none : (base : ℕ) → befores base 0 ≡ []
unfolding befores
befores-none base = refl

pub length-befores : (base d : ℕ) → length (befores base d) ≡ d
unfolding befores
length-befores base zero = refl
length-befores base (suc d) = ap suc (length-befores (base + 1) d)

befores-more : (base d : ℕ) → befores base (d + 1) ≡ befores base d ++ before (base + d) ∷ []
unfolding befores
befores-more base zero = rw add-zero
befores-more base (suc d) =
    let e : base + 1 + d ≡ base + suc d = omega arith in
    rw (suc-add, befores-more (base + 1) d, e)

pub spell-more : (base at i : ℕ) {b d e : List ℕ} → Wrote i b at (befores base i) d → Put d (at + 9 * i) (before (base + i)) e → Wrote (i + 1) b at (befores base (i + 1)) e
spell-more base at i p q = rw (befores-more base i) (wrote-more at i p q)

pub spell-none : (base : ℕ) (b : List ℕ) (at : ℕ) → at ≤ length b → Wrote 0 b at (befores base 0) b
spell-none base b at h = rw (befores-none base) (wrote_none b at h)

pub spell-done : (base at i d : ℕ) {b e : List ℕ} → Wrote i b at (befores base i) e → i ≤ d → d ≤ i → Wrote d b at (befores base d) e
spell-done base at i d p h g = rw (let e : d ≡ i = omega arith in e) p

-- ---- a stack that is spelled out reads the same, so that it is swapped the same

reads-befores : (xs : List Sym) (base d k : ℕ) → reads (xs ++ befores base d) (base + d) k ≡ reads xs base k
unfolding befores
reads-befores [] base zero k = rw add-zero
reads-befores [] base (suc d) zero = rw add-zero
reads-befores [] base (suc d) (suc k) =
    let e : base + suc d ≡ base + 1 + d = omega arith in
    let f : base + 1 + k ≡ base + suc k = omega arith in
    ap (λ (n : ℕ). reads (befores (base + 1) d) n k) e ∙ reads-befores [] (base + 1) d k ∙ ap before f
reads-befores (x ∷ xs) base d zero = refl
reads-befores (x ∷ xs) base d (suc k) = reads-befores xs base d k

read-deepen : (m : ℕ) (s : Stack) (k : ℕ) → read (deepen m s) k ≡ read s k
unfolding read deepen
read-deepen m s k = reads-befores s.above s.base (m - length s.above) k

span-deepen : (m : ℕ) (s : Stack) (i k : ℕ) → span (deepen m s) i k ≡ span s i k
span-deepen m s i zero = refl
span-deepen m s i (suc k) = ap₂ {C = List Sym} (λ (x : Sym) (xs : List Sym). x ∷ xs) (read-deepen m s i) (span-deepen m s (suc i) k)

pops-deepen : (m : ℕ) (s : Stack) → pops m (deepen m s) ≡ pops m s
unfolding deepen
pops-deepen m s = λ i. record { above = above (dec_le m (length xs)) i; base = base i }
  where
    xs : List Sym
    xs = s.above

    more : List Sym
    more = befores s.base (m - length xs)

    long : length (xs ++ more) ≡ length xs + (m - length xs)
    long = length-append xs more ∙ ap (λ (n : ℕ). length xs + n) (length-befores s.base (m - length xs))

    base : s.base + (m - length xs) + (m - length (xs ++ more)) ≡ s.base + (m - length xs)
    base = omega (arith, long)

    above : Dec (m ≤ length xs) → drop m (xs ++ more) ≡ drop m xs
    above (yes h) =
        let z : m - length xs ≡ 0 = omega arith in
        ap (λ (d : ℕ). drop m (xs ++ befores s.base d)) z ∙ rw (befores-none, append-nil)
    above (no h) = drop_of_length-le (xs ++ more) {i = m} (omega (arith, long)) ∙ sym (drop_of_length-le xs {i = m} (omega arith))

pub swap-deepen : (k : ℕ) (s : Stack) → swap k (deepen (k + 2) s) ≡ swap k s
swap-deepen k s =
    let m : ℕ = suc (suc k) in
    let e : k + 2 ≡ m = omega arith in
    let r = read-deepen m s in
    let words : read (deepen m s) (suc k) ∷ span (deepen m s) 1 k ++ (read (deepen m s) 0 ∷ []) ≡ read s (suc k) ∷ span s 1 k ++ (read s 0 ∷ []) = rw (r (suc k), r 0, span-deepen m s 1 k) in
    ap (λ (n : ℕ). swap k (deepen n s)) e ∙ ap₂ pushes words (pops-deepen m s)

-- ---- the stack in hand, spelled out

module _ {w : List ℕ} (t : Top) (m : ℕ) (h : Deepens w t m) where
  pub deepen-not : m ≤ t.n → Becomes w t (deepen m (stack_of w t)) w t
  unfolding deepen stack_of
  deepen-not g =
      let z : m - length (syms_at w t.at t.n) ≡ 0 = omega (arith, length-syms w t.at t.n) in
      let e : deepen m (stack_of w t) ≡ stack_of w t = rw (z, befores-none, append-nil, add-zero) in
      record { is = sym e; moves = record { held = h.held; ends = refl; front = refl; back = refl } }

  module _ {w₁ w₂ : List ℕ} (g : t.n < m) (p : Stored (9 * t.n) w (t.at - 9 * (m - t.n)) (take (9 * t.n) (drop t.at w)) w₁)
      (q : Wrote (m - t.n) w₁ (t.at - 9 * (m - t.n) + 9 * t.n) (befores t.base (m - t.n)) w₂) where
    at : ℕ
    at = t.at - 9 * (m - t.n)

    kept : take (9 * t.n) (drop at w₂) ≡ take (9 * t.n) (drop t.at w)
    unfolding at
    kept = kept-part q.stored (9 * t.n) at (λ l. omega arith) ∙ read_all p

    syms : syms_at w₂ at m ≡ syms_at w t.at t.n ++ befores t.base (m - t.n)
    unfolding at
    syms =
        let e : t.n + (m - t.n) ≡ m = omega arith in
        ap (syms_at w₂ at) (sym e) ∙ rw (syms-add w₂ at t.n (m - t.n), q.reads, syms-within w₂ w at t.at t.n kept)

    pub deepen-more : Becomes w t (deepen m (stack_of w t)) w₂ (record { at = t.at - 9 * (m - t.n); n = m; base = t.base + (m - t.n) })
    unfolding at deepen stack_of
    deepen-more =
        let l = length-syms w t.at t.n in
        let e : t.n + (m - t.n) ≡ m = omega arith in
        record {
          is = rw l (λ i. record { above = syms i; base = t.base + (m - t.n) });
          moves = record {
            held = record {
              inside = omega (arith, h.held.inside, h.fits, p.kept, q.stored.kept);
              cells = rw e at (cells-join w₂ at t.n (m - t.n) (cells-within (sym kept) (omega (arith, q.stored.fits, q.stored.kept)) h.held.cells) (wrote-cells q));
            };
            ends = omega (arith, h.fits);
            front = kept-take q.stored at (omega arith) ∙ kept-take p at (omega arith);
            back = kept-drop q.stored (end_of t) (omega (arith, h.fits)) ∙ kept-drop p (end_of t) (omega (arith, h.fits));
          };
        }

-- ---- two cells change places

span-syms : (w : List ℕ) (t : Top) (i k : ℕ) → i + k ≤ t.n → span (stack_of w t) i k ≡ syms_at w (t.at + 9 * i) k
unfolding stack_of read syms_at
span-syms w t i zero h = refl
span-syms w t i (suc k) h =
    let e : t.at + 9 * suc i ≡ t.at + 9 * i + 9 = omega arith in
    rw (reads-inside w t.at t.n t.base i (omega arith), ← e, span-syms w t (suc i) k (omega arith))

module _ {w w₁ w₂ : List ℕ} {x y : Sym} (t : Top) (k : ℕ) (held : Held w t) (h : k + 1 < t.n) (ex : x ≡ sym_at w t.at) (ey : y ≡ sym_at w (t.at + 9 * (k + 1)))
    (p : Put w t.at y w₁) (q : Put w₁ (t.at + 9 * (k + 1)) x w₂) where
  far : ℕ
  far = t.at + 9 * (k + 1)

  left : ℕ
  left = t.n - (k + 2)

  now : syms_at w₂ t.at t.n ≡ (y ∷ syms_at w (t.at + 9) k) ++ x ∷ syms_at w (far + 9) left
  unfolding far left
  now =
      let e : k + 1 + (1 + left) ≡ t.n = omega arith in
      ap (syms_at w₂ t.at) (sym e) ∙ rw (over-syms t.at (k + 1) q left, before-syms p k, put-syms p (far + 9) left (λ l. omega arith))

  due : (swap k (stack_of w t)).above ≡ (y ∷ syms_at w (t.at + 9) k) ++ x ∷ syms_at w (far + 9) left
  unfolding far left stack_of read
  due =
      let n : suc k ≡ k + 1 = sym (add-one k) in
      let top : read (stack_of w t) 0 ≡ x = reads-inside w t.at t.n t.base 0 (omega arith) ∙ rw (add-zero, ex) in
      let low : read (stack_of w t) (suc k) ≡ y = reads-inside w t.at t.n t.base (suc k) (omega arith) ∙ rw (n, ey) in
      let rest : drop (suc (suc k)) (syms_at w t.at t.n) ≡ syms_at w (far + 9) left =
      syms-drop w t.at t.n (suc (suc k)) (omega arith) ∙ ap₂ (syms_at w) (omega arith) (omega arith) in
      rw (top, low, rest, span-syms w t 1 k (omega arith)) (append_assoc (y ∷ syms_at w (t.at + 9) k) (x ∷ []) (syms_at w (far + 9) left))

  pub exchanged : Becomes w t (swap k (stack_of w t)) w₂ t
  unfolding far stack_of
  exchanged =
      let p₀ : Put w (t.at + 9 * 0) y w₁ = rw add-zero p in
      let base : t.base ≡ t.base + (suc (suc k) - length (syms_at w t.at t.n)) = omega (arith, length-syms w t.at t.n) in
      record {
        is = λ i. record { above = (now ∙ sym due) i; base = base i };
        moves = record {
          held = record {
            inside = omega (arith, held.inside, p.stored.kept, q.stored.kept);
            cells = over-cells t.at (k + 1) q h (over-cells t.at 0 p₀ (omega arith) held.cells);
          };
          ends = refl;
          front = kept-take q.stored t.at (omega arith) ∙ kept-take p.stored t.at (omega arith);
          back = kept-drop q.stored (end_of t) (omega arith) ∙ kept-drop p.stored (end_of t) (omega arith);
        };
      }

-- ---- the two together

module _ {w w₁ : List ℕ} {t u : Top} (k : ℕ) (p : Becomes w t (deepen (k + 2) (stack_of w t)) w₁ u) where
  pub deep-enough : k + 1 < u.n
  unfolding deepen stack_of
  deep-enough =
      let xs : List Sym = syms_at w t.at t.n in
      let l : length (syms_at w₁ u.at u.n) ≡ length (xs ++ befores t.base (k + 2 - length xs)) = ap (λ (s : Stack). length s.above) p.is in
      omega (arith, l, length-syms w₁ u.at u.n, length-append xs (befores t.base (k + 2 - length xs)), length-befores t.base (k + 2 - length xs))

  pub swapped : {w₂ : List ℕ} → Becomes w₁ u (swap k (stack_of w₁ u)) w₂ u → Becomes w t (swap k (stack_of w t)) w₂ u
  swapped q =
      record {
        is = q.is ∙ ap (swap k) p.is ∙ swap-deepen k (stack_of w t);
        moves = record {
          held = q.moves.held;
          ends = p.moves.ends;
          front = q.moves.front ∙ p.moves.front;
          back = rw p.moves.ends at q.moves.back ∙ p.moves.back;
        };
      }
