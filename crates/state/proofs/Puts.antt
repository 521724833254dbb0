-- The laws of a cell that is put beside others: before the first, after the last, or in the place of one of them. Assumes nothing.
use mathlib.Core.Path.{◌≡◌, refl, sym, ap, ◌∙◌}
use mathlib.Core.List.{List, [], ◌∷◌, ◌++◌}
use Prim.Native.Nat.{ℕ, ◌+◌, ◌-◌, ◌*◌, ◌≤◌, ◌<◌}
use native.Mathlib.Nat.{add_comm}
use native.Mathlib.Omega.{arith}
use lib.ListN.{length}
use Rattle.spec.specs.Stacks.{Sym}
use Rattle.lent.proofs.Stored.{kept-part, read_all, stored-none, stored-join}
use Rattle.state.specs.Cells.{cells_of, syms_at, Put, Wrote, Cells}
use Rattle.state.proofs.Syms.{cells-append, cells-one, syms-one, syms-add, syms-within, cells-within, cells-put, cells-join, cells-front, cells_rest}

module _ {b d : List ℕ} {at : ℕ} {x : Sym} (p : Put b at x d) where
  -- n cells that the put one does not touch
  pub put-syms : (i n : ℕ) → (i < at + 9 → i + 9 * n ≤ at) → syms_at d i n ≡ syms_at b i n
  put-syms i n h = syms-within d b i i n (kept-part p.stored (9 * n) i h)

  pub put-cells : {i n : ℕ} → (i < at + 9 → i + 9 * n ≤ at) → Cells b i n → Cells d i n
  put-cells {i} {n} h c = cells-within (sym (kept-part p.stored (9 * n) i h)) (omega (arith, p.stored.kept, c.fits)) c

  -- before n others
  pub before-syms : (n : ℕ) → syms_at d at (n + 1) ≡ x ∷ syms_at b (at + 9) n
  before-syms n = rw (add_comm n 1, syms-add d at 1 n, syms-one, p.reads, put-syms (at + 9) n (λ h. omega arith))

  pub before-cells : (n : ℕ) → Cells b (at + 9) n → Cells d at (n + 1)
  before-cells n c = rw (add_comm n 1) (cells-join d at 1 n (cells-put x p) (put-cells (λ h. omega arith) c))

-- after n others
module _ {b d : List ℕ} {x : Sym} (at n : ℕ) (p : Put b (at + 9 * n) x d) where
  pub after-syms : syms_at d at (n + 1) ≡ syms_at b at n ++ x ∷ []
  after-syms = rw (syms-add d at n 1, syms-one, p.reads, put-syms p at n (λ h. omega arith))

  pub after-cells : Cells b at n → Cells d at (n + 1)
  after-cells c = cells-join d at n 1 (put-cells p (λ h. omega arith) c) (cells-put x p)

  -- in the place of the n-th of more
  pub over-syms : (r : ℕ) → syms_at d at (n + (1 + r)) ≡ syms_at b at n ++ x ∷ syms_at b (at + 9 * n + 9) r
  over-syms r = rw (syms-add d at n (1 + r), syms-add d (at + 9 * n) 1 r, syms-one, p.reads, put-syms p at n (λ h. omega arith), put-syms p (at + 9 * n + 9) r (λ h. omega arith))

  pub over-cells : {m : ℕ} → n < m → Cells b at m → Cells d at m
  over-cells {m} h c =
      let e : n + (1 + (m - n - 1)) ≡ m = omega arith in
      let all = rw (← e) at c in
      let past = cells_rest b (at + 9 * n) 1 (m - n - 1) (cells_rest b at n (1 + (m - n - 1)) all) in
      rw (← e) (cells-join d at n (1 + (m - n - 1)) (put-cells p (λ g. omega arith) (cells-front b at n (1 + (m - n - 1)) all)) (cells-join d (at + 9 * n) 1 (m - n - 1) (cells-put x p) (put-cells p (λ g. omega arith) past)))

-- ---- cells one after another

pub wrote_none : (b : List ℕ) (at : ℕ) → at ≤ length b → Wrote 0 b at [] b
unfolding syms_at cells_of
wrote_none b at h = record { stored = stored-none b at h; reads = refl }

pub wrote-more : {b d e : List ℕ} {xs : List Sym} {x : Sym} (at n : ℕ) → Wrote n b at xs d → Put d (at + 9 * n) x e → Wrote (n + 1) b at (xs ++ x ∷ []) e
wrote-more {xs = xs} {x = x} at n p q =
    let k : 9 * (n + 1) ≡ 9 * n + 9 = omega arith in
    record {
      stored = rw (k, cells-append, cells-one) (stored-join p.stored q.stored);
      reads = after-syms at n q ∙ rw p.reads;
    }

pub wrote-cells : {b d : List ℕ} {xs : List Sym} {at n : ℕ} → Wrote n b at xs d → Cells d at n
wrote-cells {at = at} {n = n} p = record { fits = omega (arith, p.stored.fits, p.stored.kept); are = read_all p.stored ∙ ap cells_of (sym p.reads) }

pub wrote-join : {b d e : List ℕ} {xs ys : List Sym} (at m n : ℕ) → Wrote m b at xs d → Wrote n d (at + 9 * m) ys e → Wrote (m + n) b at (xs ++ ys) e
wrote-join {d = d} {e = e} {xs = xs} {ys = ys} at m n p q =
    let k : 9 * (m + n) ≡ 9 * m + 9 * n = omega arith in
    let first : syms_at e at m ≡ syms_at d at m = syms-within e d at at m (kept-part q.stored (9 * m) at (λ h. omega arith)) in
    record {
      stored = rw (k, cells-append) (stored-join p.stored q.stored);
      reads = rw (syms-add e at m n, q.reads, first, p.reads);
    }
