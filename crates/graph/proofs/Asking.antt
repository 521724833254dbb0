-- What each call of `graph` asks. Assumes nothing.
use mathlib.Core.Path.{◌≡◌, sym, ap, ◌∙◌}
use mathlib.Core.List.{List}
use Prim.Native.Nat.{ℕ, suc, ◌+◌, ◌-◌, ◌*◌, ◌≤◌, ◌<◌}
use native.Mathlib.Nat.{add-zero}
use native.Mathlib.Omega.{arith}
use lib.ListN.{length}
use Rattle.spec.specs.Lists.{last_of}
use Rattle.lent.specs.Bytes.{num_at}
use Rattle.layout.specs.Marks.{to_number}
use Rattle.layout.specs.Records.{record_place, R-ENDS, start_at, end_of}
use Rattle.layout.specs.Rows.{tag_at}
use Rattle.tables.specs.Records.{path_at, rec_at}
use Rattle.tables.proofs.Addrs.{addrs-length}
use Rattle.reachable.specs.Pruning.{EdgeRow, Prunes}
use Rattle.reachable.proofs.Within.{blocks-within}
use Rattle.graph.specs.Notes.{edge_to}
use Rattle.graph.specs.Promises.{Notes, MergedAll, Rewrites, Rewrote, Lies, Fits, Graphs}
use Rattle.graph.proofs.Recs.{rec-in, rec-destination, path-last, last-in}
use Rattle.graph.proofs.Edges.{RowOf, leading, dest-in}
use Rattle.graph.proofs.Sides.{block-sides}

-- ---- the records, one by one

module _ {mode : ℕ} {code s : List ℕ} {room n m : ℕ} {w r q : List ℕ} (f : Fits mode code s room n m w r q) (i : ℕ) (h : i < m) where
  lies : Lies n (rec_at r q s room i)
  lies = f.lie (rec_at r q s room i) (rec-in r q s room m i h)

  pub start-lies : start_at r i ≤ n
  unfolding rec_at
  start-lies = lies.start

  path-some : 0 < length (path_at r q i)
  unfolding rec_at
  path-some = lies.some

  end-some : end_of r i < end_of r (suc i)
  unfolding path_at
  end-some = omega (arith, path-some, addrs-length q (end_of r i) (end_of r (suc i) - end_of r i))

  pub rec-last : last_of (rec_at r q s room i).path ≡ num_at 2 q (2 * (num_at 4 r (record_place i + R-ENDS) - 1))
  unfolding rec_at end_of
  rec-last = path-last r q i (f.rows i h).rises path-some

-- ---- the calls

pub notes-asked : {n m : ℕ} {w r q : List ℕ} → Graphs n m w r q → Notes n m w r
notes-asked g = record { lent = g.fits.lent; each = λ i h. record { in_r = (g.fits.rows i h).in_r; start = start-lies g.fits i h }; none = g.fits.unnoted }

pub rewrites-asked : {n m : ℕ} {w r q w₁ : List ℕ} → Graphs n m w r q → MergedAll n m w r w₁ → Rewrites m w₁ r q
unfolding end_of
rewrites-asked g t = record {
  each = λ i h. record {
    in_r = (g.fits.rows i h).in_r;
    in_w = omega (arith, start-lies g.fits i h, g.fits.lent.room, t.long);
    some = omega (arith, end-some g.fits i h);
    in_q = (g.fits.rows i h).in_q;
  };
}

module _ {mode : ℕ} {code s : List ℕ} {room n m : ℕ} {w r q w₁ r₁ : List ℕ} (f : Fits mode code s room n m w r q) (t : MergedAll n m w r w₁) (e : Rewrote m w₁ r q r₁) where
  pub row_of : (i : ℕ) → i < m → RowOf w₁ r₁ i (rec_at r q s room i)
  unfolding rec_at
  row_of i h = record {
    place = rw add-zero (e.rows i h).start;
    witness = (e.rows i h).last ∙ sym (rec-last f i h);
    to = (e.rows i h).edge ∙ ap (edge_to (tag_at w₁ (start_at r i))) (sym (rec-destination r q s room i));
  }

  edge_row : (i : ℕ) → i < m → EdgeRow n r₁ i
  edge_row i h = let x = lies f i h in let o = row_of i h in record {
    room = omega (arith, (f.rows i h).in_r, e.long);
    place = rw o.place x.start;
    witness = rw o.witness (x.path (last_of (rec_at r q s room i).path) (last-in (rec_at r q s room i).path x.some));
    to = λ ne. let l = leading o ne in rw l.2 (x.to (to_number (rec_at r q s room i).to) (dest-in (rec_at r q s room i).to l.1));
  }

  asks : Prunes n m w₁ r₁
  asks = record {
    lent = record { short = f.lent.short; room = omega (arith, f.lent.room, t.long) };
    within = blocks-within w₁ n (block-sides f t);
    rows = record { few = f.few; away = omega (arith, f.lent.short); each = edge_row };
  }

pub prunes-asked : {n m : ℕ} {w r q w₁ r₁ : List ℕ} → Graphs n m w r q → MergedAll n m w r w₁ → Rewrote m w₁ r q r₁ → Prunes n m w₁ r₁
prunes-asked g t e = asks g.fits t e
