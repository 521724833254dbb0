-- The laws of `grow`: the path of a direct parent is one address, a found one's is copied. Assumes nothing.
use mathlib.Core.Path.{◌≡◌, refl, sym, ap, ◌∙◌}
use Rattle.std.specs.Prelude.{Result, Ok, Err}
use mathlib.Core.List.{List, [], ◌∷◌, ◌++◌}
use Prim.Native.Nat.{ℕ, suc, ◌+◌, ◌-◌, ◌*◌, ◌≤◌, ◌<◌}
use native.Mathlib.Nat.{zero-add}
use native.Mathlib.Omega.{arith}
use lib.Dec.{ltb}
use lib.ListN.{length, take, drop}
use borrow.Author.Tests.{lt-ltb, le-ltb}
use Rattle.spec.specs.Lists.{little}
use Rattle.laws.proofs.Branch.{if-true, if-false}
use Rattle.refusal.specs.declared.Shortage.{Shortage}
use Rattle.refusal.specs.declared.Shortage.TheVariants as short
use Rattle.lent.specs.Bytes.{Holds, Stored}
use Rattle.lent.proofs.Stored.{kept-take, kept-drop, read_back, read_all}
use Rattle.layout.specs.Records.{record_place, R-ENDS, end_of}
use Rattle.layout.specs.Rows.{start_of}
use Rattle.tables.specs.Addrs.{addrs}
use Rattle.tables.specs.Records.{path_at, Row}
use Rattle.tables.proofs.Addrs.{addrs-length, addrs-prefix, addrs-within}
use Rattle.tables.proofs.Lookup.{end-here}
use Rattle.steps.specs.Cursors.{path_cursor}
use Rattle.steps.specs.Paths.{Growing, Grown}
use Rattle.steps.proofs.Splits.{addrs-append}

-- ---- a parent's path

pub path-direct : (r q : List ℕ) (at : ℕ) → at < 0x10000 → path_cursor r q at ≡ start_of at ∷ []
unfolding path_cursor
path-direct r q at h = if-true (ltb at 0x10000) _ _ (lt-ltb at 0x10000 h)

pub path-found : (r q : List ℕ) (at : ℕ) → 0x10000 ≤ at → path_cursor r q at ≡ path_at r q (at - 0x10000)
unfolding path_cursor
path-found r q at h = if-false (ltb at 0x10000) _ _ (le-ltb at 0x10000 h)

-- ---- any path

grown-none : {p more : List ℕ} {np room : ℕ} → room < np + length more → Grown p np room more p (Err short.P)
grown-none l = record {
  short = (refl, refl, l);
  is = tt;
  fits = tt;
  path = tt;
  front = refl;
  back = refl;
  long = refl;
}

module _ (np len : ℕ) {p more p' bs : List ℕ} (s : Stored (2 * len) p (2 * np) bs p') (e : addrs p' np len ≡ more) where
  count : length more ≡ len
  count = ap length (sym e) ∙ addrs-length p' np len

  front : take (2 * np) p' ≡ take (2 * np) p
  front = kept-take s (2 * np) (omega arith)

  path : addrs p' 0 (np + len) ≡ addrs p 0 np ++ more
  path = rw (addrs-append p' 0 np len, zero-add, e, addrs-prefix p' p np 0 np front (omega arith))

  grown : {room : ℕ} → np + len ≤ room → Grown p np room more p' (Ok (np + len))
  grown f = record {
    short = tt;
    is = rw count;
    fits = rw count f;
    path = path;
    front = front;
    back = rw count (kept-drop s (2 * (np + len)) (omega arith));
    long = s.kept;
  }

-- ---- the four answers

module _ {p r q : List ℕ} {room np at : ℕ} (g : Growing p r q room np at) where
  module _ (l : at < 0x10000) where
    pub direct-short : room < np + 1 → Grown p np room (path_cursor r q at) p (Err short.P)
    direct-short h = rw (path-direct r q at l) (grown-none h)

    pub direct-grown : {v : ℕ} {p' : List ℕ} → np + 1 ≤ room → v ≡ start_of at → Stored 2 p (2 * np) (little 2 v) p'
        → Grown p np room (path_cursor r q at) p' (Ok (np + 1))
    unfolding addrs
    direct-grown {v} {p'} h e s =
        let b = read_back s (omega (arith, g.direct l)) in
        rw (path-direct r q at l) (grown np 1 s (rw (b, e)) h)

  module _ (l : 0x10000 ≤ at) where
    pub found-row : Row r q (at - 0x10000)
    found-row = g.found l

    module _ {from e : ℕ} (a : from ≡ end_of r (at - 0x10000)) (h : Holds 4 r (record_place (at - 0x10000) + R-ENDS) e) where
      ends : e ≡ end_of r (suc (at - 0x10000))
      ends = end-here r (at - 0x10000) h

      pub found-rises : from ≤ e
      found-rises = omega (arith, ends, found-row.rises)

      pub found-source : 2 * from + 2 * (e - from) ≤ length q
      found-source = omega (arith, ends, found-rises, found-row.in_q)

      found-path : path_cursor r q at ≡ addrs q from (e - from)
      unfolding path_at
      found-path = path-found r q at l ∙ rw (a, ends)

      pub found-short : room < np + (e - from) → Grown p np room (path_cursor r q at) p (Err short.P)
      found-short d = rw found-path (grown-none (rw (addrs-length q from (e - from)) d))

      pub found-grown : {p' : List ℕ} → np + (e - from) ≤ room
          → Stored (2 * (e - from)) p (2 * np) (take (2 * (e - from)) (drop (2 * from) q)) p' → Grown p np room (path_cursor r q at) p' (Ok (np + (e - from)))
      found-grown {p'} d s = rw found-path (grown np (e - from) s (addrs-within p' q np from (e - from) (read_all s)) d)

-- ---- what the answer tells

module _ {p more p' : List ℕ} {np room : ℕ} {x : Result ℕ Shortage} (g : Grown p np room more p' x) where
  pub grown-front : addrs p' 0 np ≡ addrs p 0 np
  grown-front = addrs-prefix p' p np 0 np g.front (omega arith)
