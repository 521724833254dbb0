-- The contract of `level` leaves no choice but in what docs/PROOFS.md lists: two results of one call have the same number, and where it is 0 the same energy
-- and counts, and the same bytes where the records, their links, W's rows and the level's path stand. Assumes nothing.
use mathlib.Core.Path.{◌≡◌, refl, sym, ap, ◌∙◌}
use mathlib.Core.List.{List}
use Prim.Native.Nat.{ℕ}
use Rattle.spec.specs.Search.{St, Turn, level}
use Rattle.layout.specs.Buffers.{Mem}
use Rattle.tables.proofs.Alike.{AllBytes, AllLong}
use Rattle.steps.specs.Runs.{tabled, st_of}
use Rattle.steps.specs.declared.plan.Plan.{Plan}
use Rattle.steps.specs.declared.Level.{Level}
use Rattle.std.specs.Prelude.{Result}
use Rattle.refusal.specs.declared.Shortage.{Shortage}
use Rattle.steps.specs.Goings.{Gone, gone}
use Rattle.steps.specs.declared.Run.{Run}
use Rattle.steps.proofs.Once.{ended-same}
use Rattle.enter.specs.Fits.{Fits, level_of}
use Rattle.enter.proofs.Once.{fits-lends, did-once, made-once, counts-once, OneKept, kept-once}
use Rattle.levels.specs.Levels.{Came, Leveled}

module _ {code : List ℕ} {k : Plan} {start : ℕ} {l : Level} {m m' m'' : Mem} {o d e : Gone} (f : Leveled code k start l m o m' d) (g : Leveled code k start l m o m'' e)
    {t : Turn} {since : ℕ} (fits : Fits code k t since start m o.counts) where
  left : Came code k t since start (level k.limit t l.left (level_of m l)) l m o m' d
  left = f.came t since fits

  right : Came code k t since start (level k.limit t l.left (level_of m l)) l m o m'' e
  right = g.came t since fits

  pub one_code : d.code ≡ e.code
  one_code = did-once (fits-lends fits) refl left.did right.did

  module _ (z : d.code ≡ 0) where
    other : e.code ≡ 0
    other = sym one_code ∙ z

    one_state : st_of k m' d ≡ st_of k m'' e
    one_state = made-once (fits-lends fits) refl left.did right.did z

    pub one-run : d ≡ e
    one-run =
        let energy = ap (λ (s : St). s.energy) one_state in
        let counts = counts-once d e (left.fits z) (right.fits other) one_state in
        λ i. record { code = one_code i; energy = energy i; counts = counts i }

    -- a slice keeps its length, and holds bytes
    pub one-leveled : AllBytes (tabled m') → AllBytes (tabled m'') → AllLong (tabled m') (tabled m'') → (d ≡ e) × OneKept k l.np o.counts.used since m' m'' d.counts
    one-leveled b c long =
        (one-run, kept-once d e (left.fits z) (right.fits other) one_state (left.stays z) (right.stays other) (left.counts z) (right.counts other) b c long)

-- ---- what `level` answers: of its result `gone` tells the number of a shortage

module _ {code : List ℕ} {k : Plan} {start : ℕ} {l : Level} {m m' m'' : Mem} {o : Gone} (run u : Run) (x y : Result Unit Shortage) where
  pub one-answer : Leveled code k start l m o m' (gone run x) → Leveled code k start l m o m'' (gone u y)
      → {t : Turn} {since : ℕ} → Fits code k t since start m o.counts → x ≡ y
  one-answer f g fits = ended-same x y (one_code f g fits)
