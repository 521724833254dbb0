-- The contracts leave no choice: two results of one call are the same, byte for byte. Assumes nothing.
use mathlib.Core.Path.{◌≡◌, sym, ◌∙◌}
use mathlib.Core.List.{List}
use Prim.Native.Nat.{ℕ}
use Rattle.layout.specs.Buffers.{Mem}
use Rattle.spec.specs.Report.{ReportOutcome}
use Rattle.layout.specs.Buffers.{Mem}
use Rattle.answer.proofs.Once.{same-rooms}
use Rattle.aznifrem.specs.Promises.{Exported, ExportedJson}
use Rattle.aznifrem.specs.Reports.{ExportedReport}
use Rattle.aznifrem.specs.Archives.{ExportedSalvage}
use Rattle.aznifrem.specs.FollowContract.{ExportedFollow}
use Rattle.aznifrem.specs.InspectContract.{ExportedInspect, ExportedInspectFrom}

pub one-exported : {limit choice mode x y : ℕ} {code out u v : List ℕ} {m m' m'' : Mem} → Exported limit choice mode code m out m' u x → Exported limit choice mode code m out m'' v y
    → (x ≡ y) × (m' ≡ m'') × (u ≡ v)
one-exported c d = (
  c.number ∙ sym d.number,
  same-rooms (c.w ∙ sym d.w) (c.p ∙ sym d.p) (c.s ∙ sym d.s) (c.t ∙ sym d.t) (c.r ∙ sym d.r) (c.q ∙ sym d.q),
  c.out_is ∙ sym d.out_is,
)

pub one-exported_json : {limit choice mode a b : ℕ} {code out text o p t u : List ℕ} {m x y : Mem} → ExportedJson limit choice mode code m out text x o t a
    → ExportedJson limit choice mode code m out text y p u b → (a ≡ b) × (x ≡ y) × (o ≡ p) × (t ≡ u)
one-exported_json c d = (
  c.number ∙ sym d.number,
  same-rooms (c.w ∙ sym d.w) (c.p ∙ sym d.p) (c.s ∙ sym d.s) (c.t ∙ sym d.t) (c.r ∙ sym d.r) (c.q ∙ sym d.q),
  c.out_is ∙ sym d.out_is,
  c.text_is ∙ sym d.text_is,
)

pub one-exported-report : {report : List ℕ} {o : ReportOutcome} {u v : List ℕ} {x y : ℕ} → ExportedReport report o u x → ExportedReport report o v y
    → (x ≡ y) × (u ≡ v)
one-exported-report c d = (c.number ∙ sym d.number, c.bytes ∙ sym d.bytes)

pub one-exported-salvage : {archive out report o p r q : List ℕ} {x y : ℕ} → ExportedSalvage archive out report o r x → ExportedSalvage archive out report p q y
    → (x ≡ y) × (o ≡ p) × (r ≡ q)
one-exported-salvage c d = (c.number ∙ sym d.number, c.out_is ∙ sym d.out_is, c.report_is ∙ sym d.report_is)

pub one-exported-follow : {map code log work counts v w c d : List ℕ} {x y : ℕ} → ExportedFollow map code log work counts v c x → ExportedFollow map code log work counts w d y
    → (x ≡ y) × (v ≡ w) × (c ≡ d)
one-exported-follow p q = (p.number ∙ sym q.number, p.work_is ∙ sym q.work_is, p.counts_are ∙ sym q.counts_are)

pub one-exported-inspect : {mode : ℕ} {code map w place v u p q : List ℕ} {x y : ℕ} → ExportedInspect mode code map w place v p x → ExportedInspect mode code map w place u q y
    → (x ≡ y) × (v ≡ u) × (p ≡ q)
one-exported-inspect c d = (c.number ∙ sym d.number, c.w_is ∙ sym d.w_is, c.place_is ∙ sym d.place_is)

pub one-exported-inspect_from : {mode from : ℕ} {code map w rs v u p q : List ℕ} {x y : ℕ} → ExportedInspectFrom mode code map from w rs v p x → ExportedInspectFrom mode code map from w rs u q y
    → (x ≡ y) × (v ≡ u) × (p ≡ q)
one-exported-inspect_from c d = (c.number ∙ sym d.number, c.w_is ∙ sym d.w_is, c.rows_are ∙ sym d.rows_are)
