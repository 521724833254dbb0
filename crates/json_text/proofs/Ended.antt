-- What `text_fits` answers and `write_text` leaves is of the text of the map. Assumes nothing.
use mathlib.Core.Path.{◌≡◌, refl, sym, ap, ◌∙◌}
use mathlib.Core.Bool.{Bool, true}
use mathlib.Core.List.{List}
use Prim.Native.Nat.{ℕ, ◌+◌, ◌*◌, ◌≤◌}
use native.Mathlib.Omega.{arith}
use mir.Syntax.{w8}
use mir.Val as val
use lib.Dec.{leb}
use lib.ListN.{length, get_or}
use borrow.Author.Tests.{leb-true, le-leb}
use Rattle.spec.specs.Rooms.{units}
use Rattle.lent.proofs.Once.{Bytes}
use Rattle.reachable.specs.Marks.{flagged}
use Rattle.output.specs.declared.Output.{Output}
use Rattle.output.specs.Promises.{PutsFew}
use Rattle.entries.specs.Promises.{PathsEnd, Writes}
use Rattle.entries.proofs.Writing.{writes-all, answered}
use Rattle.json_text.specs.Rows.{map_text}
use Rattle.json_text.specs.Promises.{IsBytes, FitsRoom, Written}
use Rattle.json_text.proofs.Matched.{text_is}
use Rattle.json_text.proofs.Lengths.{text-few}

-- what a slice holds is bytes
pub are-bytes : {b : List ℕ} → ((i : ℕ) → val.Fits w8 (get_or b i 0)) → IsBytes b
are-bytes h = record { small = λ i. (h i).fits }

all-bytes : {b : List ℕ} → IsBytes b → Bytes b
all-bytes h = record { small = h.small }

module _ (w r q : List ℕ) (n m room : ℕ) where
  fits_by : {b : Bool} → b ≡ leb (length (map_text w r q n m)) room → FitsRoom w r q n m room b
  fits_by h = record { is = λ mode code recs energy choice e. rw (text_is e energy choice) h }

  -- the longest text fits
  pub fits-surely : {flags ends : ℕ} → Writes w r q n m 0 → IsBytes w → IsBytes r → IsBytes q
      → flags ≡ length (flagged w n) → PathsEnd r m ends → 2 + 100 * flags + 23 * m + 6 * ends ≤ room → FitsRoom w r q n m room true
  fits-surely x ws rs qs e p h =
      let few = text-few n (all-bytes ws) (all-bytes rs) (all-bytes qs) (writes-all x p).rows (omega (arith, x.short)) in
      fits_by (sym (le-leb (length (map_text w r q n m)) room (omega (arith, few, p.is))))

  -- it was counted
  pub fits-counted : {most : ℕ} {o o' : Output} → o.end ≡ 0 → PutsFew most o (map_text w r q n m) o' → FitsRoom w r q n m room (leb o'.end room)
  fits-counted {o' = o'} z p =
      let is : o'.end ≡ length (map_text w r q n m) = omega (arith, p.puts.next) in
      fits_by (ap (λ (k : ℕ). leb k room) is)

-- what is lent ends as what the writer's reference leads to, since that stays the same
pub text-answered : {w r q : List ℕ} {n m most : ℕ} {out : List ℕ} {o o' : Output} → Writes w r q n m 0 → FitsRoom w r q n m (units (length o.bytes.now) 1) true
    → o.end ≡ 0 → PutsFew most o (map_text w r q n m) o' → (o.bytes.ghost_name ≡ o'.bytes.ghost_name → out ≡ o'.bytes.now) → Written w r q n m o.bytes.now out o'.end
text-answered {w} {r} {q} {n} {m} {o = o} {o'} x f z p l =
    let room : ℕ = units (length o.bytes.now) 1 in
    let on : true ≡ leb (length (map_text w r q n m)) room
    = f.is x.mode x.code x.recs 0 0 x.ends ∙ ap (λ (l : List ℕ). leb (length l) room) (text_is x.ends 0 0) in
    let low : length (map_text w r q n m) ≤ room = leb-true (length (map_text w r q n m)) room (sym on) in
    let all = (answered z refl low p).fits low in
    let end : o'.end ≡ length (map_text w r q n m) = omega (arith, p.puts.next) in
    rw (l (sym p.puts.same)) record { answer = λ mode code recs energy choice g. rw (text_is g energy choice) (end, all.1); long = p.puts.kept }
