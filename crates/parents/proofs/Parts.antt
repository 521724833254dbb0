-- A run of bytes that is stored within a part is a patch of the part. Assumes nothing.
use mathlib.Core.Path.{◌≡◌, sym, ap₂, ◌∙◌}
use mathlib.Core.List.{List, ◌++◌}
use Prim.Native.Nat.{ℕ, ◌+◌, ◌≤◌}
use native.Mathlib.Omega.{arith}
use lib.ListN.{length, take, drop, length-take}
use lib.Seq.{drop-append-le, drop-drop}
use Rattle.lent.specs.Bytes.{patch, Stored}
use Rattle.lent.proofs.Parts.{part-of-take}
use Rattle.lent.proofs.Patch.{take-patch-past}

drop-patch : (c : List ℕ) (i o : ℕ) (bs : List ℕ) → i + (o + length bs) ≤ length c → drop i (patch c (i + o) bs) ≡ patch (drop i c) o bs
unfolding patch
drop-patch c i o bs h =
    let l : i ≤ length (take (i + o) c) = simp length-take (omega arith) in
    let e : i + o + length bs ≡ i + (o + length bs) = omega arith in
    drop-append-le i (take (i + o) c) (bs ++ drop (i + o + length bs) c) l
    ∙ ap₂ (λ (x y : List ℕ). x ++ (bs ++ y)) (sym (part-of-take o i c)) (rw e (sym (drop-drop (o + length bs) i c)))

pub part-stored : (i o : ℕ) {m : ℕ} {b bs b' : List ℕ} → Stored m b (i + o) bs b' → (k : ℕ) → o + m ≤ k → i + k ≤ length b → take k (drop i b') ≡ patch (take k (drop i b)) o bs
part-stored i o {m} {b} {bs} {b'} s k h f =
    let fits : i + o + length bs ≤ length b = omega arith in
    let past : i + o + length bs ≤ i + k = omega arith in
    let room : i + (o + length bs) ≤ length (take (i + k) b) = simp length-take (omega arith) in
    rw (s.is, part-of-take k i (patch b (i + o) bs), take-patch-past b (i + o) bs fits (i + k) past, drop-patch (take (i + k) b) i o bs room, part-of-take k i b)
