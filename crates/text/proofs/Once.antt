-- The contracts of `digits`, `put_decimal` and `put_text` leave no choice: two results of one call are the same. Assumes nothing.
use mathlib.Core.Path.{◌≡◌, sym, ◌∙◌}
use mathlib.Core.List.{List}
use Prim.Native.Nat.{ℕ}
use Rattle.lent.specs.Bytes.{Stored}
use Rattle.text.specs.Promises.{Digits}

pub one-count : {n j k : ℕ} → Digits n j → Digits n k → j ≡ k
one-count p q = sym p.long ∙ q.long

pub one-put : {n at : ℕ} {b bs x y : List ℕ} → Stored n b at bs x → Stored n b at bs y → x ≡ y
one-put p q = p.is ∙ sym q.is
