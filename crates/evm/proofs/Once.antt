-- The contracts leave no choice: two results of one call are the same. Assumes nothing.
use mathlib.Core.Path.{◌≡◌, sym, ◌∙◌}
use mathlib.Core.List.{List}
use Prim.Native.Nat.{ℕ}
use Rattle.evm.specs.Rows.{RowIs, SizeIs}
use Rattle.evm.specs.Argument.{Spelled}
use Rattle.evm.specs.declared.rows.Row.{Row}

pub one-row : {op : ℕ} {r s : Row} → RowIs op r → RowIs op s → r ≡ s
one-row p q = λ i. record { size = (p.size ∙ sym q.size) i; taken = (p.taken ∙ sym q.taken) i; given = (p.given ∙ sym q.given) i; known = (p.known ∙ sym q.known) i }

pub one_size : {op r s : ℕ} → SizeIs op r → SizeIs op s → r ≡ s
one_size p q = p.size ∙ sym q.size

pub one-spelled : {code : List ℕ} {pc n r s : ℕ} → Spelled code pc n r → Spelled code pc n s → r ≡ s
one-spelled p q = p.spelt ∙ sym q.spelt
