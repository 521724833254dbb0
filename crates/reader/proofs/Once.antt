-- The contracts leave no choice: two results of one call are the same. Assumes nothing.
use mathlib.Core.Path.{◌≡◌, sym, ◌∙◌}
use mathlib.Core.List.{List}
use Prim.Native.Nat.{ℕ}
use Rattle.std.specs.Prelude.{Option, Result}
use Rattle.spec.specs.Reader.{read}
use Rattle.reader.specs.Shapes.{entry_at}
use Rattle.reader.specs.Scanning.{reading_of}
use Rattle.reader.specs.Walks.{walk_at, Address}
use Rattle.reader.specs.declared.entry.Entry.{Entry}
use Rattle.reader.specs.declared.entry.Fault.{Fault}
use Rattle.reader.specs.declared.scan.BadEntry.{BadEntry}
use Rattle.reader.specs.declared.walk.Step.{Step}

module _ (b : List ℕ) where
  pub one_entry : (at : ℕ) {r s : Result Entry Fault} → r ≡ entry_at b at → s ≡ entry_at b at → r ≡ s
  one_entry at p q = p ∙ sym q

  pub one-reading : {r s : Result Unit BadEntry} → r ≡ reading_of (read b) → s ≡ reading_of (read b) → r ≡ s
  one-reading p q = p ∙ sym q

  pub one-walk : (at : ℕ) {r s : Option Step} → r ≡ walk_at b at → s ≡ walk_at b at → r ≡ s
  one-walk at p q = p ∙ sym q

  pub one_address : {path n i r s : ℕ} → Address b path n i r → Address b path n i s → r ≡ s
  one_address p q = p.is ∙ sym q.is
