-- What is put, and where it ends. Assumes nothing.
use Rattle.std.specs.Prelude.{◌≡◌, List, ℕ, ◌+◌, ◌≤◌, length}
use Rattle.lent.specs.Bytes.{patch}
use Rattle.output.specs.declared.Output.{Output}

-- The k bytes bs are put at the end, if they end within the buffer; if they do not, what is put there is not said. They are counted in any case.
pub record Puts (k : ℕ) (o : Output) (bs : List ℕ) (o' : Output) : Type 0 where
  pub next : o'.end ≡ o.end + k
  pub long : length bs ≡ k
  pub kept : length o'.bytes.now ≡ length o.bytes.now
  pub stored : o'.end ≤ length o.bytes.now → o'.bytes.now ≡ patch o.bytes.now o.end bs
  pub same : o'.bytes.ghost_name ≡ o.bytes.ghost_name

-- bytes are put, and they are not more than so many
pub record PutsFew (most : ℕ) (o : Output) (bs : List ℕ) (o' : Output) : Type 0 where
  pub puts : Puts (length bs) o bs o'
  pub few : length bs ≤ most
