-- The contracts leave no choice: two results of one call are the same. Assumes nothing.
use mathlib.Core.Path.{◌≡◌, sym, ◌∙◌}
use mathlib.Core.Bool.{Bool}
use mathlib.Core.List.{List}
use Prim.Native.Nat.{ℕ}
use Rattle.entries.specs.Promises.{Writes}
use Rattle.json_text.specs.Promises.{FitsRoom, Written}

module _ {w r q : List ℕ} {n m : ℕ} (x : Writes w r q n m 0) where
  pub one-fits : {room : ℕ} {b c : Bool} → FitsRoom w r q n m room b → FitsRoom w r q n m room c → b ≡ c
  one-fits s t = s.is x.mode x.code x.recs 0 0 x.ends ∙ sym (t.is x.mode x.code x.recs 0 0 x.ends)

  pub one-text : {out y z : List ℕ} {j k : ℕ} → Written w r q n m out y j → Written w r q n m out z k → (j ≡ k) × (y ≡ z)
  one-text a b =
      let y = a.answer x.mode x.code x.recs 0 0 x.ends in
      let z = b.answer x.mode x.code x.recs 0 0 x.ends in
      (y.0 ∙ sym z.0, y.1 ∙ sym z.1)
