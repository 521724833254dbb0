-- An archive judged map by map: what is copied so far, and what is salvaged of the rest, is the salvage of the whole. Assumes nothing.
use mathlib.Core.Path.{◌≡◌, refl, sym, ap, subst, ◌∙◌}
use mathlib.Core.Logic.{◌⊎◌, inl, inr}
use mathlib.Core.List.{List, [], ◌∷◌}
use Prim.Native.Nat.{ℕ, ◌+◌, ◌-◌, ◌^◌, ◌≤◌, ◌<◌}
use native.Mathlib.Omega.{arith}
use mir.Syntax.{w64}
use mir.Val.{Fits}
use lib.ListN.{length, take, drop, length-append, length-drop}
use lib.Seq.{take_all, drop-drop}
use Rattle.spec.specs.Reader.{Reading as Said, holds, bad, read}
use Rattle.spec.specs.Salvage.{first_map, Salvaged, salvage_in, salvage, copied}
use Rattle.theorems.proofs.ReaderPlaces.{never}
use Rattle.theorems.proofs.ReaderBad.{refused-exactly, refused-within}
use Rattle.theorems.proofs.SalvageLaws.{ReadsWhole, Salvages, all_copied, stops_here, one_copied, has-byte, salvages-in, salvages-once, first-and-left}
use Rattle.salvage.specs.Promises.{first_of, judged_of}
use Rattle.reader.specs.declared.scan.BadEntry.{BadEntry}
use Rattle.std.specs.Prelude.{Result, Ok, Err}

-- what is salvaged from an offset on
abbrev left_of : List ℕ → ℕ → Salvaged
left_of a at = salvage_in (length (drop at a)) at (drop at a)

pub record Judges (a : List ℕ) (maps at : ℕ) : Type 0 where
  pub inside : at ≤ length a
  pub few : maps ≤ at
  pub maps_are : length (salvage a).maps ≡ maps + length (left_of a at).maps
  pub bytes_are : length (copied (salvage a)) ≡ at + length (copied (left_of a at))
  pub offset_is : (salvage a).offset ≡ (left_of a at).offset

pub judges-start : (a : List ℕ) → Judges a 0 0
judges-start a = record { inside = omega arith; few = omega arith; maps_are = omega arith; bytes_are = omega arith; offset_is = refl }

module _ (a : List ℕ) (at : ℕ) where
  left_is : {s : Salvaged} → Salvages at (drop at a) s → left_of a at ≡ s
  left_is k = salvages-once (salvages-in (length (drop at a)) at (drop at a) (omega arith)) k

  abbrev one : List ℕ
  one = first_map (drop at a)

  -- the part that a call is lent
  part : take (length a - at) (drop at a) ≡ drop at a
  part = take_all (length a - at) (drop at a) (rw length-drop (omega arith))

  one-long : length one ≤ length (drop at a)
  one-long = omega (arith, ap length (first-and-left (drop at a)), length-append one (drop (length one) (drop at a)))

  -- of the first map from there on
  abbrev Says : Result ℕ BadEntry → Type 0
  Says x = x ≡ first_of (length (first_map (take (length a - at) (drop at a)))) (read (first_map (take (length a - at) (drop at a))))

  says : {x : Result ℕ BadEntry} → Says x → x ≡ first_of (length one) (read one)
  says e = e ∙ ap (λ (l : List ℕ). first_of (length (first_map l)) (read (first_map l))) part

  record Copies (n : ℕ) : Type 0 where
    whole : ReadsWhole one
    size : n ≡ length one

  copies : {x : Result ℕ BadEntry} {n : ℕ} → Says x → x ≡ Ok n → Copies n
  copies {x} {n} e q = by_said (read one) refl (sym q ∙ says e)
    where
      by_said : (r : Said) → read one ≡ r → Ok n ≡ first_of (length one) r → Copies n
      by_said (holds m) g h = record { whole = (m, g); size = cc }
      by_said (bad o) g h = never (cc)

  refuses : {x : Result ℕ BadEntry} {o : BadEntry} → Says x → x ≡ Err o → read one ≡ bad o.offset
  refuses {x} {o} e q = by_said (read one) refl (sym q ∙ says e)
    where
      by_said : (r : Said) → read one ≡ r → Err o ≡ first_of (length one) r → read one ≡ bad o.offset
      by_said (holds m) g h = never (cc)
      by_said (bad i) g h = let z : o ≡ record { offset = i } = cc in g ∙ ap (λ (e : BadEntry). bad e.offset) (sym z)

module _ {a : List ℕ} {maps at : ℕ} (j : Judges a maps at) where
  judged-so : {s : Salvaged} → left_of a at ≡ s → s.maps ≡ [] → {o : ℕ} → o ≡ s.offset → record { maps = maps; bytes = at; offset = o } ≡ judged_of (salvage a)
  judged-so {s} e z {o} q =
      let x : maps ≡ length (salvage a).maps = omega (arith, j.maps_are, ap (λ (t : Salvaged). length t.maps) e, ap length z) in
      let y : at ≡ length (copied (salvage a)) = omega (arith, j.bytes_are, ap (λ (t : Salvaged). length (copied t)) e, ap (λ (l : List (List ℕ)). length (copied (record { maps = l; rest = []; offset = 0 }))) z) in
      let w : o ≡ (salvage a).offset = q ∙ ap (λ (t : Salvaged). t.offset) (sym e) ∙ sym j.offset_is in
      rw (x, y, w)

  pub judged-end : length a ≤ at → record { maps = maps; bytes = at; offset = at } ≡ judged_of (salvage a)
  judged-end h = judged-so (left_is a at (subst (λ (l : List ℕ). Salvages at l (record { maps = []; rest = []; offset = at })) (sym (none_left (drop at a) (rw length-drop (omega arith)))) all_copied)) refl refl
    where
      none_left : (l : List ℕ) → length l ≡ 0 → l ≡ []
      none_left [] e = refl
      none_left (x ∷ xs) e = absurd (omega arith)

  module _ (h : at < length a) {x : Result ℕ BadEntry} (e : Says a at x) where
    some_left : 0 < length (drop at a)
    some_left = rw length-drop (omega arith)

    pub judged-bad : {o : BadEntry} → x ≡ Err o → record { maps = maps; bytes = at; offset = at + o.offset } ≡ judged_of (salvage a)
    judged-bad {o} q = judged-so (left_is a at (stops_here some_left ((refused-exactly (one a at) o.offset).0 (refuses a at e q)))) refl refl

    pub bad-fits : {o : BadEntry} → x ≡ Err o → length a < 2 ^ 64 → Fits w64 (at + o.offset)
    bad-fits {o} q f = within (refused-within ((refused-exactly (one a at) o.offset).0 (refuses a at e q)))
      where
        within : (o.offset ≡ 0) ⊎ (o.offset < length (one a at)) → Fits w64 (at + o.offset)
        within (inl z) = omega arith
        within (inr l) = omega (arith, one-long a at, length-drop at a)

    module _ {n : ℕ} (q : x ≡ Ok n) where
      abbrev its : Copies a at n
      its = copies a at e q

      some_byte : 0 < n
      some_byte = let k = its in omega (arith, has-byte (one a at) k.whole)

      no_more : at + n ≤ length a
      no_more = let k = its in omega (arith, one-long a at, length-drop at a)

      pub maps-fit : length a < 2 ^ 64 → Fits w64 (maps + 1)
      maps-fit f = let r = j.few in let l = j.inside in omega arith

      pub at-fits : length a < 2 ^ 64 → Fits w64 (at + n)
      at-fits f = omega (arith, no_more)

      pub judges-less : length a - (at + n) < length a - at
      judges-less = omega (arith, no_more, some_byte)

      pub judges-on : Judges a (maps + 1) (at + n)
      judges-on =
          let k = its in
          let b = drop at a in
          let to : drop (length (one a at)) b ≡ drop (at + n) a = drop-drop (length (one a at)) at a ∙ ap (λ (i : ℕ). drop (at + i) a) (sym k.size) in
          let s = left_of a (at + n) in
          let later : Salvages (at + n) (drop (at + n) a) s = salvages-in (length (drop (at + n) a)) (at + n) (drop (at + n) a) (omega arith) in
          let there : Salvages (at + length (one a at)) (drop (length (one a at)) b) s =
          subst (λ (l : List ℕ). Salvages (at + length (one a at)) l s) (sym to) (subst (λ (i : ℕ). Salvages (at + i) (drop (at + n) a) s) k.size later) in
          let same = left_is a at (one_copied k.whole there) in
          record {
            inside = no_more;
            few = omega (arith, some_byte, j.few);
            maps_are = omega (arith, j.maps_are, ap (λ (t : Salvaged). length t.maps) same);
            bytes_are = omega (arith, j.bytes_are, ap (λ (t : Salvaged). length (copied t)) same, length-append (one a at) (copied s), k.size);
            offset_is = j.offset_is ∙ ap (λ (t : Salvaged). t.offset) same;
          }
