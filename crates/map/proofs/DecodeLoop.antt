-- The laws of the loop that decodes: two characters more, and each way it ends. Assumes nothing.
use mathlib.Core.Path.{◌≡◌, refl, ◌∙◌, ap, sym}
use mathlib.Core.List.{List, [], ◌∷◌, ◌++◌, append-nil}
use mathlib.Core.Option.{Option, none, some}
use Prim.Native.Nat.{ℕ, suc, ◌+◌, ◌*◌, ◌≤◌, ◌<◌}
use native.Mathlib.Nat.{zero-add}
use native.Mathlib.Omega.{arith}
use Rattle.std.specs.Prelude as std
use Rattle.std.specs.Prelude.{Some, None}
use lib.ListN.{length, get_or, drop, drop_of_length-le}
use lib.Seq.{drop-cons, append_snoc}
use borrow.Author.Tests.{eq-eqb, ne_eqb}
use Rattle.spec.specs.Lists.{little}
use Rattle.spec.specs.Program.{digit, pair, decoded, says_refused, program}
use Rattle.laws.proofs.Branch.{if-true, if-false}
use Rattle.lent.specs.Bytes.{Holds, Stored}
use Rattle.lent.proofs.Stored.{stored-none, stored-join, read_all, kept-drop}
use Rattle.map.specs.Promises.{Worth, Decodes}
use Rattle.map.proofs.Refusing.{refused_none, refused-long}
use Rattle.map.proofs.Hexes.{byte-held, stored-small}

-- bytes before what the rest decodes to
abbrev pub after : List ℕ → Option (List ℕ) → Option (List ℕ)
after bs none = none
after bs (some cs) = some (bs ++ cs)

after_nothing : (o : Option (List ℕ)) → o ≡ after [] o
after_nothing none = refl
after_nothing (some cs) = refl

after-pair : (bs : List ℕ) (a b : ℕ) (o : Option (List ℕ)) → after bs (pair (some a) (some b) o) ≡ after (bs ++ (16 * a + b) ∷ []) o
after-pair bs a b none = refl
after-pair bs a b (some cs) = ap some (sym (append_snoc bs (16 * a + b) cs))

pair-second : (a : Option ℕ) (o : Option (List ℕ)) → pair a none o ≡ none
pair-second none o = refl
pair-second (some a) o = refl

-- nothing is taken
refuses : {text code code' : List ℕ} → length code' ≡ length code → program text ≡ says_refused 10 → Decodes text code code' None
refuses {text} {code} {code'} l e = record { taken = λ n q. other q; rest = λ n q. other q; small = λ n q. other q; refused = λ _. e; long = l }
  where
    other : {A : Type 0} {n : ℕ} → None ≡ Some n → A
    other q = cc

pub decodes-long : (text code : List ℕ) → 1025 < length text → Decodes text code code None
decodes-long text code h = refuses refl (refused-long text h)

-- i bytes are decoded, from 2 i characters
pub record Decoding (text code₀ code : List ℕ) (i : ℕ) : Type 0 where
  pub done : List ℕ
  pub are : decoded text ≡ after done (decoded (drop (2 * i) text))
  pub stored : Stored i code₀ 0 done code
  pub behind : 2 * i ≤ length text

pub decoding-none : (text code : List ℕ) → Decoding text code code 0
decoding-none text code = record { done = []; are = after_nothing (decoded text); stored = stored-none code 0 (omega arith); behind = omega arith }

module _ {text code₀ code : List ℕ} {i : ℕ} (s : Decoding text code₀ code i) where
  bad : decoded text ≡ none → Decodes text code₀ code None
  bad e = refuses s.stored.kept (refused_none text e)

  -- ---- two characters

  module _ {x y : ℕ} (l : 2 * i + 1 < length text) (h : Holds 1 text (2 * i) x) (g : Holds 1 text (2 * i + 1) y) where
    next : drop (2 * i) text ≡ x ∷ y ∷ drop (2 * (i + 1)) text
    next =
        let one : suc (2 * i) ≡ 2 * i + 1 = omega arith in
        let second : get_or text (suc (2 * i)) 0 ≡ y = rw one (byte-held g) in
        let two : 2 * (i + 1) ≡ suc (suc (2 * i)) = omega arith in
        rw (two, ← byte-held h, ← second)
        (drop-cons text (2 * i) 0 (omega arith) ∙ ap (λ (r : List ℕ). get_or text (2 * i) 0 ∷ r) (drop-cons text (suc (2 * i)) 0 (omega arith)))

    rest : decoded text ≡ after s.done (pair (digit x) (digit y) (decoded (drop (2 * (i + 1)) text)))
    unfolding decoded
    rest = s.are ∙ ap (λ (r : List ℕ). after s.done (decoded r)) next

    pub first_bad : {v : std.Option ℕ} → Worth x v → v ≡ None → Decodes text code₀ code None
    first_bad p f = bad (rest ∙ rw (p.refused f))

    module _ {v u : std.Option ℕ} (p : Worth x v) (q : Worth y u) where
      pub decoding-more : {a b : ℕ} {code' : List ℕ} → v ≡ Some a → u ≡ Some b → Stored 1 code i (little 1 (16 * a + b)) code' → Decoding text code₀ code' (i + 1)
      decoding-more {a} {b} f e t = record {
        done = s.done ++ (16 * a + b) ∷ [];
        are = rest ∙ rw ((p.taken a f).0, (q.taken b e).0) (after-pair s.done a b (decoded (drop (2 * (i + 1)) text)));
        stored = stored-join s.stored (rw zero-add (stored-small (omega (arith, (p.taken a f).1, (q.taken b e).1)) t));
        behind = omega arith;
      }

      pub second-bad : u ≡ None → Decodes text code₀ code None
      second-bad f = bad (rest ∙ rw (q.refused f, pair-second))

  -- ---- the end

  ends : decoded (drop (2 * i) text) ≡ some [] → i ≤ 512 → Decodes text code₀ code (Some i)
  ends e f = record {
    taken = λ n q. let same : i ≡ n = cc in rw (← same) (s.are ∙ rw (e, read_all s.stored, append-nil));
    rest = λ n q. let same : i ≡ n = cc in rw (← same) (kept-drop s.stored i (omega arith));
    small = λ n q. let same : i ≡ n = cc in rw (← same) f;
    refused = λ q. other q;
    long = s.stored.kept;
  }
    where
      other : {A : Type 0} → Some i ≡ None → A
      other q = cc

  pub decoding-done : 2 * i ≡ length text → length text ≤ 1025 → Decodes text code₀ code (Some i)
  unfolding decoded
  decoding-done e f = ends (rw (drop_of_length-le text (let l : length text ≤ 2 * i = omega arith in l))) (omega arith)

  -- one character is left
  module _ {x : ℕ} (l : length text ≤ 2 * i + 1) (z : 2 * i ≡ length text → ⊥) (h : Holds 1 text (2 * i) x) where
    last : drop (2 * i) text ≡ x ∷ []
    last =
        let few : length text ≤ suc (2 * i) = omega arith in
        let k : 2 * i < length text = omega (arith, s.behind, z) in
        rw (← byte-held h, ← drop_of_length-le text few) (drop-cons text (2 * i) 0 k)

    pub line-feed : x ≡ 0x0A → length text ≤ 1025 → Decodes text code₀ code (Some i)
    unfolding decoded
    line-feed e f = ends (ap decoded last ∙ if-true _ _ _ (eq-eqb x 0x0A e)) (omega arith)

    pub odd : (x ≡ 0x0A → ⊥) → Decodes text code₀ code None
    unfolding decoded
    odd e = bad (s.are ∙ ap (after s.done) (ap decoded last ∙ if-false _ _ _ (ne_eqb x 0x0A e)))
