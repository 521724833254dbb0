-- Document 02, No. 10: "Smaller code keeps its kinds and bytes; stored maps are read as before." The writer, the answer and the table of the kinds as they
-- were before are defined here only. Assumes nothing.
use Prim.Native.Nat.{ℕ, ◌≤◌}
use native.Mathlib.Omega.{arith}
use mathlib.Core.Path.{◌≡◌, refl, sym, ap, ap₂, subst, ◌∙◌}
use mathlib.Core.Bool.{Bool, true, false}
use mathlib.Core.List.{List, [], ◌∷◌, ◌++◌, map}
use lib.Dec.{eqb, leb, ltb}
use lib.ListN.{length}
use borrow.Author.Tests.{le-ltb}
use Rattle.spec.specs.Lists.{if, gather, little}
use Rattle.spec.specs.Opcodes.{Rules}
use Rattle.spec.specs.Blocks.{Kind, terminate, jump, jumpi, dynamic_jump, dynamic_jumpi}
use Rattle.spec.specs.Search.{Found, nowhere, found, Rec}
use Rattle.spec.specs.Ending.{Final}
use Rattle.spec.specs.Rooms.{longest, work_need, Lent, units, shortage}
use Rattle.spec.specs.Entries.{Map, item, flag, path_bytes, destination, head, path_entry, shown, extent, record_entry, entries, joined, bytes}
use Rattle.spec.specs.Forms.{field, Sort, HEAD, UNKNOWN, BLOCK, WAY, RECORD, TERMINATE, JUMP, JUMPI, DYNAMIC-JUMP, DYNAMIC-JUMPI, sort}
use Rattle.spec.specs.Reader.{reading, read}
use Rattle.spec.specs.Answer.{Answer, refused, answered, searched, mapped, within_out, within_rooms, answer}
use Rattle.spec.specs.JsonAnswer.{within_text, json_answer}
use Rattle.laws.proofs.Branch.{if-false}

-- ---- as they were

abbrev pub old-longest : ℕ
old-longest = 24576

abbrev old-destination : Found → ℕ
old-destination nowhere = 0x8000
old-destination (found t s) = t

abbrev old-path_entry : Rec → List ℕ
old-path_entry r = item 7 (little 2 (old-destination r.to) ++ path_bytes r.path)

abbrev old-shown : List ℕ → List Rec → Kind → List (List ℕ)
old-shown extent es (terminate success) = item 2 (extent ++ (flag success ∷ [])) ∷ []
old-shown extent es (jump t) = item 3 (extent ++ little 2 t) ∷ []
old-shown extent es (jumpi t f) = item 4 (extent ++ little 2 t ++ little 2 f) ∷ []
old-shown extent es dynamic_jump = item 5 (extent ++ little 4 (length es)) ∷ map old-path_entry es
old-shown extent es (dynamic_jumpi f) = item 6 (extent ++ little 2 f ++ little 4 (length es)) ∷ map old-path_entry es

abbrev old-record_entry : Bool → Rec → List ℕ
old-record_entry false r = item 8 (little 2 r.start ++ little 2 (old-destination r.to) ++ path_bytes r.path)
old-record_entry true r = item 9 (little 2 r.start ++ little 2 (old-destination r.to) ++ little 4 r.energy ++ path_bytes r.path)

unfoldable pub old-bytes : Map → List ℕ
old-bytes m =
    joined (head m ∷ gather (λ (f : Final). old-shown (extent f.block) f.entries f.block.kind) m.blocks ++ map (old-record_entry m.numbered) m.recs)

abbrev old-within_out : Lent → Map → Answer
old-within_out l m = if (leb (length (old-bytes m)) (units l.out 1)) (answered m) (refused 9)

unfoldable pub old-answer : Rules → Lent → ℕ → ℕ → List ℕ → Answer
old-answer r l limit choice code =
    let s = searched r limit code in
    let ok = old-within_out l (mapped r choice code s) in
    let run = within_rooms ok (shortage l s.needs) in
    if (ltb old-longest (length code)) (refused 1)
    (if (ltb 500000 limit) (refused 2)
    (if (ltb 1 r.mode) (refused 13)
    (if (ltb l.w (work_need (length code))) (refused 3) run)))

unfoldable pub old-sort : ℕ → Sort
old-sort k =
    if (eqb k 1) HEAD
    (if (eqb k 2) (BLOCK TERMINATE)
    (if (eqb k 3) (BLOCK JUMP)
    (if (eqb k 4) (BLOCK JUMPI)
    (if (eqb k 5) (BLOCK DYNAMIC-JUMP)
    (if (eqb k 6) (BLOCK DYNAMIC-JUMPI)
    (if (eqb k 7) (WAY 0x8000)
    (if (eqb k 8) (RECORD 4 0x8000)
    (if (eqb k 9) (RECORD 8 0x8000) UNKNOWN))))))))

-- ---- entry by entry

same-destination : (x : Found) → destination false x ≡ old-destination x
same-destination nowhere = refl
same-destination (found t s) = refl

same_way : (r : Rec) → path_entry false r ≡ old-path_entry r
same_way r = ap (λ (n : ℕ). item 7 (little 2 n ++ path_bytes r.path)) (same-destination r.to)

same-record : (b : Bool) (r : Rec) → record_entry false b r ≡ old-record_entry b r
same-record false r = ap (λ (n : ℕ). item 8 (little 2 r.start ++ little 2 n ++ path_bytes r.path)) (same-destination r.to)
same-record true r = ap (λ (n : ℕ). item 9 (little 2 r.start ++ little 2 n ++ little 4 r.energy ++ path_bytes r.path)) (same-destination r.to)

map_same : {A B : Type 0} (f g : A → B) → ((x : A) → f x ≡ g x) → (xs : List A) → map f xs ≡ map g xs
map_same f g h [] = refl
map_same {B} f g h (x ∷ xs) = ap₂ {C = List B} (λ (y : B) (ys : List B). y ∷ ys) (h x) (map_same f g h xs)

gather-same : {A B : Type 0} (f g : A → List B) → ((x : A) → f x ≡ g x) → (xs : List A) → gather f xs ≡ gather g xs
gather-same f g h [] = refl
gather-same {B} f g h (x ∷ xs) = ap₂ (λ (y z : List B). y ++ z) (h x) (gather-same f g h xs)

same-shown : (e : List ℕ) (es : List Rec) (k : Kind) → shown false e es k ≡ old-shown e es k
same-shown e es (terminate success) = refl
same-shown e es (jump t) = refl
same-shown e es (jumpi t f) = refl
same-shown e es dynamic_jump = ap {B = List (List ℕ)} (λ (l : List (List ℕ)). item 5 (e ++ little 4 (length es)) ∷ l) (map_same (path_entry false) old-path_entry same_way es)
same-shown e es (dynamic_jumpi f) =
    ap {B = List (List ℕ)} (λ (l : List (List ℕ)). item 6 (e ++ little 2 f ++ little 4 (length es)) ∷ l) (map_same (path_entry false) old-path_entry same_way es)

-- ---- the whole

-- The bytes of a map of code of at most 24,576 bytes are what they were.
pub same_bytes : (m : Map) → m.size ≤ old-longest → bytes m ≡ old-bytes m
unfolding bytes entries old-bytes
same_bytes m h =
    subst (λ (w : Bool). joined (head m ∷ gather (λ (f : Final). shown w (extent f.block) f.entries f.block.kind) m.blocks ++ map (record_entry w m.numbered) m.recs) ≡ old-bytes m)
    (sym (le-ltb old-longest m.size h))
    (ap₂ (λ (x y : List (List ℕ)). joined (head m ∷ x ++ y))
    (gather-same _ _ (λ (f : Final). same-shown (extent f.block) f.entries f.block.kind) m.blocks)
    (map_same (record_entry false m.numbered) (old-record_entry m.numbered) (same-record m.numbered) m.recs))

-- So is the answer, refusals included.
pub same_answer : (r : Rules) (l : Lent) (limit choice : ℕ) (code : List ℕ) → length code ≤ old-longest → answer r l limit choice code ≡ old-answer r l limit choice code
unfolding answer old-answer mapped
same_answer r l limit choice code h =
    let s = searched r limit code in
    let m = mapped r choice code s in
    let out : within_out l m ≡ old-within_out l m = ap (λ (bs : List ℕ). if (leb (length bs) (units l.out 1)) (answered m) (refused 9)) (same_bytes m h) in
    if-false _ _ _ (le-ltb longest (length code) (omega arith))
    ∙ ap (λ (ok : Answer). if (ltb 500000 limit) (refused 2)
    (if (ltb 1 r.mode) (refused 13)
    (if (ltb l.w (work_need (length code))) (refused 3) (within_rooms ok (shortage l s.needs))))) out
    ∙ sym (if-false _ _ _ (le-ltb old-longest (length code) h))

-- So is that of the call that writes the text.
pub same-json : (r : Rules) (l : Lent) (room limit choice : ℕ) (code : List ℕ) → length code ≤ old-longest
    → json_answer r l room limit choice code ≡ within_text room (old-answer r l limit choice code)
unfolding json_answer
same-json r l room limit choice code h = ap (within_text room) (same_answer r l limit choice code h)

-- Bytes whose head has such a code length are read by the table of kinds that was.
pub same-sort : (k : ℕ) → sort false k ≡ old-sort k
unfolding sort old-sort
same-sort k = refl

pub same_read : (b : List ℕ) → field 6 2 b ≤ old-longest → read b ≡ reading false b
unfolding read
same_read b h = ap (λ (wide : Bool). reading wide b) (le-ltb old-longest (field 6 2 b) h)
