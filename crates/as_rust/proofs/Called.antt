-- Demand 2 up to the exported calls: what they write at limit 500,000 in the plain mode is the Rust's. Assumes nothing.
use Prim.Native.Nat.{ℕ, suc, ◌+◌, ◌*◌, ◌/◌, ◌%◌, ◌^◌, ◌≤◌}
use native.Mathlib.Omega.{arith}
use mathlib.Core.Path.{◌≡◌, refl, sym, ap, ap₂, subst, ◌∙◌}
use mathlib.Core.Option.{Option, none, some}
use mathlib.Core.List.{List, [], ◌∷◌, ◌++◌, map}
use lib.ListN.{length, take, drop}
use lib.Seq.{take_at}
use Rattle.spec.specs.Opcodes.{in_mode}
use Rattle.spec.specs.Blocks.{Kind, terminate, jump, jumpi, dynamic_jump, dynamic_jumpi}
use Rattle.spec.specs.Search.{Room, P, S, T, R, Q, Found, nowhere, found, Rec}
use Rattle.spec.specs.Ending.{Final}
use Rattle.spec.specs.Rooms.{Lent, refusal}
use Rattle.spec.specs.Entries.{Map, bytes}
use Rattle.spec.specs.Answer.{Answer, refused, answered, answer, exported, output_after}
use Rattle.spec.specs.Json.{Way, BlockType, Jump, DynamicJump, DynamicJumpi, dest_of, way_for, type_of, shown_of, json, text}
use Rattle.spec.specs.JsonAnswer.{json_answer, text_after, exported_json}
use Rattle.spec.specs.Reader.{holds, read, stateless, plain_rec, plain_final, plain}
use Rattle.theorems.proofs.Counts.{lawful}
use Rattle.theorems.proofs.Refusals.{Verdict, code-over, limit-over, mode-over, work-short, room_short, output-short, all-fits, verdict}
use Rattle.theorems.proofs.ReaderAnswered.{read-answered}
use Rattle.theorems.proofs.JsonCall.{JsonVerdict, as-entry, text-short, text-fits, json-verdict, gave-text, json-number}
use Rattle.layout.specs.Buffers.{Mem}
use Rattle.answer.specs.Promises.{lent_of}
use Rattle.aznifrem.specs.Promises.{Exported, ExportedJson}
use Rattle.source.specs.Types.{RustBlock, rust_block, Blocks}
use Rattle.source.specs.Shown.{view}
use Rattle.source.specs.Mod.{rust}
use Rattle.source.proofs.Same.{answered-rust}

-- ---- the blocks that were read back, and the Rust's

-- what entries do not keep is no part of what the Rust shows
found-same : (f : Found) → dest_of (stateless f) ≡ dest_of f
found-same nowhere = refl
found-same (found t s) = refl

ways-same : (es : List Rec) → map way_for (map plain_rec es) ≡ map way_for es
ways-same [] = refl
ways-same (r ∷ rs) = ap₂ {C = List Way} (λ (t : Option ℕ) (ws : List Way). record { path = r.path; to = t } ∷ ws) (found-same r.to) (ways-same rs)

type-same : (k : Kind) (es : List Rec) → type_of (map plain_rec es) k ≡ type_of es k
type-same (terminate success) es = refl
type-same (jump t) es = refl
type-same (jumpi t f) es = refl
type-same dynamic_jump es = ap DynamicJump (ways-same es)
type-same (dynamic_jumpi f) es = ap (λ (ws : List Way). DynamicJumpi ws f) (ways-same es)

views-same : (fs : List Final) → map view (map plain_final fs) ≡ map view fs
views-same [] = refl
views-same (f ∷ fs) =
    ap₂ {C = Blocks} (λ (t : BlockType) (bs : Blocks). (f.block.start, rust_block f.block.id f.block.start f.block.end t) ∷ bs) (type-same f.block.kind f.entries) (views-same fs)

shown-view : (fs : List Final) → map (λ (e : ℕ × RustBlock). e.1) (map view fs) ≡ map shown_of fs
shown-view [] = refl
shown-view (f ∷ fs) = ap {B = List RustBlock} (λ (bs : List RustBlock). shown_of f ∷ bs) (shown-view fs)

-- ---- a number of 18 or more is no refusal's

room-low : (r : Room) → refusal r ≤ 8
room-low P = omega arith
room-low S = omega arith
room-low T = omega arith
room-low R = omega arith
room-low Q = omega arith

refused-low : {l : Lent} {choice : ℕ} {code : List ℕ} {a : Answer} → Verdict (in_mode 0) l 500000 choice code a → (n : ℕ) → a ≡ refused n → n ≤ 13
refused-low (code-over h) n e = let z : 1 ≡ n = cc in omega arith
refused-low (limit-over c h) n e = let z : 2 ≡ n = cc in omega arith
refused-low (mode-over c m h) n e = let z : 13 ≡ n = cc in omega arith
refused-low (work-short c m o h) n e = let z : 3 ≡ n = cc in omega arith
refused-low (room_short {k} t f) n e = let z : suc k ≡ n = cc in let h = room-low f.need.room in omega (arith, f.number)
refused-low (output-short t f h) n e = let z : 9 ≡ n = cc in omega arith
refused-low (all-fits t f h) n e = let z : ◌≡◌ {A = ℕ} 0 1 = cc in absurd (omega arith)

text-low : {l : Lent} {room choice : ℕ} {code : List ℕ} {a : Answer} → JsonVerdict (in_mode 0) l room 500000 choice code a → (n : ℕ) → a ≡ refused n → n ≤ 13
text-low (as-entry v) n e = refused-low v n e
text-low (text-short t f h s) n e = let z : 11 ≡ n = cc in omega arith
text-low (text-fits t f h s) n e = let z : ◌≡◌ {A = ℕ} 0 1 = cc in absurd (omega arith)

-- ---- aznifrem_map

-- what stored bytes hold, and its blocks, which are the Rust's
pub record HoldsRust (code stored : List ℕ) : Type 0 where
  pub held : Map
  pub reads : read stored ≡ holds held
  pub blocks : rust code ≡ some (map view held.blocks)

-- What `aznifrem_map` writes at limit 500,000 in mode 0, read back, is the Rust's blocks: of every call that is not refused.
pub map-is-rust : {choice : ℕ} {code : List ℕ} {m m' : Mem} {out out' : List ℕ} {x : ℕ} → Exported 500000 choice 0 code m out m' out' x → 18 ≤ x → HoldsRust code (take x out')
map-is-rust {choice} {code} {m} {m'} {out} {out'} {x} e long = go (answer (in_mode 0) (lent_of m out) 500000 choice code) refl
  where
    go : (a : Answer) → answer (in_mode 0) (lent_of m out) 500000 choice code ≡ a → HoldsRust code (take x out')
    go (refused n) q =
        let low = refused-low (verdict (in_mode 0) (lent_of m out) 500000 choice code) n q in
        let same : x ≡ n = e.number ∙ ap exported q in
        absurd (omega arith)
    go (answered a) q =
        let written : take x out' ≡ bytes a
        = ap₂ take (e.number ∙ ap exported q) (e.out_is ∙ ap (λ (b : Answer). output_after b out) q) ∙ take_at (bytes a) (drop (length (bytes a)) out) (length (bytes a)) refl in
        record {
          held = plain a;
          reads = ap read written ∙ read-answered (in_mode 0) lawful (lent_of m out) 500000 choice code a q;
          blocks = answered-rust (lent_of m out) choice code a q ∙ ap some (sym (views-same a.blocks));
        }

-- ---- aznifrem_json

-- a text is the Rust's blocks'
pub record TextIsRust (code written : List ℕ) : Type 0 where
  pub blocks : Blocks
  pub is : rust code ≡ some blocks
  pub text_is : written ≡ json (map (λ (e : ℕ × RustBlock). e.1) blocks)

-- What `aznifrem_json` writes so is the text of the Rust's blocks, beside entries that hold them.
pub json-is-rust : {choice : ℕ} {code : List ℕ} {m m' : Mem} {out out' room room' : List ℕ} {x : ℕ} → ExportedJson 500000 choice 0 code m out room m' out' room' x → 18 ≤ x
    → HoldsRust code (take (x % 2 ^ 32) out') × TextIsRust code (take (x / 2 ^ 32) room')
unfolding text
json-is-rust {choice} {code} {m} {m'} {out} {out'} {room} {room'} {x} e long = go (json_answer (in_mode 0) (lent_of m out) (length room) 500000 choice code) refl
  where
    go : (a : Answer) → json_answer (in_mode 0) (lent_of m out) (length room) 500000 choice code ≡ a → HoldsRust code (take (x % 2 ^ 32) out') × TextIsRust code (take (x / 2 ^ 32) room')
    go (refused n) q =
        let low = text-low (json-verdict (in_mode 0) (lent_of m out) (length room) 500000 choice code) n q in
        let same : x ≡ n = e.number ∙ ap exported_json q in
        absurd (omega arith)
    go (answered a) q =
        let g = gave-text (in_mode 0) (lent_of m out) (length room) 500000 choice code a q in
        let n = json-number (in_mode 0) (lent_of m out) (length room) 500000 choice code a q in
        let number : x ≡ exported_json (answered a) = e.number ∙ ap exported_json q in
        let written : take (x % 2 ^ 32) out' ≡ bytes a
        = ap₂ take (ap (λ (k : ℕ). k % 2 ^ 32) number ∙ n.entry-bytes) (e.out_is ∙ ap (λ (b : Answer). output_after b out) q)
        ∙ take_at (bytes a) (drop (length (bytes a)) out) (length (bytes a)) refl in
        let told : take (x / 2 ^ 32) room' ≡ text a
        = ap₂ take (ap (λ (k : ℕ). k / 2 ^ 32) number ∙ n.text-bytes) (e.text_is ∙ ap (λ (b : Answer). text_after b room) q)
        ∙ take_at (text a) (drop (length (text a)) room) (length (text a)) refl in
        let same = answered-rust (lent_of m out) choice code a g.entry in (
          record {
            held = plain a;
            reads = ap read written ∙ read-answered (in_mode 0) lawful (lent_of m out) 500000 choice code a g.entry;
            blocks = same ∙ ap some (sym (views-same a.blocks));
          },
          record { blocks = map view a.blocks; is = same; text_is = told ∙ ap json (sym (shown-view a.blocks)) },
        )
