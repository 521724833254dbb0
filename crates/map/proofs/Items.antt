-- The answer's entries are items: each has its body's length before it. Assumes nothing.
use mathlib.Core.Bool.{Bool, true, false}
use mathlib.Core.List.{List, [], ◌∷◌, ◌++◌, map}
use Prim.Native.Nat.{ℕ}
use lib.ListN.{length}
use Rattle.spec.specs.Lists.{gather, little}
use Rattle.spec.specs.Blocks.{Kind, terminate, jump, jumpi, dynamic_jump, dynamic_jumpi}
use Rattle.spec.specs.Search.{Rec}
use Rattle.spec.specs.Ending.{Final}
use Rattle.spec.specs.Entries.{Map, wide_code, way_kind, record_kind, numbered_kind, destination, flag, path_bytes, path_entry, shown, extent, record_entry, entries}
use Rattle.map.specs.Promises.{Items, end, more}

items-append : {es fs : List (List ℕ)} → Items es → Items fs → Items (es ++ fs)
items-append end j = j
items-append (more k body i) j = more k body (items-append i j)

module _ (wide : Bool) where
  path-items : (rs : List Rec) → Items (map (path_entry wide) rs)
  path-items [] = end
  path-items (r ∷ rs) = more (way_kind wide) (little 2 (destination wide r.to) ++ path_bytes r.path) (path-items rs)

  record-items : (b : Bool) (rs : List Rec) → Items (map (record_entry wide b) rs)
  record-items b [] = end
  record-items false (r ∷ rs) =
      more (record_kind wide) (little 2 r.start ++ little 2 (destination wide r.to) ++ path_bytes r.path) (record-items false rs)
  record-items true (r ∷ rs) =
      more (numbered_kind wide) (little 2 r.start ++ little 2 (destination wide r.to) ++ little 4 r.energy ++ path_bytes r.path) (record-items true rs)

  shown-items : (x : List ℕ) (rs : List Rec) (k : Kind) → Items (shown wide x rs k)
  shown-items x rs (terminate success) = more 2 (x ++ (flag success ∷ [])) end
  shown-items x rs (jump t) = more 3 (x ++ little 2 t) end
  shown-items x rs (jumpi t f) = more 4 (x ++ little 2 t ++ little 2 f) end
  shown-items x rs dynamic_jump = more 5 (x ++ little 4 (length rs)) (path-items rs)
  shown-items x rs (dynamic_jumpi f) = more 6 (x ++ little 2 f ++ little 4 (length rs)) (path-items rs)

  block-items : (fs : List Final) → Items (gather (λ (f : Final). shown wide (extent f.block) f.entries f.block.kind) fs)
  block-items [] = end
  block-items (f ∷ fs) = items-append (shown-items (extent f.block) f.entries f.block.kind) (block-items fs)

pub entries-items : (m : Map) → Items (entries m)
unfolding entries
entries-items m =
    more 1 (little 2 m.size ++ little 2 (length m.blocks) ++ little 4 (length m.recs) ++ little 4 m.energy)
    (items-append (block-items (wide_code m.size) m.blocks) (record-items (wide_code m.size) m.numbered m.recs))
