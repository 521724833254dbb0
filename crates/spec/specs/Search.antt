-- Document 01, "The search (resolver.rs)". It is defined once, with no rooms: the state carries what was recorded, the energy, what was met in this
-- turn, and every need of a room, newest first. Assumes nothing.
use Rattle.std.specs.Prelude.{ℕ, zero, suc, ◌+◌, Bool, true, false, ◌&&◌, ◌||◌, List, [], ◌∷◌, ◌++◌, map, eqb, ltb, length}
use Rattle.std.proofs.Math.Option.{Option, none, some}
use Rattle.spec.specs.Lists.{if, mem, same, last_of, keep, some?, total, gather}
use Rattle.spec.specs.Opcodes.{Rules}
use Rattle.spec.specs.Walk.{Ins}
use Rattle.spec.specs.Blocks.{Kind, terminate, jump, jumpi, dynamic_jump, dynamic_jumpi, Block, with_kind}
use Rattle.spec.specs.Stacks.{Sym, before, constant, jumpdest, other, Stack, cells, read, compose, Ran, run, eq_sym, eq_stack}
use Rattle.spec.specs.Reach.{Edge, edge, closure}

-- ---- "First, each dynamic block whose own run ends in Jumpdest becomes static, with no test that a block starts there."

-- a block and its own run
pub record Node : Type 0 where
  pub block : Block
  pub own : Ran

abbrev pub settled : Option Sym → Kind → Kind
settled none k = k
settled (some (before n)) k = k
settled (some (constant v)) k = k
settled (some (other pc)) k = k
settled (some (jumpdest t)) (terminate success) = terminate success
settled (some (jumpdest t)) (jump u) = jump u
settled (some (jumpdest t)) (jumpi u f) = jumpi u f
settled (some (jumpdest t)) dynamic_jump = jump t
settled (some (jumpdest t)) (dynamic_jumpi f) = jumpi t f

abbrev pub node : Block → Ran → Node
node b r = record { block = with_kind (settled r.goes b.kind) b; own = r }

abbrev pub nodes : Rules → List ℕ → List Ins → List Block → List Node
nodes r code is bs = map (λ (b : Block). node b (run r code is b.start)) bs

-- ---- "Those ending in Before(p) take turns, in address order"

pub record Taker : Type 0 where
  pub start : ℕ
  pub position : ℕ
  pub first : Stack

abbrev pub taker : Node → Option Sym → List Taker
taker r none = []
taker r (some (before p)) = record { start = r.block.start; position = p; first = r.own.stack } ∷ []
taker r (some (constant v)) = []
taker r (some (jumpdest v)) = []
taker r (some (other pc)) = []

abbrev pub takes : Node → Kind → List Taker
takes r (terminate success) = []
takes r (jump u) = []
takes r (jumpi u f) = []
takes r dynamic_jump = taker r r.own.goes
takes r (dynamic_jumpi f) = taker r r.own.goes

abbrev pub takers : List Node → List Taker
takers = gather (λ (r : Node). takes r r.block.kind)

-- ---- "Direct parents ... in address order: each block with its own stack, for every static side (equal sides once), of a DynamicJumpi the false side only."

abbrev pub sides : Kind → List ℕ
sides (terminate success) = []
sides (jump t) = t ∷ []
sides (jumpi t f) = if (eqb t f) (t ∷ []) (t ∷ f ∷ [])
sides dynamic_jump = []
sides (dynamic_jumpi f) = f ∷ []

pub record Parent : Type 0 where
  pub to : ℕ
  pub path : List ℕ
  pub stack : Stack

abbrev pub parent : ℕ → List ℕ → Stack → Parent
parent t p s = record { to = t; path = p; stack = s }

abbrev pub direct : List Node → List Parent
direct = gather (λ (r : Node). map (λ (t : ℕ). parent t (r.block.start ∷ []) r.own.stack) (sides r.block.kind))

-- the edges of the reached set
abbrev pub edges : List Node → List Edge
edges = gather (λ (r : Node). map (edge r.block.start r.block.start) (sides r.block.kind))

-- ---- the record: with a destination and the state that is kept for it, or without; and its number, "the energy spent, from the start of the run, when it
-- was made" (document 02, No. 5)

pub data Found : Type 0 where
  nowhere : Found
  found : ℕ → Stack → Found

pub record Rec : Type 0 where
  pub start : ℕ
  pub to : Found
  pub path : List ℕ
  pub energy : ℕ

abbrev pub is_at : ℕ → Found → Bool
is_at t nowhere = false
is_at t (found u s) = eqb t u

abbrev pub is_nowhere : Found → Bool
is_nowhere nowhere = true
is_nowhere (found u s) = false

abbrev pub dest : Found → List ℕ
dest nowhere = []
dest (found u s) = u ∷ []

abbrev pub dests : List Rec → List ℕ
dests = gather (λ (r : Rec). dest r.to)

abbrev pub leads : List ℕ → Found → List Parent
leads p nowhere = []
leads p (found u s) = parent u p s ∷ []

abbrev pub found_parents : List Rec → List Parent
found_parents = gather (λ (r : Rec). leads r.path r.to)

abbrev pub kept : Found → ℕ
kept nowhere = 0
kept (found u s) = cells s

-- ---- the state of a run

pub data Room : Type 0 where
  P S T R Q : Room

pub record Need : Type 0 where
  pub room : Room
  pub units : ℕ

pub record Met : Type 0 where
  pub last : ℕ
  pub stack : Stack
  pub symbol : Sym

pub record St : Type 0 where
  pub recs : List Rec
  pub energy : ℕ
  pub met : List Met
  pub needs : List Need

abbrev pub begin : St
begin = record { recs = []; energy = 0; met = []; needs = [] }

abbrev pub need : Room → ℕ → St → St
need r u s = record { recs = s.recs; energy = s.energy; met = s.met; needs = record { room = r; units = u } ∷ s.needs }

abbrev pub spend : St → St
spend s = record { recs = s.recs; energy = suc s.energy; met = s.met; needs = s.needs }

abbrev pub remember : Met → St → St
remember m s = record { recs = s.recs; energy = s.energy; met = m ∷ s.met; needs = s.needs }

abbrev pub forget : St → St
forget s = record { recs = s.recs; energy = s.energy; met = []; needs = s.needs }

abbrev pub add : Rec → St → St
add r s = record { recs = s.recs ++ (r ∷ []); energy = s.energy; met = s.met; needs = s.needs }

-- ---- a level: "a block and a stack position", here with its path and the path's state

-- what is fixed in a turn: the parents stored before the first round, the starts reached when the round began, and whose turn it is
pub record Turn : Type 0 where
  pub stored : List Parent
  pub reached : List ℕ
  pub start : ℕ
  pub first : Stack

pub record Level : Type 0 where
  pub path : List ℕ
  pub position : ℕ
  pub state : Stack

-- "Its parents are fixed when it opens: those then stored for its block whose path's last block is then reached, in the order first stored."
unfoldable pub parents : Turn → ℕ → St → List Parent
parents c b s =
    keep (λ (p : Parent). eqb b p.to && (mem (last_of p.path) c.reached || mem (last_of p.path) (dests s.recs)))
    (c.stored ++ found_parents s.recs)

-- ---- recording: "A record needs R, then Q, then (with a destination) S."

-- cells of S in use: a kept copy for each record with a destination, the turn's first state, remembered states
abbrev pub in_use : Turn → St → ℕ
in_use c s = total (λ (r : Rec). kept r.to) s.recs + cells c.first + total (λ (m : Met). cells m.stack) s.met

abbrev pub addresses : St → ℕ
addresses s = total (λ (r : Rec). length r.path) s.recs

abbrev pub writes : List ℕ → St → St
writes path s = need Q (addresses s + length path) (need R (suc (length s.recs)) s)

-- "recorded without destination unless that path is already so recorded"
unfoldable pub record_nowhere : Turn → List ℕ → St → St
record_nowhere c path s =
    let made = add (record { start = c.start; to = nowhere; path = path; energy = s.energy }) (writes path s) in
    if (some? (λ (r : Rec). is_nowhere r.to && same path r.path) s.recs) s made

-- "recorded unless that destination has that path already"
unfoldable pub record_found : Turn → ℕ → Stack → List ℕ → St → St
record_found c t new path s =
    let made = add (record { start = c.start; to = found t new; path = path; energy = s.energy }) (need S (in_use c s + cells new) (writes path s)) in
    if (some? (λ (r : Rec). is_at t r.to && same path r.path) s.recs) s made

-- ---- "Per parent, in this order"

-- step 6; `deeper` opens a new level
unfoldable pub arrive : Turn → (Level → St → St) → List ℕ → Stack → Sym → St → St
arrive c deeper path new (before n) s = deeper (record { path = path; position = n; state = new }) s
arrive c deeper path new (jumpdest t) s = record_found c t new path s
arrive c deeper path new (constant v) s = record_nowhere c path s
arrive c deeper path new (other pc) s = record_nowhere c path s

abbrev pub met? : Met → St → Bool
met? m s = some? (λ (n : Met). eqb m.last n.last && eq_sym m.symbol n.symbol && eq_stack m.stack n.stack) s.met

-- steps 4, 5 and 6, of a parent whose path stands behind the level's in `path`
unfoldable pub follow : Turn → (Level → St → St) → Level → Parent → List ℕ → St → St
follow c deeper l p path s =
    let symbol = read p.stack l.position in
    let new = compose l.state p.stack in
    let m : Met = record { last = last_of path; stack = new; symbol = symbol } in
    let formed = need S (in_use c s + cells new) s in
    let on = arrive c deeper path new symbol (remember m (need T (suc (length s.met)) formed)) in
    if (met? m s) formed on

-- "A one-block parent already on the path is skipped."
abbrev pub loops : List ℕ → List ℕ → Bool
loops [] path = false
loops (b ∷ []) path = mem b path
loops (b ∷ a ∷ more) path = false

-- steps 1, 2 and 3 of each parent in turn; `go` is what is done with the grown path
unfoldable pub tries : ℕ → (Parent → List ℕ → St → St) → List ℕ → List Parent → St → St
tries limit go path [] s = s
tries limit go path (p ∷ ps) s =
    let t = spend s in
    let longer = path ++ p.path in
    let went = go p longer (need P (length longer) t) in
    let on = tries limit go path ps (if (loops p.path path) t went) in
    if (ltb limit (suc s.energy)) t on

-- A level; the number is 256 less its path's weight. At 0 the weight "would pass 256".
unfoldable pub level : ℕ → Turn → ℕ → Level → St → St
level limit c zero l s = tries limit (λ p. record_nowhere c) l.path (parents c (last_of l.path) s) s
level limit c (suc w) l s = tries limit (follow c (level limit c w) l) l.path (parents c (last_of l.path) s) s

-- "A turn needs one address in P, then its state in S." When it ends, its remembered rows and states are free.
unfoldable pub turn : ℕ → Turn → ℕ → St → St
turn limit c position s =
    forget (level limit c 255 (record { path = c.start ∷ []; position = position; state = c.first })
    (need S (in_use c s) (need P 1 s)))

-- ---- rounds

abbrev pub turn_for : List Parent → List ℕ → Taker → Turn
turn_for stored reached k = record { stored = stored; reached = reached; start = k.start; first = k.first }

-- "A round gives turns to the starts reached when it began."
unfoldable pub round : ℕ → List Parent → List ℕ → List Taker → St → St
round limit stored reached [] s = s
round limit stored reached (k ∷ ks) s =
    let took = turn limit (turn_for stored reached k) k.position s in
    round limit stored reached ks (if (mem k.start reached && ltb s.energy limit) took s)

-- what is reached when a round begins
abbrev pub reached_by : List Node → List Rec → List ℕ
reached_by ns recs = closure (edges ns) (0 ∷ dests recs)

-- "A round with no record is the last, and no round or turn starts once the limit is reached."
unfoldable pub rounds : ℕ → ℕ → List Node → St → St
rounds zero limit ns s = s
rounds (suc n) limit ns s =
    let t = round limit (direct ns) (reached_by ns s.recs) (takers ns) s in
    let more = rounds n limit ns t in
    let this = if (eqb (length t.recs) (length s.recs)) t more in
    if (ltb s.energy limit) this s

-- "in at most 128 rounds"
unfoldable pub search : ℕ → List Node → St
search limit ns = rounds 128 limit ns begin
