-- What `arrive` asks of `land`, and the ways in which it ends, by the symbol read. Assumes nothing.
use mathlib.Core.Path.{◌≡◌, refl, ap, subst, ◌∙◌}
use Prim.Native.Nat.{ℕ, ◌*◌}
use native.Mathlib.Omega.{arith}
use Rattle.std.specs.Prelude.{Some}
use mathlib.Core.Bool.{true}
use mathlib.Core.List.{List}
use Rattle.spec.specs.Stacks.{Sym, before, constant, jumpdest, other}
use Rattle.spec.specs.Search.{Found}
use Rattle.state.specs.Symbols.{sym_of}
use Rattle.state.specs.Cells.{tag, value, stack_at}
use Rattle.state.specs.declared.sym.StackSym.TheVariants.{Before, Constant, Jumpdest, Other}
use Rattle.state.specs.declared.sym.StackSym.{StackSym}
use Rattle.tables.specs.Tables as tables
use Rattle.tables.specs.Tables.{new_found, no_entry, enters}
use Rattle.tables.specs.declared.Entry.{Entry}
use Rattle.tables.proofs.Noted.{new-nowhere, new-at}
use Rattle.tables.specs.Replies.{Reply}
use Rattle.tables.specs.declared.row.Seen.{Seen}
use Rattle.steps.specs.Lands.{Lands, Noted}
use Rattle.enter.specs.Enters.{Opening, ended_with, open_at, Ended, Ends, at_jumpdest, at_constant, at_other, entry_of, Arriving, Arrived}
use Rattle.steps.specs.declared.plan.Plan.{Plan}
use Rattle.steps.specs.declared.Level.{Level}
use Rattle.steps.specs.Goings.{Gone}
use Rattle.enter.proofs.PathEnds.{ended-with}

no-before : (c : StackSym) → ((n : ℕ) → c ≡ Before n → ⊥) → (n : ℕ) → sym_of c ≡ before n → ⊥
no-before (Before n) o m h = o n refl
no-before (Constant v) o m h = omega (arith, ap tag h)
no-before (Jumpdest t) o m h = omega (arith, ap tag h)
no-before (Other pc) o m h = omega (arith, ap tag h)

entry-start : (start : ℕ) (x : Seen) (energy : ℕ) (c : Sym) → (entry_of start x energy c).start ≡ start
unfolding entry_of
entry-start start x energy (before n) = refl
entry-start start x energy (constant v) = refl
entry-start start x energy (jumpdest t) = refl
entry-start start x energy (other pc) = refl

entry-energy : (start : ℕ) (x : Seen) (energy : ℕ) (c : Sym) → (entry_of start x energy c).energy ≡ energy
unfolding entry_of
entry-energy start x energy (before n) = refl
entry-energy start x energy (constant v) = refl
entry-energy start x energy (jumpdest t) = refl
entry-energy start x energy (other pc) = refl

module _ {p : List ℕ} {np start : ℕ} {k : Plan} {m : tables.Mem} {l : Level} {x : Seen} {o : Gone} where
  -- a Before has no end
  pub arrived-before : {n : ℕ} {d : Level} → x.symbol ≡ Before n → d ≡ open_at np n x l → Arrived p np k m start l x o m (record { opens = true; run = o; level = d })
  arrived-before {n} g f = record {
    opens = λ i h. (ap (λ (v : Level). record { opens = true; run = o; level = v }) (f ∙ ap (λ (j : ℕ). open_at np j x l) (ap value (rw g at h))), refl);
    ends = λ y h. absurd (none-there (rw g at h));
  }
    where
      none-there : {y : Found} → Ends (stack_at m.s (9 * x.from) x.cells) (before n) y → ⊥
      none-there h = elim h [ ]

  -- what is found by the entry is what the path ends in
  entry_found : Arriving p np k m start l x o → (c : Sym) {z : Found} → sym_of x.symbol ≡ c → Ends (stack_at m.s (9 * x.from) x.cells) c z → new_found m.s (entry_of start x o.energy c) ≡ z
  unfolding entry_of
  entry_found b (jumpdest t) g at_jumpdest =
      new-at m.s (record { start = start; to = Some t; from = x.from; cells = x.cells; energy = o.energy }) refl
  entry_found b (constant v) g at_constant = new-nowhere m.s (no_entry start o.energy) refl
  entry_found b (other pc) g at_other = new-nowhere m.s (no_entry start o.energy) refl
  entry_found b (before _) {z = z} g x4 = elim x4 [ ]

  -- anything but a Before has one
  pub arrived-ended : {m' : tables.Mem} {a : Reply} {e : Opening} {y : Entry} → Arriving p np k m start l x o → ((n : ℕ) → x.symbol ≡ Before n → ⊥)
      → y ≡ entry_of start x o.energy (sym_of x.symbol) → Noted p np k m o.counts y.start y.energy (new_found m.s y) m' a → e ≡ ended_with o a l
      → Arrived p np k m start l x o m' e
  arrived-ended {m'} {a} {e} {y} b others i n f =
      let end : Ended p np k m y.start l o (new_found m.s y) m' e = ended-with n (ap (λ (v : Entry). v.energy) i ∙ entry-energy start x o.energy (sym_of x.symbol)) f in
      let on : Ended p np k m start l o (new_found m.s y) m' e =
      subst (λ (v : ℕ). Ended p np k m v l o (new_found m.s y) m' e) (ap (λ (v : Entry). v.start) i ∙ entry-start start x o.energy (sym_of x.symbol)) end in
      record {
        opens = λ j h. absurd (no-before x.symbol others j h);
        ends = λ z h. subst (λ (g : Found). Ended p np k m start l o g m' e) (ap (new_found m.s) i ∙ entry_found b (sym_of x.symbol) refl h) on;
      }

  entry-lands : Arriving p np k m start l x o → (c : Sym) → sym_of x.symbol ≡ c → Lands p np k m o.counts (entry_of start x o.energy c)
  unfolding entry_of
  entry-lands a (before n) e = record { lent = a.lent; within = a.within; ready = a.ready }
  entry-lands a (constant v) e = record { lent = a.lent; within = a.within; ready = a.ready }
  entry-lands a (jumpdest t) e = record {
    lent = a.lent;
    within = a.within;
    ready = record {
      tables = a.ready.tables;
      path = a.ready.path;
      most = a.ready.most;
      start = a.ready.start;
      energy = a.ready.energy;
      entry = enters refl (a.lands t e) a.state;
      inside = a.inside;
    };
  }
  entry-lands a (other pc) e = record { lent = a.lent; within = a.within; ready = a.ready }

  pub arriving-lands : {y : Entry} → Arriving p np k m start l x o → y ≡ entry_of start x o.energy (sym_of x.symbol) → Lands p np k m o.counts y
  arriving-lands a f = rw f (entry-lands a (sym_of x.symbol) refl)
