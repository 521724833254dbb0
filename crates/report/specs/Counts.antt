-- What an entry adds to the totals of its map, as the code has it; by place among the 13. Assumes nothing.
use Rattle.std.specs.Prelude.{ℕ, ◌-◌, ◌^◌, ◌<◌, ◌≡◌, [], ◌∷◌, ◌++◌, eqb, replicate, Option, Some, None}
use Rattle.spec.specs.Lists.{if}
use Rattle.spec.specs.Report.{Totals, listed, nothing_yet, join}
use Rattle.reader.specs.declared.entry.Entry.{Entry}
use Rattle.reader.specs.declared.entry.Entry.TheVariants.{Head, Terminate, Jump, Jumpi, DynamicJump, DynamicJumpi, Way, Record}
use Rattle.report.specs.declared.count.Counts.{Counts}
use Rattle.report.specs.declared.count.Open.{Open}
use Rattle.report.specs.declared.count.Open.TheVariants.{Static, NoneYet, Only, Several}

-- the code's counts as totals: the number of maps and the energy stand in the head
abbrev pub totals_from : Counts → Totals
totals_from c = record {
  maps = 0;
  kind_2 = c.terminate;
  kind_3 = c.jump;
  kind_4 = c.jumpi;
  kind_5 = c.dynamic_jump;
  kind_6 = c.dynamic_jumpi;
  unresolved = c.unresolved;
  with_one = c.one;
  with_several = c.several;
  records_to = c.found;
  records_nowhere = c.nowhere;
  longest = c.longest;
  energy = 0;
}

-- and back
abbrev pub counts_of : Totals → Counts
counts_of t = record {
  terminate = t.kind_2;
  jump = t.kind_3;
  jumpi = t.kind_4;
  dynamic_jump = t.kind_5;
  dynamic_jumpi = t.kind_6;
  unresolved = t.unresolved;
  one = t.with_one;
  several = t.with_several;
  found = t.records_to;
  nowhere = t.records_nowhere;
  longest = t.longest;
}

abbrev pub none_counted : Counts
none_counted = counts_of nothing_yet

-- n at one place of the 13, and 0 at the others
abbrev pub at_place : ℕ → ℕ → Totals
at_place i n = listed (replicate i 0 ++ n ∷ [])

-- the block at hand, once its 7s are over
abbrev pub shut_of : Open → Totals
shut_of Static = nothing_yet
shut_of NoneYet = at_place 6 1
shut_of (Only t) = at_place 7 1
shut_of Several = at_place 8 1

-- a path of n addresses; a record with its destination and such a path
abbrev pub path_of : ℕ → Totals
path_of n = at_place 11 n

abbrev pub record_of : Option ℕ → ℕ → Totals
record_of None n = join (at_place 10 1) (path_of n)
record_of (Some t) n = join (at_place 9 1) (path_of n)

-- an entry, with the block at hand before it; the head is counted apart
abbrev pub adds_of : Entry → Open → Totals
adds_of (Head size n m energy) o = nothing_yet
adds_of (Terminate s e ok) o = join (at_place 1 1) (shut_of o)
adds_of (Jump s e to) o = join (at_place 2 1) (shut_of o)
adds_of (Jumpi s e t f) o = join (at_place 3 1) (shut_of o)
adds_of (DynamicJump s e n) o = join (at_place 4 1) (shut_of o)
adds_of (DynamicJumpi s e f n) o = join (at_place 5 1) (shut_of o)
adds_of (Way to path n) o = path_of n
adds_of (Record s to energy path n) o = record_of to n

-- the counts afterwards: with the block at hand; with a path; with a record; with an entry
pub record Shut (c : Counts) (o : Open) (r : Counts) : Type 0 where
  pub is : totals_from r ≡ join (totals_from c) (shut_of o)

pub record Longer (c : Counts) (n : ℕ) (r : Counts) : Type 0 where
  pub is : totals_from r ≡ join (totals_from c) (path_of n)

pub record Recorded (c : Counts) (to : Option ℕ) (n : ℕ) (r : Counts) : Type 0 where
  pub is : totals_from r ≡ join (totals_from c) (record_of to n)

pub record Counted (c : Counts) (o : Open) (e : Entry) (r : Counts) : Type 0 where
  pub is : totals_from r ≡ join (totals_from c) (adds_of e o)

-- the block at hand with one more destination of its 7s, or with a 7 that has none
abbrev pub sees_of : ℕ → Open → Open
sees_of t Static = Static
sees_of t NoneYet = Only t
sees_of t (Only u) = if (eqb u t) (Only u) Several
sees_of t Several = Several

abbrev pub seen_by : Option ℕ → Open → Open
seen_by None o = o
seen_by (Some t) o = sees_of t o

-- the block at hand behind an entry
abbrev pub opened_by : Entry → Open → Open
opened_by (Head size n m energy) o = o
opened_by (Terminate s e ok) o = Static
opened_by (Jump s e to) o = Static
opened_by (Jumpi s e t f) o = Static
opened_by (DynamicJump s e n) o = NoneYet
opened_by (DynamicJumpi s e f n) o = NoneYet
opened_by (Way to path n) o = seen_by to o
opened_by (Record s to energy path n) o = o

-- one more has room
pub record RoomToShut (c : Counts) : Type 0 where
  pub unresolved : c.unresolved < 2 ^ 64 - 1
  pub one : c.one < 2 ^ 64 - 1
  pub several : c.several < 2 ^ 64 - 1

pub record Roomy (c : Counts) : Type 0 where
  pub terminate : c.terminate < 2 ^ 64 - 1
  pub jump : c.jump < 2 ^ 64 - 1
  pub jumpi : c.jumpi < 2 ^ 64 - 1
  pub dynamic_jump : c.dynamic_jump < 2 ^ 64 - 1
  pub dynamic_jumpi : c.dynamic_jumpi < 2 ^ 64 - 1
  pub found : c.found < 2 ^ 64 - 1
  pub nowhere : c.nowhere < 2 ^ 64 - 1
  pub to_shut : RoomToShut c
