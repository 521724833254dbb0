-- The numbers of the refusals. "When an answer is an enum, a definition gives this paper's number and values for each enum case." Assumes nothing.
use Rattle.std.specs.Prelude.{ℕ}
use Rattle.refusal.specs.declared.Shortage.{Shortage}
use Rattle.refusal.specs.declared.Shortage.TheVariants.{P, S, T, R, Q}
use Rattle.refusal.specs.declared.Refusal.{Refusal}
use Rattle.refusal.specs.declared.Refusal.TheVariants.{Code, Limit, Work, Room, Output, Input, Text, Entry, Mode, Log, Counts, Total, Path, Archive}

-- "4, 5, 6 | P, S, T short", "7, 8 | R, Q short"
abbrev pub short_number : Shortage → ℕ
short_number P = 4
short_number S = 5
short_number T = 6
short_number R = 7
short_number Q = 8

abbrev pub number_of : Refusal → ℕ
number_of Code = 1
number_of Limit = 2
number_of Work = 3
number_of (Room short) = short_number short
number_of Output = 9
number_of Input = 10
number_of Text = 11
number_of (Entry _) = 12
number_of Mode = 13
number_of Log = 14
number_of Counts = 15
number_of Total = 16
number_of (Path _) = 17
number_of Archive = 18

-- what is told beside the number: the entry's offset with 12 and 17, else 0
abbrev pub value_of : Refusal → ℕ
value_of (Entry offset) = offset
value_of (Path offset) = offset
value_of _ = 0
