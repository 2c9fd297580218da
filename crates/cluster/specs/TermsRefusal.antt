-- The refusals by number, as the paper lists them.
-- Assumes nothing.
use Rattle.std.specs.Prelude.{ℕ, Result, Ok, Err}
use Rattle.cluster.specs.declared.refusal.Refusal.{Refusal}
use Rattle.cluster.specs.declared.refusal.Refusal.TheVariants.{Cut, Tag, Length, Range, Order, Nodes, Missing, Buffer, NoLayout, Row, Zones, Capacity, Present, Absent, Totals, Three, Ceiling, Start, Larger, Fewer, Sequence}

-- "1 .. 21": the number of a refusal.
abbrev pub number_of : Refusal → ℕ
number_of Cut = 1
number_of Tag = 2
number_of Length = 3
number_of Range = 4
number_of Order = 5
number_of Nodes = 6
number_of Missing = 7
number_of Buffer = 8
number_of NoLayout = 9
number_of Row = 10
number_of Zones = 11
number_of Capacity = 12
number_of Present = 13
number_of Absent = 14
number_of Totals = 15
number_of Three = 16
number_of Ceiling = 17
number_of Start = 18
number_of Larger = 19
number_of Fewer = 20
number_of Sequence = 21

-- "0 where nothing is refused": the number of an answer.
abbrev pub refusal_of : {A : Type 0} → Result A Refusal → ℕ
refusal_of (Ok _) = 0
refusal_of (Err refusal) = number_of refusal
