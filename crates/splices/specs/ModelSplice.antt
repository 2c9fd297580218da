-- Nodes cut out of a list and others put in, by place: what the slots of a replaced cluster hold.
-- Assumes nothing.
use Rattle.std.specs.Prelude.{ℕ, ◌+◌, List, ◌++◌, take, drop}
use Rattle.cluster.specs.declared.Node.{Node}

-- Nodes with those from place `at` on, `out` of them, replaced by others.
unfoldable pub spliced : List Node → ℕ → ℕ → List Node → List Node
spliced l at out new = take at l ++ (new ++ drop (at + out) l)
