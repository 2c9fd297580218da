-- Bounds of cells, of a zone's copies and of a size.
-- Assumes nothing.
use Rattle.std.specs.Prelude.{ℕ, ◌*◌, ◌≤◌, ◌<◌, List}
use Rattle.cluster.specs.Terms.{most_nodes, buffer_rows}
use Rattle.incidence.specs.ModelIncidence.{cell}

-- The first n cells are at most m.
abbrev pub AtMost : ℕ → ℕ → List ℕ → Type 0
AtMost m n l = (b : ℕ) → b < n → cell l b ≤ m

-- The first n cells are below m.
abbrev pub Below : ℕ → ℕ → List ℕ → Type 0
Below m n l = (b : ℕ) → b < n → cell l b < m

-- The most copies that a zone can have: one of each partition on each node.
abbrev pub most_in_zone : ℕ
most_in_zone = most_nodes * buffer_rows

-- The bits of a size: as many as a capacity has, in the code a u32, since no size is above all capacities.
abbrev pub size_bits : ℕ
size_bits = 32
