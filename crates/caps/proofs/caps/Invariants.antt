-- `caps::caps` meets its contract. The loop's invariant: the first b caps are written, and the capacities passed are numbers of 32 bits.
-- Assumes nothing.
use Prim.Native.Nat.{ℕ, ◌^◌, ◌<◌}
use mathlib.Core.Path.{◌≡◌}
use Rattle.cluster.specs.Terms.{topology, node_at}
use Rattle.incidence.specs.ModelIncidence.{cap_at, column}
use Rattle.tallies.specs.ModelTallies.{size_bits}
use Rattle.caps.specs.ModelCaps.{cut_bits}
use Rattle.caps.proofs.caps.Given as goal

abbrev pub invariant-loop-b : goal.invariant-loop-b
invariant-loop-b l = (l.caps ≡ column (cap_at (cut_bits (topology l.c)) l.size) l.b) × ((i : ℕ) → i < l.b → (node_at (topology l.c) i).capacity < 2 ^ size_bits)
