-- `layouts::rows::zones_in` meets its contract. The loop's invariant: the zones so far, with those of the nodes that are left, are the zones of all.
-- Assumes nothing.
use Prim.Native.Nat.{◌<◌, ◌^◌}
use Rattle.sets.specs.ModelBits.{mask_bits}
use Rattle.layouts.proofs.RowWalks.{CoveredSoFar}
use Rattle.layouts.proofs.rows.zones_in.Given as goal

abbrev pub invariant-loop-b : goal.invariant-loop-b
invariant-loop-b l = (l.covered < 2 ^ mask_bits) × CoveredSoFar l.zones l.nodes l.b-iterator.left l.covered
