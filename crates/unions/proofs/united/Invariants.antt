-- `unions::united` meets its contract. The loop's invariant: the cells have what the parts passed hold together. Assumes nothing.
use Prim.Native.Nat.{ℕ, ◌+◌, ◌<◌}
use mathlib.Core.Path.{◌≡◌}
use lib.ListN.{length, get_or}
use Rattle.cluster.specs.Terms.{most_nodes}
use Rattle.unions.specs.ModelUnions.{union_to}
use Rattle.unions.proofs.united.Given as goal

abbrev pub invariant-loop-b : goal.invariant-loop-b
invariant-loop-b l = record {
  long : length l.held ≡ most_nodes;
  done : (t : ℕ) → t < most_nodes → get_or l.held t 0 ≡ union_to l.kept l.k l.b (l.j + t);
}
