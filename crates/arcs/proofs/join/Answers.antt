-- `arcs::join` meets its contract. Assumes nothing.
use Prim.Native.Nat.{ℕ}
use mathlib.Core.Path.{ap}
use lib.ListN.{set}
use Rattle.arcs.specs.ModelMoves.{joined}
use Rattle.arcs.proofs.join.Goals as goal

pub returns : goal.returns
unfolding joined
returns c = let a = c.args in ap (λ (x : ℕ). set a.arcs.now a.i x) c.union.ensures
