-- `loss::given::set_of` meets its contract.
-- Assumes nothing.
use mathlib.Core.Path.{◌≡◌}
use mathlib.Core.List.{List}
use Rattle.sets.specs.ModelBits.{mask_of}
use Rattle.cluster.specs.Terms.{ids_of}
use Rattle.cluster.specs.declared.Node.{Node}
use Rattle.incidence.specs.ModelIncidence.{bits_of}
use Rattle.loss.proofs.given.set_of.Given as goal

abbrev pub invariant-loop-b : goal.invariant-loop-b
invariant-loop-b l =
    (ns : List Node) → l.ids ≡ ids_of ns → l.set ≡ mask_of (bits_of ns l.given) l.b
