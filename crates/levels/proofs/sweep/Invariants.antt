-- `levels::sweep` meets its contract: the distances below c have been taken.
-- Assumes nothing.
use mathlib.Core.Path.{◌≡◌}
use Rattle.sets.specs.ModelBits.{below_of}
use Rattle.levels.proofs.Sweeps.{Sweeping}
use Rattle.levels.proofs.sweep.Given as goal

abbrev pub invariant-loop-c : goal.invariant-loop-c
invariant-loop-c l =
    (l.all ≡ below_of l.n) × Sweeping l.arcs l.n l.mask l.dist l.initial.next l.initial.atmost l.c l.here l.even l.up l.fell l.next l.row l.atmost
