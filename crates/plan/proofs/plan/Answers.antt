-- The bits of a cluster that is planned are in range.
use mathlib.Core.Path.{refl}
use Rattle.std.proofs.Common.{rules}
use Rattle.plan.proofs.Bits.{planned-bits}
use Rattle.plan.proofs.plan.Goals as goal

pub rows-requires : goal.rows-requires
rows-requires g c = (planned-bits c.args.c c.args.former.now 2048 2048 16384 _ c.in-Ok.ensures.0 refl, search rules)
