-- `steps::arcs` meets its contract. Assumes nothing.
use Prim.Native.Nat.{ℕ}
use mathlib.Core.Path.{sym, subst}
use Rattle.sets.specs.ModelBits.{bit}
use Rattle.graph.specs.ModelKept.{Kept}
use Rattle.steps.proofs.Steps.{room-bit, the_arcs}
use Rattle.steps.proofs.arcs.Goals as goal

pub build-requires : goal.build-requires
build-requires c =
    let a = c.args in (
      c.requires.0,
      c.requires.2.tight,
      λ u h. room-bit a.rows.now a.given.now.partitions a.given.now.caps.now c.room-room.result c.room-room.ensures u h,
      subst (λ (x : ℕ). Kept a.rows.now a.given.now.former.now a.given.now.partitions a.given.now.mates.now x a.given.now.z (bit a.stale) a.kept.now) (sym c.below-all.ensures) c.requires.1,
    )

pub returns : goal.returns
returns c =
    let a = c.args in (
      the_arcs a.given.now.former.now a.given.now.partitions a.given.now.mates.now a.given.now.caps.now a.nodes a.given.now.z a.rows.now c.below-all.result c.below-all.ensures c.build.new.arcs c.build.ensures.0,
      subst (λ (x : ℕ). Kept a.rows.now a.given.now.former.now a.given.now.partitions a.given.now.mates.now x a.given.now.z (bit 0) c.build.new.kept) c.below-all.ensures c.build.ensures.1,
    )
