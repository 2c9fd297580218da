-- `caps::caps` meets its contract. The loop's invariant: the first b caps are written, and the capacities passed are numbers of 32 bits.
use borrow.Author.Count.{below_more}
use native.Mathlib.Omega.{arith}
use Prim.Native.Nat.{ℕ, ◌/◌, min}
use mathlib.Core.Path.{sym, ap, ap₂, ◌∙◌}
use Rattle.cluster.specs.Terms.{topology, usable}
use Rattle.cluster.specs.declared.Node.{Node}
use Rattle.cluster.proofs.Slots.{node-slot}
use Rattle.incidence.specs.ModelIncidence.{cap_at}
use Rattle.incidence.proofs.Columns.{column-none, column-next, column_end}
use Rattle.caps.specs.ModelCaps.{cut_bits, cap_cells, caps_in}
use Rattle.caps.proofs.caps.Goals as goal

pub loop-b-init : goal.loop-b-init
loop-b-init c = (column-none _, λ i l. absurd (omega arith))

pub loop-b-preserved : goal.loop-b-preserved
unfolding cap_at
loop-b-preserved c =
    let a = c.args in
    let e = node-slot a.c c.loop-b.b (omega arith) in (
      column-next (cap_at (cut_bits (topology a.c)) a.size) c.loop-b.caps c.loop-b.b _ c.loop-b.invariant.0
          (c.cap.ensures
          ∙ ap₂ (λ (m n : ℕ). min m (n / a.size))
          (c.min-highest.ensures ∙ ap₂ min c.partitions-most.ensures.0 (ap (λ (n : Node). n.ceiling) (sym e)))
          (c.usable-usable.ensures.0 ∙ ap usable (sym e))),
      below_more _ _ c.loop-b.invariant.1 (omega (arith, c.usable-usable.ensures.1, ap (λ (n : Node). n.capacity) e)),
    )

pub returns : goal.returns
unfolding caps_in cap_cells
returns c =
    (column_end (cap_at (cut_bits (topology c.args.c)) c.args.size) c.loop-b.caps c.loop-b.b _ c.loop-b.invariant.0 (omega arith), λ b l. c.loop-b.invariant.1 b (omega arith))
