-- `holders::fill` meets its contract. The sets are those of the rows that the loop passed. Assumes nothing.
use Prim.Native.Nat.{ℕ}
use mathlib.Core.Path.{subst}
use native.Mathlib.Omega.{arith}
use Rattle.sets.specs.ModelBits.{bit}
use Rattle.holders.specs.ModelHolders.{Taken}
use Rattle.holders.proofs.Holding.{held_more}
use borrow.Author.Rules.{rules}
use Rattle.holders.proofs.fill.Goals as goal

pub hold-requires : goal.hold-requires
hold-requires c = (search rules, search rules, λ u l. c.loop-p.invariant.beyond u c.loop-p.p l (omega arith) (omega arith))

pub loop-p-preserved : goal.loop-p-preserved
loop-p-preserved c =
    let L = c.loop-p in
    held_more c.args.rows.now L.p L.held c.hold.new.held (omega arith) L.invariant c.hold.ensures.0
    (subst (λ (x : ℕ). Taken (bit x) L.p L.held c.hold.new.held) c.cell.ensures c.hold.ensures.1)
