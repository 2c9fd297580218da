-- `walks::arc_cost` meets its contract. Assumes nothing.
use native.Mathlib.Omega.{arith}
use borrow.Author.Tests.{lt-ltb, le-ltb}
use lib.Dec.{ltb}
use mathlib.Core.Bool.{true}
use mathlib.Core.Path.{◌≡◌, ap}
use Prim.Native.Nat.{ℕ}
use Rattle.sets.specs.ModelBits.{bit}
use Rattle.exchange.specs.ModelCircuit.{cost}
use Rattle.walks.proofs.arc_cost.Goals as goal

pub overflow_add-result : goal.overflow_add-result
overflow_add-result c = omega arith

pub overflow_sub-result : goal.overflow_sub-result
overflow_sub-result c = omega arith

pub returns-then-q-partitions : goal.returns-then-q-partitions
unfolding cost
returns-then-q-partitions c = let a = c.args in
    let e : ltb a.q a.partitions ≡ true = lt-ltb a.q a.partitions c.if-q-partitions.true in (
      rw e (
          omega (
            arith,
            c.digit-then-q-partitions.ensures.0,
            c.digit.ensures.0,
            ap (λ (x : ℕ). bit x a.a) c.cell-old.ensures,
            ap (λ (x : ℕ). bit x a.b) c.cell-old.ensures,
          )
          ),
      omega (arith, c.digit-then-q-partitions.ensures.1, c.digit.ensures.1),
    )

pub returns : goal.returns
unfolding cost
returns c = (rw (le-ltb c.args.q c.args.partitions c.if-q-partitions.false), omega arith)
