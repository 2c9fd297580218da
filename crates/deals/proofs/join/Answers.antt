-- `deals::join` meets its contract. The loop's invariant: the node is in the rows passed.
use borrow.Author.Rules.{rules}
use native.Mathlib.Omega.{arith}
use Prim.Native.Nat.{ℕ, ◌+◌, ◌-◌}
use mathlib.Core.Path.{◌≡◌, ap, ◌∙◌}
use lib.ListN.{get_or}
use Rattle.cells.specs.ModelCells.{put}
use Rattle.sets.specs.ModelBits.{with_of}
use Rattle.deals.proofs.Dealing.{join-none, join-next}
use Rattle.deals.proofs.join.Goals as goal

pub loop-p-init : goal.loop-p-init
loop-p-init c = let a = c.args in (search rules, join-none a.rows.now a.b a.from)

pub loop-p-preserved : goal.loop-p-preserved
loop-p-preserved c =
    let a = c.args in
    (search rules, join-next a.rows.now c.loop-p.rows a.b a.from c.loop-p.p _ c.union.result (omega arith) c.loop-p.invariant.1 c.with-own.ensures c.union.ensures)

pub returns : goal.returns
returns c =
    let a = c.args in
    let e : c.loop-p.p - a.from ≡ a.to - a.from = omega arith in
    c.loop-p.invariant.1 ∙ ap (λ (m : ℕ). put a.from (λ j. with_of (get_or a.rows.now (a.from + j) 0) a.b) m a.rows.now) e
