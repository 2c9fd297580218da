-- `attempts::refresh` meets its contract. The arcs that the loop passed lead anew. Assumes nothing.
use borrow.Author.Rules.{rules}
use native.Mathlib.Omega.{arith}
use Prim.Native.Nat.{ℕ, ◌+◌}
use mathlib.Core.Path.{◌≡◌, refl, sym, ap, ◌∙◌, subst}
use mathlib.Core.List.{List}
use lib.ListN.{get_or}
use Rattle.cluster.specs.Terms.{most_nodes}
use Rattle.swaps.specs.ModelSwaps.{tight_of}
use Rattle.evens.specs.ModelEvens.{Widened}
use Rattle.attempts.specs.ModelDeciding.{Refreshed}
use Rattle.attempts.proofs.Refreshing.{refresh-none, refresh-row, refresh-store, refresh-past}
use Rattle.attempts.proofs.refresh.Goals as goal
use Rattle.attempts.proofs.refresh.Goals.{then-p-given, else-p-given+then-v-lt-NODES, else-p-given+else-v-lt-NODES}

pub loop-i-init : goal.loop-i-init
loop-i-init c =
    let a = c.args in
    refresh-none a.rows.now a.given.now.former.now a.given.now.partitions a.given.now.mates.now a.all a.given.now.z a.even.now a.y.now a.q.now a.leads.now

pub widen-requires : goal.widen-requires
widen-requires c =
    let a = c.args in (
      omega (arith, c.requires.0, c.loop-i.invariant.long),
      search rules,
      c.requires.4.here (get_or a.q.now c.loop-i.i 0) c.if-p-given.true ∙ ap (tight_of a.given.now.mates.now a.given.now.z) (sym c.cell-row.ensures),
    )

pub loop-i-preserved : goal.loop-i-preserved
loop-i-preserved c =
    let a = c.args in
    let i = c.loop-i.i in
    let r = c.loop-i.invariant in
    elim c.if-p-given.branch [
      | then-p-given w ↦ refresh-row a.rows.now a.given.now.former.now a.given.now.partitions a.given.now.mates.now a.all a.given.now.z a.even.now a.y.now a.q.now a.leads.now i c.loop-i.leads
          c.if-p-given.leads r (get_or a.q.now i 0) w.cell-row.result w.cell.result refl w.if-p-given.true w.cell-row.ensures w.cell.ensures
          (subst (λ (x : List ℕ). Widened a.given.now.mates.now a.all a.given.now.z a.even.now w.cell-row.result w.cell.result c.loop-i.leads x) (sym w.leads-is) w.widen.ensures)
      | else-p-given+then-v-lt-NODES w ↦ refresh-store a.rows.now a.given.now.former.now a.given.now.partitions a.given.now.mates.now a.all a.given.now.z a.even.now a.y.now a.q.now a.leads.now i c.loop-i.leads
          c.if-p-given.leads r (get_or a.y.now i 0) (get_or a.even.now (most_nodes + get_or a.y.now i 0) 0) refl (omega (arith, w.if-p-given.false)) w.if-v-lt-NODES.true refl c.requires.0
          (w.leads-is ∙ w.join.ensures)
      | else-p-given+else-v-lt-NODES w ↦ refresh-past a.rows.now a.given.now.former.now a.given.now.partitions a.given.now.mates.now a.all a.given.now.z a.even.now a.y.now a.q.now a.leads.now i c.loop-i.leads
          c.if-p-given.leads r (omega (arith, w.if-p-given.false)) (omega (arith, w.if-v-lt-NODES.false)) w.leads-is
    ]

pub returns : goal.returns
returns c =
    let a = c.args in
    let e : c.loop-i.i ≡ a.m = omega arith in
    subst
    (λ (n : ℕ). Refreshed a.rows.now a.given.now.former.now a.given.now.partitions a.given.now.mates.now a.all a.given.now.z a.even.now a.y.now a.q.now n a.leads.now c.loop-i.leads)
    e c.loop-i.invariant
