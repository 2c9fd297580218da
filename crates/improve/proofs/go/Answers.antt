-- `improve::go` meets its contract. The cells hold the state that the run has reached, and what is kept of its rows. Assumes nothing.
use native.Mathlib.Omega.{arith}
use Prim.Native.Nat.{ℕ}
use mathlib.Core.List.{List}
use mathlib.Core.Path.{◌≡◌, sym, ap, subst}
use lib.ListN.{length, replicate}
use Rattle.cycles.specs.ModelFound.{walk_cells}
use Rattle.exchange.specs.ModelUncross.{Same}
use Rattle.sets.specs.ModelBits.{below_of}
use Rattle.graph.proofs.Keeping.{kept-none}
use Rattle.walks.specs.ModelWalks.{walk_in}
use Rattle.improve.specs.ModelImprove.{begun}
use Rattle.improve.proofs.Turns.{blank-walk, run_begins, run_finished, run_goes}
use borrow.Author.Rules.{rules}
use Rattle.improve.proofs.go.Goals as goal

pub loop-done-init : goal.loop-done-init
loop-done-init c =
    let a = c.args in
    let p = c.requires in (
      omega arith,
      omega arith,
      run_begins a.given.now.former.now a.given.now.partitions a.given.now.mates.now a.given.now.caps.now a.nodes a.given.now.z a.allowance a.rows.now (walk_in 0 a.y.now a.q.now)
          (subst (λ (x : List ℕ). Same (begun a.rows.now).last (walk_in 0 x a.q.now)) (sym p.2)
          (subst (λ (x : List ℕ). Same (begun a.rows.now).last (walk_in 0 (replicate walk_cells 0) x)) (sym p.3) (blank-walk a.rows.now))),
      kept-none a.given.now.former.now a.given.now.partitions a.given.now.mates.now (below_of a.nodes) a.given.now.z a.rows.now a.kept.now p.4,
      p.5,
    )

pub step-last-requires : goal.step-last-requires
step-last-requires c =
    let p = c.requires in
    let i = c.loop-done.invariant in
    let nodes-long : length c.args.y.now ≡ walk_cells = ap length p.2 in
    let partitions-long : length c.args.q.now ≡ walk_cells = ap length p.3 in
    (i.1, omega (arith, nodes-long), omega (arith, partitions-long), p.0, omega arith, i.3, i.4, p.6)

pub shape_of-held-then-last-eq0 : goal.shape_of-held-then-last-eq0
shape_of-held-then-last-eq0 c = omega (arith, c.step-last.ensures.6.held.cells, c.requires.5.held.cells)

pub shape_of-kept-then-last-eq0 : goal.shape_of-kept-then-last-eq0
shape_of-kept-then-last-eq0 c = omega (arith, c.step-last.ensures.5.long, c.requires.4)

pub returns-then-last-eq0 : goal.returns-then-last-eq0
returns-then-last-eq0 c =
    let a = c.args in
    let d =
    run_finished a.given.now.former.now a.given.now.partitions a.given.now.mates.now a.given.now.caps.now a.nodes a.given.now.z a.allowance a.rows.now c.loop-done.done c.loop-done.rows (walk_in c.loop-done.last.len c.loop-done.y c.loop-done.q) c.loop-done.invariant.2 c.step-last.new.rows (walk_in c.step-last.result.len c.step-last.new.y c.step-last.new.q) c.loop-done.invariant.0
    c.step-last.ensures.3 c.step-last.ensures.4 c.if-last-eq0.true in
    (d.0, d.1, d.2, search rules, c.step-last.ensures.6, c.step-last.ensures.5)

pub loop-done-preserved : goal.loop-done-preserved
loop-done-preserved c =
    let a = c.args in
    let g =
    run_goes a.given.now.former.now a.given.now.partitions a.given.now.mates.now a.given.now.caps.now a.nodes a.given.now.z a.allowance a.rows.now c.loop-done.done c.loop-done.rows (walk_in c.loop-done.last.len c.loop-done.y c.loop-done.q) c.loop-done.invariant.2 c.step-last.new.rows (walk_in c.step-last.result.len c.step-last.new.y c.step-last.new.q) c.loop-done.invariant.0
    c.step-last.ensures.3 c.step-last.ensures.4 c.if-last-eq0.false in (
      omega arith,
      c.step-last.ensures.0,
      g.0 (omega arith),
      c.step-last.ensures.5,
      c.step-last.ensures.6,
    )

pub returns-else-last-eq0 : goal.returns-else-last-eq0
returns-else-last-eq0 c =
    let a = c.args in
    let g =
    run_goes a.given.now.former.now a.given.now.partitions a.given.now.mates.now a.given.now.caps.now a.nodes a.given.now.z a.allowance a.rows.now c.loop-done.done c.loop-done.rows (walk_in c.loop-done.last.len c.loop-done.y c.loop-done.q) c.loop-done.invariant.2 c.step-last.new.rows (walk_in c.step-last.result.len c.step-last.new.y c.step-last.new.q) c.loop-done.invariant.0
    c.step-last.ensures.3 c.step-last.ensures.4 c.if-last-eq0.false in
    let d = g.1 (omega arith) in
    (d.0, d.1, d.2, search rules, c.step-last.ensures.6, c.step-last.ensures.5)

pub returns : goal.returns
returns c = absurd (omega arith)
