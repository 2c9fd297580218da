-- `holders::hold` meets its contract. The nodes of the row that are left no more have taken the partition on. Assumes nothing.
use native.Mathlib.Omega.{arith}
use Rattle.sets.proofs.Scan.{left_all, left_less}
use Rattle.holders.proofs.Holding.{partly_none, partly_more, least-lacks, partly_all}
use Rattle.holders.proofs.hold.Goals as goal

pub loop-u-init : goal.loop-u-init
loop-u-init c =
    let a = c.args in
    rw (c.into_iter-u-iterator.ensures.into_iter_gives, c.iter-u-items.ensures)
    (record { counted = c.requires.0; left = left_all a.row (omega arith); done = partly_none a.row a.p a.held.now })

pub add-requires : goal.add-requires
add-requires c =
    let a = c.args in
    let L = c.loop-u in
    let comes = c.in-Some.ensures.steps in
    (L.invariant.counted, c.requires.1, comes.below, least-lacks a.row a.p a.held.now _ _ _ L.held c.requires.1 L.invariant.left comes c.requires.2 L.invariant.done)

pub loop-u-preserved : goal.loop-u-preserved
loop-u-preserved c =
    let a = c.args in
    let L = c.loop-u in
    let comes = c.in-Some.ensures.steps in
    record {
      counted = c.add.ensures.0;
      left = rw comes.rest (left_less _ _ L.invariant.left comes.some);
      done = partly_more a.row a.p a.held.now _ _ _ L.held c.add.new.held L.invariant.left comes L.invariant.done c.add.ensures.1;
    }

pub returns : goal.returns
returns c =
    let a = c.args in
    let L = c.loop-u in
    (L.invariant.counted, partly_all a.row a.p a.held.now L.u-iterator.left L.held c.in-None.ensures.steps.0 L.invariant.done)
