-- `splices::slot` meets its contract.
-- Assumes nothing.
use native.Mathlib.Omega.{arith}
use mathlib.Core.Path.{◌≡◌}
use lib.ListN.{length}
use Rattle.cells.proofs.Cells.{length_of_map}
use Rattle.cluster.specs.Terms.{most_nodes}
use Rattle.splices.proofs.Slots.{all-before, all_new, all_after, all_none}
use Rattle.splices.proofs.slot.Goals as goal

pub returns-then-b-at : goal.returns-then-b-at
returns-then-b-at c =
    let long : length c.args.c.nodes ≡ most_nodes = search length_of_map in
    let a = c.args in
    all-before a.c.nodes a.c.count a.at a.out a.node a.new
    (omega (arith, long)) (omega arith) (omega arith) a.b (omega arith)

pub returns-then-b-at-2 : goal.returns-then-b-at-2
returns-then-b-at-2 c =
    let long : length c.args.c.nodes ≡ most_nodes = search length_of_map in
    let a = c.args in
    all_new a.c.nodes a.c.count a.at a.out a.node a.new
    (omega (arith, long)) (omega arith) (omega arith) a.b (λ h. omega arith) (omega arith)

pub returns-then-from-c : goal.returns-then-from-c
returns-then-from-c c =
    let long : length c.args.c.nodes ≡ most_nodes = search length_of_map in
    let a = c.args in
    all_after a.c.nodes a.c.count a.at a.out a.node a.new
    (omega (arith, long)) (omega arith) (omega arith) a.b (λ h. omega arith) (omega arith)

pub returns : goal.returns
returns c =
    let long : length c.args.c.nodes ≡ most_nodes = search length_of_map in
    let a = c.args in
    all_none a.c.nodes a.c.count a.at a.out a.node a.new
    (omega (arith, long)) (omega arith) (omega arith) a.b (λ h. omega arith) (λ h. omega arith)
