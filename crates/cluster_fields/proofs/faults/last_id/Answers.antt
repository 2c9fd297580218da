-- `cluster_fields::faults::last_id` meets its contract.
-- Assumes nothing.
use mathlib.Core.Path.{◌≡◌, sym}
use lib.ListN.{length}
use Rattle.cells.proofs.Cells.{length_of_map}
use Rattle.cluster_fields.proofs.Items.{last-used, last_none}
use native.Mathlib.Omega.{arith}
use Rattle.cluster_fields.proofs.faults.last_id.Goals as goal

pub returns-then-n-eq0 : goal.returns-then-n-eq0
returns-then-n-eq0 c = sym (last_none c.args.c.nodes c.args.c.count c.if-n-eq0.true)

pub returns : goal.returns
returns c =
    let long : length c.args.c.nodes ≡ 32 = search length_of_map in
    let a = c.args.c in
    sym (last-used a.nodes a.count (omega arith) (omega (arith, long)))
