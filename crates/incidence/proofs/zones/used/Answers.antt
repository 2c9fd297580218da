-- `incidence::zones::used` meets its contract.
-- Assumes nothing.
use borrow.Author.Rules.{rules}
use native.Mathlib.Omega.{arith}
use mathlib.Core.Path.{◌≡◌}
use lib.ListN.{length, length-take}
use Rattle.cluster.specs.Terms.{most_nodes}
use Rattle.cells.proofs.Cells.{length_of_map}
use Rattle.incidence.proofs.zones.used.Goals as goal

pub returns : goal.returns
returns c =
    let long : length c.args.c.nodes ≡ most_nodes = search length_of_map in
    (omega (arith, long, length-take c.args.c.count c.args.c.nodes), search rules, search rules)
