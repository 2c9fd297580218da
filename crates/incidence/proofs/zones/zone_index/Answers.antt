-- `incidence::zones::zone_index` meets its contract. The loop's invariant: no node before i is of the zone.
use borrow.Author.Rules.{rules}
use native.Mathlib.Omega.{arith}
use mathlib.Core.Path.{◌≡◌, refl, sym}
use lib.ListN.{length}
use borrow.Author.Count.{below_more}
use Rattle.cells.proofs.Cells.{length_of_map}
use Rattle.cluster.specs.Terms.{most_nodes}
use Rattle.incidence.proofs.ZoneScan.{zone_found}
use Rattle.incidence.proofs.zones.zone_index.Goals as goal

pub returns-then-c-i : goal.returns-then-c-i
returns-then-c-i c =
    let long : length c.args.c.nodes ≡ most_nodes = search length_of_map in
    sym (zone_found c.args.c c.args.b c.loop-i.i long (search rules) (search rules) (search rules) (search rules) c.loop-i.invariant)

pub loop-i-preserved : goal.loop-i-preserved
loop-i-preserved c = below_more _ _ c.loop-i.invariant c.if-c-i.false

pub returns : goal.returns
returns c =
    let long : length c.args.c.nodes ≡ most_nodes = search length_of_map in
    sym (zone_found c.args.c c.args.b c.args.b long (search rules) (search rules) (search rules) refl (λ j l. c.loop-i.invariant j (omega arith)))
