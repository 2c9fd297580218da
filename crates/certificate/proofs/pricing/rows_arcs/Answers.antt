-- `certificate::pricing::rows_arcs` meets its contract. Assumes nothing.
use borrow.Author.Rules.{rules}
use Rattle.sets.specs.ModelBits.{below_of}
use Rattle.holders.proofs.Holding.{held_none}
use Rattle.graph.proofs.Keeping.{kept-none}
use Rattle.certificate.proofs.pricing.rows_arcs.Goals as goal

pub fill-requires : goal.fill-requires
fill-requires c = (search rules, held_none _)

pub arcs-requires : goal.arcs-requires
arcs-requires c =
    let a = c.args in
    (search rules, kept-none a.former.now a.partitions a.mates.now (below_of a.nodes) a.z a.rows.now _ (search rules), record { tight = search rules; held = search rules })
