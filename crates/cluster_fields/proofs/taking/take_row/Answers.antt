-- `cluster_fields::taking::take_row` meets its contract.
-- Assumes nothing.
use Rattle.cluster_fields.proofs.Rows.{taken-row}
use borrow.Author.Rules.{rules}
use native.Mathlib.Omega.{arith}
use Rattle.cluster_fields.proofs.taking.take_row.Goals as goal

pub put_ids-requires : goal.put_ids-requires
put_ids-requires c = (omega (arith, c.pair_at-partition.ensures), search rules)

pub returns : goal.returns
returns c = λ F e g.
    let q = c.args in
    taken-row q.bytes.now F q.start q.len c.pair_at-partition.result q.rows.now c.put_ids.new.cells
    c.pair_at-partition.ensures.0 c.requires.1 c.requires.3 g e c.put_ids.ensures
