-- `change_fields::to_bytes` meets its contract.
-- Assumes nothing.
use Rattle.change_fields.specs.RecordChange.{change_field}
use Rattle.change_fields.proofs.Changes.{length-change, reverse-put}
use Rattle.change_fields.proofs.to_bytes.Goals as goal

pub returns : goal.returns
returns c =
    let p = c.put_change-len in
    let x = c.args.x in
    reverse-put (change_field x) _ _ (length-change x) p.ensures.1 p.ensures.0
