-- `walks::allows` meets its contract. Assumes nothing.
use Rattle.walks.proofs.Steps.{ok_at}
use Rattle.walks.proofs.allows.Goals as goal

pub returns : goal.returns
returns c =
    let a = c.args in
    ok_at a.rows.now a.given.now.mates.now a.tight.now a.all a.given.now.z a.given.now.partitions a.p a.a a.b c.cell-row.result c.cell-mate.result c.targets_in.result
    c.member.result c.requires.0 c.requires.1 c.cell-row.ensures c.cell-mate.ensures c.targets_in.ensures c.member.ensures
