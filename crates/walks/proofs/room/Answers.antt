-- `walks::room` meets its contract. Assumes nothing.
use mathlib.Core.Path.{ap₂}
use native.Mathlib.Omega.{arith}
use lib.Dec.{ltb}
use Rattle.walks.specs.ModelWalks.{room_at}
use Rattle.walks.proofs.Finding.{room-none}
use Rattle.walks.proofs.room.Goals as goal

pub returns-then-u-ge-NODES : goal.returns-then-u-ge-NODES
returns-then-u-ge-NODES c = let a = c.args in
    room-none a.rows.now a.partitions a.caps.now a.u c.cell-cap.result (λ q. omega (arith, c.type_inv.rows q))
    (omega arith) c.cell-cap.ensures

pub returns : goal.returns
returns c = let a = c.args in
    unfold room_at in ap₂ ltb c.count.ensures c.cell-cap.ensures
