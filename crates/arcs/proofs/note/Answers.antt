-- `arcs::note` meets its contract. Assumes nothing.
use Prim.Native.Nat.{◌/◌, ◌%◌, ◌^◌}
use mathlib.Core.Path.{sym}
use Rattle.sets.proofs.Laws.{bit_shr}
use Rattle.arcs.proofs.Growing.{noted-is}
use Rattle.arcs.proofs.note.Goals as goal

pub returns : goal.returns
returns c =
    let a = c.args in
    noted-is a.arcs.now a.a a.former a.to (a.former / 2 ^ a.a % 2) c.meet.result c.difference.result c.join.new.arcs
    c.join-2.new.arcs (sym (bit_shr a.former a.a)) c.meet.ensures c.difference.ensures c.join.ensures c.join-2.ensures
