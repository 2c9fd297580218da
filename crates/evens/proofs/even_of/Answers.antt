-- `evens::even_of` meets its contract. Assumes nothing.
use Prim.Native.Nat.{◌/◌, ◌%◌, ◌^◌}
use mathlib.Core.Path.{sym}
use Rattle.sets.proofs.Laws.{bit_shr}
use Rattle.evens.proofs.Turns.{even_is}
use Rattle.evens.proofs.even_of.Goals as goal

pub returns : goal.returns
returns c =
    let a = c.args in
    even_is a.even.now a.former a.a (a.former / 2 ^ a.a % 2) c.meet.result c.difference.result c.union.result (sym (bit_shr a.former a.a))
    c.meet.ensures c.difference.ensures c.union.ensures
