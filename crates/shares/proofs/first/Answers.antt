-- `shares::first` meets its contract. The loop's invariant: the first b numbers are written, and the room that is left.
use borrow.Author.Rules.{rules}
use native.Mathlib.Omega.{arith}
use Rattle.sums.specs.TermsSums.{sum_to}
use Rattle.dealing.specs.ModelDeal.{pour, zoned}
use Rattle.incidence.specs.ModelIncidence.{cell}
use Rattle.incidence.proofs.Columns.{column-none, column-next, column_end}
use Rattle.shares.proofs.Pouring.{pour_here, pour_left}
use Rattle.shares.proofs.first.Goals as goal

pub loop-b-init : goal.loop-b-init
unfolding sum_to
loop-b-init c = (search rules, column-none _)

pub zoned-requires : goal.zoned-requires
zoned-requires c =
    (search rules, λ i l. c.requires.1 i (omega arith))

pub loop-b-preserved : goal.loop-b-preserved
loop-b-preserved c =
    let a = c.args in
    let z = c.zoned in
    let x = c.min-given in
    let f = zoned a.partitions (cell a.zones.now) (cell a.caps.now) in
    let v = pour_here f a.room c.loop-b.b c.loop-b.left z.result x.result c.loop-b.invariant.0 z.ensures x.ensures in (
      pour_left f a.room c.loop-b.b c.loop-b.left z.result x.result c.loop-b.invariant.0 z.ensures x.ensures,
      column-next (pour a.room f) c.loop-b.copies c.loop-b.b x.result c.loop-b.invariant.1 v,
    )

pub returns : goal.returns
returns c =
    let a = c.args in
    column_end (pour a.room (zoned a.partitions (cell a.zones.now) (cell a.caps.now))) c.loop-b.copies c.loop-b.b a.n c.loop-b.invariant.1 (omega arith)
