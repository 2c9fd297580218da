-- `arcs::write_rows` meets its contract. Assumes nothing.
use borrow.Author.Rules.{rules}
use native.Mathlib.Omega.{arith}
use lib.ListN.{drop}
use Rattle.arcs.specs.ModelMoves.{moves_to}
use Rattle.arcs.proofs.Turns.{clear-length, written}
use Rattle.arcs.proofs.write_rows.Goals as goal

pub add_rows-requires : goal.add_rows-requires
add_rows-requires c =
    let a = c.args in
    (omega (arith, clear-length a.arcs.now c.clear.new.arcs c.requires.0 c.clear.ensures), search rules, c.requires.2, c.requires.3)

pub returns : goal.returns
returns c =
    let a = c.args in
    written (moves_to (drop a.first a.rows.now) (drop a.first a.given.now.former.now) a.n a.given.now.mates.now a.all a.given.now.z) a.arcs.now c.clear.new.arcs c.add_rows.new.arcs
    c.requires.0 c.clear.ensures c.add_rows.ensures
