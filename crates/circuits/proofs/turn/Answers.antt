-- `circuits::turn` meets its contract. Assumes nothing.
use borrow.Author.Rules.{rules}
use mathlib.Core.Path.{sym, ◌∙◌}
use Rattle.exchanging.proofs.Making.{walked_same}
use Rattle.circuits.proofs.turn.Goals as goal

pub make-changed-requires : goal.make-changed-requires
make-changed-requires c =
    (search rules, search rules, search rules, search rules, c.requires.5)

pub returns : goal.returns
returns c =
    let a = c.args in (
      c.free-n.ensures.0,
      c.free-n.ensures.1,
      c.free-n.ensures.2,
      c.make-changed.ensures.0 ∙ sym (walked_same a.given.now.partitions c.free-n.ensures.3 a.rows.now),
      c.free-n.ensures.3,
      c.make-changed.ensures.1,
      c.make-changed.ensures.2,
    )
