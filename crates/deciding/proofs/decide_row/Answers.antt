-- `deciding::decide_row` meets its contract. The pairs that the loop passed are decided. Assumes nothing.
use native.Mathlib.Omega.{arith}
use mathlib.Core.Path.{ap, ◌∙◌}
use lib.ListN.{get_or}
use Rattle.evens.specs.ModelEvens.{wanted_of}
use Rattle.attempts.proofs.Ends.{reaches-pair, reaches-row}
use Rattle.deciding.proofs.decide_row.Goals as goal

pub loop-b-init : goal.loop-b-init
loop-b-init c =
    let a = c.args in (
      c.requires.4,
      c.requires.6.tight,
      c.requires.6.held,
      λ R zone cap A d o. o,
      c.wanted-wanted.ensures ∙ ap (wanted_of a.even.now (get_or a.rows.now a.p 0)) c.cell.ensures,
    )

pub consider-wanted-requires : goal.consider-wanted-requires
consider-wanted-requires c =
    let i = c.loop-b.invariant in
    (omega (arith, c.requires.0), c.requires.1, c.requires.2, omega (arith, c.requires.3), i.0, c.requires.5, i.4, record { tight = i.1; held = i.2 }, c.requires.7)

pub loop-b-preserved : goal.loop-b-preserved
loop-b-preserved c =
    let a = c.args in
    let i = c.loop-b.invariant in (
      c.consider-wanted.ensures.1,
      c.consider-wanted.ensures.2.tight,
      c.consider-wanted.ensures.2.held,
      reaches-pair a.given.now.partitions a.given.now.former.now a.given.now.mates.now a.given.now.caps.now a.nodes a.given.now.z a.even.now a.p 0 a.rows.now a.leads.now a.p c.loop-b.b c.loop-b.rows c.loop-b.leads i.3 c.below-all.result c.consider-wanted.new.rows
          c.consider-wanted.new.leads c.below-all.ensures (omega arith) c.consider-wanted.ensures.3,
      c.consider-wanted.ensures.4,
    )

pub returns : goal.returns
returns c =
    let a = c.args in
    let i = c.loop-b.invariant in (
      omega arith,
      i.0,
      record { tight = i.1; held = i.2 },
      reaches-row a.given.now.partitions a.given.now.former.now a.given.now.mates.now a.given.now.caps.now a.nodes a.given.now.z a.even.now a.p 0 a.rows.now a.leads.now a.p c.loop-b.b c.loop-b.rows c.loop-b.leads i.3 (omega arith),
    )
