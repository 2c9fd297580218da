-- `ordering::run` meets its contract. Assumes nothing.
use mathlib.Core.Path.{◌≡◌, sym, ◌∙◌}
use mathlib.Core.Bool.{true, false≢true}
use native.Mathlib.Omega.{arith}
use borrow.Author.Rules.{rules}
use borrow.Author.Tests.{not-false}
use Rattle.holders.proofs.Holding.{held_none}
use Rattle.ordering.proofs.Finishing.{run-first}
use Rattle.ordering.proofs.run.Goals as goal

pub fill-requires : goal.fill-requires
fill-requires c = (c.requires.0, held_none c.args.rows.now)

pub fill-requires-2 : goal.fill-requires-2
fill-requires-2 c = (c.requires.0, held_none c.args.former.now)

pub order-requires : goal.order-requires
order-requires c =
    (c.requires.0, omega (arith, c.requires.1, c.run-ran.ensures.3), c.run-ran.ensures.5, c.run-ran.ensures.4, c.fill-2.ensures)

pub returns : goal.returns
returns c =
    let a = c.args in
    let f : c.run-ran.result.finished ≡ true = not-false c.run-ran.result.finished (search rules) in (
      sym f ∙ c.run-ran.ensures.1,
      c.run-ran.ensures.2,
      c.order.ensures.0 ∙ c.run-ran.ensures.3,
      λ h. absurd (false≢true (sym h)),
      λ h R zone cap G g. run-first a.partitions a.nodes R a.z zone cap a.former.now a.mates.now a.caps.now G a.rows.now g a.allowance
          (sym c.run-ran.ensures.1 ∙ f) c.run-ran.new.rows c.order.new.rows c.run-ran.ensures.0 (c.order.ensures.1 R zone cap G),
    )
