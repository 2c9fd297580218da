-- `leads::lead` meets its contract. The cells before u have what their nodes lead to. Assumes nothing.
use native.Mathlib.Omega.{arith}
use borrow.Author.Rules.{rules}
use lib.ListN.{length-set}
use Rattle.leads.proofs.Standing.{led_none, led_more, lead_is}
use Rattle.leads.proofs.lead.Goals as goal

pub loop-u-init : goal.loop-u-init
loop-u-init c = let a = c.args in (search rules, led_none a.arcs.now a.even.now)

pub loop-u-preserved : goal.loop-u-preserved
loop-u-preserved c =
    let a = c.args in
    let i = c.loop-u.invariant in (
      simp length-set i.0,
      led_more a.arcs.now a.even.now c.loop-u.u c.union-in-loop-u.result c.loop-u.leads (omega arith) i.0
          (lead_is a.arcs.now a.even.now c.loop-u.u c.meet-low.result c.meet-beside.result c.meet-high.result c.union.result c.union-in-loop-u.result
          c.meet-low.ensures c.meet-beside.ensures c.meet-high.ensures c.union.ensures c.union-in-loop-u.ensures)
          i.1,
    )
