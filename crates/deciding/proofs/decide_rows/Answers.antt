-- `deciding::decide_rows` meets its contract. The rows that the loop passed are decided. Assumes nothing.
use native.Mathlib.Omega.{arith}
use Prim.Native.Nat.{ℕ}
use mathlib.Core.Path.{◌≡◌, subst}
use Rattle.attempts.specs.ModelDeciding.{Reaches}
use Rattle.attempts.proofs.Ends.{reaches-next}
use Rattle.deciding.proofs.decide_rows.Goals as goal

pub loop-p-init : goal.loop-p-init
loop-p-init c =
    (c.requires.3, c.requires.5.tight, c.requires.5.held, λ R zone cap A d o. o)

pub decide_row-requires : goal.decide_row-requires
decide_row-requires c =
    let i = c.loop-p.invariant in
    (c.requires.0, omega arith, c.requires.1, omega (arith, c.requires.2), i.0, c.requires.4, record { tight = i.1; held = i.2 }, c.requires.6)

pub loop-p-preserved : goal.loop-p-preserved
loop-p-preserved c =
    let a = c.args in
    let i = c.loop-p.invariant in (
      c.decide_row.ensures.1,
      c.decide_row.ensures.2.tight,
      c.decide_row.ensures.2.held,
      reaches-next a.given.now.partitions a.given.now.former.now a.given.now.mates.now a.given.now.caps.now a.nodes a.given.now.z a.even.now a.rows.now a.leads.now c.loop-p.p c.loop-p.rows c.loop-p.leads c.decide_row.new.rows
          c.decide_row.new.leads i.3 c.decide_row.ensures.3,
    )

pub returns : goal.returns
returns c =
    let a = c.args in
    let i = c.loop-p.invariant in
    let e : c.loop-p.p ≡ a.given.now.partitions = omega arith in
    (omega arith, subst (λ (x : ℕ). Reaches a.given.now.partitions a.given.now.former.now a.given.now.mates.now a.given.now.caps.now a.nodes a.given.now.z a.even.now 0 0 a.rows.now a.leads.now x 0 c.loop-p.rows c.loop-p.leads) e i.3)
