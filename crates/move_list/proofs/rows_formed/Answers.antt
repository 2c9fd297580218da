-- `move_list::rows_formed` meets its contract. The loop's invariant: the rows passed are formed.
use borrow.Author.Rules.{rules}
use native.Mathlib.Omega.{arith}
use Prim.Native.Nat.{ℕ}
use mathlib.Core.Path.{◌≡◌, sym, ap, ◌∙◌}
use Rattle.sums.specs.TermsSums.{every_to}
use Rattle.sums.proofs.Tests.{every-none, every_more, every_fails}
use Rattle.cluster.specs.Terms.{wide_row_cells, row_of, formed}
use Rattle.move_list.proofs.rows_formed.Goals as goal

pub loop-p-init : goal.loop-p-init
loop-p-init c = every-none _

pub returns-then-not-wide_row_is_formed : goal.returns-then-not-wide_row_is_formed
returns-then-not-wide_row_is_formed c =
    let a = c.args in
    sym (every_fails a.partitions c.loop-p.p (λ q. formed (row_of wide_row_cells a.former.now q)) (search rules) (sym c.wide_row_is_formed.ensures ∙ c.if-not-wide_row_is_formed.true))

pub loop-p-preserved : goal.loop-p-preserved
loop-p-preserved c =
    let a = c.args in
    every_more c.loop-p.p (λ q. formed (row_of wide_row_cells a.former.now q)) c.loop-p.invariant (sym c.wide_row_is_formed.ensures ∙ c.if-not-wide_row_is_formed.false)

pub returns : goal.returns
returns c =
    let a = c.args in
    let e : c.loop-p.p ≡ a.partitions = omega arith in
    sym (ap (λ (n : ℕ). every_to n (λ q. formed (row_of wide_row_cells a.former.now q))) (sym e) ∙ c.loop-p.invariant)
