-- `sizing::size` meets its contract.
-- Assumes nothing.
use mathlib.Core.Path.{sym, ap, ◌∙◌}
use mathlib.Core.Bool.{Bool, cond}
use borrow.Author.Tests.{eq-eqb, ne_eqb}
use Rattle.cluster.specs.Terms.{topology, fault_of}
use Rattle.sizing.specs.ModelSizing.{size_of, size_in}
use Rattle.sizing.proofs.Reading.{number-some}
use Rattle.sizing.proofs.size.Goals as goal

pub returns-in-Ok : goal.returns-in-Ok
unfolding size_in
returns-in-Ok c =
    let k = c.args.c in
    c.bisected.ensures ∙ ap (λ (b : Bool). cond b (size_of (topology k)) 0) (sym (eq-eqb (fault_of k) 0 (sym c.in-Ok.ensures)))

pub returns-in_default : goal.returns-in_default
unfolding size_in
returns-in_default c =
    let k = c.args.c in
    ap (λ (b : Bool). cond b (size_of (topology k)) 0) (sym (ne_eqb (fault_of k) 0 (λ e. number-some c.in_default.field-0 (c.in_default.ensures ∙ e))))
