-- `lengths::is_legal` meets its contract.
-- Assumes nothing.
use mathlib.Core.Path.{sym, ap, subst, ◌∙◌}
use Prim.Native.Nat.{◌<◌}
use native.Mathlib.Omega.{arith}
use Rattle.lengths.specs.RecordLengths.{rule, rule_of}
use Rattle.lengths.specs.declared.Rule.{Rule}
use Rattle.lengths.proofs.Lengths.{step_pos, rule_there}
use Rattle.lengths.proofs.is_legal.Goals as goal

pub returns-then-tag-eq-FORMER_ROW : goal.returns-then-tag-eq-FORMER_ROW
returns-then-tag-eq-FORMER_ROW c =
    let a = c.args in
    c.meets.ensures a.tag (rule_there 5 (rule 0 0 0) (omega arith) ∙ ap rule_of (sym c.if-tag-eq-FORMER_ROW.true))

pub meets-requires-2 : goal.meets-requires-2
meets-requires-2 c = subst (λ (q : Rule). 0 < q.step) (sym c.rule_of.ensures) (step_pos c.args.tag)

pub returns : goal.returns
returns c = c.meets-2.ensures c.args.tag c.rule_of.ensures
