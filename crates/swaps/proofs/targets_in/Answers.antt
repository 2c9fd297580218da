-- `swaps::targets_in` meets its contract. Assumes nothing.
use mathlib.Core.Path.{sym, ◌∙◌}
use Rattle.sets.specs.ModelBits.{meet_of}
use Rattle.sets.proofs.Laws.{meet_lt}
use Rattle.swaps.proofs.Steps.{two_members, one-member, targets_crowded, targets_few, gone_is, near-is}
use Rattle.swaps.proofs.targets_in.Goals as goal

pub returns-then-rest-ne0 : goal.returns-then-rest-ne0
returns-then-rest-ne0 c =
    let a = c.args in
    let e = gone_is a.row a.mate c.meet.result c.rest.result c.meet.ensures c.rest.ensures in
    c.difference-free.ensures
    ∙ sym (targets_crowded a.all a.row a.mate a.tight (two_members (meet_of a.row a.mate) (meet_lt a.row a.mate) (λ z. c.if-rest-ne0.true (e ∙ z))))

pub returns : goal.returns
returns c =
    let a = c.args in
    let e = gone_is a.row a.mate c.meet.result c.rest.result c.meet.ensures c.rest.ensures in
    let r =
    near-is a.all a.row a.mate a.tight c.difference-free.result c.difference.result c.union.result c.meet-2.result
    c.difference-free.ensures c.difference.ensures c.union.ensures c.meet-2.ensures in
    r ∙ sym (targets_few a.all a.row a.mate a.tight (one-member (meet_of a.row a.mate) (meet_lt a.row a.mate) (sym e ∙ c.if-rest-ne0.false)))
