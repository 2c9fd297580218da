use borrow.Author.Rules.{rules}
use mathlib.Core.Path.{sym, ◌∙◌}
use lib.ListN.{take}
use Rattle.totals.proofs.Meeting.{any_mem, with_there, with-put}
use Rattle.totals.proofs.with_id.Goals as goal

pub returns-then-contains : goal.returns-then-contains
returns-then-contains c =
    let a = c.args in
    (search rules, search rules, with_there a.ids.now a.count a.id (sym (any_mem a.id (take a.count a.ids.now)) ∙ (sym c.contains.ensures.value ∙ c.if-contains.true)))

pub returns : goal.returns
returns c =
    let a = c.args in
    (search rules, search rules, with-put a.ids.now a.count a.id (search rules))
