-- `making::fault_of` meets its contract.
-- Assumes nothing.
use mathlib.Core.Logic.{⊎_elim}
use mathlib.Core.Path.{sym, ap, ◌∙◌}
use mathlib.Core.Bool.{Bool, true, false, cond}
use borrow.Author.Tests.{le-leb, lt-leb, lt-ltb, le-ltb}
use Rattle.cells.proofs.Cells.{length_of_map}
use Rattle.cluster.specs.Terms.{most_nodes}
use Rattle.making.proofs.Faults.{fault-range, fault-said}
use Rattle.making.proofs.fault_of.Goals as goal

pub returns-then-out_of_range : goal.returns-then-out_of_range
returns-then-out_of_range c = fault-range _ c.args.x (sym c.out_of_range.ensures ∙ c.if-out_of_range.true)

pub returns-then-is_there : goal.returns-then-is_there
returns-then-is_there c =
    fault-said c.args.c c.args.x _ _ (search length_of_map) c.requires (sym c.out_of_range.ensures ∙ c.if-out_of_range.false) c.id_of.ensures c.find-is_there.ensures.1
    _ true c.in-Add.is (lt-ltb 0 _ c.if-is_there.true)

pub returns-then-c-ge-NODES : goal.returns-then-c-ge-NODES
returns-then-c-ge-NODES c =
    sym (ap (λ (b : Bool). cond b 6 0) (le-leb most_nodes _ c.if-c-ge-NODES.true))
    ∙ fault-said c.args.c c.args.x _ _ (search length_of_map) c.requires (sym c.out_of_range.ensures ∙ c.if-out_of_range.false) c.id_of.ensures c.find-is_there.ensures.1
    _ false c.in-Add.is (le-ltb 0 _ c.if-is_there.false)

pub returns-else-c-ge-NODES : goal.returns-else-c-ge-NODES
returns-else-c-ge-NODES c =
    sym (ap (λ (b : Bool). cond b 6 0) (lt-leb most_nodes _ c.if-c-ge-NODES.false))
    ∙ fault-said c.args.c c.args.x _ _ (search length_of_map) c.requires (sym c.out_of_range.ensures ∙ c.if-out_of_range.false) c.id_of.ensures c.find-is_there.ensures.1
    _ false c.in-Add.is (le-ltb 0 _ c.if-is_there.false)

pub returns-then-not-is_there : goal.returns-then-not-is_there
returns-then-not-is_there c =
    let said = fault-said c.args.c c.args.x _ _ (search length_of_map) c.requires (sym c.out_of_range.ensures ∙ c.if-out_of_range.false) c.id_of.ensures c.find-is_there.ensures.1 in
    let none = le-ltb 0 _ c.if-not-is_there.true in
    ⊎_elim (λ e. said _ false e.1 none) (λ e. said _ false e.2 none) c.in-Remove.is

pub returns-else-not-is_there : goal.returns-else-not-is_there
returns-else-not-is_there c =
    let said = fault-said c.args.c c.args.x _ _ (search length_of_map) c.requires (sym c.out_of_range.ensures ∙ c.if-out_of_range.false) c.id_of.ensures c.find-is_there.ensures.1 in
    let one = lt-ltb 0 _ c.if-not-is_there.false in
    ⊎_elim (λ e. said _ true e.1 one) (λ e. said _ true e.2 one) c.in-Remove.is
