-- `loss::given::lost_of` meets its contract.
-- Assumes nothing.
use borrow.Author.Rules.{rules}
use native.Mathlib.Omega.{arith}
use Prim.Native.Nat.{ℕ, ◌+◌, ◌-◌}
use mathlib.Core.Path.{◌≡◌, ap, ◌∙◌}
use mathlib.Core.List.{[]}
use Rattle.cell_rows.proofs.CellRows.{get_or_zeros}
use Rattle.cluster.specs.Terms.{buffer_rows, topology, partitions}
use Rattle.cluster.proofs.Accepting.{partitions_in_range}
use Rattle.loss.specs.TermsLoss.{loss_of}
use Rattle.loss.specs.TermsLossAnswer.{layout_in}
use Rattle.loss.specs.ModelSearch.{lost_rows}
use Rattle.loss.proofs.RowsLost.{given-ids}
use Rattle.loss.proofs.Passed.{sets-read, cluster_accepted, loss_same}
use Rattle.loss.proofs.given.lost_of.Goals as goal

pub overflow_sub-result : goal.overflow_sub-result
overflow_sub-result c =
    -- All rows that are lost, and those past the partitions.
    let total : let a = c.args in
    c.lost_rows-lost.result ≡ loss_of (layout_in a.c a.assignment.now) a.given.now + (buffer_rows - partitions (topology a.c)) = (let a = c.args in
    let p = c.partitions-partitions in
    let many : p.result ≡ partitions (topology a.c) =
    p.ensures.0 ∙ partitions_in_range a.c.bits (cluster_accepted a.c a.assignment.now c.requires).bits in
    let are = sets-read a.c a.assignment.now _ _ p.result many (omega arith) (search rules) (get_or_zeros [] buffer_rows) c.read_masks.ensures in
    c.lost_rows-lost.ensures
    ∙ (ap (lost_rows _) c.set_of-set.ensures
    ∙ loss_same a.c a.assignment.now c.requires _ are _ a.given.now (given-ids (topology a.c).nodes a.given.now))) in
    -- The rows past the partitions.
    let left : let a = c.args in c.past-past.result ≡ buffer_rows - partitions (topology a.c) = (let a = c.args in
    c.past-past.ensures
    ∙ ap (λ (n : ℕ). buffer_rows - n) (c.partitions-partitions.ensures.0 ∙ partitions_in_range a.c.bits (cluster_accepted a.c a.assignment.now c.requires).bits)) in
    omega (arith, total, left)

pub returns : goal.returns
returns c =
    let total : let a = c.args in
    c.lost_rows-lost.result ≡ loss_of (layout_in a.c a.assignment.now) a.given.now + (buffer_rows - partitions (topology a.c)) = (let a = c.args in
    let p = c.partitions-partitions in
    let many : p.result ≡ partitions (topology a.c) =
    p.ensures.0 ∙ partitions_in_range a.c.bits (cluster_accepted a.c a.assignment.now c.requires).bits in
    let are = sets-read a.c a.assignment.now _ _ p.result many (omega arith) (search rules) (get_or_zeros [] buffer_rows) c.read_masks.ensures in
    c.lost_rows-lost.ensures
    ∙ (ap (lost_rows _) c.set_of-set.ensures
    ∙ loss_same a.c a.assignment.now c.requires _ are _ a.given.now (given-ids (topology a.c).nodes a.given.now))) in
    let left : let a = c.args in c.past-past.result ≡ buffer_rows - partitions (topology a.c) = (let a = c.args in
    c.past-past.ensures
    ∙ ap (λ (n : ℕ). buffer_rows - n) (c.partitions-partitions.ensures.0 ∙ partitions_in_range a.c.bits (cluster_accepted a.c a.assignment.now c.requires).bits)) in
    omega (arith, total, left)
