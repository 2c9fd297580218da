-- `loss::worst::worst_of` meets its contract.
-- Assumes nothing.
use borrow.Author.Rules.{rules}
use native.Mathlib.Omega.{arith}
use Prim.Native.Nat.{ℕ, ◌+◌, ◌-◌, ◌^◌, min}
use mathlib.Core.Path.{◌≡◌, ap, ◌∙◌}
use mathlib.Core.List.{List, []}
use lib.ListN.{length}
use Rattle.sets.specs.ModelBits.{bit, below_of}
use Rattle.cells.proofs.Cells.{length_of_map}
use Rattle.cluster.specs.Terms.{most_nodes, most_bits, buffer_rows, topology, partitions}
use Rattle.cluster.proofs.Accepting.{partitions_in_range}
use Rattle.cell_rows.proofs.CellRows.{get_or_zeros}
use Rattle.incidence.specs.ModelIncidence.{ids_where}
use Rattle.loss.specs.TermsLoss.{loss_of}
use Rattle.loss.specs.TermsLossAnswer.{layout_in, worst_in}
use Rattle.loss.specs.ModelSearch.{costing, searched}
use Rattle.loss.proofs.LossOrder.{all_pass}
use Rattle.loss.proofs.Passed.{sets-read, cluster_accepted}
use Rattle.loss.proofs.Owed.{fits, found-worst}
use Rattle.loss.proofs.worst.worst_of.Goals as goal

pub overflow_sub-result : goal.overflow_sub-result
overflow_sub-result c =
    let long : length c.args.c.nodes ≡ most_nodes = search length_of_map in
    -- There are as many rows as partitions.
    let many : 2 ^ min c.args.c.bits most_bits ≡ partitions (topology c.args.c) = (let a = c.args in
    partitions_in_range a.c.bits (cluster_accepted a.c a.assignment.now (all_pass a.c a.assignment.now a.number c.requires).0).bits) in
    -- What is found, the rows past the partitions with it.
    let found : let a = c.args in
    (c.worst-found.result.lost ≡ loss_of (layout_in a.c a.assignment.now) (worst_in a.c a.assignment.now a.number) + (buffer_rows - partitions (topology a.c)))
    × (ids_where (topology a.c).nodes (bit c.worst-found.result.set) ≡ worst_in a.c a.assignment.now a.number) = (let a = c.args in
    let p = c.partitions-partitions in
    let rows : List ℕ = c.read_masks.new.masks in
    let are = sets-read a.c a.assignment.now rows _ p.result (p.ensures.0 ∙ many) (omega arith) (search rules) (get_or_zeros [] buffer_rows) c.read_masks.ensures in
    found-worst a.c a.assignment.now a.number c.requires (fits a.c a.assignment.now a.number long c.requires) rows are c.worst-found.result
    (c.worst-found.ensures ∙ ap (λ (n : ℕ). searched rows a.number 0 n 0 (costing rows (below_of a.number))) c.used-n.ensures.0)) in
    -- The rows past the partitions.
    let left : let a = c.args in c.past-past.result ≡ buffer_rows - partitions (topology a.c) = c.past-past.ensures ∙ ap (λ (n : ℕ). buffer_rows - n) (c.partitions-partitions.ensures.0 ∙ many) in
    omega (arith, found.0, left)

pub returns : goal.returns
returns c =
    let long : length c.args.c.nodes ≡ most_nodes = search length_of_map in
    let many : 2 ^ min c.args.c.bits most_bits ≡ partitions (topology c.args.c) = (let a = c.args in
    partitions_in_range a.c.bits (cluster_accepted a.c a.assignment.now (all_pass a.c a.assignment.now a.number c.requires).0).bits) in
    let found : let a = c.args in
    (c.worst-found.result.lost ≡ loss_of (layout_in a.c a.assignment.now) (worst_in a.c a.assignment.now a.number) + (buffer_rows - partitions (topology a.c)))
    × (ids_where (topology a.c).nodes (bit c.worst-found.result.set) ≡ worst_in a.c a.assignment.now a.number) = (let a = c.args in
    let p = c.partitions-partitions in
    let rows : List ℕ = c.read_masks.new.masks in
    let are = sets-read a.c a.assignment.now rows _ p.result (p.ensures.0 ∙ many) (omega arith) (search rules) (get_or_zeros [] buffer_rows) c.read_masks.ensures in
    found-worst a.c a.assignment.now a.number c.requires (fits a.c a.assignment.now a.number long c.requires) rows are c.worst-found.result
    (c.worst-found.ensures ∙ ap (λ (n : ℕ). searched rows a.number 0 n 0 (costing rows (below_of a.number))) c.used-n.ensures.0)) in
    let left : let a = c.args in c.past-past.result ≡ buffer_rows - partitions (topology a.c) = c.past-past.ensures ∙ ap (λ (n : ℕ). buffer_rows - n) (c.partitions-partitions.ensures.0 ∙ many) in
    (omega (arith, found.0, left), found.1)
