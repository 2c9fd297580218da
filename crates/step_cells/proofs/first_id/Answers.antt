-- `step_cells::first_id` meets its contract.
-- Assumes nothing.
use native.Mathlib.Omega.{arith}
use Prim.Native.Nat.{ℕ, ◌≤◌}
use mathlib.Core.Path.{refl, sym, ap, ◌∙◌}
use lib.ListN.{length, get_or}
use Rattle.sets.specs.ModelBits.{bit}
use Rattle.cluster.specs.Terms.{most_nodes, no_node}
use Rattle.incidence.specs.ModelIncidence.{ids_where}
use Rattle.masks.proofs.Where.{ids-many, past-id, id-cell, where_next}
use Rattle.step_cells.specs.ModelSteps.{first_id}
use Rattle.step_cells.proofs.first_id.Goals as goal

pub returns-then-b-ids : goal.returns-then-b-ids
unfolding first_id
returns-then-b-ids c =
    let a = c.args in
    λ ns e. let few : length ns ≤ most_nodes = omega (arith, ids-many ns _ e) in
    id-cell ns a.ids.now c.least-b.result e
    ∙ (ap (λ (b : ℕ). (get_or ns b no_node).id) c.least-b.ensures ∙ where_next ns (ids_where ns (bit a.nodes)) 0 a.nodes few refl)

pub returns-else-b-ids : goal.returns-else-b-ids
unfolding first_id
returns-else-b-ids c =
    let a = c.args in
    λ ns e. let few : length ns ≤ most_nodes = omega (arith, ids-many ns _ e) in
    sym (past-id ns c.least-b.result (omega (arith, ids-many ns _ e)))
    ∙ (ap (λ (b : ℕ). (get_or ns b no_node).id) c.least-b.ensures ∙ where_next ns (ids_where ns (bit a.nodes)) 0 a.nodes few refl)
