-- `making::with_change` meets its contract.
-- Assumes nothing.
use native.Mathlib.Omega.{arith}
use Prim.Native.Nat.{◌+◌, ◌≤◌}
use mathlib.Core.Path.{◌≡◌, sym, ap, ◌∙◌}
use mathlib.Core.List.{[], ◌∷◌}
use lib.ListN.{length}
use Rattle.cells.proofs.Cells.{length_of_map}
use Rattle.cluster.specs.Terms.{most_nodes, topology, fault_of}
use Rattle.cluster.specs.TermsReading.{slots_of}
use Rattle.cluster.specs.declared.Cluster.{Cluster}
use Rattle.cluster.specs.declared.Node.{Node}
use Rattle.cluster.proofs.Accepting.{accepted, few_nodes, nodes-count}
use Rattle.splices.specs.TermsReplaced.{nodes_with, replaced, with_nodes}
use Rattle.change_fields.specs.RecordChange.{id_of}
use Rattle.change_fields.specs.declared.Change.{Change}
use Rattle.making.specs.TermsMaking.{with_capacity, new_nodes, changed_nodes, change_fault}
use Rattle.making.proofs.Changing.{changed-room}
use Rattle.making.proofs.with_change.Goals as goal

-- There is a slot for what the change puts in.
room : (c : Cluster) (x : Change) → fault_of c ≡ 0 → change_fault (topology c).nodes x ≡ 0 → length c.nodes ≡ most_nodes → (y : Change) → x ≡ y
    → c.count + length (new_nodes (topology c).nodes y) ≤ most_nodes + length (nodes_with (id_of y) (topology c).nodes)
room c x sound good long y e =
    let a = accepted c sound in
    let l = (topology c).nodes in
    omega (
      arith,
      nodes-count c long (few_nodes c sound),
      changed-room l y a.ids (sym (ap (change_fault l) e) ∙ good) a.few,
    )

pub replace-requires : goal.replace-requires
unfolding new_nodes id_of
replace-requires c =
    let r = c.requires in
    (few_nodes c.args.c r.0, (accepted c.args.c r.0).ids, omega arith, room c.args.c c.args.x r.0 r.1 (search length_of_map) _ c.in-Add.is)

pub replace-requires-in-Remove : goal.replace-requires-in-Remove
unfolding new_nodes id_of
replace-requires-in-Remove c =
    let r = c.requires in
    (few_nodes c.args.c r.0, (accepted c.args.c r.0).ids, omega arith, room c.args.c c.args.x r.0 r.1 (search length_of_map) _ c.in-Remove.is)

pub node_with-node-requires : goal.node_with-node-requires
node_with-node-requires c = few_nodes c.args.c c.requires.0

pub replace-requires-in-Resize : goal.replace-requires-in-Resize
unfolding new_nodes id_of
replace-requires-in-Resize c =
    let r = c.requires in
    (few_nodes c.args.c r.0, (accepted c.args.c r.0).ids, omega arith, room c.args.c c.args.x r.0 r.1 (search length_of_map) _ c.in-Resize.is)

pub returns-in-Add : goal.returns-in-Add
unfolding new_nodes id_of
returns-in-Add c =
    let a = c.args in
    c.replace.ensures ∙ sym (ap (λ (x : Change). slots_of (with_nodes (topology a.c) (changed_nodes (topology a.c).nodes x))) c.in-Add.is)

pub returns-in-Remove : goal.returns-in-Remove
unfolding new_nodes id_of
returns-in-Remove c =
    let a = c.args in
    c.replace-in-Remove.ensures ∙ sym (ap (λ (x : Change). slots_of (with_nodes (topology a.c) (changed_nodes (topology a.c).nodes x))) c.in-Remove.is)

pub returns-in-Resize : goal.returns-in-Resize
unfolding new_nodes id_of
returns-in-Resize c =
    let a = c.args in
    let i = c.in-Resize.id in
    let size = c.in-Resize.capacity in
    c.replace-in-Resize.ensures
    ∙ (ap (λ (n : Node). slots_of (with_nodes (topology a.c) (replaced i (with_capacity size n ∷ []) (topology a.c).nodes))) c.node_with-node.ensures
    ∙ sym (ap (λ (x : Change). slots_of (with_nodes (topology a.c) (changed_nodes (topology a.c).nodes x))) c.in-Resize.is))
