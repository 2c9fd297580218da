-- `cluster_fields::taking::cluster_with` meets its contract: each tag puts its values where they belong.
-- Assumes nothing.
use Prim.Native.Nat.{ℕ, ◌<◌}
use mathlib.Core.Path.{sym, ap, ◌∙◌}
use Rattle.cluster.specs.Terms.{most_nodes}
use Rattle.cluster.specs.declared.Node.{Node}
use Rattle.cluster_fields.specs.RecordClusterFaults.{Item, of_bits, of_replication, of_redundancy, of_node, with_item}
use Rattle.cluster.specs.TermsReading.{slots_of}
use Rattle.cluster_fields.proofs.Items.{item_bits, item_replication, item_redundancy, item_node}
use Rattle.cluster_fields.proofs.Slots.{slots-bits, slots-replication, slots-redundancy, slots-node}
use native.Mathlib.Omega.{arith}
use Rattle.cluster_fields.proofs.taking.cluster_with.Goals as goal

pub returns-in-1 : goal.returns-in-1
returns-in-1 c = λ t len e.
    let a = c.args in
    slots-bits t a.c e c.byte_at.result
    ∙ (ap (λ (k : ℕ). slots_of (with_item t (of_bits k))) c.byte_at.ensures.0
    ∙ ap (λ (i : Item). slots_of (with_item t i)) (sym (item_bits a.bytes.now a.start len a.tag c.in-1.is)))

pub returns-in-2 : goal.returns-in-2
returns-in-2 c = λ t len e.
    let a = c.args in
    slots-replication t a.c e c.byte_at-in-2.result
    ∙ (ap (λ (k : ℕ). slots_of (with_item t (of_replication k))) c.byte_at-in-2.ensures.0
    ∙ ap (λ (i : Item). slots_of (with_item t i)) (sym (item_replication a.bytes.now a.start len a.tag c.in-2.is)))

pub returns-in-3 : goal.returns-in-3
returns-in-3 c = λ t len e.
    let a = c.args in
    slots-redundancy t a.c e c.byte_at-in-3.result
    ∙ (ap (λ (k : ℕ). slots_of (with_item t (of_redundancy k))) c.byte_at-in-3.ensures.0
    ∙ ap (λ (i : Item). slots_of (with_item t i)) (sym (item_redundancy a.bytes.now a.start len a.tag c.in-3.is)))

pub returns-in_default : goal.returns-in_default
returns-in_default c = λ t len e.
    let a = c.args in
    let room : a.c.count < most_nodes = c.requires.2 (omega arith) in
    slots-node t a.c e c.node_at.result room
    ∙ (ap (λ (n : Node). slots_of (with_item t (of_node n))) c.node_at.ensures
    ∙ ap (λ (i : Item). slots_of (with_item t i)) (sym (item_node a.bytes.now a.start len a.tag (omega arith))))
