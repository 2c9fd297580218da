-- `cluster_fields::faults::field_fault` meets its contract: the faults by the tag.
-- Assumes nothing.
use mathlib.Core.Path.{◌≡◌, sym}
use lib.ListN.{length}
use lib.Seq.{length-take-le}
use Rattle.cells.proofs.Cells.{length_of_map}
use Rattle.cluster.specs.Terms.{topology}
use Rattle.cluster.specs.TermsRefusal.{refusal_of}
use Rattle.cluster_fields.proofs.FieldFaults.{bits-fault, replication-fault, redundancy-fault, node-fault}
use native.Mathlib.Omega.{arith}
use Rattle.cluster_fields.proofs.faults.field_fault.Goals as goal

pub returns-in-1 : goal.returns-in-1
returns-in-1 c = λ next len.
    let a = c.args in
    bits-fault (topology a.c) next a.bytes.now a.tag a.start len c.byte_at.result (refusal_of c.number_fault.result)
    c.in-1.is c.byte_at.ensures.0 c.number_fault.ensures

pub returns-in-2 : goal.returns-in-2
returns-in-2 c = λ next len.
    let a = c.args in
    replication-fault (topology a.c) next a.bytes.now a.tag a.start len c.byte_at-in-2.result (refusal_of c.number_fault-in-2.result)
    c.in-2.is c.byte_at-in-2.ensures.0 c.number_fault-in-2.ensures

pub returns-in-3 : goal.returns-in-3
returns-in-3 c = λ next len.
    let a = c.args in
    redundancy-fault (topology a.c) next a.bytes.now a.tag a.start len c.byte_at-in-3.result (refusal_of c.number_fault-in-3.result)
    c.in-3.is c.byte_at-in-3.ensures.0 c.number_fault-in-3.ensures

pub returns-in_default : goal.returns-in_default
returns-in_default c =
    let long : length c.args.c.nodes ≡ 32 = search length_of_map in
    λ next len.
    let a = c.args in
    node-fault (topology a.c) next a.bytes.now a.tag a.start len c.node_at.result c.last_id.result
    a.c.count (refusal_of c.node_fault.result) (omega arith) c.node_at.ensures c.last_id.ensures
    (sym (length-take-le a.c.count a.c.nodes (omega (arith, long, c.requires.0)))) c.node_fault.ensures
