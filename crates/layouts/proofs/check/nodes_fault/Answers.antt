-- `layouts::check::nodes_fault` meets its contract. The loop's invariant: the first fault is the first of those from node b on.
use borrow.Author.Rules.{rules}
use native.Mathlib.Omega.{arith}
use Prim.Native.Nat.{ℕ, ◌-◌}
use mathlib.Core.Path.{◌≡◌, sym, ap, ap₂, ◌∙◌}
use mathlib.Core.Bool.{Bool, cond}
use mathlib.Core.List.{List}
use lib.ListN.{length, get_or}
use Rattle.cells.proofs.Cells.{length_of_map}
use Rattle.cluster.specs.Terms.{most_nodes, topology, partitions, no_node, takes, rows_in}
use Rattle.cluster.specs.declared.Node.{Node}
use Rattle.cluster.proofs.Slots.{node-slot}
use Rattle.cluster.proofs.Accepting.{accepted, few_nodes, nodes-count}
use Rattle.layouts.specs.TermsCheck.{fault, first_fault, node_fault, nodes_fault}
use Rattle.layouts.proofs.FaultMeaning.{each_formed}
use Rattle.layouts.proofs.FaultScan.{scan-fault, scan-on, scan_end, node-reads}
use Rattle.layouts.proofs.check.nodes_fault.Invariants.{at}
use Rattle.layouts.proofs.check.nodes_fault.Goals as goal

pub copies-counts-requires : goal.copies-counts-requires
copies-counts-requires c = (c.requires.0, c.requires.1, each_formed (topology c.args.c) c.args.cells.now (accepted c.args.c c.requires.0) c.requires.2)

pub loop-b-init : goal.loop-b-init
unfolding nodes_fault
loop-b-init c =
    let long : length c.args.c.nodes ≡ most_nodes = search length_of_map in
    let a = c.args in
    let e : length (topology a.c).nodes ≡ a.c.count - 0 = omega (arith, nodes-count a.c long (few_nodes a.c c.requires.0)) in
    (few_nodes a.c c.requires.0, ap (λ (n : ℕ). first_fault n 0 (at (topology a.c) a.cells.now a.size)) e)

pub returns-then-not-takes : goal.returns-then-not-takes
returns-then-not-takes c =
    let long : length c.args.c.nodes ≡ most_nodes = search length_of_map in
    -- The fault of node b, by what the call answers.
    let told : let a = c.args in
    node_fault (topology a.c) (rows_in (partitions (topology a.c)) a.cells.now) a.size c.loop-b.b ≡ cond c.takes.result 0 12 = (let a = c.args in
    node-reads a.c a.cells.now (partitions (topology a.c)) a.size c.loop-b.b long (few_nodes a.c c.requires.0) (search rules)
    ∙ ap (λ (t : Bool). cond t 0 12)
    (ap (λ (l : List ℕ). takes (get_or a.c.nodes c.loop-b.b no_node) (get_or l c.loop-b.b 0) a.size) (sym c.copies-counts.ensures) ∙ sym c.takes.ensures)) in
    let a = c.args in
    let h = told ∙ ap (λ (t : Bool). cond t 0 12) c.if-not-takes.true in
    sym
    (c.loop-b.invariant.1
    ∙ (scan-fault a.c.count c.loop-b.b (at (topology a.c) a.cells.now a.size) (search rules) (λ z. omega (arith, sym h ∙ z))
    ∙ ap₂ fault h (ap (λ (n : Node). n.id) (node-slot a.c c.loop-b.b (search rules)))))

pub loop-b-preserved : goal.loop-b-preserved
loop-b-preserved c =
    let long : length c.args.c.nodes ≡ most_nodes = search length_of_map in
    let told : let a = c.args in
    node_fault (topology a.c) (rows_in (partitions (topology a.c)) a.cells.now) a.size c.loop-b.b ≡ cond c.takes.result 0 12 = (let a = c.args in
    node-reads a.c a.cells.now (partitions (topology a.c)) a.size c.loop-b.b long (few_nodes a.c c.requires.0) (search rules)
    ∙ ap (λ (t : Bool). cond t 0 12)
    (ap (λ (l : List ℕ). takes (get_or a.c.nodes c.loop-b.b no_node) (get_or l c.loop-b.b 0) a.size) (sym c.copies-counts.ensures) ∙ sym c.takes.ensures)) in
    let a = c.args in (
      search rules,
      c.loop-b.invariant.1
          ∙ scan-on a.c.count c.loop-b.b (at (topology a.c) a.cells.now a.size) (search rules)
          (told ∙ ap (λ (t : Bool). cond t 0 12) c.if-not-takes.false),
    )

pub returns : goal.returns
returns c = let a = c.args in
    sym (c.loop-b.invariant.1 ∙ scan_end a.c.count c.loop-b.b (at (topology a.c) a.cells.now a.size) (search rules))
