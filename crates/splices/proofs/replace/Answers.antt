-- `splices::replace` meets its contract. The loop's invariant: the first b slots are written.
use borrow.Author.Rules.{rules}
use native.Mathlib.Omega.{arith}
use Prim.Native.Nat.{ℕ, ◌+◌, ◌≤◌}
use mathlib.Core.Bool.{true}
use mathlib.Core.Path.{◌≡◌, ap, ap₂, ◌∙◌}
use mathlib.Core.List.{List, [], ◌∷◌}
use lib.ListN.{length, take, replicate}
use lib.Seq.{length-take-le}
use Rattle.cells.proofs.Cells.{length_of_map, put-none, put_next}
use Rattle.cluster.specs.Terms.{most_nodes, topology, no_node, ids_of, rising}
use Rattle.cluster.specs.TermsReading.{slots_of}
use Rattle.cluster.specs.declared.Cluster.{Cluster}
use Rattle.cluster.specs.declared.Node.{Node}
use Rattle.splices.specs.declared.Place.{Place}
use Rattle.splices.specs.ModelSplice.{spliced}
use Rattle.splices.specs.TermsReplaced.{nodes_below, nodes_with, with_nodes}
use Rattle.splices.proofs.Places.{length-parts, spliced-replaced}
use Rattle.splices.proofs.Slots.{made}
use Rattle.splices.proofs.replace.Invariants.{slot_of}
use Rattle.splices.proofs.replace.Goals as goal

-- The place of an id is among the nodes in use.
place-room : (c : Cluster) (i : ℕ) (p : Place) → length c.nodes ≡ most_nodes → c.count ≤ most_nodes → rising (ids_of (topology c).nodes) ≡ true
    → (p.below ≡ length (nodes_below i (topology c).nodes)) × (p.with ≡ length (nodes_with i (topology c).nodes)) → p.below + p.with ≤ c.count
place-room c i p long few up e = omega (arith, e, length-parts i (topology c).nodes up, length-take-le c.count c.nodes (omega (arith, long)))

pub loop-b-init : goal.loop-b-init
loop-b-init c = put-none 0 _ _

pub slot-requires : goal.slot-requires
slot-requires c =
    let long : length c.args.c.nodes ≡ most_nodes = search length_of_map in
    let room = place-room c.args.c c.args.id c.find-place.result long c.requires.0 c.requires.1 c.find-place.ensures in
    (search rules, omega (arith, room), search rules, search rules)

pub loop-b-preserved : goal.loop-b-preserved
loop-b-preserved c =
    let p = c.find-place.result in
    let a = c.args in
    let f : ℕ → Node = slot_of a.c p.below p.with a.node a.new in
    put_next f c.loop-b.b _ (replicate most_nodes no_node) c.loop-b.nodes c.loop-b.invariant c.slot.ensures

pub overflow_sub-result : goal.overflow_sub-result
overflow_sub-result c =
    let long : length c.args.c.nodes ≡ most_nodes = search length_of_map in
    let room = place-room c.args.c c.args.id c.find-place.result long c.requires.0 c.requires.1 c.find-place.ensures in
    omega (arith, room)

pub returns : goal.returns
returns c =
    let long : length c.args.c.nodes ≡ most_nodes = search length_of_map in
    let room = place-room c.args.c c.args.id c.find-place.result long c.requires.0 c.requires.1 c.find-place.ensures in
    let p = c.find-place.result in
    let a = c.args in
    let l : List Node = (topology a.c).nodes in
    let new : List Node = take a.new (a.node ∷ []) in
    made a.c p.below p.with a.node a.new c.loop-b.nodes c.loop-b.b long (omega arith) room (omega arith)
    (omega (arith, c.find-place.ensures)) (omega arith) c.loop-b.invariant
    ∙ ap (λ (r : List Node). slots_of (with_nodes (topology a.c) r))
    (ap₂ (λ (at out : ℕ). spliced l at out new) c.find-place.ensures.0 c.find-place.ensures.1 ∙ spliced-replaced a.id new l c.requires.1)
