-- `step_cells::put_steps` meets its contract. The loop's invariant: what the cells come to, by what is written and what is left, stays as it was.
use native.Mathlib.Omega.{arith}
use Prim.Native.Nat.{ℕ, ◌≤◌, ◌<◌, ◌^◌}
use mathlib.Core.Path.{◌≡◌, sym, ap, ◌∙◌}
use lib.ListN.{length, get_or}
use Rattle.sets.specs.ModelBits.{count_of, least_of}
use Rattle.sets.specs.ModelMembers.{Comes}
use Rattle.sets.proofs.Laws.{least-taken, count_empty}
use Rattle.cluster.specs.Terms.{most_nodes, no_node}
use Rattle.masks.proofs.Where.{ids-many, id-cell}
use Rattle.step_cells.proofs.StepWalk.{without-low, least-low, comes_to, none_left, step-put}
use Rattle.step_cells.proofs.put_steps.Goals as goal

-- The node that comes out of a set of the first n nodes is one of them.
comes-low : (n left b rest : ℕ) → n ≤ most_nodes → left < 2 ^ n → Comes left b rest → b < n
comes-low n left b rest few low came = omega (arith, came.least, least-low n few left low came.word came.some)

pub loop-b-init : goal.loop-b-init
loop-b-init c =
    let a = c.args in
    let e : c.into_iter-b-iterator.result.left ≡ a.steps.nodes = ap (λ m. m.left) c.into_iter-b-iterator.ensures.into_iter_gives ∙ c.iter-b-items.ensures in
    (omega arith, omega (arith, ap count_of e), λ ns f. ap (comes_to ns a.steps.kind a.steps.partition a.steps.source a.cells.now a.at) e)

pub offset_bounds-ids-b : goal.offset_bounds-ids-b
offset_bounds-ids-b c = omega (arith, comes-low (length c.args.ids.now) _ _ _ c.requires.0 c.loop-b.invariant.0 c.in-Some.ensures.steps)

pub bounds-ids-b : goal.bounds-ids-b
bounds-ids-b c = omega (arith, comes-low (length c.args.ids.now) _ _ _ c.requires.0 c.loop-b.invariant.0 c.in-Some.ensures.steps)

pub put-requires : goal.put-requires
put-requires c =
    let came = c.in-Some.ensures.steps in
    omega (arith, least-taken c.loop-b.b-iterator.left came.word came.some, c.loop-b.invariant.1)

pub loop-b-preserved : goal.loop-b-preserved
loop-b-preserved c =
    let a = c.args in
    let left = c.loop-b.b-iterator.left in
    let came = c.in-Some.ensures.steps in
    let low = c.loop-b.invariant.0 in (
      omega (arith, came.rest, without-low (length a.ids.now) (omega arith) left (least_of left) low),
      omega (arith, ap count_of came.rest, least-taken left came.word came.some, c.loop-b.invariant.1),
      λ ns e.
          let many = ids-many ns a.ids.now e in
          let few : length ns ≤ most_nodes = omega (arith, many) in
          let own : get_or a.ids.now c.in-Some.b 0 ≡ (get_or ns (least_of left) no_node).id =
          id-cell ns a.ids.now c.in-Some.b e ∙ ap (λ (b : ℕ). (get_or ns b no_node).id) came.least in
          step-put ns a.steps.kind a.steps.partition a.steps.source c.loop-b.cells _ c.loop-b.to left _ c.next.new.self.left few
          (omega (arith, low, ap (λ (x : ℕ). 2 ^ x) many)) came.word came.some (omega (arith, c.loop-b.invariant.1)) own came.rest c.put.ensures
          ∙ c.loop-b.invariant.2 ns e,
    )

pub returns : goal.returns
returns c =
    let a = c.args in
    let z = c.in-None.ensures.steps.0 in (
      omega (arith, c.loop-b.invariant.1, ap count_of z, count_empty),
      λ ns e. sym (none_left ns a.steps.kind a.steps.partition a.steps.source c.loop-b.cells c.loop-b.to c.loop-b.b-iterator.left z) ∙ (unfold comes_to in c.loop-b.invariant.2 ns e),
    )
