-- `levels::fall` meets its contract: the members of near that are not left have offered the distance.
use Prim.Native.Nat.{ℕ, ◌+◌, ◌*◌, ◌≤◌}
use mathlib.Core.Path.{◌≡◌, ap, ◌∙◌}
use native.Mathlib.Omega.{arith}
use lib.ListN.{get_or}
use Rattle.cluster.specs.Terms.{most_nodes}
use Rattle.sets.specs.ModelBits.{meet_of}
use Rattle.levels.specs.ModelTurns.{leads_to, weight_from}
use Rattle.levels.proofs.Sizes.{arcs-fit, arcs-bytes-fit, arcs_inside}
use Rattle.levels.proofs.Visits.{passed_start, passed_next}
use Rattle.levels.proofs.Leads.{weight-most}
use Rattle.levels.proofs.Takes.{taken_start, taken_more, taken_out, taken_end}
use Rattle.levels.proofs.fall.Goals as goal

pub loop-u-init : goal.loop-u-init
loop-u-init c =
    let a = c.args in
    let e : c.into_iter-u-iterator.result.left ≡ a.near = cc in
    rw e (record { upto = 0; passed = passed_start a.near; taken = taken_start a.near (leads_to a.arcs.now a.even a.up) a.free a.c a.next.now a.row.now })

pub returns-then-still-eq0 : goal.returns-then-still-eq0
returns-then-still-eq0 c = taken_out c.loop-u.invariant.taken c.if-still-eq0.true

-- The sets of a node begin among the arcs.
begins : (even up u b : ℕ) → b ≡ weight_from even up u → b ≤ 2 * most_nodes
begins even up u b e = omega (arith, e, weight-most even up u)

pub overflow_add-weight : goal.overflow_add-weight
overflow_add-weight c =
    let a = c.args in
    arcs-fit c.in-Some.u c.in-Some.ensures.steps.below c.weight.result (begins a.even a.up _ _ c.weight.ensures)

pub offset_bounds-arcs-weight : goal.offset_bounds-arcs-weight
offset_bounds-arcs-weight c =
    let a = c.args in
    arcs-bytes-fit c.in-Some.u c.in-Some.ensures.steps.below c.weight.result (begins a.even a.up _ _ c.weight.ensures)

pub bounds-arcs-weight : goal.bounds-arcs-weight
bounds-arcs-weight c =
    let a = c.args in
    arcs_inside c.in-Some.u c.in-Some.ensures.steps.below c.weight.result (begins a.even a.up _ _ c.weight.ensures) a.arcs.now c.requires.0

pub settle-requires : goal.settle-requires
settle-requires c = (omega arith, omega arith, c.in-Some.ensures.steps.below)

pub loop-u-preserved : goal.loop-u-preserved
loop-u-preserved c =
    let a = c.args in
    let i = c.loop-u.invariant in
    let m = c.in-Some.ensures.steps in
    record {
      upto = c.in-Some.u + 1;
      passed = passed_next i.passed m;
      taken = taken_more i.taken i.passed m
          (c.meet-taken.ensures ∙ ap (λ (x : ℕ). meet_of (get_or a.arcs.now (x + c.in-Some.u) 0) c.loop-u.still) c.weight.ensures)
          c.difference-still.ensures c.settle.ensures.0 c.settle.ensures.1;
    }

pub returns : goal.returns
returns c = let i = c.loop-u.invariant in taken_end i.taken i.passed c.in-None.ensures.steps.0
