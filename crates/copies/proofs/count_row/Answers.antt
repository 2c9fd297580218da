-- `copies::count_row` meets its contract. The loop's invariant: what each node comes to, by what it has and what is left to be met, stays as it was.
use native.Mathlib.Omega.{arith}
use Prim.Native.Nat.{ℕ, ◌+◌}
use mathlib.Core.Path.{◌≡◌, ap, ap₂, ◌∙◌}
use mathlib.Core.List.{List}
use lib.ListN.{length, get_or, set, length-set}
use Rattle.sets.proofs.Laws.{bit_le}
use Rattle.cluster.specs.Terms.{topology}
use Rattle.cluster.proofs.Accepting.{accepted}
use Rattle.cell_rows.proofs.RowScans.{row_of_buffer}
use Rattle.masks.proofs.Laws.{mask-bits}
use Rattle.copies.specs.ModelCopies.{row_nodes}
use Rattle.copies.proofs.Counted.{length-counts, counted_few}
use Rattle.copies.proofs.CopyWalk.{comes_to, meets, all_met}
use Rattle.copies.proofs.count_row.Goals as goal

pub loop-b-init : goal.loop-b-init
loop-b-init c =
    let a = c.args in (
      ap length c.requires.3 ∙ length-counts (topology a.c) a.cells.now a.p,
      λ b h. ap (λ (m : ℕ). comes_to a.counts.now m b) (ap (λ m. m.left) c.into_iter-b-iterator.ensures.into_iter_gives ∙ c.iter-b-items.ensures),
    )

pub bounds-counts-b : goal.bounds-counts-b
bounds-counts-b c = omega (arith, c.in-Some.ensures.steps.below)

pub overflow_add-counts : goal.overflow_add-counts
unfolding comes_to
overflow_add-counts c =
    let slot = c.in-Some.ensures.steps.below in
    let a = c.args in
    let b = c.in-Some.b in
    omega (
      arith,
      c.loop-b.invariant.1 b slot,
      bit_le c.row_mask-nodes.result b,
      ap (λ (r : List ℕ). get_or r b 0) c.requires.3,
      counted_few (topology a.c) a.cells.now a.p b slot,
    )

pub bounds-counts-b-in-loop-b : goal.bounds-counts-b-in-loop-b
bounds-counts-b-in-loop-b c = omega (arith, c.in-Some.ensures.steps.below)

pub loop-b-preserved : goal.loop-b-preserved
loop-b-preserved c =
    let l = c.loop-b in
    let came = c.in-Some.ensures.steps in (
      length-set l.counts _ _ ∙ l.invariant.0,
      λ x h. ap₂ (λ (u v : ℕ). comes_to (set l.counts u (get_or l.counts u 0 + 1)) v x) came.least came.rest
          ∙ (meets l.counts l.b-iterator.left l.invariant.0 came.word came.some x h ∙ l.invariant.1 x h),
    )

pub returns : goal.returns
returns c =
    let a = c.args in
    -- The mask of the row is the set of the nodes that it names.
    let nodes : c.row_mask-nodes.result ≡ row_nodes (topology a.c) a.cells.now a.p = unfold row_nodes in
    c.row_mask-nodes.ensures
    ∙ mask-bits (topology a.c).nodes a.cells.now a.p (accepted a.c c.requires.0).ids (row_of_buffer a.cells.now a.p c.requires.2 c.requires.1) c.requires.4 in
    all_met (topology a.c) a.cells.now a.counts.now c.loop-b.counts a.p c.row_mask-nodes.result c.loop-b.b-iterator.left
    c.requires.3 nodes c.loop-b.invariant.0 c.in-None.ensures.steps.0 c.loop-b.invariant.1
