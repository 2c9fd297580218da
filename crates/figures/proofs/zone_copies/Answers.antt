-- `figures::zone_copies` meets its contract. The loop's invariant: the copies of those of the first x nodes that are of the zone are added up.
use borrow.Author.Rules.{rules}
use native.Mathlib.Omega.{arith}
use Prim.Native.Nat.{ℕ, ◌≤◌}
use mathlib.Core.Path.{◌≡◌, refl, ap, ◌∙◌}
use lib.ListN.{length}
use Rattle.sums.proofs.Sum.{sum-next}
use Rattle.sums.specs.TermsSums.{sum_to}
use Rattle.cells.proofs.Cells.{length_of_map}
use Rattle.cluster.specs.Terms.{most_nodes, buffer_rows, topology}
use Rattle.cluster.proofs.Accepting.{nodes-count}
use Rattle.figures.proofs.FigureWalk.{zone_term, term_same, term_other, zone_unused, zone_used}
use Rattle.figures.proofs.zone_copies.Goals.{then-c-x, else-c-x}
use Rattle.figures.proofs.zone_copies.Goals as goal

pub returns-then-n-b : goal.returns-then-n-b
returns-then-n-b c =
    let long : length c.args.c.nodes ≡ most_nodes = search length_of_map in
    zone_unused (topology c.args.c) c.args.counts c.args.b (omega (arith, nodes-count c.args.c long c.requires.0))

pub loop-x-init : goal.loop-x-init
unfolding sum_to
loop-x-init c = (search rules, refl)

pub overflow_add-total : goal.overflow_add-total
overflow_add-total c =
    -- What a node adds is at most the number of rows.
    let few-more : c.if-c-x.more ≤ buffer_rows =
    elim c.if-c-x.branch [
      | then-c-x w ↦ omega (arith, w.more-is, c.requires.1 c.loop-x.x (omega arith))
      | else-c-x w ↦ omega (arith, w.more-is)
    ] in
    omega (arith, few-more)

pub loop-x-preserved : goal.loop-x-preserved
loop-x-preserved c =
    let few-more : c.if-c-x.more ≤ buffer_rows =
    elim c.if-c-x.branch [
      | then-c-x w ↦ omega (arith, w.more-is, c.requires.1 c.loop-x.x (omega arith))
      | else-c-x w ↦ omega (arith, w.more-is)
    ] in
    let a = c.args in (
      omega (arith, few-more),
      sum-next (zone_term (topology a.c) a.counts a.b) c.loop-x.x c.loop-x.total c.if-c-x.more c.loop-x.invariant.1
          (elim c.if-c-x.branch [
            | then-c-x w ↦ w.more-is ∙ term_same a.c a.counts a.b c.loop-x.x (search rules) (search rules) w.if-c-x.true
            | else-c-x w ↦ w.more-is ∙ term_other a.c a.counts a.b c.loop-x.x (search rules) (search rules) w.if-c-x.false
          ]),
    )

pub returns : goal.returns
returns c =
    let long : length c.args.c.nodes ≡ most_nodes = search length_of_map in
    let n = nodes-count c.args.c long c.requires.0 in
    let e : c.loop-x.x ≡ length (topology c.args.c).nodes = omega arith in
    c.loop-x.invariant.1
    ∙ (ap (λ (n : ℕ). sum_to n (zone_term (topology c.args.c) c.args.counts c.args.b)) e
    ∙ zone_used (topology c.args.c) c.args.counts c.args.b (omega arith))
