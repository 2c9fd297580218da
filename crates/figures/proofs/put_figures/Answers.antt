-- `figures::put_figures` meets its contract.
-- Assumes nothing.
use native.Mathlib.Omega.{arith}
use Prim.Native.Nat.{ℕ, ◌≤◌}
use mathlib.Core.Path.{◌≡◌, ap, ◌∙◌}
use mathlib.Core.List.{List, ◌++◌}
use lib.ListN.{length, drop, get_or, length-append, length-drop}
use Rattle.cells.specs.ModelCells.{put}
use Rattle.cells.proofs.Cells.{length_of_map}
use Rattle.cluster.specs.Terms.{most_nodes, topology, partitions}
use Rattle.cluster.specs.TermsReading.{figure_cells}
use Rattle.cluster.proofs.Accepting.{few_partitions, accepted, few_nodes}
use Rattle.copies.proofs.Counted.{counted_few}
use Rattle.layouts.proofs.FaultMeaning.{each_formed}
use Rattle.figures.specs.ModelZones.{zone_sum}
use Rattle.figures.proofs.FigureWalk.{put-copied, all-figures}
use Rattle.figures.proofs.put_figures.Goals as goal

pub copies-counts-requires : goal.copies-counts-requires
copies-counts-requires c = (c.requires.0, c.requires.1, each_formed (topology c.args.c) c.args.assignment.now (accepted c.args.c c.requires.0) c.requires.2)

-- The counts of the slots, put into the first half.
copied : (counts l : List ℕ) → length counts ≡ most_nodes → figure_cells ≤ length l → counts ++ drop (length counts) l ≡ put 0 (λ b. get_or counts b 0) most_nodes l
copied counts l e h = put-copied counts l (omega arith) ∙ ap (λ (n : ℕ). put 0 (λ b. get_or counts b 0) n l) e

pub copy-requires : goal.copy-requires
copy-requires c = let long : length c.copies-counts.result ≡ most_nodes = search length_of_map in omega (arith, c.requires.3)

pub put_zones-requires : goal.put_zones-requires
put_zones-requires c = let t = topology c.args.c in (
  few_nodes c.args.c c.requires.0,
  λ x l. omega (
    arith,
    ap (λ (r : List ℕ). get_or r x 0) c.copies-counts.ensures,
    counted_few t c.args.assignment.now (partitions t) x l,
    few_partitions t.bits (accepted c.args.c c.requires.0).bits,
  ),
  omega (
    arith,
    ap length c.copy.ensures,
    length-append c.copies-counts.result (drop (length c.copies-counts.result) c.args.cells.now),
    length-drop (length c.copies-counts.result) c.args.cells.now,
    c.requires.3,
  ),
)

pub returns : goal.returns
returns c = let t = topology c.args.c in
    let long : length c.copies-counts.result ≡ most_nodes = search length_of_map in
    c.put_zones.ensures
    ∙ (ap (put most_nodes (zone_sum t c.copies-counts.result) most_nodes) (c.copy.ensures ∙ copied c.copies-counts.result c.args.cells.now long c.requires.3)
    ∙ all-figures t c.args.assignment.now (partitions t) (accepted c.args.c c.requires.0).few c.copies-counts.result c.args.cells.now c.requires.3 c.copies-counts.ensures)
