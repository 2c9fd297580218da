-- `copies::copies` meets its contract. The loop's invariant: the counts are those after the rows so far.
use borrow.Author.Rules.{rules}
use native.Mathlib.Omega.{arith}
use Prim.Native.Nat.{ℕ, ◌^◌, min}
use mathlib.Core.Path.{◌≡◌, refl, sym, ap, ◌∙◌}
use lib.ListN.{length}
use Rattle.cluster.specs.Terms.{most_bits, topology, partitions, fault_of}
use Rattle.cluster.specs.declared.Cluster.{Cluster}
use Rattle.copies.specs.TermsCounts.{counts_after}
use Rattle.cluster.proofs.Accepting.{partitions_in_range, accepted}
use Rattle.copies.proofs.Counted.{length-counts}
use Rattle.copies.proofs.copies.Goals as goal

-- The number of partitions of a cluster without fault.
rows : (c : Cluster) (n : ℕ) → fault_of c ≡ 0 → n ≡ 2 ^ min c.bits most_bits → n ≡ partitions (topology c)
rows c n sound e = e ∙ partitions_in_range c.bits (accepted c sound).bits

pub loop-p-init : goal.loop-p-init
unfolding counts_after
loop-p-init c = refl

pub slice_bounds-count_row-end : goal.slice_bounds-count_row-end
slice_bounds-count_row-end c = let a = c.args in
    sym (ap length c.loop-p.invariant ∙ length-counts (topology a.c) a.cells.now c.loop-p.p)

pub count_row-requires : goal.count_row-requires
count_row-requires c =
    let e = rows c.args.c _ c.requires.0 c.partitions-partitions.ensures.0 in
    (c.requires.0, search rules, c.requires.1, c.loop-p.invariant, c.requires.2 c.loop-p.p (omega (arith, e)))

pub loop-p-preserved : goal.loop-p-preserved
loop-p-preserved c = c.count_row.ensures

pub returns : goal.returns
returns c =
    let e : c.loop-p.p ≡ partitions (topology c.args.c) = omega (arith, rows c.args.c _ c.requires.0 c.partitions-partitions.ensures.0) in
    c.loop-p.invariant ∙ ap (counts_after (topology c.args.c) c.args.cells.now) e
