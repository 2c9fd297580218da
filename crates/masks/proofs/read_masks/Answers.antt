-- `masks::read_masks` meets its contract. The loop's invariant: the masks of the rows passed are written.
use borrow.Author.Rules.{rules}
use native.Mathlib.Omega.{arith}
use Prim.Native.Nat.{ℕ}
use mathlib.Core.Path.{◌≡◌, ap, ap₂, ◌∙◌}
use mathlib.Core.List.{List, ◌++◌}
use lib.ListN.{length, drop, set}
use borrow.Author.Tests.{le-leb, lt-leb}
use Rattle.sums.specs.TermsSums.{tab}
use Rattle.cells.proofs.Cells.{tab-none, tab-more}
use Rattle.cluster.specs.Terms.{buffer_rows, topology}
use Rattle.masks.specs.ModelMasks.{row_mask, masks_read}
use Rattle.masks.proofs.Where.{ids_used}
use Rattle.masks.proofs.read_masks.Goals as goal

pub returns-then-partitions-gt-PARTITIONS : goal.returns-then-partitions-gt-PARTITIONS
unfolding masks_read
returns-then-partitions-gt-PARTITIONS c =
    simp (lt-leb c.args.partitions buffer_rows c.if-partitions-gt-PARTITIONS.true)

pub returns-then-masks-partitions : goal.returns-then-masks-partitions
unfolding masks_read
returns-then-masks-partitions c =
    let a = c.args in
    simp (le-leb a.partitions buffer_rows (search rules), lt-leb a.partitions (length a.masks.now) (search rules))

pub loop-p-init : goal.loop-p-init
loop-p-init c = λ ns e. tab-none _ _

pub loop-p-preserved : goal.loop-p-preserved
loop-p-preserved c =
    let a = c.args in
    λ ns e.
    let mask : c.mask_of.result ≡ row_mask ns a.cells.now c.loop-p.p = c.mask_of.ensures ns e in
    ap₂ (λ (l : List ℕ) (v : ℕ). set l c.loop-p.p v) (c.loop-p.invariant ns e) mask
    ∙ tab-more (λ q. row_mask ns a.cells.now q) c.loop-p.p a.masks.now (omega arith)

pub returns : goal.returns
unfolding masks_read
returns c =
    let a = c.args in
    let e : c.loop-p.p ≡ a.partitions = omega arith in
    simp (le-leb a.partitions buffer_rows (search rules), le-leb a.partitions (length a.masks.now) (search rules))
    (c.loop-p.invariant (topology a.c).nodes (ids_used (topology a.c).nodes _ _ c.used-n.ensures.1 c.used-n.ensures.0 c.ids_of-all.ensures)
    ∙ ap (λ (n : ℕ). tab (λ q. row_mask (topology a.c).nodes a.cells.now q) n ++ drop n a.masks.now) e)
