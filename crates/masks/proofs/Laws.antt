-- What the models mean: a mask read from cells has the nodes that the row names, and formed rows are a former layout.
-- Assumes nothing.
use Prim.Native.Nat.{ℕ, ◌<◌}
use mathlib.Core.Path.{◌≡◌, ap, ap₂, ◌∙◌}
use mathlib.Core.List.{List}
use mathlib.Core.Bool.{Bool, true, ◌&&◌, cond}
use native.Mathlib.Omega.{arith}
use lib.Dec.{ltb, leb}
use lib.ListN.{length}
use borrow.Author.Tests.{ltb-true, lt-ltb, le-leb}
use Rattle.sums.specs.TermsSums.{every_to}
use Rattle.sets.specs.ModelBits.{mask_of}
use Rattle.cluster.specs.Terms.{buffer_rows, Topology, partitions, ids_of, rising, IsFormer, row_at, ids_in, formed, rows_in}
use Rattle.cell_rows.specs.ModelRows.{HoldsRows, ill_formed, has_row, row_ids}
use Rattle.incidence.specs.ModelIncidence.{bits_of}
use Rattle.cluster.specs.declared.Node.{Node}
use Rattle.sums.proofs.Tests.{both, every-at, every-all}
use Rattle.cell_rows.proofs.CellRows.{formed-rising}
use Rattle.cell_rows.proofs.CellLayouts.{few_ids, length-rows_in, row-rows_in}
use Rattle.cell_rows.proofs.RowScans.{row-ids-formed, hold-ids}
use Rattle.masks.specs.ModelMasks.{named, row_mask, rows_formed}
use Rattle.masks.proofs.Named.{named-bits}

-- ---- masks read

module _ (ns : List Node) (cells : List ℕ) (p : ℕ) (ids : rising (ids_of ns) ≡ true) (there : has_row cells p ≡ true) (shape : formed (row_at cells p) ≡ true) where
  -- Of nodes with rising ids and a row of rising ids followed by zeros, the mask has the nodes whose ids the row names.
  pub mask-bits : row_mask ns cells p ≡ mask_of (bits_of ns (ids_in (row_at cells p))) (length ns)
  unfolding row_mask
  mask-bits =
      ap (λ (t : Bool). cond t (named ns (ids_in (row_at cells p))) 0) there
      ∙ named-bits 0 0 ns (ids_in (row_at cells p)) ids (formed-rising 0 (row_at cells p) shape)

-- Cells of which the first n rows pass the test: each of them is there, and is rising ids followed by zeros.
pub formed_each : (cells : List ℕ) (n p : ℕ) → rows_formed cells n ≡ true → p < n
    → (has_row cells p ≡ true) × (formed (row_at cells p) ≡ true) × (length (ids_in (row_at cells p)) ≡ row_ids cells p)
unfolding rows_formed
formed_each cells n p h l =
    row-ids-formed cells p
    (ltb-true (row_ids cells p) ill_formed
    (every-at n p (λ q. ltb (row_ids cells q) ill_formed) (both (leb n buffer_rows) (every_to n (λ q. ltb (row_ids cells q) ill_formed)) h).1 l))

-- Cells that hold n rows pass the test.
pub holds-formed : (n : ℕ) (cells : List ℕ) → HoldsRows n cells → rows_formed cells n ≡ true
unfolding rows_formed
holds-formed n cells h =
    ap₂ ◌&&◌ (le-leb n buffer_rows h.few_rows)
    (every-all n (λ q. ltb (row_ids cells q) ill_formed)
    (λ q l. lt-ltb (row_ids cells q) ill_formed (omega (arith, hold-ids n cells h q l, few_ids cells q))))

-- ---- the former layout

module _ (t : Topology) (cells : List ℕ) (h : rows_formed cells (partitions t) ≡ true) where
  -- Rows that pass the test are a former layout.
  pub formed-former : IsFormer t (rows_in (partitions t) cells)
  formed-former = record {
    partition_rows = length-rows_in (partitions t) cells;
    ids = λ p l. ap rising (row-rows_in (partitions t) cells p l) ∙ formed-rising 0 (row_at cells p) (formed_each cells (partitions t) p h l).1;
    few = λ p l. omega (arith, ap length (row-rows_in (partitions t) cells p l), few_ids cells p);
  }
