-- The answer of planning looks at the nodes in use and at the first P former rows alone: what stands in the other slots and rows, and beyond the
-- cells of a buffer, alters nothing.
-- Assumes nothing.
use Prim.Native.Nat.{ℕ, ◌≤◌, ◌<◌}
use mathlib.Core.Path.{◌≡◌, sym, ap, ap₂, ◌∙◌}
use mathlib.Core.Bool.{Bool, ◌||◌, cond}
use mathlib.Core.List.{List, ◌++◌}
use lib.Dec.{ltb, eqb}
use lib.ListN.{length, drop, replicate}
use borrow.Author.Tests.{le-ltb}
use Rattle.cells.proofs.Cells.{tab_cong}
use Rattle.cluster.specs.Terms.{layout_cells, scratch_cells, most_nodes, Topology, topology, partitions, ids_of, rising, row_at, ids_in, formed, rows_in, cells_of, fault_of, out_of_range}
use Rattle.cluster.specs.declared.Cluster.{Cluster}
use Rattle.sizing.specs.ModelSizing.{size_of}
use Rattle.sums.specs.TermsSums.{every_to}
use Rattle.planning.specs.ModelPlan.{plan_of}
use Rattle.planner.specs.TermsPlan.{unusable, plan_refusal, refused_with, answered, planned_of, assignment_after, scratch_after}
use Rattle.sums.proofs.Tests.{every_cong}

module _ (c d : Cluster) (nodes : topology c ≡ topology d) (few : c.count ≤ most_nodes) (few' : d.count ≤ most_nodes) (f g : List ℕ) (whole : layout_cells ≤ length f)
    (whole' : layout_cells ≤ length g) (rows : (p : ℕ) → p < partitions (topology c) → row_at f p ≡ row_at g p)
  where
    -- The fault of a cluster of no more than 32 nodes is that of its topology.
    fault_of_lem : Topology → ℕ
    fault_of_lem t = cond (out_of_range t) 4 (cond (rising (ids_of t.nodes)) 0 5)

    same_fault : fault_of c ≡ fault_of d
    unfolding fault_of fault_of_lem
    same_fault =
        ap (λ (b : Bool). cond b 6 (fault_of_lem (topology c))) (le-ltb most_nodes c.count few)
        ∙ (ap fault_of_lem nodes ∙ sym (ap (λ (b : Bool). cond b 6 (fault_of_lem (topology d))) (le-ltb most_nodes d.count few')))

    same_former : rows_in (partitions (topology c)) f ≡ rows_in (partitions (topology d)) g
    unfolding rows_in
    same_former =
        tab_cong (λ p. ids_in (row_at f p)) (λ p. ids_in (row_at g p)) (partitions (topology c)) (λ p l. ap ids_in (rows p l))
        ∙ ap (λ (t : Topology). rows_in (partitions t) g) nodes

    module _ (a s : ℕ) where
      same_unusable : unusable c f a s ≡ unusable d g a s
      unfolding unusable
      same_unusable =
          ap₂ (λ (x y : Bool). cond (x || ltb a layout_cells || ltb s scratch_cells) 8 (cond (eqb (fault_of c) 0) (cond y 0 5) (fault_of c)))
          (le-ltb (length f) layout_cells whole ∙ sym (le-ltb (length g) layout_cells whole'))
          (every_cong (partitions (topology c)) (λ p. formed (row_at f p)) (λ p. formed (row_at g p)) (λ p l. ap formed (rows p l)) ∙ ap (λ (t : Topology). every_to (partitions t) (λ p. formed (row_at g p))) nodes)
          ∙ ap (λ (n : ℕ). cond (ltb (length g) layout_cells || ltb a layout_cells || ltb s scratch_cells) 8 (cond (eqb n 0) (cond (every_to (partitions (topology d)) (λ p. formed (row_at g p))) 0 5) n)) same_fault

      same_refusal : plan_refusal c f a s ≡ plan_refusal d g a s
      unfolding plan_refusal
      same_refusal = λ i. cond (eqb (same_unusable i) 0) (cond (eqb (size_of (nodes i)) 0) 9 0) (same_unusable i)

      -- Clusters with the same nodes in use, and former layouts with the same first P rows, have the same answer.
      pub plan_only : (allowance : ℕ) → planned_of c f allowance a s ≡ planned_of d g allowance a s
      unfolding planned_of
      plan_only allowance =
          λ i. cond (eqb (same_refusal i) 0) (answered (plan_of (nodes i) (same_former i) allowance)) (refused_with (same_refusal i))

    -- and leave the same cells.
    pub cells_only : (allowance : ℕ) (cells : List ℕ) (s : ℕ) → assignment_after c f allowance cells s ≡ assignment_after d g allowance cells s
    unfolding assignment_after
    cells_only allowance cells s =
        λ i. cond (eqb (same_refusal (length cells) s i) 0) (cells_of (plan_of (nodes i) (same_former i) allowance).layout ++ drop layout_cells cells) cells

    pub scratch_only : (a : ℕ) (cells : List ℕ) → scratch_after c f a cells ≡ scratch_after d g a cells
    unfolding scratch_after
    scratch_only a cells = λ i. cond (eqb (same_unusable a (length cells) i) 0) (replicate scratch_cells 0 ++ drop scratch_cells cells) cells
