-- The steps of the first rows, from sets of nodes: one row more, and how many cells they take.
-- Assumes nothing.
use Prim.Native.Nat.{ℕ, zero, suc, ◌+◌, ◌*◌, ◌^◌, ◌≤◌, ◌<◌}
use mathlib.Core.Path.{◌≡◌, refl, sym, ap, ap₂, ◌∙◌}
use mathlib.Core.Bool.{Bool, true, false, cond}
use mathlib.Core.List.{List, [], ◌∷◌, ◌++◌}
use native.Mathlib.Nat.{pow-suc}
use native.Mathlib.Numerals.{add-one}
use native.Mathlib.Omega.{arith}
use lib.Dec.{ltb}
use lib.ListN.{length, take, drop, length-append}
use Rattle.sums.specs.TermsSums.{sum_to}
use Rattle.sums.specs.ModelSums.{is}
use Rattle.sums.proofs.Sum.{is_le, sum-next, sum_upto}
use Rattle.cells.proofs.Puts.{parts_join}
use Rattle.cluster.specs.Terms.{most_nodes, wide_row_cells, row_at, row_of, ids_in}
use Rattle.cluster.specs.declared.Node.{Node}
use Rattle.cell_rows.specs.ModelRows.{has_row}
use Rattle.masks.specs.ModelMasks.{named_at, named, row_mask}
use Rattle.moves.specs.TermsMoves.{step_width}
use Rattle.step_cells.specs.ModelSteps.{step_count, row_steps}
use Rattle.step_cells.proofs.StepWalk.{length-row}
use Rattle.move_list.specs.ModelMoveRows.{wide_mask, steps_to, cells_to}

-- ---- the sets

-- The nodes that ids name are among the nodes.
named-low : (ns : List Node) (r : List ℕ) → named ns r < 2 ^ length ns
unfolding named named_at
named-low [] r = omega arith
named-low (n ∷ ns) r = walk (named-low ns) r
  where
    walk : ((s : List ℕ) → named ns s < 2 ^ length ns) → (s : List ℕ) → named_at n (λ x. named ns x) s < 2 ^ suc (length ns)
    walk rest [] = omega (arith, rest [], pow-suc 2 (length ns))
    walk rest (x ∷ xs) = go (walk rest xs) (ltb x n.id)
      where
        go : named_at n (λ y. named ns y) xs < 2 ^ suc (length ns) → (b : Bool)
            → cond b (named_at n (λ y. named ns y) xs) (is x n.id + 2 * named ns (x ∷ xs)) < 2 ^ suc (length ns)
        go h true = h
        go h false = omega (arith, rest (x ∷ xs), is_le x n.id, pow-suc 2 (length ns))

module _ (ns : List Node) where
  pub wide_low : (former : List ℕ) (p : ℕ) → wide_mask ns former p < 2 ^ length ns
  unfolding wide_mask
  wide_low former p = named-low ns (ids_in (row_of wide_row_cells former p))

  pub row_low : (assignment : List ℕ) (p : ℕ) → row_mask ns assignment p < 2 ^ length ns
  unfolding row_mask
  row_low assignment p = go (has_row assignment p)
    where
      go : (b : Bool) → cond b (named ns (ids_in (row_at assignment p))) 0 < 2 ^ length ns
      go true = named-low ns (ids_in (row_at assignment p))
      go false = omega (arith, named-low ns [])

  module _ (former assignment : List ℕ) where
    abbrev row_count : ℕ → ℕ
    row_count p = step_count (wide_mask ns former p) (row_mask ns assignment p)

    -- A row's steps are among those of all.
    pub steps_upto : (n p : ℕ) → p < n → steps_to ns former assignment p + row_count p ≤ steps_to ns former assignment n
    unfolding steps_to
    steps_upto n p h = sum_upto n p row_count h

    -- One row more.
    pub steps_next : (p : ℕ) → steps_to ns former assignment p + row_count p ≡ steps_to ns former assignment (p + 1)
    unfolding steps_to
    steps_next p = sum-next row_count p (sum_to p row_count) (row_count p) refl refl

    -- The cells are four for each step.
    pub length-cells : (n : ℕ) → length ns ≤ most_nodes → length (cells_to ns former assignment n) ≡ step_width * steps_to ns former assignment n
    unfolding cells_to steps_to sum_to
    length-cells zero few = refl
    length-cells (suc n) few =
        length-append (cells_to ns former assignment n) (row_steps ns n (wide_mask ns former n) (row_mask ns assignment n))
        ∙ omega (arith, length-cells n few, length-row ns n (wide_mask ns former n) (row_mask ns assignment n) few (wide_low former n) (row_low assignment n))

    -- Before the first row no cell is written,
    pub rows_none : (cells : List ℕ) → cells ≡ cells_to ns former assignment 0 ++ drop (step_width * steps_to ns former assignment 0) cells
    unfolding cells_to steps_to sum_to
    rows_none cells = refl

    -- and the steps of one row more are put right behind those of the rows before it.
    pub rows-put : (lent cells after : List ℕ) (p at old new : ℕ) → length ns ≤ most_nodes → old ≡ wide_mask ns former p → new ≡ row_mask ns assignment p
        → at ≡ step_width * steps_to ns former assignment p → cells ≡ cells_to ns former assignment p ++ drop (step_width * steps_to ns former assignment p) lent
        → after ≡ take at cells ++ row_steps ns p old new ++ drop (at + step_width * step_count old new) cells
        → after ≡ cells_to ns former assignment (p + 1) ++ drop (step_width * steps_to ns former assignment (p + 1)) lent
    unfolding cells_to steps_to sum_to
    rows-put lent cells after p at old new few o n place e put =
        let k = step_width * steps_to ns former assignment p in
        let m = step_width * row_count p in
        let first = cells_to ns former assignment p in
        let steps = row_steps ns p (wide_mask ns former p) (row_mask ns assignment p) in
        let z : 0 + k ≡ k = omega arith in
        let far : 0 + k + m ≡ step_width * steps_to ns former assignment (suc p) = omega arith in
        put
        ∙ (ap₂ (λ (x y : ℕ). take at cells ++ row_steps ns p x y ++ drop (at + step_width * step_count x y) cells) o n
        ∙ (ap (λ (x : ℕ). take x cells ++ steps ++ drop (x + m) cells) (place ∙ sym z)
        ∙ (parts_join lent first steps cells 0 k m (length-cells p few) (omega arith) (e ∙ ap (λ (x : ℕ). first ++ drop x lent) (sym z))
        ∙ (ap (λ (x : ℕ). (first ++ steps) ++ drop x lent) far
        ∙ ap (λ (x : ℕ). cells_to ns former assignment x ++ drop (step_width * steps_to ns former assignment x) lent) (sym (add-one p))))))
