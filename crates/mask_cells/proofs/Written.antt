-- The cells of a layout, written row by row.
-- Assumes nothing.
use Prim.Native.Nat.{ℕ, zero, suc, ◌+◌, ◌*◌, ◌/◌, ◌%◌, ◌≤◌, ◌<◌}
use mathlib.Core.Path.{◌≡◌, sym, ap, ap₂, ◌∙◌}
use mathlib.Core.List.{List, [], ◌++◌}
use mathlib.Core.Bool.{Bool, cond}
use mathlib.Core.Logic.{⊎_elim}
use native.Mathlib.Nat.{add-zero, add-suc}
use native.Mathlib.Numerals.{add-one}
use native.Mathlib.Omega.{arith}
use lib.Dec.{ltb}
use lib.ListN.{length, take, drop, get_or, set, get_or-eq_default}
use lib.Seq.{get_or-take}
use borrow.Author.Tests.{lt-ltb, le-ltb}
use Rattle.sums.proofs.Sum.{lt_or_ge}
use Rattle.sets.specs.ModelBits.{bit}
use Rattle.sums.specs.TermsSums.{tab}
use Rattle.cells.specs.ModelCells.{put}
use Rattle.cells.proofs.Cells.{length-tab, get_or_tab, tab-more, put_cong, put-over}
use Rattle.cluster.specs.Terms.{row_cells, row}
use Rattle.incidence.specs.ModelIncidence.{ids_where}
use Rattle.cluster.specs.declared.Node.{Node}
use Rattle.mask_cells.specs.ModelMaskCells.{rows_where}
use Rattle.masks.proofs.Where.{where_empty}

-- ---- lists

-- Writing the next m cells.
tab-put : (f : ℕ → ℕ) (n m : ℕ) (l : List ℕ) → n + m ≤ length l → put n (λ j. f (n + j)) m (tab f n ++ drop n l) ≡ tab f (n + m) ++ drop (n + m) l
unfolding put
tab-put f n zero l h = ap (λ (k : ℕ). tab f k ++ drop k l) (sym (add-zero n))
tab-put f n (suc m) l h =
    ap (λ (r : List ℕ). set r (n + m) (f (n + m))) (tab-put f n m l (omega arith))
    ∙ (tab-more f (n + m) l (omega arith) ∙ ap (λ (k : ℕ). tab f k ++ drop k l) (add-one (n + m) ∙ sym (add-suc n m)))

-- The first j cells of a blank row, where the others stay 0.
pub blank-written : (f : ℕ → ℕ) (from j : ℕ) (l₀ l₁ l : List ℕ) → from + row_cells ≤ length l₀ → j ≤ row_cells → l₁ ≡ put from (λ i. 0) row_cells l₀ → l ≡ put from f j l₁
    → ((i : ℕ) → j ≤ i → i < row_cells → 0 ≡ f i) → l ≡ put from f row_cells l₀
blank-written f from j l₀ l₁ l long few blank e same = e ∙ (ap (put from f j) blank ∙ put-over 0 from f (λ i. 0) j row_cells l₀ few long same)

-- ---- rows

-- The layout of masks has n rows.
pub length-rows_where : (ns : List Node) (masks : List ℕ) (n : ℕ) → length (rows_where ns masks n) ≡ n
unfolding rows_where
length-rows_where ns masks n = length-tab (λ p. take row_cells (ids_where ns (bit (get_or masks p 0)))) n

-- Row p has the ids of the nodes in mask p.
pub row-rows_where : (ns : List Node) (masks : List ℕ) (n p : ℕ) → p < n → row (rows_where ns masks n) p ≡ take row_cells (ids_where ns (bit (get_or masks p 0)))
unfolding rows_where
row-rows_where ns masks n p h = get_or_tab (λ q. take row_cells (ids_where ns (bit (get_or masks q 0)))) n p [] h

-- Id j of row p is that of the mask of p, where p is one of the n, and 0 else.
id-rows_where : (ns : List Node) (masks : List ℕ) (n p j : ℕ) → j < row_cells
    → get_or (ids_where ns (bit (cond (ltb p n) (get_or masks p 0) 0))) j 0 ≡ get_or (row (rows_where ns masks n) p) j 0
id-rows_where ns masks n p j h =
    ⊎_elim
    (λ l. ap (λ (t : Bool). get_or (ids_where ns (bit (cond t (get_or masks p 0) 0))) j 0) (lt-ltb p n l)
    ∙ (sym (get_or-take row_cells (ids_where ns (bit (get_or masks p 0))) j 0 h) ∙ ap (λ (r : List ℕ). get_or r j 0) (sym (row-rows_where ns masks n p l))))
    (λ l. ap (λ (t : Bool). get_or (ids_where ns (bit (cond t (get_or masks p 0) 0))) j 0) (le-ltb p n l)
    ∙ (ap (λ (r : List ℕ). get_or r j 0) (where_empty ns)
    ∙ ap (λ (r : List ℕ). get_or r j 0) (sym (get_or-eq_default (rows_where ns masks n) [] (omega (arith, length-rows_where ns masks n))))))
    (lt_or_ge p n)

-- A turn of a loop that writes a layout: row p after the rows before it.
pub row_written : (ns : List Node) (masks : List ℕ) (n p v : ℕ) (l cells : List ℕ) → p * row_cells + row_cells ≤ length l
    → v ≡ cond (ltb p n) (get_or masks p 0) 0
    → cells ≡ tab (λ c. get_or (row (rows_where ns masks n) (c / row_cells)) (c % row_cells) 0) (p * row_cells) ++ drop (p * row_cells) l
    → put (p * row_cells) (λ j. get_or (ids_where ns (bit v)) j 0) row_cells cells
    ≡ tab (λ c. get_or (row (rows_where ns masks n) (c / row_cells)) (c % row_cells) 0) ((p + 1) * row_cells) ++ drop ((p + 1) * row_cells) l
row_written ns masks n p v l cells h e inv =
    let k : p * row_cells + row_cells ≡ (p + 1) * row_cells = omega arith in
    ap (put (p * row_cells) (λ j. get_or (ids_where ns (bit v)) j 0) row_cells) inv
    ∙ (put_cong (p * row_cells) (λ j. get_or (ids_where ns (bit v)) j 0) (λ j. cell (p * row_cells + j)) row_cells (tab cell (p * row_cells) ++ drop (p * row_cells) l) same
    ∙ (tab-put cell (p * row_cells) row_cells l h ∙ ap (λ (i : ℕ). tab cell i ++ drop i l) k))
  where
    cell : ℕ → ℕ
    cell c = get_or (row (rows_where ns masks n) (c / row_cells)) (c % row_cells) 0

    same : (j : ℕ) → j < row_cells → get_or (ids_where ns (bit v)) j 0 ≡ cell (p * row_cells + j)
    same j g =
        let d : (p * row_cells + j) / row_cells ≡ p = omega arith in
        let m : (p * row_cells + j) % row_cells ≡ j = omega arith in
        ap (λ (w : ℕ). get_or (ids_where ns (bit w)) j 0) e
        ∙ (id-rows_where ns masks n p j g ∙ ap₂ (λ (q i : ℕ). get_or (row (rows_where ns masks n) q) i 0) (sym d) (sym m))
