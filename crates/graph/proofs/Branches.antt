-- What parts hold together of rows: a branch what its leaves do, and all branches what all rows do, over plain numbers and lists.
-- Assumes nothing.
use Prim.Native.Nat.{ℕ, zero, suc, ◌+◌, ◌-◌, ◌*◌, ◌≤◌, ◌<◌, min, max}
use mathlib.Core.Path.{◌≡◌, sym, ap, ap₂, ◌∙◌}
use mathlib.Core.List.{List}
use native.Mathlib.Nat.{add-zero}
use native.Mathlib.Omega.{arith}
use lib.ListN.{get_or, drop}
use lib.Seq.{get_or-drop}
use Rattle.cluster.specs.Terms.{most_nodes, buffer_rows}
use Rattle.levels.specs.ModelGraph.{arc_cells}
use Rattle.sums.specs.ModelSums.{max_to}
use Rattle.sets.specs.ModelBits.{bit}
use Rattle.swaps.specs.ModelLeaves.{leaf_rows}
use Rattle.arcs.specs.ModelMoves.{moves, moves_to}
use Rattle.unions.specs.ModelUnions.{parts, most_leaves, union_at}
use Rattle.unions.proofs.Unions.{max_cong, bit-union-to}
use Rattle.graph.specs.ModelKept.{branch_rows, Part, rows_in, Leaf, Branch}

-- ---- the largest of a range, by parts

max_split : (m n : ℕ) (f : ℕ → ℕ) → max_to (m + n) f ≡ max (max_to m f) (max_to n (λ i. f (m + i)))
unfolding max_to
max_split m zero f = ap (λ (k : ℕ). max_to k f) (add-zero m) ∙ omega arith
max_split m (suc n) f =
    let e : m + suc n ≡ suc (m + n) = omega arith in
    ap (λ (k : ℕ). max_to k f) e ∙ omega (arith, max_split m n f)

-- Parts that lie one after the other, of widths w from the places o on.
max_parts : (n : ℕ) (w o : ℕ → ℕ) (f : ℕ → ℕ) → o 0 ≡ 0 → ((b : ℕ) → o (suc b) ≡ o b + w b) → max_to n (λ b. max_to (w b) (λ t. f (o b + t))) ≡ max_to (o n) f
unfolding max_to
max_parts zero w o f e h = ap (λ (k : ℕ). max_to k f) (sym e)
max_parts (suc n) w o f e h =
    ap (λ (x : ℕ). max x (max_to (w n) (λ t. f (o n + t)))) (max_parts n w o f e h) ∙ (sym (max_split (o n) (w n) f) ∙ ap (λ (k : ℕ). max_to k f) (sym (h n)))

-- The leaves of a branch have its rows.
pub leaves-rows : (P i : ℕ) (g : ℕ → ℕ)
    → max_to parts (λ b. max_to (rows_in leaf_rows P (parts * i + b)) (λ t. g (leaf_rows * (parts * i + b) + t))) ≡ max_to (rows_in branch_rows P i) (λ t. g (branch_rows * i + t))
leaves-rows P i g =
    let o : ℕ → ℕ = λ b. min (leaf_rows * b) (P - branch_rows * i) in
    max_cong parts (λ b. max_to (rows_in leaf_rows P (parts * i + b)) (λ t. g (leaf_rows * (parts * i + b) + t)))
    (λ b. max_to (rows_in leaf_rows P (parts * i + b)) (λ t. g (branch_rows * i + (o b + t))))
    (λ b l. max_cong (rows_in leaf_rows P (parts * i + b)) (λ t. g (leaf_rows * (parts * i + b) + t)) (λ t. g (branch_rows * i + (o b + t)))
    (λ t h. ap g (at b t h)))
    ∙ (max_parts parts (λ b. rows_in leaf_rows P (parts * i + b)) o (λ t. g (branch_rows * i + t)) (omega arith) next ∙ ap (λ (k : ℕ). max_to k (λ t. g (branch_rows * i + t))) last)
  where
    at : (b t : ℕ) → t < rows_in leaf_rows P (parts * i + b) → leaf_rows * (parts * i + b) + t ≡ branch_rows * i + (min (leaf_rows * b) (P - branch_rows * i) + t)
    at b t h = omega arith

    next : (b : ℕ) → min (leaf_rows * suc b) (P - branch_rows * i) ≡ min (leaf_rows * b) (P - branch_rows * i) + rows_in leaf_rows P (parts * i + b)
    next b = omega arith

    last : min (leaf_rows * parts) (P - branch_rows * i) ≡ rows_in branch_rows P i
    last = omega arith

-- The branches have all rows.
pub branches_rows : (P : ℕ) (g : ℕ → ℕ) → P ≤ buffer_rows → max_to parts (λ b. max_to (rows_in branch_rows P b) (λ t. g (branch_rows * b + t))) ≡ max_to P (λ t. g (0 + t))
branches_rows P g few =
    let o : ℕ → ℕ = λ b. min (branch_rows * b) P in
    max_cong parts (λ b. max_to (rows_in branch_rows P b) (λ t. g (branch_rows * b + t))) (λ b. max_to (rows_in branch_rows P b) (λ t. g (0 + (o b + t))))
    (λ b l. max_cong (rows_in branch_rows P b) (λ t. g (branch_rows * b + t)) (λ t. g (0 + (o b + t))) (λ t h. ap g (at b t h)))
    ∙ (max_parts parts (rows_in branch_rows P) o (λ t. g (0 + t)) (omega arith) next ∙ ap (λ (k : ℕ). max_to k (λ t. g (0 + t))) last)
  where
    at : (b t : ℕ) → t < rows_in branch_rows P b → branch_rows * b + t ≡ 0 + (min (branch_rows * b) P + t)
    at b t h = omega arith

    next : (b : ℕ) → min (branch_rows * suc b) P ≡ min (branch_rows * b) P + rows_in branch_rows P b
    next b = omega arith

    last : min (branch_rows * parts) P ≡ P
    last = omega arith

-- ---- what parts hold together of rows

module _ (rows former mates : List ℕ) (all z : ℕ) where
  -- The union of parts that hold rows, where the rows together are n from the row F on.
  pub union-moves : (kept : List ℕ) (k F n : ℕ) (w s : ℕ → ℕ) → ((b : ℕ) → b < parts → Part rows former mates all z (s b) (w b) (k + b) kept)
      → ((g : ℕ → ℕ) → max_to parts (λ b. max_to (w b) (λ t. g (s b + t))) ≡ max_to n (λ t. g (F + t))) → (j x : ℕ) → j < arc_cells → x < most_nodes
      → bit (union_at kept k j) x ≡ moves_to (drop F rows) (drop F former) n mates all z j x
  unfolding moves_to
  union-moves kept k F n w s held glue j x p q =
      let g : ℕ → ℕ = λ r. moves mates all z (get_or rows r 0) (get_or former r 0) j x in
      bit-union-to kept k parts j x q
      ∙ (max_cong parts (λ b. bit (get_or kept ((k + b) * arc_cells + j) 0) x) (λ b. max_to (w b) (λ t. g (s b + t)))
      (λ b l. (held b l).sets j x p q
      ∙ max_cong (w b) (λ t. moves mates all z (get_or (drop (s b) rows) t 0) (get_or (drop (s b) former) t 0) j x) (λ t. g (s b + t)) (λ t h. from (s b) t))
      ∙ (glue g ∙ max_cong n (λ t. g (F + t)) (λ t. moves mates all z (get_or (drop F rows) t 0) (get_or (drop F former) t 0) j x) (λ t h. sym (from F t))))
    where
      from : (a t : ℕ) → moves mates all z (get_or (drop a rows) t 0) (get_or (drop a former) t 0) j x ≡ moves mates all z (get_or rows (a + t) 0) (get_or former (a + t) 0) j x
      from a t = ap₂ (λ (r f : ℕ). moves mates all z r f j x) (get_or-drop a rows t 0) (get_or-drop a former t 0)

  -- So a branch that gets the union of its leaves is right.
  pub branch_merged : (P i : ℕ) (kept next : List ℕ) → ((b : ℕ) → b < parts → Leaf rows former P mates all z (parts * i + b) kept)
      → ((j : ℕ) → j < arc_cells → get_or next ((most_leaves + i) * arc_cells + j) 0 ≡ union_at kept (parts * i) j) → Branch rows former P mates all z i next
  branch_merged P i kept next held e =
      record {
        sets = λ j x p q.
            ap (λ (y : ℕ). bit y x) (e j p)
            ∙ union-moves kept (parts * i) (branch_rows * i) (rows_in branch_rows P i) (λ b. rows_in leaf_rows P (parts * i + b)) (λ b. leaf_rows * (parts * i + b)) held (leaves-rows P i) j x p q;
      }

  -- And all branches together have what all rows allow.
  pub all-moves : (P : ℕ) (kept : List ℕ) → P ≤ buffer_rows → ((i : ℕ) → i < parts → Branch rows former P mates all z i kept) → (j x : ℕ) → j < arc_cells → x < most_nodes
      → bit (union_at kept most_leaves j) x ≡ moves_to rows former P mates all z j x
  all-moves P kept few held j x p q =
      union-moves kept most_leaves 0 P (rows_in branch_rows P) (λ b. branch_rows * b) held (λ g. branches_rows P g few) j x p q
