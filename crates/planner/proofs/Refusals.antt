-- The refusals of planning, case by case, and what is there where nothing is refused.
-- Assumes nothing.
use Prim.Native.Nat.{ℕ, ◌≤◌, ◌<◌}
use mathlib.Core.Path.{◌≡◌, refl, sym, ap, ◌∙◌, subst}
use mathlib.Core.Bool.{Bool, true, false, ◌&&◌, ◌||◌, cond}
use mathlib.Core.List.{List, ◌++◌}
use native.Mathlib.Omega.{arith}
use lib.Dec.{ltb, eqb}
use lib.ListN.{length}
use borrow.Author.Tests.{le-leb, lt-ltb, le-ltb, eq-eqb, ne_eqb, eqb-true, ltb-false}
use Rattle.cluster.specs.Terms.{buffer_rows, layout_cells, scratch_cells, row_cells, topology, partitions, Layout, IsFormer, cells_of, row_at, ids_in, formed, rows_in, fault_of}
use Rattle.cluster.specs.declared.Cluster.{Cluster}
use Rattle.cluster.proofs.Accepting.{few_partitions, accepted}
use Rattle.cell_rows.specs.ModelRows.{ill_formed, id_count, row_ids, FitsCells, HoldsRows}
use Rattle.cell_rows.proofs.CellLayouts.{few_ids, holds-cells_of, holds-append}
use Rattle.cell_rows.proofs.RowScans.{row_of_buffer}
use Rattle.masks.specs.ModelMasks.{rows_formed}
use Rattle.sums.specs.TermsSums.{every_to}
use Rattle.sums.proofs.Tests.{every_cong}
use Rattle.allowances.proofs.Runs.{not_both}
use Rattle.masks.proofs.Laws.{holds-formed, formed-former}
use Rattle.planner.specs.TermsPlan.{unusable}

-- The test of the former rows that code makes is the one of the definition.
module _ (cells : List ℕ) (whole : layout_cells ≤ length cells) where
  test : (b : Bool) (n : ℕ) → n ≤ row_cells → ltb (cond b n ill_formed) ill_formed ≡ b
  test true n l = lt-ltb n ill_formed (omega arith)
  test false n l = refl

  one-row : (p : ℕ) → p < buffer_rows → ltb (row_ids cells p) ill_formed ≡ formed (row_at cells p)
  unfolding row_ids id_count
  one-row p l =
      ap (λ (b : Bool). ltb (cond b (id_count (row_at cells p)) ill_formed) ill_formed) (row_of_buffer cells p whole l)
      ∙ test (formed (row_at cells p)) (length (ids_in (row_at cells p))) (few_ids cells p)

  rows_same : (n : ℕ) → n ≤ buffer_rows → every_to n (λ p. formed (row_at cells p)) ≡ rows_formed cells n
  unfolding rows_formed
  rows_same n l = sym (ap (λ (b : Bool). b && every_to n (λ p. ltb (row_ids cells p) ill_formed)) (le-leb n buffer_rows l) ∙ every_cong n (λ p. ltb (row_ids cells p) ill_formed) (λ p. formed (row_at cells p)) (λ p h. one-row p (omega arith)))

-- The same of the former rows of a cluster without fault.
pub former_same : (c : Cluster) (former : List ℕ) → layout_cells ≤ length former → fault_of c ≡ 0
    → every_to (partitions (topology c)) (λ p. formed (row_at former p)) ≡ rows_formed former (partitions (topology c))
former_same c former whole e = rows_same former whole (partitions (topology c)) (few_partitions c.bits (accepted c e).bits)

module _ (c : Cluster) (former : List ℕ) (a s : ℕ) where
  pub short_former : length former < layout_cells → 8 ≡ unusable c former a s
  unfolding unusable
  short_former h = simp (lt-ltb (length former) layout_cells h)

  pub short_assignment : layout_cells ≤ length former → a < layout_cells → 8 ≡ unusable c former a s
  unfolding unusable
  short_assignment f h = simp (le-ltb (length former) layout_cells f, lt-ltb a layout_cells h)

  module _ (f : layout_cells ≤ length former) (g : layout_cells ≤ a) where
    pub short_scratch : s < scratch_cells → 8 ≡ unusable c former a s
    unfolding unusable
    short_scratch h = simp (le-ltb (length former) layout_cells f, le-ltb a layout_cells g, lt-ltb s scratch_cells h)

    module _ (h : scratch_cells ≤ s) where
      pub faulty : (fault_of c ≡ 0 → ⊥) → fault_of c ≡ unusable c former a s
      unfolding unusable
      faulty n = simp (le-ltb (length former) layout_cells f, le-ltb a layout_cells g, le-ltb s scratch_cells h, ne_eqb (fault_of c) 0 n)

      pub usable : fault_of c ≡ 0 → rows_formed former (partitions (topology c)) ≡ true → 0 ≡ unusable c former a s
      unfolding unusable
      usable e r = simp (le-ltb (length former) layout_cells f, le-ltb a layout_cells g, le-ltb s scratch_cells h, eq-eqb (fault_of c) 0 e, former_same c former f e, r)

      pub ill_formed_lem : fault_of c ≡ 0 → rows_formed former (partitions (topology c)) ≡ false → 5 ≡ unusable c former a s
      unfolding unusable
      ill_formed_lem e r = simp (le-ltb (length former) layout_cells f, le-ltb a layout_cells g, le-ltb s scratch_cells h, eq-eqb (fault_of c) 0 e, former_same c former f e, r)

-- What is there where nothing is refused.
pub record Usable (c : Cluster) (former : List ℕ) (a s : ℕ) : Type 0 where
  pub former_long : layout_cells ≤ length former
  pub assignment_long : layout_cells ≤ a
  pub scratch_long : scratch_cells ≤ s
  pub faultless : fault_of c ≡ 0
  pub rows-formed : rows_formed former (partitions (topology c)) ≡ true

pub usable-has : (c : Cluster) (former : List ℕ) (a s : ℕ) → unusable c former a s ≡ 0 → Usable c former a s
unfolding unusable
usable-has c former a s e = go (ltb (length former) layout_cells) refl (ltb a layout_cells) refl (ltb s scratch_cells) refl e
  where
    rows : layout_cells ≤ length former → layout_cells ≤ a → scratch_cells ≤ s → fault_of c ≡ 0 → (r : Bool) → every_to (partitions (topology c)) (λ p. formed (row_at former p)) ≡ r
        → ◌≡◌ {A = ℕ} (cond r 0 5) 0 → Usable c former a s
    rows f g h z true q k = record { former_long = f; assignment_long = g; scratch_long = h; faultless = z; rows-formed = sym (former_same c former f z) ∙ q }
    rows f g h z false q k = absurd (omega arith)

    fault : layout_cells ≤ length former → layout_cells ≤ a → scratch_cells ≤ s → (t : Bool) → eqb (fault_of c) 0 ≡ t
        → ◌≡◌ {A = ℕ} (cond t (cond (every_to (partitions (topology c)) (λ p. formed (row_at former p))) 0 5) (fault_of c)) 0 → Usable c former a s
    fault f g h true q k = rows f g h (eqb-true (fault_of c) 0 q) (every_to (partitions (topology c)) (λ p. formed (row_at former p))) refl k
    fault f g h false q k = absurd (not_both (eqb (fault_of c) 0) (eq-eqb (fault_of c) 0 k) q)

    go : (x : Bool) → ltb (length former) layout_cells ≡ x → (y : Bool) → ltb a layout_cells ≡ y → (z : Bool) → ltb s scratch_cells ≡ z
        → ◌≡◌ {A = ℕ} (cond (x || y || z) 8 (cond (eqb (fault_of c) 0) (cond (every_to (partitions (topology c)) (λ p. formed (row_at former p))) 0 5) (fault_of c))) 0
        → Usable c former a s
    go true p y q z r k = absurd (omega arith)
    go false p true q z r k = absurd (omega arith)
    go false p false q true r k = absurd (omega arith)
    go false p false q false r k =
        fault (ltb-false (length former) layout_cells p) (ltb-false a layout_cells q) (ltb-false s scratch_cells r) (eqb (fault_of c) 0) refl k

-- The former layout that a usable call is lent.
pub lent-former : (c : Cluster) (former : List ℕ) (a s : ℕ) → Usable c former a s → IsFormer (topology c) (rows_in (partitions (topology c)) former)
lent-former c former a s u = formed-former (topology c) former u.rows-formed

-- A cluster without fault and the cells of a former layout of it leave nothing to refuse but the lack of a layout, where the buffers are long enough.
pub cells-usable : (c : Cluster) (F : Layout) (rest : List ℕ) (a s : ℕ) → fault_of c ≡ 0 → IsFormer (topology c) F → layout_cells ≤ a → scratch_cells ≤ s
    → unusable c (cells_of F ++ rest) a s ≡ 0
cells-usable c F rest a s e f long ample =
    let P = partitions (topology c) in
    let fits : FitsCells F = record {
      few_rows = omega (arith, f.partition_rows, few_partitions c.bits (accepted c e).bits);
      ids = λ p l. f.ids p (omega (arith, f.partition_rows));
      few = λ p l. f.few p (omega (arith, f.partition_rows));
    } in
    let h = holds-append P (cells_of F) rest (subst (λ (n : ℕ). HoldsRows n (cells_of F)) f.partition_rows (holds-cells_of F fits)) in
    sym (usable c (cells_of F ++ rest) a s h.whole long ample e (holds-formed P (cells_of F ++ rest) h))
