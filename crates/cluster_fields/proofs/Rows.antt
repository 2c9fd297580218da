-- Rows that are padded with empty ones, one row more, and the cells of both.
-- Assumes nothing.
use Prim.Native.Nat.{ℕ, zero, suc, ◌+◌, ◌-◌, ◌*◌, ◌/◌, ◌%◌, ◌≤◌, ◌<◌}
use mathlib.Core.Path.{◌≡◌, refl, sym, ap, ap₂, ◌∙◌}
use mathlib.Core.List.{List, [], ◌∷◌, ◌++◌}
use mathlib.Core.Logic.{⊎_elim}
use native.Mathlib.Omega.{arith}
use lib.ListN.{length, get_or, replicate, length-append, length-replicate, get_or-append, get_or-eq_default}
use lib.Seq.{get_or-append-add, get_or_at, ext_get_or}
use Rattle.sums.proofs.Sum.{lt_or_ge}
use Rattle.cells.specs.ModelCells.{put}
use Rattle.cells.proofs.Cells.{length-put, get_or_put_in, get_or_put-out}
use Rattle.cluster.specs.Terms.{most_copies, row_cells, buffer_rows, layout_cells, Layout, row, cells_of}
use Rattle.cell_rows.proofs.CellLayouts.{length-cells_of, get_or_cells_of}
use Rattle.fields.specs.RecordField.{number_at, row_width, ids_at}
use Rattle.cluster_fields.specs.RecordClusterFaults.{Item, item_in, up_to, former_with}
use Rattle.cluster_fields.proofs.Items.{item_five}
use Rattle.id_bytes.proofs.IdBytes.{length_ids, get_or_ids}

-- What holds of every element of a list, of one more and of the default holds of every element of the longer list.
pub every_snoc : {A : Type 0} (P : A → Type 0) (d : A) (l : List A) (x : A) → ((i : ℕ) → P (get_or l i d)) → P x → P d → (i : ℕ) → P (get_or (l ++ (x ∷ [])) i d)
every_snoc P d [] x h a b zero = a
every_snoc P d [] x h a b (suc i) = b
every_snoc P d (y ∷ l) x h a b zero = h 0
every_snoc P d (y ∷ l) x h a b (suc i) = every_snoc P d l x (λ j. h (suc j)) a b i

-- An element of a list of one value, by default the same.
replicate_at : {A : Type 0} (n i : ℕ) (a : A) → get_or (replicate n a) i a ≡ a
replicate_at zero i a = refl
replicate_at (suc n) zero a = refl
replicate_at (suc n) (suc i) a = replicate_at n i a

-- Padding changes no row.
pub row-up_to : (p : ℕ) (F : Layout) (q : ℕ) → row (up_to p F) q ≡ row F q
unfolding up_to
row-up_to p F q =
    ⊎_elim (λ l. get_or-append F (replicate (p - length F) []) [] q l)
    (λ g. let e : q ≡ length F + (q - length F) = omega arith in
    ap (λ (k : ℕ). get_or (F ++ replicate (p - length F) []) k []) e
    ∙ (get_or-append-add F (replicate (p - length F) []) (q - length F) []
    ∙ (replicate_at (p - length F) (q - length F) [] ∙ sym (get_or-eq_default F [] g))))
    (lt_or_ge q (length F))

pub length-up_to : (p : ℕ) (F : Layout) → length F ≤ p → length (up_to p F) ≡ p
unfolding up_to
length-up_to p F h = omega (arith, length-append F (replicate (p - length F) []), length-replicate {A = List ℕ} (p - length F) [])

-- Rows that reach to p are not padded.
pub up_to-full : (p : ℕ) (F : Layout) → p ≤ length F → up_to p F ≡ F
unfolding up_to
up_to-full p F h = let e : p - length F ≡ 0 = omega arith in ap (λ (n : ℕ). F ++ replicate n []) e ∙ append-none F
  where
    append-none : (l : Layout) → l ++ [] ≡ l
    append-none [] = refl
    append-none (x ∷ l) = ap (λ (r : Layout). x ∷ r) (append-none l)

-- The rows of a layout with a row p after padding.
module _ (F : Layout) (p : ℕ) (r : List ℕ) (passed : length F ≤ p) where
  pub length-next : length (up_to p F ++ (r ∷ [])) ≡ p + 1
  length-next = length-append (up_to p F) (r ∷ []) ∙ ap (λ (k : ℕ). k + 1) (length-up_to p F passed)

  pub row_next : row (up_to p F ++ (r ∷ [])) p ≡ r
  row_next = get_or_at (up_to p F) r [] [] p (length-up_to p F passed)

  pub row_before : (q : ℕ) → q < p → row (up_to p F ++ (r ∷ [])) q ≡ row F q
  row_before q h = get_or-append (up_to p F) (r ∷ []) [] q (omega (arith, length-up_to p F passed)) ∙ row-up_to p F q

  pub row-after : (q : ℕ) → p < q → row (up_to p F ++ (r ∷ [])) q ≡ []
  row-after q h = get_or-eq_default (up_to p F ++ (r ∷ [])) [] (omega (arith, length-next))

  -- Its cells: those of the rows before, with the ids of the row in the cells of row p.
  pub cells-next : (f : ℕ → ℕ) (m : ℕ) → p < buffer_rows → length r ≡ m → m ≤ row_cells → ((j : ℕ) → j < m → get_or r j 0 ≡ f j)
      → put (p * row_cells) f m (cells_of F) ≡ cells_of (up_to p F ++ (r ∷ []))
  cells-next f m inside long few same =
      ext_get_or 0 (put (p * row_cells) f m (cells_of F)) (cells_of (up_to p F ++ (r ∷ [])))
      (length-put (p * row_cells) f m (cells_of F) ∙ (length-cells_of F ∙ sym (length-cells_of (up_to p F ++ (r ∷ [])))))
      (λ c l. let h : c < layout_cells = omega (arith, length-put (p * row_cells) f m (cells_of F), length-cells_of F) in
      cell c h ∙ sym (get_or_cells_of (up_to p F ++ (r ∷ [])) c h))
    where
      none : row F p ≡ []
      none = get_or-eq_default F [] passed

      -- A cell that is not written.
      kept : (c : ℕ) → c < layout_cells → ((j : ℕ) → j < m → c ≡ p * row_cells + j → ⊥)
          → get_or (put (p * row_cells) f m (cells_of F)) c 0 ≡ get_or (row F (c / row_cells)) (c % row_cells) 0
      kept c h out = get_or_put-out (p * row_cells) f m (cells_of F) c 0 out ∙ get_or_cells_of F c h

      cell : (c : ℕ) → c < layout_cells
          → get_or (put (p * row_cells) f m (cells_of F)) c 0 ≡ get_or (row (up_to p F ++ (r ∷ [])) (c / row_cells)) (c % row_cells) 0
      cell c h =
          ⊎_elim
          (λ low. let q : c / row_cells < p = omega arith in
          kept c h (λ j k e. omega arith) ∙ ap (λ (x : List ℕ). get_or x (c % row_cells) 0) (sym (row_before (c / row_cells) q)))
          (λ from. ⊎_elim
          (λ written. let j : ℕ = c - p * row_cells in
          let e : c ≡ p * row_cells + (c - p * row_cells) = omega arith in
          let d : p ≡ c / row_cells = omega arith in
          let n : c - p * row_cells ≡ c % row_cells = omega arith in
          ap (λ (k : ℕ). get_or (put (p * row_cells) f m (cells_of F)) k 0) e
          ∙ (get_or_put_in (p * row_cells) f m (cells_of F) (c - p * row_cells) 0 (omega arith) (omega (arith, length-cells_of F))
          ∙ (sym (same (c - p * row_cells) (omega arith))
          ∙ (ap (λ (x : List ℕ). get_or x (c - p * row_cells) 0) (sym row_next)
          ∙ ap₂ (λ (x y : ℕ). get_or (row (up_to p F ++ (r ∷ [])) x) y 0) d n))))
          (λ past. ⊎_elim
          (λ here. let d : p ≡ c / row_cells = omega arith in
          kept c h (λ j k e. omega arith)
          ∙ (ap (λ (x : ℕ). get_or (row F x) (c % row_cells) 0) (sym d)
          ∙ (ap (λ (x : List ℕ). get_or x (c % row_cells) 0) none
          ∙ (sym (get_or-eq_default r 0 {n = c % row_cells} (omega arith))
          ∙ (ap (λ (x : List ℕ). get_or x (c % row_cells) 0) (sym row_next)
          ∙ ap (λ (x : ℕ). get_or (row (up_to p F ++ (r ∷ [])) x) (c % row_cells) 0) d)))))
          (λ after. let q : p < c / row_cells = omega arith in
          kept c h (λ j k e. omega arith)
          ∙ (ap (λ (x : List ℕ). get_or x (c % row_cells) 0) (get_or-eq_default F [] {n = c / row_cells} (omega arith))
          ∙ ap (λ (x : List ℕ). get_or x (c % row_cells) 0) (sym (row-after (c / row_cells) q))))
          (lt_or_ge c (p * row_cells + row_cells)))
          (lt_or_ge c (p * row_cells + m)))
          (lt_or_ge c (p * row_cells))

-- Padding changes no cell.
pub cells-up_to : (p : ℕ) (F : Layout) → cells_of (up_to p F) ≡ cells_of F
cells-up_to p F =
    ext_get_or 0 (cells_of (up_to p F)) (cells_of F) (length-cells_of (up_to p F) ∙ sym (length-cells_of F))
    (λ c l. let h : c < layout_cells = omega (arith, length-cells_of (up_to p F)) in
    get_or_cells_of (up_to p F) c h
    ∙ (ap (λ (x : List ℕ). get_or x (c % row_cells) 0) (row-up_to p F (c / row_cells)) ∙ sym (get_or_cells_of F c h)))

-- The cells of no rows are zero.
pub cells-none : cells_of [] ≡ replicate layout_cells 0
cells-none =
    ext_get_or 0 (cells_of []) (replicate layout_cells 0) (length-cells_of [] ∙ sym (length-replicate {A = ℕ} layout_cells 0))
    (λ c l. get_or_cells_of [] c (omega (arith, length-cells_of [])) ∙ sym (replicate_at layout_cells c 0))

-- A row that is written into its cells is taken in.
pub taken-row : (s : List ℕ) (F : Layout) (start len p : ℕ) (rows rows' : List ℕ) → p ≡ number_at s start 2 → number_at s start 2 < buffer_rows
    → len ≤ row_width most_copies → length F ≤ number_at s start 2 → rows ≡ cells_of F
    → rows' ≡ put (p * row_cells) (λ j. number_at s (start + 2 + 4 * j) 4) ((len - 2) / 4) rows
    → (rows' ≡ cells_of (former_with F (item_in s 5 start len))) × (p + 1 ≡ length (former_with F (item_in s 5 start len)))
unfolding former_with
taken-row s F start len p rows rows' q inside few passed c d =
    let n : ℕ = number_at s start 2 in
    let m : ℕ = (len - 2) / 4 in
    let l : List ℕ = ids_at s (start + 2) m in
    let f : (ℕ → ℕ) = λ j. number_at s (start + 2 + 4 * j) 4 in
    let i = sym (item_five s start len 5 refl) in (
      d
          ∙ (ap₂ (λ (k : ℕ) (r : List ℕ). put (k * row_cells) f m r) q c
          ∙ (cells-next F n l passed f m inside (length_ids s (start + 2) m) (omega arith) (λ j h. get_or_ids s (start + 2) m j h)
          ∙ ap (λ (x : Item). cells_of (former_with F x)) i)),
      ap (λ (k : ℕ). k + 1) q ∙ (sym (length-next F n l passed) ∙ ap (λ (x : Item). length (former_with F x)) i),
    )
