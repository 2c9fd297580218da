-- The laws of columns.
-- Assumes nothing.
use Prim.Native.Nat.{ℕ, ◌+◌, ◌≤◌, ◌<◌}
use mathlib.Core.Path.{◌≡◌, sym, ap, ◌∙◌}
use mathlib.Core.List.{List}
use native.Mathlib.Nat.{zero-add}
use native.Mathlib.Omega.{arith}
use lib.ListN.{length, set}
use lib.Seq.{ext_get_or}
use Rattle.cluster.specs.Terms.{most_nodes}
use Rattle.cells.specs.ModelCells.{put}
use Rattle.cells.proofs.Cells.{length-put, put-none, put_next, put_cong, get_or_put_in}
use Rattle.incidence.specs.ModelIncidence.{cell, blanks, column}

-- A column has a cell for each node that there can be.
pub length-column : (f : ℕ → ℕ) (n : ℕ) → length (column f n) ≡ most_nodes
unfolding column
length-column f n = length-put 0 f n blanks

-- A column of no numbers is blank.
pub column-none : (f : ℕ → ℕ) → blanks ≡ column f 0
unfolding column
column-none f = put-none 0 f blanks

-- A turn of a loop that writes a column.
pub column-next : (f : ℕ → ℕ) (l : List ℕ) (n v : ℕ) → l ≡ column f n → v ≡ f n → set l n v ≡ column f (n + 1)
unfolding column
column-next f l n v e d = put_next f n v blanks l e d

-- The end of a loop that writes a column.
pub column_end : (f : ℕ → ℕ) (l : List ℕ) (b n : ℕ) → l ≡ column f b → b ≡ n → l ≡ column f n
column_end f l b n e d = e ∙ ap (column f) d

-- A column's cells hold its numbers.
pub cell-column : (f : ℕ → ℕ) (n b : ℕ) → n ≤ most_nodes → b < n → cell (column f n) b ≡ f b
unfolding column
cell-column f n b l h =
    ap (λ (i : ℕ). cell (put 0 f n blanks) i) (sym (zero-add b)) ∙ get_or_put_in 0 f n blanks b 0 h (omega arith)

-- Equal numbers give equal columns.
pub column_cong : (f g : ℕ → ℕ) (n : ℕ) → ((b : ℕ) → b < n → f b ≡ g b) → column f n ≡ column g n
unfolding column
column_cong f g n h = put_cong 0 f g n blanks h

-- An array is the column of its own cells.
pub column-cells : (f : ℕ → ℕ) (l : List ℕ) → length l ≡ most_nodes → ((b : ℕ) → b < most_nodes → cell l b ≡ f b) → l ≡ column f most_nodes
column-cells f l e h =
    ext_get_or 0 l (column f most_nodes) (e ∙ sym (length-column f most_nodes))
    (λ b m. let k : b < most_nodes = omega arith in h b k ∙ sym (cell-column f most_nodes b (omega arith) k))
