-- What showing a row of a lent layout answers.
-- Assumes nothing.
use Rattle.std.specs.Prelude.{ℕ, ◌*◌, List, [], ltb, leb, length, cond}
use Rattle.cluster.specs.Terms.{row_cells, buffer_rows, layout_cells, row_at}

-- "8: buffer too short; 4: partition above 255"; 0 where the row is shown.
unfoldable pub show_code : List ℕ → ℕ → ℕ
show_code cells p = cond (ltb (length cells) layout_cells) 8 (cond (leb buffer_rows p) 4 0)

-- "it hands back that row's own cells of the lent assignment, eight of them"; "the part handed back is then empty".
unfoldable pub shown : List ℕ → ℕ → List ℕ
shown cells p = cond (ltb (length cells) layout_cells) [] (cond (leb buffer_rows p) [] (row_at cells p))

-- How many bytes after the first cell the part begins: four for each cell before the row; none where it is refused.
unfoldable pub show_byte : List ℕ → ℕ → ℕ
show_byte cells p = cond (ltb (length cells) layout_cells) 0 (cond (leb buffer_rows p) 0 (p * row_cells * 4))
