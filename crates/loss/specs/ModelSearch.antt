-- The search over sets of nodes as masks. Nobody has to believe this file: proofs/Finds.antt says that it finds the worst set of the terms.
-- Assumes nothing.
use Rattle.std.specs.Prelude.{ℕ, zero, suc, cond, List, ltb, eqb, get_or}
use Rattle.sums.specs.TermsSums.{sum_to, one_if}
use Rattle.cluster.specs.Terms.{buffer_rows}
use Rattle.sets.specs.ModelBits.{with_of, difference_of}
use Rattle.loss.specs.declared.search.Found.{Found}

-- Whether all nodes of a row are in a set.
abbrev pub row_lost : List ℕ → ℕ → ℕ → ℕ
row_lost rows set p = one_if (eqb (difference_of (get_or rows p 0) set) 0)

-- How many rows of a buffer have all their nodes in a set. Rows past those of the layout are empty, and are lost with every set.
unfoldable pub lost_rows : List ℕ → ℕ → ℕ
lost_rows rows set = sum_to buffer_rows (row_lost rows set)

-- A set with what it costs.
abbrev pub found : ℕ → ℕ → Found
found lost set = record { lost = lost; set = set }

unfoldable pub costing : List ℕ → ℕ → Found
costing rows set = found (lost_rows rows set) set

-- The best set so far, or this one where it costs more.
unfoldable pub kept_of : List ℕ → ℕ → Found → Found
kept_of rows set best = cond (ltb best.lost (lost_rows rows set)) (costing rows set) best

-- `left` more nodes are taken off, of the k nodes from i on: first those sets that have node i, then those without it.
unfoldable pub searched : List ℕ → ℕ → ℕ → ℕ → ℕ → Found → Found
searched rows zero i k set best = kept_of rows set best
searched rows (suc left) i zero set best = best
searched rows (suc left) i (suc k) set best = searched rows (suc left) (suc i) k set (searched rows left (suc i) k (with_of set i) best)
