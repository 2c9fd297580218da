-- The tie between terms and theory on small clusters of document 01's table, by computing.
-- Assumes nothing.
use mathlib.Core.Path.{◌≡◌, refl}
use mathlib.Core.List.{[], ◌∷◌}
use Rattle.sums.specs.TermsSums.{one_if, tab}
use Rattle.sums.specs.ModelSums.{first_from}
use Rattle.cluster.specs.Terms.{mem, usable}
use Rattle.cluster.proofs.Examples.{A, E, K, row124}
use Rattle.incidence.specs.ModelIncidence.{zone_index, cap_at, incidence, ids_where, layout_of}

-- Node 3 of K lies in the zone that node 1 (index 0) names, and node 4 in a zone of its own.
zone_index_K : tab (zone_index K) 4 ≡ 0 ∷ 0 ∷ 0 ∷ 3 ∷ []
unfolding tab zone_index first_from
zone_index_K = refl

-- The caps of E at size 5: 10 / 5, and 4 / 5.
caps-E : tab (cap_at E 5) 2 ≡ 2 ∷ 0 ∷ []
unfolding tab cap_at usable
caps-E = refl

-- 2026-02: A takes all six copies at size 23, and at 24 node 3 takes one, 47 / 24.
caps-A : tab (cap_at A 23) 3 ≡ 2 ∷ 2 ∷ 2 ∷ []
unfolding tab cap_at usable
caps-A = refl

caps_above_A : tab (cap_at A 24) 3 ≡ 2 ∷ 2 ∷ 1 ∷ []
unfolding tab cap_at usable
caps_above_A = refl

-- The bits of row 1 2 4, and the row of these bits.
bits_124 : tab (incidence K (row124 ∷ []) 0) 4 ≡ 1 ∷ 1 ∷ 0 ∷ 1 ∷ []
unfolding tab incidence mem one_if
bits_124 = refl

back_124 : layout_of K (incidence K (row124 ∷ [])) ≡ row124 ∷ []
unfolding tab incidence mem one_if layout_of ids_where
back_124 = refl
