-- A way back through waves, from a node of the goal to the node where the waves begin: where each of its arcs is an even exchange of pairs that are free,
-- those from the pair (p, b) on, or a step over the store.
-- Assumes nothing.
use Rattle.std.specs.Prelude.{ℕ, suc, ◌+◌, ◌-◌, ◌*◌, ◌≤◌, ◌<◌, ◌≡◌, ◌&&◌, cond, List, get_or, eqb, ltb}
use Rattle.sums.specs.ModelSums.{first_from}
use Rattle.cluster.specs.Terms.{most_nodes}
use Rattle.sets.specs.ModelBits.{bit, member_of}
use Rattle.walks.specs.ModelWalks.{suits_at, room_at}
use Rattle.waves.specs.ModelWaves.{wave_of}

-- The weight, more by 1, at which an exchange of u for v is even; 3 where it is even at none.
unfoldable pub weight_in : List ℕ → ℕ → ℕ → ℕ
weight_in even u v =
    cond (member_of (get_or even u 0) v) 0 (cond (member_of (get_or even (most_nodes + u) 0) v) 1 (cond (member_of (get_or even (2 * most_nodes + u) 0) v) 2 3))

-- The first partition in which u and v are both free: p itself where both come after b.
unfoldable pub free_from : ℕ → ℕ → ℕ → ℕ → ℕ
free_from p b u v = cond (ltb b u && ltb b v) p (suc p)

module _ (rows former : List ℕ) (P : ℕ) (mates caps : List ℕ) (all z : ℕ) (even : List ℕ) (p b : ℕ) where
  -- The first partition in which u gives way to v evenly; P where there is none.
  unfoldable pub row_for : ℕ → ℕ → ℕ
  row_for u v = first_from (suits_at rows former mates all z (weight_in even u v) u v) (P - free_from p b u v) (free_from p b u v)

  -- Where u gives way to v: over the store, P, where they stand side by side and u has room, else in a row; P + 1 where nowhere.
  unfoldable pub arc_for : ℕ → ℕ → ℕ
  arc_for u v =
      cond (eqb (weight_in even u v) 3) (suc P)
      (cond (eqb (weight_in even u v) 1 && room_at rows P caps u) P (cond (ltb (row_for u v) P) (row_for u v) (suc P)))

-- A way back through the waves from b, of which r of k arcs were traced: it ends in the goal, its node i is of wave k - i, and its arc i, from node i + 1 to
-- node i, is where `arc` puts it. Where an arc is nowhere, the trace stops before it; a way that is whole is closed at p.
pub record Traced (leads : List ℕ) (b goal k r : ℕ) (arc : ℕ → ℕ → ℕ) (P p : ℕ) (y q : List ℕ) : Type 0 where
  pub short : r ≤ k
  pub ends : bit goal (get_or y 0 0) ≡ 1
  pub nodes : (i : ℕ) → i ≤ r → (get_or y i 0 < most_nodes) × (bit (wave_of leads b (k - i)) (get_or y i 0) ≡ 1)
  pub arcs : (i : ℕ) → i < r → (get_or q i 0 ≡ arc (get_or y (suc i) 0) (get_or y i 0)) × (get_or q i 0 ≤ P)
  pub stale : r < k → (get_or y (suc r) 0 < most_nodes) × (bit (wave_of leads b (k - suc r)) (get_or y (suc r) 0) ≡ 1)
      × (bit (get_or leads (get_or y (suc r) 0) 0) (get_or y r 0) ≡ 1) × (arc (get_or y (suc r) 0) (get_or y r 0) ≡ suc P)
  pub closed : r ≡ k → (get_or y (suc k) 0 ≡ get_or y 0 0) × (get_or q k 0 ≡ p)
