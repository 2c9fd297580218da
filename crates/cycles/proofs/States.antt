-- What a search holds at a level, and how a sweep, the ways that grow and the trace back lead from it to the next level or to the end.
-- Assumes nothing.
use Prim.Native.Nat.{ℕ, zero, suc, ◌+◌, ◌*◌, ◌≤◌, ◌<◌, max}
use mathlib.Core.Path.{◌≡◌, refl, sym, ap, ◌∙◌, subst}
use mathlib.Core.Bool.{Bool, true, false}
use mathlib.Core.List.{List}
use mathlib.Core.Logic.{⊎_elim}
use native.Mathlib.Nat.{mul-one}
use native.Mathlib.Numerals.{add-one}
use native.Mathlib.Omega.{arith}
use lib.Dec.{eqb}
use lib.ListN.{get_or}
use Rattle.cluster.specs.Terms.{most_nodes}
use Rattle.sums.specs.TermsSums.{one_if}
use Rattle.sums.specs.ModelSums.{is}
use Rattle.sums.proofs.Sum.{lt_or_ge}
use Rattle.sets.specs.ModelBits.{bit, member_of, below_of}
use Rattle.sets.proofs.Laws.{bit_zero, bit-true, bit_below, bit-below_not}
use Rattle.exchange.specs.ModelLevels as levels
use Rattle.exchange.specs.ModelLevels.{Graph, Fall, relax, scan, level, fell}
use Rattle.exchange.proofs.Levels.{level-skip, dist-high, dist_le, fell_lt}
use Rattle.exchange.proofs.Search.{Open, open_zero}
use Rattle.levels.specs.ModelGraph.{graph_of}
use Rattle.levels.specs.ModelTurns.{Held, Nodes, Descended}

-- ---- tests that agree

-- A scan goes by the values of its test and of the distances.
scan_cong : (G : Graph) (on on' : ℕ → Bool) (d d' : ℕ → ℕ) (v m : ℕ) → ((u : ℕ) → u < m → on u ≡ on' u) → ((u : ℕ) → u < m → d u ≡ d' u) → d v ≡ d' v
    → scan G on d v m ≡ scan G on' d' v m
unfolding scan relax
scan_cong G on on' d d' v zero p q e = ap (λ (i : ℕ). record { dist = i; from = v }) e
scan_cong G on on' d d' v (suc m) p q e =
    rw (scan_cong G on on' d d' v m (λ u l. p u (omega arith)) (λ u l. q u (omega arith)) e, p m (omega arith), q m (omega arith))

-- ---- a level in cells

-- Level k, in the cells of a search: the distances twice, the set of the nodes that fell, the nodes behind each on its way, and in the rows of all
-- levels up to it the nodes that the fallen came from. Up to it no node closes a cycle.
pub record State (G : Graph) (k mask : ℕ) (dist next way table : List ℕ) : Type 0 where
  pub dists : (v : ℕ) → v < G.N → get_or dist v 0 ≡ levels.dist G k v
  pub nexts : (v : ℕ) → v < G.N → get_or next v 0 ≡ levels.dist G k v
  pub marks : (v : ℕ) → v < G.N → member_of mask v ≡ fell G k v
  pub nodes : Nodes G.N mask
  pub ways : (v x : ℕ) → v < G.N → x < most_nodes → max (is v x) (bit (get_or way v 0) x) ≡ levels.way G k v x
  pub rows : (j v : ℕ) → 1 ≤ j → j ≤ k → v < G.N → fell G j v ≡ true → get_or table (j * most_nodes + v) 0 ≡ levels.from G j v
  pub still_open : Open G k

-- The next level, one down, and the set of the nodes that fell.
pub record Next (G : Graph) (k set : ℕ) (next table : List ℕ) : Type 0 where
  pub nexts : (v : ℕ) → v < G.N → get_or next v 0 ≡ levels.dist G (suc k) v
  pub marks : (v : ℕ) → v < G.N → member_of set v ≡ fell G (suc k) v
  pub rows : (j v : ℕ) → 1 ≤ j → j ≤ suc k → v < G.N → fell G j v ≡ true → get_or table (j * most_nodes + v) 0 ≡ levels.from G j v
  pub nodes : Nodes G.N set

module _ (arcs : List ℕ) (n k mask : ℕ) (dist next way table : List ℕ) (small : n ≤ most_nodes) (below : k < n)
    (st : State (graph_of arcs n) k mask dist next way table) where
  abbrev G : Graph
  G = graph_of arcs n

  -- The distances lie between the first and what k levels can make of it.
  pub state-room : (v : ℕ) → v < n → (n ≤ get_or dist v 0 + k) × (get_or dist v 0 ≤ n) × (get_or next v 0 ≡ get_or dist v 0)
  state-room v l = (omega (arith, st.dists v l, dist-high G k v (omega arith)), omega (arith, st.dists v l, dist_le G k v), st.nexts v l ∙ sym (st.dists v l))

  -- One level down is the next level.
  pub state-next : (set : ℕ) (next' table' : List ℕ) → Descended arcs n k mask dist next' table table' set → Next G k set next' table'
  unfolding fell member_of one_if
  state-next set next' table' s =
      record {
        nexts = λ v l. (held v l).dist;
        marks = λ v l. ap (λ (i : ℕ). eqb i 1) (held v l).mark ∙ test (fell G (suc k) v);
        rows = rows;
        nodes = s.nodes;
      }
    where
      held : (v : ℕ) → v < n → Held (levels.dist G k v) (level G (suc k) v) (get_or next' v 0) (get_or table' ((k + 1) * most_nodes + v) 0) (bit set v)
      held v l =
          subst (λ (f : Fall). Held (levels.dist G k v) f (get_or next' v 0) (get_or table' ((k + 1) * most_nodes + v) 0) (bit set v))
          (scan_cong G (member_of mask) (fell G k) (λ u. get_or dist u 0) (levels.dist G k) v n (λ u h. st.marks u h) (λ u h. st.dists u h) (st.dists v l) ∙ level-skip G k v below)
          (subst (λ (d : ℕ). Held d (scan G (member_of mask) (λ u. get_or dist u 0) v n) (get_or next' v 0) (get_or table' ((k + 1) * most_nodes + v) 0) (bit set v)) (st.dists v l) (s.swept v l))

      test : (b : Bool) → eqb (one_if b) 1 ≡ b
      test true = refl
      test false = refl

      rows : (j v : ℕ) → 1 ≤ j → j ≤ suc k → v < n → fell G j v ≡ true → get_or table' (j * most_nodes + v) 0 ≡ levels.from G j v
      rows j v a b l e =
          ⊎_elim (λ h. s.kept (j * most_nodes + v) (omega arith) ∙ st.rows j v a (omega arith) l e)
          (λ h. let q : suc k ≡ j = omega arith in
          subst (λ (i : ℕ). get_or table' (i * most_nodes + v) 0 ≡ levels.from G i v) q
          (subst (λ (i : ℕ). get_or table' (i * most_nodes + v) 0 ≡ levels.from G (suc k) v) (add-one k) ((held v l).from (fell_lt G k v (subst (λ (i : ℕ). fell G i v ≡ true) (sym q) e)))))
          (lt_or_ge j (suc k))

-- ---- level 0

-- Before the first level the cells hold level 0.
pub state-start : (arcs : List ℕ) (n mask : ℕ) (dist next way table : List ℕ) → n ≤ most_nodes → mask ≡ below_of n → ((v : ℕ) → v < n → get_or dist v 0 ≡ n)
    → ((v : ℕ) → v < n → get_or next v 0 ≡ n) → ((v : ℕ) → v < n → get_or way v 0 ≡ 0) → State (graph_of arcs n) 0 mask dist next way table
unfolding level fell levels.way
state-start arcs n mask dist next way table small em ed en ew =
    record {
      dists = λ v l. ed v l ∙ sym (mul-one n);
      nexts = λ v l. en v l ∙ sym (mul-one n);
      marks = λ v l. ap (λ (i : ℕ). member_of i v) em ∙ bit-true (below_of n) v (bit_below n v (omega arith) l);
      nodes = λ v m g. ap (λ (i : ℕ). bit i v) em ∙ bit-below_not n v g;
      ways = λ v x l m. omega (arith, ap (λ (i : ℕ). bit i x) (ew v l), bit_zero x);
      rows = λ j v a b l e. absurd (omega arith);
      still_open = open_zero (graph_of arcs n);
    }
