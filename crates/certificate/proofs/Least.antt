-- The prices that the search ends with are the least: whatever prices a layout has, none is below what the levels say.
-- Assumes nothing.
use Prim.Native.Nat.{ℕ, zero, suc, ◌+◌, ◌-◌, ◌*◌, ◌≤◌, ◌<◌}
use mathlib.Core.Path.{◌≡◌, ap}
use mathlib.Core.Logic.{⊎_elim}
use native.Mathlib.Omega.{arith}
use Rattle.sums.specs.ModelSums.{max_to}
use Rattle.sums.proofs.Sum.{lt_or_ge}
use Rattle.sums.proofs.Count.{max_le}
use Rattle.exchange.specs.ModelPrices.{Prices}
use Rattle.exchange.specs.ModelLevels.{Graph, Fall, level, dist, from}
use Rattle.exchange.specs.ModelJoin.{ExchangeGraph}
use Rattle.exchange.proofs.Levels.{dist_le, level_cases}
use Rattle.exchange.proofs.Circuit.{cost-row, cost-store}

module _ (P N R Z C : ℕ) (zone cap : ℕ → ℕ) (g free S : ℕ → ℕ → ℕ) (G : Graph) (q : ℕ → ℕ → ℕ)
    (x : ExchangeGraph P N R Z C zone cap g free S G q) (light : (p b : ℕ) → g p b ≤ C)
    (y : ℕ → ℕ) (c : Prices P N R Z zone cap g free S y) where
  -- An arc falls no lower than the prices of its ends allow.
  along : (u v : ℕ) → u < N → v < N → G.arc u v ≡ 1 → (d e : ℕ) → e + G.C ≡ d + G.W u v → G.N * G.C ≤ d + y u → G.N * G.C ≤ e + y v
  along u v lu lv a d e h l =
      let w = x.witness u v lu lv a in
      ⊎_elim
      (λ s. omega (arith, w.1, cost-row P C g light (q u v) u v s.0, c.fair (q u v) u v s.0 s.1, x.shift))
      (λ s. ⊎_elim (λ z. omega (arith, w.1, cost-store P C g light (q u v) u v (omega (arith, s.0)), x.shift))
      (λ o. absurd (omega (arith, s.3, c.full u lu o))) (lt_or_ge (y u) 1))
      w.0

  -- What a level lacks of the first one is no more than the price.
  pub level-least : (k v : ℕ) → k ≤ G.N → v < N → G.N * G.C ≤ dist G k v + y v
  unfolding level
  level-least zero v l m = omega arith
  level-least (suc k) v l m =
      ⊎_elim (λ e. omega (arith, ap (λ (f : Fall). f.dist) e, level-least k v (omega arith) m))
      (λ t. let n : from G (suc k) v < N = omega (arith, t.node, x.nodes) in
      along (from G (suc k) v) v n m t.arc (dist G k (from G (suc k) v)) (dist G (suc k) v) t.exact
      (level-least k (from G (suc k) v) (omega arith) n))
      (level_cases G k v l)

  -- The prices of the levels are the least.
  pub prices-least : (k v : ℕ) → k ≤ G.N → v < N → max_to N (dist G k) - dist G k v ≤ y v
  prices-least k v l m =
      omega (arith, level-least k v l m, max_le N (G.N * G.C) (dist G k) (λ b h. dist_le G k b))
