-- What proves that no layout weighs more: prices of the nodes, or a potential on them.
-- Assumes nothing.
use Rattle.std.specs.Prelude.{ℕ, ◌+◌, ◌≤◌, ◌<◌, ◌≡◌}
use Rattle.exchange.specs.ModelRow.{copies, Exchange}

-- Prices y of the nodes under which the layout S is best: only a full node has a price, and no exchange wins more weight than it costs.
pub record Prices (P N R Z : ℕ) (zone cap : ℕ → ℕ) (g free S : ℕ → ℕ → ℕ) (y : ℕ → ℕ) : Type 0 where
  pub full : (b : ℕ) → b < N → 1 ≤ y b → copies P S b ≡ cap b
  pub fair : (p a b : ℕ) → p < P → Exchange N R Z zone free S p a b → y a + g p b ≤ y b + g p a

-- A potential d on the nodes: along an exchange of a for b it rises at most by the weight lost, and it is largest where there is room.
pub record Potential (P N R Z : ℕ) (zone cap : ℕ → ℕ) (g free S : ℕ → ℕ → ℕ) (d : ℕ → ℕ) : Type 0 where
  pub along : (p a b : ℕ) → p < P → Exchange N R Z zone free S p a b → d b + g p b ≤ d a + g p a
  pub room : (u v : ℕ) → u < N → v < N → copies P S u < cap u → d v ≤ d u
