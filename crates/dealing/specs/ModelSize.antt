-- The size of a cluster, for any caps by size: cap s b is the cap of node b at size s.
-- Assumes nothing.
use Rattle.std.specs.Prelude.{ℕ, ◌≤◌, ◌<◌, ◌≡◌}
use Rattle.exchange.specs.ModelRow.{Within}
use Rattle.dealing.specs.ModelDeal.{has_room, dealt}
use Rattle.dealing.specs.ModelBisect.{bisect}

-- The largest size below 2 ^ n at which the caps fit, bisected; 0 where there is none.
unfoldable pub best_size : (n P N R Z : ℕ) (zone : ℕ → ℕ) (cap : ℕ → ℕ → ℕ) → ℕ
best_size n P N R Z zone cap = bisect n (λ s. has_room P N R Z zone (cap s))

-- Caps by size: at most P, and falling as the size grows.
pub record Caps (P N : ℕ) (cap : ℕ → ℕ → ℕ) : Type 0 where
  pub most : (s b : ℕ) → 1 ≤ s → b < N → cap s b ≤ P
  pub fall : (s s' b : ℕ) → 1 ≤ s → s ≤ s' → b < N → cap s' b ≤ cap s b

-- r is the largest size below m at which some layout is within the caps: at it, and at every smaller size from 1 up, the dealt layout is; no
-- layout is at a larger size below m, nor at any larger size if the caps are 0 at m; and r is 0 exactly where no layout is within them at size 1.
pub record Best (m P N R Z : ℕ) (zone : ℕ → ℕ) (cap : ℕ → ℕ → ℕ) (r : ℕ) : Type 0 where
  pub below : r < m
  pub deals : (s : ℕ) → 1 ≤ s → s ≤ r → Within P N R Z zone (cap s) (dealt P N R zone (cap s))
  pub largest : (s : ℕ) (S : ℕ → ℕ → ℕ) → 1 ≤ s → s < m → Within P N R Z zone (cap s) S → s ≤ r
  pub of_all : 1 ≤ R → ((b : ℕ) → b < N → cap m b ≡ 0) → (s : ℕ) (S : ℕ → ℕ → ℕ) → 1 ≤ s → Within P N R Z zone (cap s) S → s ≤ r
  pub no_layout : r ≡ 0 → (S : ℕ → ℕ → ℕ) → Within P N R Z zone (cap 1) S → ⊥
  pub no_size : ((S : ℕ → ℕ → ℕ) → Within P N R Z zone (cap 1) S → ⊥) → r ≡ 0
