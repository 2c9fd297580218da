-- Even exchanges, which change no weight where it counts, and how a pair comes in along them.
-- Assumes nothing.
use Rattle.std.specs.Prelude.{ℕ, suc, ◌+◌, ◌*◌, ◌≤◌, ◌<◌, ◌≡◌}
use Rattle.sums.specs.ModelSums.{is}
use Rattle.exchange.specs.ModelRow.{Exchange, copies}
use Rattle.exchange.specs.ModelCircuit.{Allowed}

-- The weights g twice, and 1 more for the pair (p, b).
unfoldable pub tried : (ℕ → ℕ → ℕ) → ℕ → ℕ → ℕ → ℕ → ℕ
tried g p b q x = 2 * g q x + is p q * is b x

-- An exchange along which the potential d rises by just the weight lost: the field calls such an arc tight.
pub record Even (N R Z : ℕ) (zone : ℕ → ℕ) (g free S : ℕ → ℕ → ℕ) (d : ℕ → ℕ) (q a b : ℕ) : Type 0 where
  pub exchange : Exchange N R Z zone free S q a b
  pub level : d b + g q b ≡ d a + g q a

-- A set X (its nodes have 1) that even exchanges and steps over the store do not leave, that has b and no node that could give way to b at p.
pub record Shut (P N R Z : ℕ) (zone cap : ℕ → ℕ) (g free S : ℕ → ℕ → ℕ) (d : ℕ → ℕ) (p b : ℕ) (X : ℕ → ℕ) : Type 0 where
  pub bits : (x : ℕ) → X x ≤ 1
  pub begins : X b ≡ 1
  pub along : (q a c : ℕ) → q < P → Even N R Z zone g free S d q a c → X a ≤ X c
  pub room : (u v : ℕ) → u < N → v < N → copies P S u < cap u → d v ≡ d u → X u ≤ X v
  pub none : (a : ℕ) → Even N R Z zone g free S d p a b → X a ≡ 0

-- A shortest way from b to a node that gives way to it at p: nodes y m = b, .., y 0, arc i from y (i + 1) to y i at the partition q i, or over the
-- store; w tells in how many steps a node is reached.
pub record Way (P N R Z : ℕ) (zone cap : ℕ → ℕ) (g free S : ℕ → ℕ → ℕ) (d : ℕ → ℕ) (p b m : ℕ) (y q w : ℕ → ℕ) : Type 0 where
  pub begins : y m ≡ b
  pub closed : y (suc m) ≡ y 0
  pub last : q m ≡ p
  pub gives : Even N R Z zone g free S d p (y 0) b
  pub arcs : (i : ℕ) → i < m → Allowed P N R Z zone cap free S (q i) (y (suc i)) (y i)
  pub rows : (i : ℕ) → i < m → q i < P → d (y i) + g (q i) (y i) ≡ d (y (suc i)) + g (q i) (y (suc i))
  pub store : (i : ℕ) → i < m → P ≤ q i → d (y i) ≡ d (y (suc i))
  pub steps : (i : ℕ) → i ≤ m → w (y i) + i ≡ m
  pub near : (q u v : ℕ) → q < P → Even N R Z zone g free S d q u v → w v ≤ suc (w u)
  pub givers : (c : ℕ) → Even N R Z zone g free S d p c b → m ≤ w c
