-- Circuits of exchanges. A circuit of length m is y 0, .., y (m - 1), all different, with y m = y 0; its arc i goes from y (i + 1) to y i,
-- the way in which it is found. An arc is an exchange in partition q i < P, or, with q i = P, the step over the store of free room: its
-- source has room for one more copy.
-- Assumes nothing.
use Rattle.std.specs.Prelude.{ℕ, suc, ◌+◌, ◌-◌, ◌*◌, ◌≤◌, ◌<◌, ◌≡◌, ◌⊎◌, cond, ltb}
use Rattle.sums.specs.TermsSums.{sum_to}
use Rattle.sums.specs.ModelSums.{is}
use Rattle.exchange.specs.ModelRow.{Exchange, Within, Agree, copies, weigh}

-- What the arc from a to b at q costs, shifted by C so that it is natural: an exchange loses the weight of a and wins that of b; a step over
-- the store changes no weight.
unfoldable pub cost : ℕ → ℕ → (ℕ → ℕ → ℕ) → ℕ → ℕ → ℕ → ℕ
cost P C g q a b = cond (ltb q P) (C + g q a - g q b) C

-- What the m arcs of a circuit cost together.
abbrev pub costs : ℕ → ℕ → (ℕ → ℕ → ℕ) → ℕ → (ℕ → ℕ) → (ℕ → ℕ) → ℕ
costs P C g m y q = sum_to m (λ i. cost P C g (q i) (y (suc i)) (y i))

-- An arc that the layout S allows: an exchange, or a step over the store from a node with room.
abbrev pub Allowed : (P N R Z : ℕ) (zone cap : ℕ → ℕ) (free S : ℕ → ℕ → ℕ) → ℕ → ℕ → ℕ → Type 0
Allowed P N R Z zone cap free S q a b =
    ((q < P) × Exchange N R Z zone free S q a b) ⊎ ((q ≡ P) × (a < N) × (b < N) × (copies P S a < cap a))

-- A simple circuit of allowed arcs that costs less than C for each of its arcs: the weights g grow along it.
pub record Circuit (P N R Z C : ℕ) (zone cap : ℕ → ℕ) (g free S : ℕ → ℕ → ℕ) (m : ℕ) (y q : ℕ → ℕ) : Type 0 where
  pub closed : y m ≡ y 0
  pub distinct : (i j : ℕ) → i < j → j < m → y i ≡ y j → ⊥
  pub arcs : (i : ℕ) → i < m → Allowed P N R Z zone cap free S (q i) (y (suc i)) (y i)
  pub gains : costs P C g m y q < m * C

-- The layout after all exchanges of a circuit: in each row the sources leave and the targets come in.
unfoldable pub turn : ℕ → (ℕ → ℕ) → (ℕ → ℕ) → (ℕ → ℕ → ℕ) → ℕ → ℕ → ℕ
turn m y q S p x = S p x + sum_to m (λ i. is (q i) p * is (y i) x) - sum_to m (λ i. is (q i) p * is (y (suc i)) x)

-- Two exchanges of one partition that can be crossed: each source may also give way to the other's target.
pub record Crossed (P N R Z : ℕ) (zone : ℕ → ℕ) (free S : ℕ → ℕ → ℕ) (y q : ℕ → ℕ) (i j : ℕ) : Type 0 where
  pub row : q i < P
  pub same : q i ≡ q j
  pub outer : Exchange N R Z zone free S (q i) (y (suc j)) (y i)
  pub inner : Exchange N R Z zone free S (q i) (y (suc i)) (y j)

-- A circuit of length m in which no two exchanges can be crossed.
abbrev pub Uncrossed : (P N R Z : ℕ) (zone : ℕ → ℕ) (free S : ℕ → ℕ → ℕ) (m : ℕ) (y q : ℕ → ℕ) → Type 0
Uncrossed P N R Z zone free S m y q = (i j : ℕ) → i < j → j < m → Crossed P N R Z zone free S y q i j → ⊥

-- T is a better layout than S: within the caps, changed in free pairs only, and heavier, by C for each node at most.
pub record Better (P N R Z C : ℕ) (zone cap : ℕ → ℕ) (g free S T : ℕ → ℕ → ℕ) : Type 0 where
  pub within : Within P N R Z zone cap T
  pub agrees : Agree P N free S T
  pub more : weigh P N g S + 1 ≤ weigh P N g T
  pub most : weigh P N g T ≤ weigh P N g S + N * C
