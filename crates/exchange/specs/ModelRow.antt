-- Rows and layouts over node indices, as the theory counts them. A row is a function from nodes to 0 and 1; a layout has a row for each
-- partition. Caps, weights, zones and the pairs that are free to change are any functions. No capacity, cell or mask is known here.
-- Assumes nothing.
use Rattle.std.specs.Prelude.{ℕ, ◌+◌, ◌-◌, ◌*◌, ◌≤◌, ◌<◌, min, ◌≡◌}
use Rattle.sums.specs.TermsSums.{sum_to}
use Rattle.sums.specs.ModelSums.{is}

-- How many nodes of zone z the row S has.
unfoldable pub zone_count : ℕ → (ℕ → ℕ) → (ℕ → ℕ) → ℕ → ℕ
zone_count N zone S z = sum_to N (λ x. S x * is (zone x) z)

-- How many zones the row S touches. Zones are numbers below N: the least node of a zone may name it.
unfoldable pub cover : ℕ → (ℕ → ℕ) → (ℕ → ℕ) → ℕ
cover N zone S = sum_to N (λ z. min 1 (zone_count N zone S z))

-- A row of R nodes in at least Z zones.
pub record Valid (N R Z : ℕ) (zone S : ℕ → ℕ) : Type 0 where
  pub bits : (x : ℕ) → x < N → S x ≤ 1
  pub size : sum_to N S ≡ R
  pub wide : Z ≤ cover N zone S

-- The row S with node b in the place of node a.
unfoldable pub swap : (ℕ → ℕ) → ℕ → ℕ → ℕ → ℕ
swap S a b x = S x + is b x - is a x

-- How many rows name node b.
unfoldable pub copies : ℕ → (ℕ → ℕ → ℕ) → ℕ → ℕ
copies P S b = sum_to P (λ p. S p b)

-- The weight of a layout: the sum of g p b over its pairs.
unfoldable pub weigh : ℕ → ℕ → (ℕ → ℕ → ℕ) → (ℕ → ℕ → ℕ) → ℕ
weigh P N g S = sum_to P (λ p. sum_to N (λ b. S p b * g p b))

-- A layout of valid rows within the caps.
pub record Within (P N R Z : ℕ) (zone cap : ℕ → ℕ) (S : ℕ → ℕ → ℕ) : Type 0 where
  pub rows : (p : ℕ) → p < P → Valid N R Z zone (S p)
  pub caps : (b : ℕ) → b < N → copies P S b ≤ cap b

-- T agrees with S on the pairs that are not free to change.
abbrev pub Agree : ℕ → ℕ → (ℕ → ℕ → ℕ) → (ℕ → ℕ → ℕ) → (ℕ → ℕ → ℕ) → Type 0
Agree P N free S T = (p : ℕ) → p < P → (b : ℕ) → b < N → free p b ≡ 0 → T p b ≡ S p b

-- One exchange: in row p node a, which is there, gives way to node b, which is not; both pairs are free, and the row stays valid.
pub record Exchange (N R Z : ℕ) (zone : ℕ → ℕ) (free S : ℕ → ℕ → ℕ) (p a b : ℕ) : Type 0 where
  pub a_node : a < N
  pub b_node : b < N
  pub a_in : S p a ≡ 1
  pub b_out : S p b ≡ 0
  pub a_free : free p a ≡ 1
  pub b_free : free p b ≡ 1
  pub valid : Valid N R Z zone (swap (S p) a b)
