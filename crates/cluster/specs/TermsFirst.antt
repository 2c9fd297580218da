-- Which layout comes first. 2026-03: "A finished run shall answer the first of them: compare rows from partition 0, ids from the left, smaller id first."
-- Assumes nothing.
use Rattle.std.specs.Prelude.{ℕ, ◌≤◌, ◌<◌, ◌≡◌, List, [], ◌∷◌, ◌⊎◌}
use Rattle.cluster.specs.Terms.{Topology, Layout, ValidAt, sent}

-- "ids from the left, smaller id first": at the first place where two rows differ, the first has the smaller id. A row that ends comes before
-- none, since the rows that are compared are as long as each other.
unfoldable pub RowBefore : List ℕ → List ℕ → Type 0
RowBefore [] r = ⊥
RowBefore (x ∷ xs) [] = ⊥
RowBefore (x ∷ xs) (y ∷ ys) = (x < y) ⊎ ((x ≡ y) × RowBefore xs ys)

-- "compare rows from partition 0": the first row that differs decides.
unfoldable pub Before : Layout → Layout → Type 0
Before [] M = ⊥
Before (r ∷ rs) [] = ⊥
Before (r ∷ rs) (q ∷ qs) = RowBefore r q ⊎ ((r ≡ q) × Before rs qs)

-- "the first of them": of the layouts valid at size s none sends less than L, F the former layout, and L comes before each other one that sends as little.
pub record First (t : Topology) (F : Layout) (s : ℕ) (L : Layout) : Type 0 where
  pub valid : ValidAt t L s
  pub nearest : (M : Layout) → ValidAt t M s → sent t L F ≤ sent t M F
  pub first : (M : Layout) → ValidAt t M s → sent t M F ≡ sent t L F → (L ≡ M) ⊎ Before L M
