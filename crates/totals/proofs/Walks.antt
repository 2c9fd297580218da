-- The walks over cells: one cell more, and the end.
-- Assumes nothing.
use Prim.Native.Nat.{ℕ, ◌+◌, ◌-◌, ◌≤◌, ◌<◌}
use mathlib.Core.Path.{◌≡◌, ap}
use mathlib.Core.List.{List}
use native.Mathlib.Omega.{arith}
use lib.ListN.{length, take, drop, get_or}
use Rattle.sums.specs.ModelSums.{is}
use Rattle.sums.proofs.Sum.{is_eq, is_ne}
use Rattle.cells.proofs.Cells.{rest_cons, rest_all, rest-none}
use Rattle.totals.specs.ModelTotals.{count_in}

module _ (cells : List ℕ) (end : ℕ) (whole : end ≤ length cells) where
  pub count-start : (id : ℕ) → count_in id (take end cells) ≡ 0 + count_in id (take (end - 0) (drop 0 cells))
  count-start id = omega (arith, ap (count_in id) (rest_all cells end))

  count_cons : (id i : ℕ) → i < end → count_in id (take (end - i) (drop i cells)) ≡ is (get_or cells i 0) id + count_in id (take (end - (i + 1)) (drop (i + 1) cells))
  unfolding count_in
  count_cons id i h = ap (count_in id) (rest_cons cells end i 0 h whole)

  pub count_here : (id n i : ℕ) → i < end → get_or cells i 0 ≡ id
      → n + count_in id (take (end - i) (drop i cells)) ≡ n + 1 + count_in id (take (end - (i + 1)) (drop (i + 1) cells))
  count_here id n i h e = omega (arith, count_cons id i h, is_eq e)

  pub count_other : (id n i : ℕ) → i < end → (get_or cells i 0 ≡ id → ⊥)
      → n + count_in id (take (end - i) (drop i cells)) ≡ n + count_in id (take (end - (i + 1)) (drop (i + 1) cells))
  count_other id n i h e = omega (arith, count_cons id i h, is_ne e)

  pub count_end : (id n i : ℕ) → end ≤ i → n + count_in id (take (end - i) (drop i cells)) ≡ n
  unfolding count_in
  count_end id n i h = omega (arith, ap (count_in id) (rest-none cells end i h))
