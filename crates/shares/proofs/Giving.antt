-- The copies that each node is given, from the array of the first pass.
-- Assumes nothing.
use Prim.Native.Nat.{ℕ, ◌+◌, ◌-◌, ◌*◌, ◌≤◌, ◌<◌, min}
use mathlib.Core.Path.{◌≡◌, ap, ap₂, ◌∙◌}
use mathlib.Core.List.{List}
use native.Mathlib.Omega.{arith}
use Rattle.tallies.proofs.Adding.{sum_whole}
use Rattle.cluster.specs.Terms.{most_nodes, buffer_rows}
use Rattle.sums.specs.TermsSums.{sum_to}
use Rattle.sums.proofs.Sum.{sum_cong}
use Rattle.dealing.specs.ModelDeal.{pour, zoned, first_pass, more, given}
use Rattle.dealing.proofs.Given.{first_le}
use Rattle.incidence.specs.ModelIncidence.{cell, column}
use Rattle.tallies.specs.ModelTallies.{AtMost}
use Rattle.incidence.proofs.Columns.{column_cong}
use Rattle.shares.proofs.Agree.{SameBelow, pour_agree}
use Rattle.shares.proofs.Agree.{cells_agree}

module _ (P n R : ℕ) (zone cap : ℕ → ℕ) (few : n ≤ most_nodes) (firsts : List ℕ) (e : firsts ≡ column (pour (R * P) (zoned P zone cap)) n) where
  -- The array of the first pass holds the first pass.
  first_holds : SameBelow n (cell firsts) (first_pass P R zone cap)
  unfolding first_pass
  first_holds = cells_agree (pour (R * P) (zoned P zone cap)) n firsts few e

  -- The first pass keeps within the caps.
  pub first-most : (m : ℕ) → ((b : ℕ) → b < n → cap b ≤ m) → AtMost m n firsts
  first-most m h b l = omega (arith, first_holds b l, first_le P n R zone cap b, h b l)

  -- The second pass completes what is given.
  pub second-given : (placed left : ℕ) (copies : List ℕ) → ((b : ℕ) → b < n → cap b ≤ buffer_rows) → placed ≡ sum_to n (λ b. min buffer_rows (cell firsts b))
      → left ≡ R * P - placed → copies ≡ column (λ b. cell firsts b + pour left (λ x. cap x - cell firsts x) b) n
      → copies ≡ column (given P n R zone cap) n
  unfolding given more
  second-given placed left copies h p q d =
      d ∙ column_cong (λ b. cell firsts b + pour left (λ x. cap x - cell firsts x) b) (given P n R zone cap) n
      (λ b l. ap₂ ◌+◌ (first_holds b l)
      (ap (λ (k : ℕ). pour k (λ x. cap x - cell firsts x) b) (q ∙ ap (λ (k : ℕ). R * P - k) (p ∙ all))
      ∙ pour_agree n (R * P - sum_to n (first_pass P R zone cap)) (λ x. cap x - cell firsts x) (λ x. cap x - first_pass P R zone cap x)
      (λ x m. ap (λ (k : ℕ). cap x - k) (first_holds x m)) b l))
    where
      all : sum_to n (λ b. min buffer_rows (cell firsts b)) ≡ sum_to n (first_pass P R zone cap)
      all = sum_whole (cell firsts) n buffer_rows (first-most buffer_rows h) ∙ sum_cong n (cell firsts) (first_pass P R zone cap) first_holds
