-- The order in which the worst loss finds its faults, and what it means that it finds none.
-- Assumes nothing.
use Prim.Native.Nat.{ℕ, ◌≤◌, ◌<◌}
use mathlib.Core.Path.{◌≡◌, sym, ap, ◌∙◌}
use mathlib.Core.Bool.{true, false}
use mathlib.Core.List.{List}
use mathlib.Core.Logic.{⊎_elim}
use native.Mathlib.Omega.{arith}
use lib.Dec.{ltb}
use lib.ListN.{length}
use borrow.Author.Tests.{lt-ltb, le-ltb, ltb-false}
use Rattle.sums.proofs.Sum.{lt_or_ge}
use Rattle.sums.proofs.Tests.{true_or_false, neither}
use Rattle.cluster.specs.Terms.{most_nodes, layout_cells}
use Rattle.cluster.specs.declared.Cluster.{Cluster}
use Rattle.layouts.specs.TermsCheck.{Checked, fault, cluster_fault, check_of}
use Rattle.layouts.proofs.CheckOrder as check
use Rattle.loss.specs.TermsLoss.{most_lost}
use Rattle.loss.specs.TermsLossAnswer.{too_many, loss_fault}

module _ (c : Cluster) (cells : List ℕ) (number : ℕ) where
  pub order_short : length cells < layout_cells → loss_fault c cells number ≡ fault 8 0
  unfolding loss_fault
  order_short h = simp (lt-ltb (length cells) layout_cells h)

  module _ (whole : layout_cells ≤ length cells) where
    pub order-nodes : most_nodes < c.count → loss_fault c cells number ≡ fault 6 0
    unfolding loss_fault
    order-nodes h = simp (le-ltb (length cells) layout_cells whole, lt-ltb most_nodes c.count h)

    module _ (few : c.count ≤ most_nodes) where
      pub order-number : too_many c number ≡ true → loss_fault c cells number ≡ fault 4 0
      unfolding loss_fault
      order-number e = simp (le-ltb (length cells) layout_cells whole, le-ltb most_nodes c.count few, e)

      pub order-check : too_many c number ≡ false → loss_fault c cells number ≡ check_of c cells 1
      unfolding loss_fault
      order-check e = simp (le-ltb (length cells) layout_cells whole, le-ltb most_nodes c.count few, e)

  pub over-most : most_lost < number → too_many c number ≡ true
  unfolding too_many
  over-most h = simp (lt-ltb most_lost number h)

  pub over-count : number ≤ most_lost → c.count < number → too_many c number ≡ true
  unfolding too_many
  over-count h l = simp (le-ltb most_lost number h, lt-ltb c.count number l)

  pub few_enough : number ≤ most_lost → number ≤ c.count → too_many c number ≡ false
  unfolding too_many
  few_enough h l = simp (le-ltb most_lost number h, le-ltb c.count number l)

  enough_few : too_many c number ≡ false → (number ≤ most_lost) × (number ≤ c.count)
  unfolding too_many
  enough_few e =
      let n = neither (ltb most_lost number) (ltb c.count number) e in (ltb-false most_lost number n.0, ltb-false c.count number n.1)

  -- Where nothing is refused, check passes at size 1, and the number is in its range.
  pub all_pass : (loss_fault c cells number).refusal ≡ 0 → ((check_of c cells 1).refusal ≡ 0) × (number ≤ most_lost) × (number ≤ c.count)
  all_pass e =
      ⊎_elim (λ h. absurd (omega (arith, ap (λ (k : Checked). k.refusal) (order_short h)))) (λ w.
      ⊎_elim (λ h. absurd (omega (arith, ap (λ (k : Checked). k.refusal) (order-nodes w h)))) (λ f.
      ⊎_elim (λ t. absurd (omega (arith, ap (λ (k : Checked). k.refusal) (order-number w f t))))
      (λ t. let n = enough_few t in (sym (ap (λ (k : Checked). k.refusal) (order-check w f t)) ∙ e, n.0, n.1))
      (true_or_false (too_many c number)))
      (lt_or_ge most_nodes c.count))
      (lt_or_ge (length cells) layout_cells)

  -- A number in its range is refused just as check at size 1 refuses, with the same place.
  pub in_range_lem : number ≤ most_lost → number ≤ c.count → loss_fault c cells number ≡ check_of c cells 1
  unfolding cluster_fault
  in_range_lem h l =
      ⊎_elim (λ s. order_short s ∙ sym (check.order_short c cells 1 s)) (λ w.
      ⊎_elim (λ n. let six : cluster_fault c 1 ≡ 6 = simp (lt-ltb most_nodes c.count n) in
      order-nodes w n ∙ sym (check.order-cluster c cells 1 w (λ z. omega (arith, six, z)) ∙ ap (λ (k : ℕ). fault k 0) six)) (λ f.
      order-check w f (few_enough h l))
      (lt_or_ge most_nodes c.count))
      (lt_or_ge (length cells) layout_cells)
