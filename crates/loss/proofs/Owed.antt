-- What is found is the worst set of the terms, and what is owed.
-- Assumes nothing.
use Prim.Native.Nat.{ℕ, ◌+◌, ◌-◌, ◌≤◌}
use mathlib.Core.Path.{◌≡◌, sym, ap, ap₂, ◌∙◌, subst}
use mathlib.Core.Bool.{true≢false}
use mathlib.Core.List.{List, [], ◌++◌}
use mathlib.Core.Logic.{⊎_elim}
use native.Mathlib.Omega.{arith}
use lib.ListN.{length, get_or, replicate, length-append, length-replicate}
use lib.Seq.{ext_get_or}
use borrow.Author.Tests.{eq-eqb, ne_eqb}
use Rattle.sums.specs.TermsSums.{tab}
use Rattle.sums.proofs.Sum.{eq_or_ne}
use Rattle.sets.specs.ModelBits.{bit, below_of}
use Rattle.cells.proofs.Cells.{length-tab, get_or_tab}
use Rattle.cluster.specs.Terms.{most_nodes, buffer_rows, topology, partitions, ids_in}
use Rattle.cluster.specs.declared.Cluster.{Cluster}
use Rattle.cluster.proofs.Accepting.{few_nodes, nodes-count}
use Rattle.cell_rows.proofs.CellRows.{get_or_zeros, rising-ids}
use Rattle.incidence.specs.ModelIncidence.{ids_where}
use Rattle.incidence.proofs.TieRows.{length_ids}
use Rattle.layouts.specs.TermsCheck.{Checked, fault, check_of}
use Rattle.layouts.proofs.CheckMeaning.{passed_valid, valid_passed}
use Rattle.loss.specs.TermsLoss.{most_lost, loss_of, IsWorst, worst_set}
use Rattle.loss.proofs.Costliest.{worst-is}
use Rattle.loss.specs.ModelSearch.{costing, lost_rows, searched}
use Rattle.loss.specs.declared.search.Found.{Found}
use Rattle.loss.proofs.Finds.{finds_worst}
use Rattle.loss.specs.TermsLossAnswer.{Loss, loss_fault, layout_in, worst_in, loss, worst_loss, LossOwed, lost_with, given_loss}
use Rattle.loss.proofs.LossOrder.{all_pass, few_enough, in_range_lem}
use Rattle.loss.proofs.RowsLost.{own-ids}
use Rattle.loss.proofs.Passed.{SetRows, cluster_accepted, layout_valid, loss_same}
use Rattle.loss.proofs.Safe.{few_safe}

-- Nodes, then zeros, in as many cells as can be asked for.
padded : (X : List ℕ) → length X ≤ most_lost → tab (λ j. get_or X j 0) most_lost ≡ X ++ replicate (most_lost - length X) 0
padded X h =
    ext_get_or 0 (tab (λ j. get_or X j 0) most_lost) (X ++ replicate (most_lost - length X) 0)
    (omega (arith, length-tab (λ j. get_or X j 0) most_lost, length-append X (replicate (most_lost - length X) 0), length-replicate {A = ℕ} (most_lost - length X) 0))
    (λ j l. get_or_tab (λ k. get_or X k 0) most_lost j 0 (omega (arith, l, length-tab (λ k. get_or X k 0) most_lost)) ∙ sym (get_or_zeros X (most_lost - length X) j))

module _ (c : Cluster) (cells : List ℕ) (number : ℕ) where
  module _ (e : (loss_fault c cells number).refusal ≡ 0) (fits : number ≤ length (topology c).nodes) where
    abbrev passed : (check_of c cells 1).refusal ≡ 0
    passed = (all_pass c cells number e).0

    -- What the search over the rows finds.
    pub found-worst : (rows : List ℕ) → SetRows c cells rows → (r : Found) → r ≡ searched rows number 0 (length (topology c).nodes) 0 (costing rows (below_of number))
        → (r.lost ≡ loss_of (layout_in c cells) (worst_in c cells number) + (buffer_rows - partitions (topology c)))
        × (ids_where (topology c).nodes (bit r.set) ≡ worst_in c cells number)
    unfolding worst_in worst_set costing
    found-worst rows are r q =
        let past = buffer_rows - partitions (topology c) in
        let same : (m : ℕ) → lost_rows rows m ≡ loss_of (layout_in c cells) (ids_where (topology c).nodes (bit m)) + past =
        λ m. loss_same c cells passed rows are m (ids_where (topology c).nodes (bit m)) (own-ids (topology c).nodes (cluster_accepted c cells passed).few (cluster_accepted c cells passed).ids m) in
        let w = finds_worst (topology c).nodes rows (layout_in c cells) past (cluster_accepted c cells passed).few same number in
        let s : r.set ≡ w.0 = ap (λ (f : Found). f.set) (q ∙ w.1) in (
          ap (λ (f : Found). f.lost) (q ∙ w.1) ∙ (same w.0 ∙ ap (λ (Y : List ℕ). loss_of (layout_in c cells) Y + past) w.2),
          ap (λ (m : ℕ). ids_where (topology c).nodes (bit m)) s ∙ w.2,
        )

    -- It is the worst.
    pub is-worst : IsWorst (topology c) (layout_in c cells) number (loss_of (layout_in c cells) (worst_in c cells number)) (worst_in c cells number)
    unfolding worst_in
    is-worst = worst-is (topology c) (layout_in c cells) number (cluster_accepted c cells passed).ids (omega (arith, length_ids (topology c).nodes))

  -- The answer, and a refusal.
  pub answered : (loss_fault c cells number).refusal ≡ 0 → worst_loss c cells number ≡ loss 0 0 (loss_of (layout_in c cells) (worst_in c cells number)) (worst_in c cells number)
  unfolding worst_loss
  answered e = simp (eq-eqb (loss_fault c cells number).refusal 0 e)

  pub refused : ((loss_fault c cells number).refusal ≡ 0 → ⊥) → worst_loss c cells number ≡ loss (loss_fault c cells number).refusal (loss_fault c cells number).place 0 []
  unfolding worst_loss
  refused h = simp (ne_eqb (loss_fault c cells number).refusal 0 h)

  -- Its refusal is that of the first fault, and so is its place, which is 0 where there is none.
  pub told : fault (worst_loss c cells number).refusal (worst_loss c cells number).place ≡ loss_fault c cells number
  told =
      ⊎_elim
      (λ e. let w = all_pass c cells number e in
      ap (λ (r : Loss). fault r.refusal r.place) (answered e)
      ∙ sym (in_range_lem c cells number w.1 w.2 ∙ valid_passed c cells 1 (passed_valid c cells 1 w.0)))
      (λ d. ap (λ (r : Loss). fault r.refusal r.place) (refused d))
      (eq_or_ne (loss_fault c cells number).refusal 0)

  module _ (long : length c.nodes ≡ most_nodes) where
    -- There are as many nodes as are asked for.
    pub fits : (loss_fault c cells number).refusal ≡ 0 → number ≤ length (topology c).nodes
    fits e =
        let w = all_pass c cells number e in
        omega (arith, w.2, nodes-count c long (few_nodes c (passed_valid c cells 1 w.0).accepted_cluster))

    -- All that is owed.
    pub loss_owed : LossOwed c cells number (worst_loss c cells number)
    loss_owed = record {
      refuses = λ h l. told ∙ in_range_lem c cells number h l;
      over = λ t z. let w = all_pass c cells number (none z) in absurd (true≢false (sym t ∙ few_enough c cells number w.1 w.2));
      worst = λ z.
          let e = none z in
          let X = worst_in c cells number in
          let w = is-worst e (fits e) in
          let few : length X ≤ most_lost = omega (arith, w.chosen.many, (all_pass c cells number e).1) in
          let back : X ≡ ids_in (X ++ replicate (most_lost - length X) 0) = sym (rising-ids 0 (most_lost - length X) X w.chosen.ids) in
          subst (λ (r : Loss). IsWorst (topology c) (layout_in c cells) number r.lost (ids_in r.nodes)) (sym (answered e))
          (subst (IsWorst (topology c) (layout_in c cells) number (loss_of (layout_in c cells) X)) back w);
      safe = λ h. ⊎_elim
          (λ e. let w = (is-worst e (fits e)).chosen in
          ap (λ (r : Loss). r.lost) (answered e)
          ∙ few_safe (topology c) (layout_in c cells) 1 (layout_valid c cells (all_pass c cells number e).0) (worst_in c cells number) w.ids (omega (arith, w.many)))
          (λ d. ap (λ (r : Loss). r.lost) (refused d)) (eq_or_ne (loss_fault c cells number).refusal 0);
    }
      where
        none : (worst_loss c cells number).refusal ≡ 0 → (loss_fault c cells number).refusal ≡ 0
        none z = sym (ap (λ (k : Checked). k.refusal) told) ∙ z

  -- The nodes found, as they are shown.
  pub nodes-shown : (number ≤ length (topology c).nodes) → (loss_fault c cells number).refusal ≡ 0 → (lost : ℕ) (nodes : List ℕ) (set : ℕ)
      → lost ≡ loss_of (layout_in c cells) (worst_in c cells number)
      → nodes ≡ tab (λ j. get_or (ids_where (topology c).nodes (bit set)) j 0) most_lost → ids_where (topology c).nodes (bit set) ≡ worst_in c cells number
      → record { refusal = 0; place = 0; lost = lost; nodes = nodes } ≡ worst_loss c cells number
  nodes-shown fit e lost nodes set l n s =
      let X = worst_in c cells number in
      let few : length X ≤ most_lost = omega (arith, (is-worst e fit).chosen.many, (all_pass c cells number e).1) in
      ap₂ (λ (x : ℕ) (y : List ℕ). answer x y) l (n ∙ (ap (λ (Y : List ℕ). tab (λ j. get_or Y j 0) most_lost) s ∙ padded X few)) ∙ sym (answered e)
    where
      answer : ℕ → List ℕ → Loss
      answer x y = record { refusal = 0; place = 0; lost = x; nodes = y }

-- Of given nodes: the answer, and a refusal.
module _ (c : Cluster) (cells given : List ℕ) where
  pub given-answered : (check_of c cells 1).refusal ≡ 0 → (lost : ℕ) → lost ≡ loss_of (layout_in c cells) given → lost_with 0 0 lost ≡ given_loss c cells given
  unfolding given_loss
  given-answered e lost l = ap (lost_with 0 0) l ∙ sym (simp (eq-eqb (check_of c cells 1).refusal 0 e))

  pub given-refused : ((check_of c cells 1).refusal ≡ 0 → ⊥) → given_loss c cells given ≡ lost_with (check_of c cells 1).refusal (check_of c cells 1).place 0
  unfolding given_loss
  given-refused h = simp (ne_eqb (check_of c cells 1).refusal 0 h)
