-- A row, as a set of nodes, is lost with a set of nodes where its ids are lost with the ids of these, so that as many rows are lost.
-- Assumes nothing.
use Prim.Native.Nat.{ℕ, ◌+◌, ◌-◌, ◌*◌, ◌≤◌, ◌<◌}
use mathlib.Core.Path.{◌≡◌, refl, sym, ap, ◌∙◌}
use mathlib.Core.Bool.{true, not}
use mathlib.Core.List.{List, [], ◌∷◌}
use mathlib.Core.Logic.{⊎_elim}
use native.Mathlib.Omega.{arith}
use lib.Dec.{eqb}
use lib.ListN.{length, get_or}
use borrow.Author.Tests.{eqb-true, eq-eqb, ne_eqb}
use Rattle.sums.specs.TermsSums.{sum_to, one_if}
use Rattle.sums.proofs.Sum.{lt_or_ge, sum_first, sum_cong, sum_const, sum-part}
use Rattle.sums.proofs.Tests.{true_or_false, one-if_le}
use Rattle.sets.specs.ModelBits.{mask_bits, bit, mask_of, difference_of}
use Rattle.sets.proofs.Laws.{bit_le, bit_zero, bit-none, bit-mask_of, bit-mask-high, difference_lt, bit-difference}
use Rattle.cluster.specs.Terms.{most_nodes, buffer_rows, no_node, ids_of, mem, rising, Layout, row, only_in, row_at, ids_in, rows_in}
use Rattle.cluster.specs.declared.Node.{Node}
use Rattle.cluster.proofs.Lists.{same_test}
use Rattle.cell_rows.proofs.CellLayouts.{length-rows_in, row-rows_in}
use Rattle.incidence.specs.ModelIncidence.{bits_of, ids_where}
use Rattle.incidence.proofs.TieRows.{known_id, where_bit}
use Rattle.layouts.proofs.RowFaults.{only_none, none_only}
use Rattle.loss.specs.TermsLoss.{loss_of}
use Rattle.loss.specs.ModelSearch.{row_lost, lost_rows}

-- The loss as a sum over the rows.
loss-sum : (L : Layout) (X : List ℕ) → loss_of L X ≡ sum_to (length L) (λ p. one_if (eqb (only_in (row L p) X) 0))
unfolding loss_of sum_to
loss-sum [] X = refl
loss-sum (r ∷ rs) X =
    ap (λ (k : ℕ). one_if (eqb (only_in r X) 0) + k) (loss-sum rs X) ∙ sym (sum_first (length rs) (λ p. one_if (eqb (only_in (row (r ∷ rs) p) X) 0)))

-- A set has the nodes whose ids stand in X, which may have other ids too.
abbrev pub HasThose : List Node → ℕ → List ℕ → Type 0
HasThose ns set X = (b : ℕ) → b < length ns → bit set b ≡ one_if (mem (get_or ns b no_node).id X)

-- So it is of given ids and the set made of them,
pub given-ids : (ns : List Node) (X : List ℕ) → HasThose ns (mask_of (bits_of ns X) (length ns)) X
given-ids ns X b h = bit-mask_of (bits_of ns X) (length ns) b h (one-if_le (mem (get_or ns b no_node).id X))

module _ (ns : List Node) (few : length ns ≤ most_nodes) (ids : rising (ids_of ns) ≡ true) where
  -- and of a set and its own ids.
  pub own-ids : (set : ℕ) → HasThose ns set (ids_where ns (bit set))
  unfolding one_if
  own-ids set b h =
      let there = where_bit 0 ns (bit set) b ids h in
      ⊎_elim
      (λ l. let z : bit set b ≡ 0 = omega arith in z ∙ sym (ap one_if (there ∙ ap not (eq-eqb (bit set b) 0 z))))
      (λ g. let o : bit set b ≡ 1 = omega (arith, bit_le set b) in
      o ∙ sym (ap one_if (there ∙ ap not (ne_eqb (bit set b) 0 (λ z. omega arith)))))
      (lt_or_ge (bit set b) 1)

  module _ (r : List ℕ) (set : ℕ) (X : List ℕ) (those : HasThose ns set X) (known : (i : ℕ) → mem i r ≡ true → mem i (ids_of ns) ≡ true) where
    abbrev mask : ℕ
    mask = mask_of (bits_of ns r) (length ns)

    abbrev left : ℕ
    left = difference_of mask set

    -- Where no node of the row is left, each of its ids is lost;
    inside : left ≡ 0 → (i : ℕ) → mem i r ≡ true → mem i X ≡ true
    unfolding one_if
    inside z i m =
        let w = known_id ns i (known i m) in
        let there : mem (get_or ns w.0 no_node).id r ≡ true = ap (λ (x : ℕ). mem x r) w.2 ∙ m in
        let one : bit mask w.0 ≡ 1 = given-ids ns r w.0 w.1 ∙ ap one_if there in
        let none : bit left w.0 ≡ 0 = ap (λ (x : ℕ). bit x w.0) z ∙ bit_zero w.0 in
        ⊎_elim (λ t. sym (ap (λ (x : ℕ). mem x X) w.2) ∙ t)
        (λ t. absurd (omega (arith, one, none, bit-difference mask set w.0 (omega (arith, w.1)), those w.0 w.1 ∙ ap one_if t)))
        (true_or_false (mem (get_or ns w.0 no_node).id X))

    -- and where each is, no node is left.
    outside : only_in r X ≡ 0 → (b : ℕ) → b < mask_bits → bit left b ≡ 0
    unfolding one_if
    outside z b h =
        ⊎_elim
        (λ l. ⊎_elim
        (λ t. omega (arith, bit-difference mask set b h, bit_le mask b, those b l ∙ ap one_if (none_only r X z (get_or ns b no_node).id t)))
        (λ t. omega (arith, bit-difference mask set b h, given-ids ns r b l ∙ ap one_if t))
        (true_or_false (mem (get_or ns b no_node).id r)))
        (λ g. omega (arith, bit-difference mask set b h, bit-mask-high (bits_of ns r) (length ns) b g))
        (lt_or_ge b (length ns))

    row_same : eqb left 0 ≡ eqb (only_in r X) 0
    row_same =
        same_test (eqb left 0) (eqb (only_in r X) 0) (λ e. eq-eqb (only_in r X) 0 (only_none r X (inside (eqb-true left 0 e))))
        (λ e. eq-eqb left 0 (bit-none mask_bits left (difference_lt mask set) (outside (eqb-true (only_in r X) 0 e))))

  -- As many rows are lost, and those past the layout's own, which are empty.
  pub rows_same : (cells rows : List ℕ) (n : ℕ) → n ≤ buffer_rows → ((p : ℕ) → p < n → get_or rows p 0 ≡ mask_of (bits_of ns (ids_in (row_at cells p))) (length ns))
      → ((p : ℕ) → n ≤ p → get_or rows p 0 ≡ 0) → ((p : ℕ) → p < n → (i : ℕ) → mem i (ids_in (row_at cells p)) ≡ true → mem i (ids_of ns) ≡ true)
      → (set : ℕ) (X : List ℕ) → HasThose ns set X → lost_rows rows set ≡ loss_of (rows_in n cells) X + (buffer_rows - n)
  unfolding lost_rows one_if
  rows_same cells rows n h masks past known set X those =
      let own : sum_to n (row_lost rows set) ≡ loss_of (rows_in n cells) X =
      sum_cong n (row_lost rows set) (λ p. one_if (eqb (only_in (row (rows_in n cells) p) X) 0))
      (λ p l. ap (λ (m : ℕ). one_if (eqb (difference_of m set) 0)) (masks p l)
      ∙ (ap one_if (row_same (ids_in (row_at cells p)) set X those (known p l))
      ∙ ap (λ (r : List ℕ). one_if (eqb (only_in r X) 0)) (sym (row-rows_in n cells p l))))
      ∙ sym (loss-sum (rows_in n cells) X
      ∙ ap (λ (k : ℕ). sum_to k (λ p. one_if (eqb (only_in (row (rows_in n cells) p) X) 0))) (length-rows_in n cells)) in
      let others : sum_to (buffer_rows - n) (λ t. row_lost rows set (n + t)) ≡ (buffer_rows - n) * 1 =
      sum_cong (buffer_rows - n) (λ t. row_lost rows set (n + t)) (λ t. 1)
      (λ t l. ap one_if (eq-eqb (difference_of (get_or rows (n + t) 0) set) 0 (ap (λ (m : ℕ). difference_of m set) (past (n + t) (omega arith)) ∙ none_left set)))
      ∙ sum_const (buffer_rows - n) 1 in
      omega (arith, sum-part buffer_rows n (buffer_rows - n) (row_lost rows set) (omega arith), own, others)
    where
      none_left : (t : ℕ) → difference_of 0 t ≡ 0
      none_left t = bit-none mask_bits (difference_of 0 t) (difference_lt 0 t) (λ b l. omega (arith, bit-difference 0 t b l, bit_zero b))
