-- The set of the nodes of a row.
-- Assumes nothing.
use Prim.Native.Nat.{ℕ, zero, suc, ◌≤◌}
use mathlib.Core.Path.{◌≡◌, refl, sym, ap, ◌∙◌}
use mathlib.Core.Bool.{Bool, false, ◌||◌}
use mathlib.Core.List.{List, [], ◌∷◌}
use mathlib.Core.Logic.{⊎_elim}
use native.Mathlib.Omega.{arith}
use lib.ListN.{length, get_or-eq_default}
use borrow.Author.Tests.{ne_eqb}
use Rattle.sums.specs.TermsSums.{one_if}
use Rattle.sums.proofs.Sum.{lt_or_ge}
use Rattle.sums.proofs.Tests.{one-if_le}
use Rattle.sets.specs.ModelBits.{bit}
use Rattle.sets.proofs.Laws.{bit-mask_of, bit-mask-high}
use Rattle.cluster.specs.Terms.{Topology, no_node, node_at, mem, row_at, ids_in}
use Rattle.cluster.specs.declared.Node.{Node}
use Rattle.cell_rows.proofs.CellRows.{ids_more}
use Rattle.incidence.specs.ModelIncidence.{bits_of}
use Rattle.copies.specs.ModelCopies.{row_nodes}

-- No row names the id 0.
zero_unnamed : (l : List ℕ) → mem 0 (ids_in l) ≡ false
unfolding mem ids_in
zero_unnamed [] = refl
zero_unnamed (zero ∷ xs) = refl
zero_unnamed (suc x ∷ xs) =
    ap (λ (r : List ℕ). mem 0 r) (ids_more x xs) ∙ (ap (λ (t : Bool). t || mem 0 (ids_in xs)) (ne_eqb 0 (suc x) (λ e. omega arith)) ∙ zero_unnamed xs)

module _ (t : Topology) (cells : List ℕ) (p : ℕ) where
  -- Whether row p names node b, also of a slot that is not in use.
  abbrev pub named : ℕ → Bool
  named b = mem (node_at t b).id (ids_in (row_at cells p))

  -- It names no slot that is not in use.
  pub unused_unnamed : (b : ℕ) → length t.nodes ≤ b → named b ≡ false
  unused_unnamed b h = ap (λ (n : Node). mem n.id (ids_in (row_at cells p))) (get_or-eq_default t.nodes no_node h) ∙ zero_unnamed (row_at cells p)

  -- The digits of the set of the nodes of a row.
  pub bit-nodes : (b : ℕ) → bit (row_nodes t cells p) b ≡ one_if (named b)
  unfolding row_nodes one_if
  bit-nodes b =
      ⊎_elim
      (λ h. bit-mask_of (bits_of t.nodes (ids_in (row_at cells p))) (length t.nodes) b h (one-if_le (named b)))
      (λ h. bit-mask-high (bits_of t.nodes (ids_in (row_at cells p))) (length t.nodes) b h ∙ ap one_if (sym (unused_unnamed b h)))
      (lt_or_ge b (length t.nodes))
