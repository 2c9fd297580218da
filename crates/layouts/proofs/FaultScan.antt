-- The scans for a first fault, and the fault of a node as check computes it.
-- Assumes nothing.
use Prim.Native.Nat.{ℕ, suc, ◌+◌, ◌-◌, ◌≤◌, ◌<◌}
use mathlib.Core.Path.{◌≡◌, sym, ap, ap₂, ◌∙◌}
use mathlib.Core.Bool.{Bool, cond}
use mathlib.Core.List.{List}
use native.Mathlib.Numerals.{add-one}
use native.Mathlib.Omega.{arith}
use lib.ListN.{length, get_or}
use borrow.Author.Tests.{eq-eqb, ne_eqb}
use Rattle.cluster.specs.Terms.{takes, most_nodes, topology, no_node, rows_in}
use Rattle.cluster.specs.declared.Cluster.{Cluster}
use Rattle.cluster.specs.declared.Node.{Node}
use Rattle.cluster.specs.TermsRefusal.{number_of}
use Rattle.cluster.specs.declared.refusal.Refusal.{Refusal}
use Rattle.std.proofs.Common.{◌≢◌}
use Rattle.cluster.proofs.Slots.{node-slot}
use Rattle.cluster.proofs.Accepting.{nodes-count}
use Rattle.copies.specs.TermsCounts.{counts_after}
use Rattle.copies.proofs.Counted.{counted-used}
use Rattle.layouts.specs.TermsCheck.{Checked, fault, first_fault, node_fault}

-- No refusal has number 0.
some : (r : Refusal) → 1 ≤ number_of r
some r = grind arith

pub number-some : (r : Refusal) → number_of r ≢ 0
number-some r e = omega (arith, some r)

module _ (n i : ℕ) (f : ℕ → Checked) where
  -- A scan that is at a fault has found the first.
  pub scan-fault : i < n → ((f i).refusal ≡ 0 → ⊥) → first_fault (n - i) i f ≡ f i
  unfolding first_fault
  scan-fault l h =
      let e : n - i ≡ suc (n - (i + 1)) = omega arith in
      ap (λ (k : ℕ). first_fault k i f) e ∙ ap (λ (b : Bool). cond b (first_fault (n - (i + 1)) (suc i) f) (f i)) (ne_eqb (f i).refusal 0 h)

  -- A scan that is at no fault goes on.
  pub scan-on : i < n → (f i).refusal ≡ 0 → first_fault (n - i) i f ≡ first_fault (n - (i + 1)) (i + 1) f
  unfolding first_fault
  scan-on l h =
      let e : n - i ≡ suc (n - (i + 1)) = omega arith in
      ap (λ (k : ℕ). first_fault k i f) e
      ∙ (ap (λ (b : Bool). cond b (first_fault (n - (i + 1)) (suc i) f) (f i)) (eq-eqb (f i).refusal 0 h)
      ∙ ap (λ (k : ℕ). first_fault (n - (i + 1)) k f) (sym (add-one i)))

  -- A scan at its end has found none.
  pub scan_end : n ≤ i → first_fault (n - i) i f ≡ fault 0 0
  unfolding first_fault
  scan_end l = let e : n - i ≡ 0 = omega arith in ap (λ (k : ℕ). first_fault k i f) e

-- ---- the fault of a node

-- It is read in the slot of node b and in the counts.
pub node-reads : (c : Cluster) (cells : List ℕ) (p size b : ℕ) → length c.nodes ≡ most_nodes → c.count ≤ most_nodes → b < c.count
    → node_fault (topology c) (rows_in p cells) size b ≡ cond (takes (get_or c.nodes b no_node) (get_or (counts_after (topology c) cells p) b 0) size) 0 12
unfolding node_fault
node-reads c cells p size b slots few used =
    ap₂ (λ (n : Node) (k : ℕ). cond (takes n k size) 0 12) (node-slot c b used)
    (sym (counted-used (topology c) cells p b (omega arith) (omega (arith, nodes-count c slots few))))
