-- How the answers are read: the size, the sets of mates, and the dealt rows, of a cluster without fault.
-- Assumes nothing.
use Prim.Native.Nat.{ℕ, ◌≤◌, ◌<◌, min}
use mathlib.Core.Path.{◌≡◌, sym, ap, ap₂, ◌∙◌}
use mathlib.Core.Bool.{Bool, ◌&&◌, cond}
use mathlib.Core.List.{List}
use native.Mathlib.Nat.{zero-add}
use native.Mathlib.Omega.{arith}
use lib.ListN.{length}
use borrow.Author.Tests.{eq-eqb, le-leb}
use Rattle.sums.specs.ModelSums.{is}
use Rattle.sets.specs.ModelBits.{bit, mask_of}
use Rattle.sets.proofs.Bits.{bit-mask_of, mask_cong}
use Rattle.cells.specs.ModelCells.{put}
use Rattle.cells.proofs.Cells.{length-put, get_or_put_in}
use Rattle.cluster.specs.TermsRefusal.{number_of}
use Rattle.cluster.specs.declared.refusal.Refusal.{Refusal}
use Rattle.std.proofs.Common.{◌≢◌}
use Rattle.cluster.specs.Terms.{most_bits, most_nodes, Topology, topology, partitions, fault_of}
use Rattle.incidence.specs.ModelIncidence.{zone_index, cell, column, zone_cells}
use Rattle.cluster.specs.declared.Cluster.{Cluster}
use Rattle.sizing.specs.ModelSizing.{cap_cells, caps_in, nodes_of, mate_cells, size_of, size_in, dealt_bits, dealt_rows, dealt_in}
use Rattle.shares.proofs.Agree.{SameBelow, cells_agree}
use Rattle.sizing.proofs.Arrays.{zones-hold}
use Rattle.sizing.proofs.Sizes.{beginning_le}

-- No refusal has number 0.
some : (r : Refusal) → 1 ≤ number_of r
some r = grind arith

pub number-some : (r : Refusal) → number_of r ≢ 0
number-some r e = omega (arith, some r)

-- Without fault the size is answered.
pub size_in_lem : (c : Cluster) → fault_of c ≡ 0 → size_in c ≡ size_of (topology c)
unfolding size_in
size_in_lem c e = ap (λ (b : Bool). cond b (size_of (topology c)) 0) (eq-eqb (fault_of c) 0 e)

-- The caps of a cluster with bits in range are answered.
pub caps_in_lem : (c : Cluster) (s : ℕ) → c.bits ≤ most_bits → caps_in c s ≡ cap_cells (topology c) s
unfolding caps_in
caps_in_lem c s h =
    let e : min c.bits most_bits ≡ c.bits = omega arith in
    ap (λ (k : ℕ). cap_cells (record { bits = k; replication = c.replication; redundancy = c.redundancy; nodes = (topology c).nodes }) s) e

-- The mates of each node, from the array of zones.
pub mates-hold : (t : Topology) → nodes_of t ≤ most_nodes → (zones mates : List ℕ) → zones ≡ zone_cells t → mates ≡ mate_cells zones (nodes_of t)
    → SameBelow (nodes_of t) (cell mates) (λ b. mask_of (λ x. is (zone_index t x) (zone_index t b)) (nodes_of t))
unfolding mate_cells
mates-hold t few zones mates z e b l =
    let n : min (nodes_of t) most_nodes ≡ nodes_of t = omega arith in
    cells_agree (λ b. mask_of (λ x. is (cell zones x) (cell zones b)) (nodes_of t)) (nodes_of t) mates few
    (e ∙ ap (λ (k : ℕ). column (λ b. mask_of (λ x. is (cell zones x) (cell zones b)) k) k) n) b l
    ∙ mask_cong (λ x. is (cell zones x) (cell zones b)) (λ x. is (zone_index t x) (zone_index t b)) (nodes_of t)
    (λ x m. ap₂ is (zones-hold t few zones z x m) (zones-hold t few zones z b l))

-- Without fault, and with cells enough, the rows are dealt.
pub deal_in : (c : Cluster) (s : ℕ) (l : List ℕ) → fault_of c ≡ 0 → partitions (topology c) ≤ length l → dealt_in c s l ≡ dealt_rows (topology c) s l
unfolding dealt_in
deal_in c s l e h =
    ap (λ (b : Bool). cond b (dealt_rows (topology c) s l) l)
    (ap₂ ◌&&◌ (eq-eqb (fault_of c) 0 e) (le-leb (partitions (topology c)) (length l) h))

module _ (t : Topology) (s : ℕ) (l : List ℕ) where
  -- No cell comes or goes.
  pub deal-length : length (dealt_rows t s l) ≡ length l
  unfolding dealt_rows
  deal-length = length-put 0 (λ p. mask_of (dealt_bits t s p) (nodes_of t)) (partitions t) l

  -- A cell before P is the row of its partition.
  pub deal-cell : partitions t ≤ length l → (p : ℕ) → p < partitions t → cell (dealt_rows t s l) p ≡ mask_of (dealt_bits t s p) (nodes_of t)
  unfolding dealt_rows
  deal-cell h p m =
      ap (cell (put 0 (λ p. mask_of (dealt_bits t s p) (nodes_of t)) (partitions t) l)) (sym (zero-add p))
      ∙ get_or_put_in 0 (λ p. mask_of (dealt_bits t s p) (nodes_of t)) (partitions t) l p 0 m (omega arith)

  -- Its bits are the row of the beginning.
  pub deal-bit : partitions t ≤ length l → (p : ℕ) → p < partitions t → SameBelow (nodes_of t) (bit (cell (dealt_rows t s l) p)) (dealt_bits t s p)
  deal-bit h p m b k =
      ap (λ (x : ℕ). bit x b) (deal-cell h p m) ∙ bit-mask_of (dealt_bits t s p) (nodes_of t) b k (beginning_le t s p b)
