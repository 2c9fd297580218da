-- Demand 3, in the terms of document 01 and requests 2026-01 and 2026-03 alone: what is claimed of the answers of planning at all allowances together.
-- Assumes nothing.
use Rattle.std.specs.Prelude.{ℕ, suc, ◌+◌, ◌*◌, ◌≤◌, ◌<◌, min, ◌≡◌, Bool, true, false, [], ◌⊎◌, length}
use Rattle.cluster.specs.TermsReading.{most_improvements}
use Rattle.cluster.specs.Terms.{Topology, partitions, Layout, row, ValidAt, IsSize, IsFormer, sent, distance}
use Rattle.cluster.specs.TermsFirst.{Before}

-- "The answer is layout, size, distance, verdict and improvements"; since 2026-01 "Planning's answer .., now `sent`, shall hold the number of pairs in
-- the new layout and not in the former one".
pub record Answer : Type 0 where
  pub layout : Layout
  pub size : ℕ
  pub sent : ℕ
  pub finished : Bool
  pub improvements : ℕ

-- "finished: every layout valid at the size has at least this distance", which is to say that none sends less ("runs are compared by the new
-- count"); "improvements are the smallest allowance that finishes, and a larger allowance gives the very same answer".
pub record Finished (t : Topology) (F : Layout) (plan : ℕ → Answer) (a : ℕ) : Type 0 where
  pub nearest : (L : Layout) → ValidAt t L (plan a).size → (plan a).sent ≤ sent t L F
  -- "A finished run shall answer the first of them: compare rows from partition 0, ids from the left, smaller id first."
  pub first : (L : Layout) → ValidAt t L (plan a).size → sent t L F ≡ (plan a).sent → ((plan a).layout ≡ L) ⊎ Before (plan a).layout L
  pub finishes : (plan (plan a).improvements).finished ≡ true
  pub smallest : (b : ℕ) → (plan b).finished ≡ true → (plan a).improvements ≤ b
  pub larger : (b : ℕ) → a ≤ b → plan b ≡ plan a

-- "stopped: improvements equal the allowance"; and an allowance one larger answers less: "one improvement lowers it by at least one and at most
-- the number of boxes".
pub record Stopped (t : Topology) (plan : ℕ → Answer) (a : ℕ) : Type 0 where
  pub spent : (plan a).improvements ≡ a
  pub lower : (plan (suc a)).sent + 1 ≤ (plan a).sent
  pub bounded : (plan a).sent ≤ (plan (suc a)).sent + length t.nodes

-- What holds of the answers for one former layout, `beginning` being a layout of the cluster alone.
pub record Rules (t : Topology) (beginning F : Layout) (plan : ℕ → Answer) : Type 0 where
  -- "the size is the cluster's, the layout is valid at it", and what is to be sent is that layout's
  pub size : (a : ℕ) → IsSize t (plan a).size
  pub valid : (a : ℕ) → ValidAt t (plan a).layout (plan a).size
  pub measured : (a : ℕ) → (plan a).sent ≡ sent t (plan a).layout F
  -- allowance 0 answers what the beginning sends
  pub begins : (plan 0).sent ≡ sent t beginning F
  pub stopped : (a : ℕ) → (plan a).finished ≡ false → Stopped t plan a
  pub finished : (a : ℕ) → (plan a).finished ≡ true → Finished t F plan a
  -- "called finished exactly when no layout valid at that size lies nearer"
  pub exactly : (a : ℕ) → ((L : Layout) → ValidAt t L (plan a).size → (plan a).sent ≤ sent t L F) → (plan a).finished ≡ true
  -- "the count is the smaller of the allowance and the least one that finishes"
  pub counted : (a : ℕ) → (plan a).improvements ≡ min a (plan most_improvements).improvements
  -- "An allowance of 2,048 finishes"
  pub enough : (plan most_improvements).finished ≡ true
  -- "With no former copies, allowance 0 finishes at .. R times P."
  pub nothing_former : ((p : ℕ) → p < partitions t → row F p ≡ []) → ((plan 0).finished ≡ true) × ((plan 0).sent ≡ t.replication * partitions t)

-- The same in demand 3's own words, which speak of the distance.
pub record InDistance (t : Topology) (beginning F : Layout) (plan : ℕ → Answer) : Type 0 where
  -- "With allowance 0 it lies as far from the former one as a beginning"
  pub begins : distance t (plan 0).layout F ≡ distance t beginning F
  -- "from there each improvement counted has brought it at least two nearer, and nearer by at most two for each box"
  pub lower : (a : ℕ) → (plan a).finished ≡ false → distance t (plan (suc a)).layout F + 2 ≤ distance t (plan a).layout F
  pub bounded : (a : ℕ) → (plan a).finished ≡ false → distance t (plan a).layout F ≤ distance t (plan (suc a)).layout F + 2 * length t.nodes
  -- "It is called finished exactly when no layout valid at that size lies nearer"
  pub nearest : (a : ℕ) → (plan a).finished ≡ true → (L : Layout) → ValidAt t L (plan a).size → distance t (plan a).layout F ≤ distance t L F
  pub exactly : (a : ℕ) → ((L : Layout) → ValidAt t L (plan a).size → distance t (plan a).layout F ≤ distance t L F) → (plan a).finished ≡ true

-- Demand 3 of a planner: one beginning, valid at the cluster's size and the same for every former layout, and the rules for each of these, by what is
-- sent and by the distance.
pub record Demand3 (t : Topology) (plan : Layout → ℕ → Answer) : Type 0 where
  pub beginning : Layout
  pub beginning_valid : (s : ℕ) → IsSize t s → ValidAt t beginning s
  pub rules : (F : Layout) → IsFormer t F → Rules t beginning F (plan F)
  pub distances : (F : Layout) → IsFormer t F → InDistance t beginning F (plan F)
