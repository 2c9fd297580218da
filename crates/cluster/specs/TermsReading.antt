-- What records and figures need beside the terms of planning and check: their limits, the cluster with no nodes, a cluster in its slots, and
-- what holds of a cluster without fault.
-- Assumes nothing.
use Rattle.std.specs.Prelude.{ℕ, ◌-◌, ◌*◌, ◌^◌, ◌≤◌, ◌<◌, ◌≡◌, true, ◌++◌, length, replicate}
use Rattle.cluster.specs.Terms.{Topology, no_node, node_at, ids_of, rising, most_bits, most_copies, most_nodes, most_ceiling}
use Rattle.cluster.specs.declared.Cluster.{Cluster}

-- ---- the limits of figures and of a layout record

-- "a lent buffer of 64 cells": two for each node
abbrev pub figure_cells : ℕ
figure_cells = 2 * most_nodes

-- "6 size (4 bytes, at least 1)"
abbrev pub most_size : ℕ
most_size = 4294967295

-- 2026-01: "field 7 .., now `sent` .. Its ceiling becomes 2,048"
abbrev pub most_sent : ℕ
most_sent = 2048

-- "8 verdict (1: 1 finished, 0 stopped)"
abbrev pub most_verdict : ℕ
most_verdict = 1

-- "9 improvements (2, at most 2,048)"
abbrev pub most_improvements : ℕ
most_improvements = 2048

-- ---- clusters that are read

-- "the cluster with no boxes has k 0, R 1 and Z 1"; "Box slots not in use are zero"
abbrev pub no_nodes : Cluster
no_nodes = record { bits = 0; replication = 1; redundancy = 1; count = 0; nodes = replicate most_nodes no_node }

-- "Box slots not in use are zero in every cluster a call yields"
unfoldable pub slots_of : Topology → Cluster
slots_of t = record {
  bits = t.bits;
  replication = t.replication;
  redundancy = t.redundancy;
  count = length t.nodes;
  nodes = t.nodes ++ replicate (most_nodes - length t.nodes) no_node;
}

-- A cluster without fault, of which planning and check speak. Past its nodes `node_at` has a slot that is not in use, whose ceiling is 0.
pub record Accepted (t : Topology) : Type 0 where
  pub bits : t.bits ≤ most_bits
  pub replication : (1 ≤ t.replication) × (t.replication ≤ most_copies)
  pub redundancy : (1 ≤ t.redundancy) × (t.redundancy ≤ t.replication)
  pub few : length t.nodes ≤ most_nodes
  pub ids : rising (ids_of t.nodes) ≡ true
  pub ceilings : (b : ℕ) → (node_at t b).ceiling ≤ most_ceiling

-- "a capacity in megabytes (32 bits ..)": capacities as every cluster in hand has them.
abbrev pub Fits32 : Topology → Type 0
Fits32 t = (b : ℕ) → b < length t.nodes → (node_at t b).capacity < 2 ^ 32
