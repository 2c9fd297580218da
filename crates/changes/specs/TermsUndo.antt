-- What undoing achieves: request 2026-04, "making the reverses in backward order restores the cluster box for box".
-- Assumes nothing.
use Rattle.std.specs.Prelude.{ℕ, ◌-◌, ◌≡◌, List, [], ◌++◌, length, take}
use Rattle.cluster.specs.Terms.{Topology, topology, node_at, fault_of}
use Rattle.cluster.specs.TermsReading.{slots_of}
use Rattle.cluster.specs.declared.Cluster.{Cluster}
use Rattle.fields.specs.RecordField.{Bytes, part, FitsNode}
use Rattle.changes.specs.TermsChanges.{change_refused, change_of}

-- The call accepts the change of s at byte `at`.
abbrev pub Accepts : Cluster → List ℕ → ℕ → Type 0
Accepts c s at = (change_of c s at).answer.refusal ≡ 0

-- The cluster that the call leaves, the byte that it answers, and the bytes of the reverse that it gives.
abbrev pub cluster_after : Cluster → List ℕ → ℕ → Cluster
cluster_after c s at = (change_of c s at).cluster

abbrev pub byte_after : Cluster → List ℕ → ℕ → ℕ
byte_after c s at = (change_of c s at).answer.byte

abbrev pub reverse_given : Cluster → List ℕ → ℕ → List ℕ
reverse_given c s at = take (change_of c s at).answer.reverse.len (change_of c s at).answer.reverse.bytes

-- The numbers of the nodes in use fit their bytes, as in every cluster that a program holds.
abbrev pub FitsNodes : Topology → Type 0
FitsNodes t = (b : ℕ) → FitsNode (node_at t b)

-- What every accepted change leaves: a cluster without fault, its unused slots zero, and its numbers as they were but for the nodes.
pub record Sound (c : Cluster) (d : Cluster) : Type 0 where
  pub sound : fault_of d ≡ 0
  pub slots : d ≡ slots_of (topology d)
  pub bits : d.bits ≡ c.bits
  pub replication : d.replication ≡ c.replication
  pub redundancy : d.redundancy ≡ c.redundancy

-- The reverse v of a change, made on the cluster d that the change left, brings back the cluster c, box for box; its own reverse is the
-- field w of the change.
pub record Undone (c d : Cluster) (v w : List ℕ) : Type 0 where
  pub accepted : Accepts d v 0
  pub whole : byte_after d v 0 ≡ length v
  pub back : cluster_after d v 0 ≡ slots_of (topology c)
  pub again : reverse_given d v 0 ≡ w

-- What the call owes beside its answer. A program's bytes are bytes, and the numbers of its nodes fit theirs.
pub record Owed (c : Cluster) (s : List ℕ) (at : ℕ) : Type 0 where
  -- "A refused change alters nothing and gives no reverse; .. and the byte answered is the given one."
  pub refused : (Accepts c s at → ⊥) → change_of c s at ≡ change_refused c (change_of c s at).answer.refusal at
  pub accepted : Accepts c s at → Sound c (cluster_after c s at)
  pub undone : Bytes s → FitsNodes (topology c) → Accepts c s at
      → Undone c (cluster_after c s at) (reverse_given c s at) (part s at (byte_after c s at - at))

-- Changes staged one after another, each at some byte of some record: from the cluster c to the cluster d. u holds the reverses that were
-- given, the last one first.
pub data Staged (c : Cluster) : Cluster → List ℕ → Type 0 where
  none : Staged c c []
  more : (d : Cluster) (u s : List ℕ) (at : ℕ) → Staged c d u → Bytes s → Accepts d s at
      → Staged c (cluster_after d s at) (reverse_given d s at ++ u)

-- The changes of a record from byte `at` on to its end, each made at the byte that was answered before: all are accepted, and they lead from
-- the cluster d to the cluster e.
pub data AllMade (s : List ℕ) : ℕ → Cluster → Cluster → Type 0 where
  ended : (d : Cluster) → AllMade s (length s) d d
  next : (at : ℕ) (d e : Cluster) → Accepts d s at → AllMade s (byte_after d s at) (cluster_after d s at) e → AllMade s at d e
