-- What `read_cluster` answers, by the length of the lent cells and the outcome.
-- Assumes nothing.
use Prim.Native.Nat.{ℕ, ◌≤◌, ◌<◌}
use mathlib.Core.Path.{◌≡◌}
use mathlib.Core.List.{List, ◌++◌}
use lib.ListN.{length, drop}
use borrow.Author.Tests.{lt-ltb, le-ltb, eq-eqb, ne_eqb}
use Rattle.cluster.specs.Terms.{layout_cells, cells_of}
use Rattle.cluster_reading.specs.RecordClusterReading.{cluster_refused, read_cluster}
use Rattle.cluster_record.specs.RecordClusterAnswer.{cluster_outcome, cluster_answer, read_cluster_of, former_read}

module _ (s former : List ℕ) where
  -- Cells too short for a layout: refused, and kept.
  pub short_answer : length former < layout_cells → read_cluster_of s former ≡ cluster_answer (cluster_refused 8 0)
  unfolding read_cluster_of cluster_outcome
  short_answer h = simp (lt-ltb (length former) layout_cells h)

  pub short_former : length former < layout_cells → former_read s former ≡ former
  unfolding former_read cluster_outcome
  short_former h = simp (lt-ltb (length former) layout_cells h)

  -- Cells long enough: the record decides.
  pub long_answer : layout_cells ≤ length former → read_cluster_of s former ≡ cluster_answer (read_cluster s)
  unfolding read_cluster_of cluster_outcome
  long_answer h = simp (le-ltb (length former) layout_cells h)

  pub accepted_former : layout_cells ≤ length former → (read_cluster s).refusal ≡ 0 → former_read s former ≡ cells_of (read_cluster s).former ++ drop layout_cells former
  unfolding former_read cluster_outcome
  accepted_former h e = simp (le-ltb (length former) layout_cells h, eq-eqb (read_cluster s).refusal 0 e)

  pub refused-former : layout_cells ≤ length former → ((read_cluster s).refusal ≡ 0 → ⊥) → former_read s former ≡ former
  unfolding former_read cluster_outcome
  refused-former h n = simp (le-ltb (length former) layout_cells h, ne_eqb (read_cluster s).refusal 0 n)
