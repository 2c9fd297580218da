-- The nodes of a row as a set. Nobody has to believe this file: the contracts of check and figures rest on their terms alone.
-- Assumes nothing.
use Rattle.std.specs.Prelude.{ℕ, List, length}
use Rattle.sets.specs.ModelBits.{mask_of}
use Rattle.cluster.specs.Terms.{Topology, row_at, ids_in}
use Rattle.incidence.specs.ModelIncidence.{bits_of}

-- The set of the nodes that row p of the cells names.
unfoldable pub row_nodes : Topology → List ℕ → ℕ → ℕ
row_nodes t cells p = mask_of (bits_of t.nodes (ids_in (row_at cells p))) (length t.nodes)
