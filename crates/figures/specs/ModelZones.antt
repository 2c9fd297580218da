-- What the walk over the nodes of a zone answers. Nobody has to believe this file: the contract of figures rests on TermsFigures alone.
-- Assumes nothing.
use Rattle.std.specs.Prelude.{ℕ, ◌*◌, cond, List, ltb, length, get_or}
use Rattle.sums.specs.TermsSums.{sum_to}
use Rattle.sums.specs.ModelSums.{is}
use Rattle.cluster.specs.Terms.{Topology, node_at}

-- The counts of the nodes of one zone with node b, added up; 0 where slot b is not in use.
unfoldable pub zone_sum : Topology → List ℕ → ℕ → ℕ
zone_sum t counts b =
    cond (ltb b (length t.nodes)) (sum_to (length t.nodes) (λ x. is (node_at t x).zone (node_at t b).zone * get_or counts x 0)) 0
