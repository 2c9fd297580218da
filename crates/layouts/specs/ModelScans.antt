-- What the walk over the nodes of a row answers. Nobody has to believe this file: the contract of check rests on TermsCheck alone.
-- Assumes nothing.
use Rattle.std.specs.Prelude.{ℕ, List, get_or}
use Rattle.sets.specs.ModelBits.{bit, mask_of}
use Rattle.exchange.specs.ModelRow.{zone_count}
use Rattle.cluster.specs.Terms.{most_nodes}

-- The set of the zones of a set of nodes, of which the zone indices are given.
unfoldable pub zones_in : List ℕ → ℕ → ℕ
zones_in zones nodes = mask_of (zone_count most_nodes (λ b. get_or zones b 0) (bit nodes)) most_nodes
