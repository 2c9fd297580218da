-- What a change makes of the nodes of a cluster, its reverse and its faults: document 02, requests 2026-04 and 2026-05. "Box" in the papers is a node here.
-- Assumes nothing.
use Rattle.std.specs.Prelude.{ℕ, Bool, cond, List, [], ◌∷◌, leb, eqb, length}
use Rattle.cluster.specs.Terms.{most_nodes, ids_of, mem, node_out_of_range}
use Rattle.cluster.specs.declared.Node.{Node}
use Rattle.splices.specs.TermsReplaced.{node_with, replaced}
use Rattle.change_fields.specs.RecordChange.{id_of}
use Rattle.change_fields.specs.declared.Change.{Change}
use Rattle.change_fields.specs.declared.Change.TheVariants.{Add, Remove, Resize}

-- ---- what a change does to the nodes

-- A node with another capacity; 2026-05: "22 keeps the ceiling".
abbrev pub with_capacity : ℕ → Node → Node
with_capacity k n = record { id = n.id; zone = n.zone; capacity = k; ceiling = n.ceiling }

-- The nodes that stand where the change's id has its place: the added one, none, or the one that is there with its new capacity.
unfoldable pub new_nodes : List Node → Change → List Node
new_nodes l (Add n) = n ∷ []
new_nodes l (Remove i) = []
new_nodes l (Resize i k) = with_capacity k (node_with i l) ∷ []

-- Nodes with a change made.
abbrev pub changed_nodes : List Node → Change → List Node
changed_nodes l x = replaced (id_of x) (new_nodes l x) l

-- "the change that reverses it", by the nodes before it is made.
unfoldable pub reverse_of : List Node → Change → Change
reverse_of l (Add n) = Remove n.id
reverse_of l (Remove i) = Add (node_with i l)
reverse_of l (Resize i k) = Resize i (node_with i l).capacity

-- ---- what is refused

-- "an id to be added that is present (13), then an id to be removed or resized that is absent (14), then a 33rd box (6)"
unfoldable pub fault_among : List Node → Change → ℕ
fault_among l (Add n) = cond (mem n.id (ids_of l)) 13 (cond (leb most_nodes (length l)) 6 0)
fault_among l (Remove i) = cond (mem i (ids_of l)) 0 14
fault_among l (Resize i k) = cond (mem i (ids_of l)) 0 14

-- Whether an id is 0, or the ceiling of a node to be added above 256: 2026-05, "a ceiling above 256 gets 4 in reading, changing and planning".
unfoldable pub change_out_of_range : Change → Bool
change_out_of_range (Add n) = node_out_of_range n
change_out_of_range (Remove i) = eqb i 0
change_out_of_range (Resize i k) = eqb i 0

-- The last of "the faults of a field (1, 2, 3, 1, 4)" is a number out of its range; then those above. 0 where there is none.
unfoldable pub change_fault : List Node → Change → ℕ
change_fault l x = cond (change_out_of_range x) 4 (fault_among l x)
