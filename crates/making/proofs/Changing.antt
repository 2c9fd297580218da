-- One change of the nodes as a value: where it is without fault, the nodes stay as they have to be, and its reverse, made after it, brings them back.
-- Assumes nothing.
use Prim.Native.Nat.{ℕ, ◌+◌, ◌≤◌, ◌<◌}
use mathlib.Core.Path.{◌≡◌, refl, sym, ap, ap₂, ◌∙◌}
use mathlib.Core.Bool.{Bool, true, false, cond}
use mathlib.Core.List.{List, [], ◌∷◌, ◌++◌}
use native.Mathlib.Omega.{arith}
use lib.Dec.{leb}
use lib.ListN.{length, get_or}
use borrow.Author.Tests.{leb-false, lt-leb, ne_eqb}
use Rattle.cluster.specs.Terms.{most_nodes, most_ceiling, no_node, ids_of, mem, rising}
use Rattle.cluster.specs.declared.Node.{Node}
use Rattle.cluster.proofs.Accepting.{positive, node_in_range, in_range-node}
use Rattle.fields.specs.RecordField.{FitsNode}
use Rattle.node_bytes.proofs.Nodes.{fits-none}
use Rattle.splices.specs.TermsReplaced.{nodes_below, nodes_with, nodes_above, node_with, replaced}
use Rattle.splices.proofs.Replaced.{Each, replaced-own, put_back}
use Rattle.splices.proofs.Kept.{node-id, with-node, without-node}
use Rattle.splices.proofs.Kept.{rising-replaced, mem-replaced-none, mem-replaced-one, node-replaced, length-replaced}
use Rattle.change_fields.specs.RecordChange.{id_of, FitsChange}
use Rattle.change_fields.specs.declared.Change.{Change}
use Rattle.change_fields.specs.declared.Change.TheVariants.{Add, Remove, Resize}
use Rattle.making.specs.TermsMaking.{with_capacity, new_nodes, changed_nodes, reverse_of, fault_among, change_out_of_range, change_fault}
use Rattle.making.proofs.AllNodes.{All, all-replaced, all_of, all-at, all-with}

-- ---- a change without fault

-- What a change without fault finds: an id to be added is absent and has a slot, another one is there.
abbrev Apt : List Node → Change → Type 0
Apt l (Add n) = (mem n.id (ids_of l) ≡ false) × (length l < most_nodes)
Apt l (Remove i) = mem i (ids_of l) ≡ true
Apt l (Resize i k) = mem i (ids_of l) ≡ true

there : (b : Bool) → ◌≡◌ {A = ℕ} (cond b 0 14) 0 → b ≡ true
there true e = refl
there false e = absurd (omega arith)

absent : (l : List Node) (b : Bool) → ◌≡◌ {A = ℕ} (cond b 13 (cond (leb most_nodes (length l)) 6 0)) 0 → (b ≡ false) × (length l < most_nodes)
absent l true e = absurd (omega arith)
absent l false e = (refl, go (leb most_nodes (length l)) refl e)
  where
    go : (b : Bool) → leb most_nodes (length l) ≡ b → ◌≡◌ {A = ℕ} (cond b 6 0) 0 → length l < most_nodes
    go true q h = absurd (omega arith)
    go false q h = leb-false most_nodes (length l) q

apt : (l : List Node) (x : Change) → fault_among l x ≡ 0 → Apt l x
unfolding fault_among
apt l (Add n) e = absent l (mem n.id (ids_of l)) e
apt l (Remove i) e = there (mem i (ids_of l)) e
apt l (Resize i k) e = there (mem i (ids_of l)) e

apt_none : (l : List Node) (x : Change) → Apt l x → fault_among l x ≡ 0
unfolding fault_among
apt_none l (Add n) a = simp (a.0, lt-leb most_nodes (length l) a.1)
apt_none l (Remove i) a = simp a
apt_none l (Resize i k) a = simp a

-- Where its numbers are in range, a node to be added has no ceiling above 256,
add_in_range : (n : Node) → change_out_of_range (Add n) ≡ false → (1 ≤ n.id) × (n.ceiling ≤ most_ceiling)
unfolding change_out_of_range
add_in_range n e = in_range-node n e

-- and its id is not 0.
in_range-id : (x : Change) → change_out_of_range x ≡ false → 1 ≤ id_of x
unfolding change_out_of_range id_of
in_range-id (Add n) e = (add_in_range n e).0
in_range-id (Remove i) e = positive i e
in_range-id (Resize i k) e = positive i e

module _ (l : List Node) (x : Change) where
  fault-none : change_fault l x ≡ 0 → (change_out_of_range x ≡ false) × Apt l x
  unfolding change_fault
  fault-none e = go (change_out_of_range x) refl e
    where
      go : (b : Bool) → change_out_of_range x ≡ b → ◌≡◌ {A = ℕ} (cond b 4 (fault_among l x)) 0 → (change_out_of_range x ≡ false) × Apt l x
      go true q h = absurd (omega arith)
      go false q h = (q, apt l x h)

  no_change-fault : change_out_of_range x ≡ false → Apt l x → change_fault l x ≡ 0
  unfolding change_fault
  no_change-fault p a = simp (p, apt_none l x a)

-- ---- what it leaves

-- The nodes that it puts in have its id.
new-own : (l : List Node) (x : Change) → Apt l x → Each (λ y. y ≡ id_of x) (new_nodes l x)
unfolding new_nodes id_of
new-own l (Add n) a = (refl, tt)
new-own l (Remove i) a = tt
new-own l (Resize i k) a = (node-id i l a, tt)

-- It puts in one node at most, and no more than it takes out where all slots are in use.
new_few : (l : List Node) (x : Change) → length (new_nodes l x) ≤ 1
unfolding new_nodes
new_few l (Add n) = omega arith
new_few l (Remove i) = omega arith
new_few l (Resize i k) = omega arith

new-fit : (l : List Node) (x : Change) → length l ≤ most_nodes → rising (ids_of l) ≡ true → Apt l x
    → length l + length (new_nodes l x) ≤ most_nodes + length (nodes_with (id_of x) l)
unfolding new_nodes id_of
new-fit l (Add n) few up a = omega (arith, a.1)
new-fit l (Remove i) few up a = omega arith
new-fit l (Resize i k) few up a = omega (arith, ap length (with-node i l up a))

module _ (l : List Node) (x : Change) (up : rising (ids_of l) ≡ true) (good : change_fault l x ≡ 0) where
  pub changed-rising : rising (ids_of (changed_nodes l x)) ≡ true
  changed-rising = let f = fault-none l x good in rising-replaced (id_of x) (new_nodes l x) l (in_range-id x f.0) up (new-own l x f.1) (new_few l x)

  pub changed_few : length l ≤ most_nodes → length (changed_nodes l x) ≤ most_nodes
  changed_few few = omega (arith, length-replaced (id_of x) (new_nodes l x) l up, new-fit l x few up (fault-none l x good).1)

  -- There is a slot for what it puts in.
  pub changed-room : length l ≤ most_nodes → length l + length (new_nodes l x) ≤ most_nodes + length (nodes_with (id_of x) l)
  changed-room few = new-fit l x few up (fault-none l x good).1

-- Of the nodes that a resize leaves, all but one are the former ones, and that one has only another capacity.
pub resize_keeps : (l : List Node) (i k : ℕ) → rising (ids_of l) ≡ true → change_fault l (Resize i k) ≡ 0
    → (l ≡ nodes_below i l ++ (node_with i l ∷ nodes_above i l))
    × (changed_nodes l (Resize i k) ≡ nodes_below i l ++ (with_capacity k (node_with i l) ∷ nodes_above i l))
unfolding replaced new_nodes id_of
resize_keeps l i k up good =
    let own = with-node i l up (fault-none l (Resize i k) good).1 in
    (sym (replaced-own i 0 l up) ∙ ap (λ (m : List Node). nodes_below i l ++ (m ++ nodes_above i l)) own, refl)

-- "22 keeps the ceiling"
pub resize_ceiling : (l : List Node) (i k : ℕ) → change_fault l (Resize i k) ≡ 0 → (node_with i (changed_nodes l (Resize i k))).ceiling ≡ (node_with i l).ceiling
unfolding new_nodes id_of
resize_ceiling l i k good =
    ap (λ (n : Node). n.ceiling) (node-replaced i (with_capacity k (node_with i l)) (node-id i l (fault-none l (Resize i k) good).1) l)

-- ---- the ceilings

-- A ceiling that is not above 256, and such ones at every place.
abbrev Low : Node → Type 0
Low n = n.ceiling ≤ most_ceiling

abbrev Ceilings : List Node → Type 0
Ceilings l = (b : ℕ) → Low (get_or l b no_node)

none-low : Low no_node
none-low = omega arith

new-low : (l : List Node) (x : Change) → change_out_of_range x ≡ false → All Low l → All Low (new_nodes l x)
unfolding new_nodes
new-low l (Add n) e h = ((add_in_range n e).1, tt)
new-low l (Remove i) e h = tt
new-low l (Resize i k) e h = (all-with Low none-low i l h, tt)

-- Where no ceiling is above 256, none is after a change without fault.
pub changed_ceilings : (l : List Node) (x : Change) → change_fault l x ≡ 0 → Ceilings l → Ceilings (changed_nodes l x)
changed_ceilings l x good low =
    let h = all_of Low l low in
    all-at Low none-low (changed_nodes l x) (all-replaced Low (id_of x) (new_nodes l x) l (new-low l x (fault-none l x good).0 h) h)

-- ---- its reverse

-- The reverse is about the same id.
reverse-id : (l : List Node) (x : Change) → Apt l x → id_of (reverse_of l x) ≡ id_of x
unfolding reverse_of id_of
reverse-id l (Add n) a = refl
reverse-id l (Remove i) a = node-id i l a
reverse-id l (Resize i k) a = refl

-- It finds what the change left ..
reverse_apt : (l : List Node) (x : Change) → length l ≤ most_nodes → rising (ids_of l) ≡ true → Apt l x → Apt (changed_nodes l x) (reverse_of l x)
unfolding reverse_of new_nodes id_of
reverse_apt l (Add n) few up a = mem-replaced-one n.id n refl l
reverse_apt l (Remove i) few up a = (
  ap (λ (j : ℕ). mem j (ids_of (replaced i [] l))) (node-id i l a) ∙ mem-replaced-none i l,
  omega (arith, length-replaced i [] l up, ap length (with-node i l up a)),
)
reverse_apt l (Resize i k) few up a = mem-replaced-one i (with_capacity k (node_with i l)) (node-id i l a) l

-- .. puts in what stood there ..
reverse-new : (l : List Node) (x : Change) → rising (ids_of l) ≡ true → Apt l x → new_nodes (changed_nodes l x) (reverse_of l x) ≡ nodes_with (id_of x) l
unfolding reverse_of new_nodes id_of
reverse-new l (Add n) up a = sym (without-node n.id l a.0)
reverse-new l (Remove i) up a = sym (with-node i l up a)
reverse-new l (Resize i k) up a =
    let new = with_capacity k (node_with i l) in
    let stood : with_capacity (node_with i l).capacity (node_with i (replaced i (new ∷ []) l)) ∷ [] ≡ nodes_with i l =
    ap (λ (n : Node). with_capacity (node_with i l).capacity n ∷ []) (node-replaced i new (node-id i l a) l) ∙ sym (with-node i l up a) in
    stood

-- .. and its own reverse is the change.
reverse-reverse : (l : List Node) (x : Change) → Apt l x → reverse_of (changed_nodes l x) (reverse_of l x) ≡ x
unfolding reverse_of new_nodes id_of
reverse-reverse l (Add n) a = ap Add (node-replaced n.id n refl l)
reverse-reverse l (Remove i) a = ap Remove (node-id i l a)
reverse-reverse l (Resize i k) a = ap (λ (n : Node). Resize i n.capacity) (node-replaced i (with_capacity k (node_with i l)) (node-id i l a) l)

-- Its numbers are in range, as those of the change and of the nodes are.
reverse_in_range : (l : List Node) (x : Change) → Ceilings l → change_out_of_range x ≡ false → Apt l x → change_out_of_range (reverse_of l x) ≡ false
unfolding reverse_of change_out_of_range
reverse_in_range l (Add n) low e a = ne_eqb n.id 0 (λ z. omega (arith, (add_in_range n e).0))
reverse_in_range l (Remove i) low e a =
    node_in_range (node_with i l) (omega (arith, node-id i l a, positive i e)) (all-with Low none-low i l (all_of Low l low))
reverse_in_range l (Resize i k) low e a = e

-- The reverse y of a change x of the nodes l, made on the nodes m that the change left: it is without fault, it brings them back, and x reverses it.
pub record Reversed (l : List Node) (x : Change) (m : List Node) (y : Change) : Type 0 where
  pub good : change_fault m y ≡ 0
  pub back : changed_nodes m y ≡ l
  pub again : reverse_of m y ≡ x

pub reverse-made : (l : List Node) (x : Change) → length l ≤ most_nodes → rising (ids_of l) ≡ true → Ceilings l → change_fault l x ≡ 0
    → Reversed l x (changed_nodes l x) (reverse_of l x)
reverse-made l x few up low good =
    let f = fault-none l x good in
    let m = changed_nodes l x in
    let y = reverse_of l x in
    let same = reverse-id l x f.1 in
    record {
      good = no_change-fault m y (reverse_in_range l x low f.0 f.1) (reverse_apt l x few up f.1);
      back =
          ap₂ (λ (i : ℕ) (new : List Node). replaced i new m) same (reverse-new l x up f.1)
          ∙ put_back (id_of x) (new_nodes l x) l (new-own l x f.1) up;
      again = reverse-reverse l x f.1;
    }

-- ---- numbers that fit their bytes

fit-with : (i : ℕ) (l : List Node) → ((b : ℕ) → FitsNode (get_or l b no_node)) → FitsNode (node_with i l)
fit-with i l h = all-with FitsNode fits-none i l (all_of FitsNode l h)

fit-new : (l : List Node) (x : Change) → ((b : ℕ) → FitsNode (get_or l b no_node)) → FitsChange x → All FitsNode (new_nodes l x)
unfolding new_nodes
fit-new l (Add n) h f = (f, tt)
fit-new l (Remove i) h f = tt
fit-new l (Resize i k) h f = let n = fit-with i l h in (record { id = n.id; zone = n.zone; capacity = f.1; ceiling = n.ceiling }, tt)

-- Where the numbers of the nodes and of the change fit, so do those of the nodes that it leaves, and those of its reverse.
pub changed-fit : (l : List Node) (x : Change) → ((b : ℕ) → FitsNode (get_or l b no_node)) → FitsChange x → (b : ℕ) → FitsNode (get_or (changed_nodes l x) b no_node)
changed-fit l x fit own =
    all-at FitsNode fits-none (changed_nodes l x) (all-replaced FitsNode (id_of x) (new_nodes l x) l (fit-new l x fit own) (all_of FitsNode l fit))

pub reverse-fit : (l : List Node) (x : Change) → ((b : ℕ) → FitsNode (get_or l b no_node)) → FitsChange x → FitsChange (reverse_of l x)
unfolding reverse_of
reverse-fit l (Add n) h f = f.id
reverse-fit l (Remove i) h f = fit-with i l h
reverse-fit l (Resize i k) h f = (f.0, (fit-with i l h).capacity)
