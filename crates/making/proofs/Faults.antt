-- The fault of a change by whether its id is there: what the code tests is what the definition says.
-- Assumes nothing.
use Prim.Native.Nat.{ℕ, ◌≤◌}
use mathlib.Core.Path.{◌≡◌, refl, sym, ap, ap₂, ◌∙◌}
use mathlib.Core.Bool.{Bool, true, false, cond}
use mathlib.Core.List.{List}
use lib.Dec.{ltb, leb}
use lib.ListN.{length}
use Rattle.cluster.specs.Terms.{topology, most_nodes, ids_of, mem}
use Rattle.cluster.specs.declared.Node.{Node}
use Rattle.cluster.specs.declared.Cluster.{Cluster}
use Rattle.cluster.proofs.Accepting.{nodes-count}
use Rattle.splices.specs.TermsReplaced.{nodes_with}
use Rattle.splices.proofs.Places.{with_mem}
use Rattle.change_fields.specs.RecordChange.{id_of}
use Rattle.change_fields.specs.declared.Change.{Change}
use Rattle.change_fields.specs.declared.Change.TheVariants.{Add, Remove, Resize}
use Rattle.making.specs.TermsMaking.{fault_among, change_out_of_range, change_fault}

-- The fault of a change whose numbers are in range, by whether the id is there and by the number of nodes.
abbrev pub verdict : Change → Bool → ℕ → ℕ
verdict (Add n) is k = cond is 13 (cond (leb most_nodes k) 6 0)
verdict (Remove i) is k = cond is 0 14
verdict (Resize i c) is k = cond is 0 14

among : (l : List Node) (x : Change) → fault_among l x ≡ verdict x (mem (id_of x) (ids_of l)) (length l)
unfolding fault_among id_of
among l (Add n) = refl
among l (Remove i) = refl
among l (Resize i k) = refl

pub fault-range : (l : List Node) (x : Change) → change_out_of_range x ≡ true → 4 ≡ change_fault l x
unfolding change_fault
fault-range l x e = sym (ap (λ (t : Bool). cond t 4 (fault_among l x)) e)

pub fault-is : (l : List Node) (x : Change) (id w : ℕ) → change_out_of_range x ≡ false → id ≡ id_of x → w ≡ length (nodes_with id l)
    → change_fault l x ≡ verdict x (ltb 0 w) (length l)
unfolding change_fault
fault-is l x id w z e f =
    ap (λ (t : Bool). cond t 4 (fault_among l x)) z
    ∙ (among l x
    ∙ ap (λ (t : Bool). verdict x t (length l))
    (with_mem (id_of x) l ∙ ap (λ (k : ℕ). ltb 0 k) (sym (f ∙ ap (λ (i : ℕ). length (nodes_with i l)) e))))

-- The same for the nodes of a cluster, of a change that is known by its kind.
pub fault-said : (c : Cluster) (x : Change) (id w : ℕ) → length c.nodes ≡ most_nodes → c.count ≤ most_nodes
    → change_out_of_range x ≡ false → id ≡ id_of x → w ≡ length (nodes_with id (topology c).nodes)
    → (y : Change) (is : Bool) → x ≡ y → ltb 0 w ≡ is → verdict y is c.count ≡ change_fault (topology c).nodes x
fault-said c x id w long few z e f y is same t =
    sym (fault-is (topology c).nodes x id w z e f
    ∙ (ap (verdict x (ltb 0 w)) (nodes-count c long few) ∙ ap₂ (λ (y : Change) (b : Bool). verdict y b c.count) same t))
