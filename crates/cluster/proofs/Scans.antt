-- The scans of the nodes in use, over plain lists.
-- Assumes nothing.
use Prim.Native.Nat.{ℕ, ◌+◌, ◌-◌, ◌≤◌, ◌<◌}
use mathlib.Core.Path.{◌≡◌, ap, ◌∙◌}
use mathlib.Core.Bool.{Bool, true, false, ◌||◌, ◌&&◌}
use mathlib.Core.List.{List}
use lib.ListN.{length, take, drop, get_or}
use borrow.Author.Tests.{lt-ltb, le-ltb}
use Rattle.cells.proofs.Cells.{rest_cons}
use Rattle.cluster.specs.Terms.{ids_of, rising_from, no_node, node_out_of_range, some_out_of_range}
use Rattle.cluster.specs.declared.Node.{Node}

module _ (l : List Node) (n i : ℕ) (in_use : i < n) (long : n ≤ length l) where
  -- A scan that meets a node out of range has found one.
  pub out_here : node_out_of_range (get_or l i no_node) ≡ true → some_out_of_range (take (n - i) (drop i l)) ≡ true
  unfolding some_out_of_range
  out_here e =
      ap some_out_of_range (rest_cons l n i no_node in_use long) ∙ ap (λ (t : Bool). t || some_out_of_range (take (n - (i + 1)) (drop (i + 1) l))) e

  -- A scan that meets another node goes on.
  pub out_not_here : node_out_of_range (get_or l i no_node) ≡ false → some_out_of_range (take (n - i) (drop i l)) ≡ some_out_of_range (take (n - (i + 1)) (drop (i + 1) l))
  unfolding some_out_of_range
  out_not_here e =
      ap some_out_of_range (rest_cons l n i no_node in_use long) ∙ ap (λ (t : Bool). t || some_out_of_range (take (n - (i + 1)) (drop (i + 1) l))) e

  -- A scan that meets an id not above the last has found the fault.
  pub falls_here : (last : ℕ) → (get_or l i no_node).id ≤ last → rising_from last (ids_of (take (n - i) (drop i l))) ≡ false
  unfolding rising_from ids_of
  falls_here last h =
      ap (λ (r : List Node). rising_from last (ids_of r)) (rest_cons l n i no_node in_use long)
      ∙ ap (λ (t : Bool). t && rising_from (get_or l i no_node).id (ids_of (take (n - (i + 1)) (drop (i + 1) l)))) (le-ltb last (get_or l i no_node).id h)

  -- A scan that meets an id above the last goes on from it.
  pub rises_here : (last : ℕ) → last < (get_or l i no_node).id
      → rising_from last (ids_of (take (n - i) (drop i l))) ≡ rising_from (get_or l i no_node).id (ids_of (take (n - (i + 1)) (drop (i + 1) l)))
  unfolding rising_from ids_of
  rises_here last h =
      ap (λ (r : List Node). rising_from last (ids_of r)) (rest_cons l n i no_node in_use long)
      ∙ ap (λ (t : Bool). t && rising_from (get_or l i no_node).id (ids_of (take (n - (i + 1)) (drop (i + 1) l)))) (lt-ltb last (get_or l i no_node).id h)
