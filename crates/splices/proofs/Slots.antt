-- The laws of nodes cut out and put in, by slot: what each slot of the cluster holds, and the cluster whose slots are written one by one.
-- Assumes nothing.
use Prim.Native.Nat.{ℕ, ◌+◌, ◌-◌, ◌≤◌, ◌<◌}
use mathlib.Core.Path.{◌≡◌, sym, ap, ap₂, ◌∙◌}
use mathlib.Core.List.{List, [], ◌∷◌, ◌++◌}
use mathlib.Core.Logic.{⊎_elim}
use native.Mathlib.Omega.{arith}
use lib.ListN.{length, take, drop, get_or, replicate, length-append, length-drop, length-replicate, get_or-replicate, get_or-append, get_or-eq_default}
use lib.Seq.{get_or-take, get_or-drop, get_or-append-add, ext_get_or, length-take-le}
use Rattle.sums.proofs.Sum.{lt_or_ge}
use Rattle.cells.specs.ModelCells.{put}
use Rattle.cells.proofs.Cells.{length-put, get_or_put-first}
use Rattle.cluster.specs.Terms.{most_nodes, topology, no_node}
use Rattle.cluster.specs.TermsReading.{slots_of}
use Rattle.cluster.specs.declared.Cluster.{Cluster}
use Rattle.cluster.specs.declared.Node.{Node}
use Rattle.splices.specs.ModelSplice.{spliced}
use Rattle.splices.specs.TermsReplaced.{with_nodes}

-- ---- one slot

module _ (l : List Node) (at out : ℕ) (new : List Node) (room : at + out ≤ length l) where
  long : length (take at l) ≡ at
  long = length-take-le at l (omega arith)

  pub length-spliced : length (spliced l at out new) + out ≡ length l + length new
  unfolding spliced
  length-spliced =
      omega (
        arith,
        long,
        length-append (take at l) (new ++ drop (at + out) l),
        length-append new (drop (at + out) l),
        length-drop (at + out) l,
      )

  -- Before the place nothing changes.
  pub slot-before : (b : ℕ) → b < at → get_or (spliced l at out new) b no_node ≡ get_or l b no_node
  unfolding spliced
  slot-before b h =
      get_or-append (take at l) (new ++ drop (at + out) l) no_node b (omega (arith, long)) ∙ get_or-take at l b no_node h

  -- From it on, the new nodes.
  pub slot-new : (b : ℕ) → at ≤ b → b < at + length new → get_or (spliced l at out new) b no_node ≡ get_or new (b - at) no_node
  unfolding spliced
  slot-new b g h =
      let e : b ≡ length (take at l) + (b - at) = omega (arith, long) in
      ap (λ (i : ℕ). get_or (take at l ++ (new ++ drop (at + out) l)) i no_node) e
      ∙ (get_or-append-add (take at l) (new ++ drop (at + out) l) (b - at) no_node
      ∙ get_or-append new (drop (at + out) l) no_node (b - at) (omega arith))

  -- After them, the old ones.
  pub slot-after : (b : ℕ) → at + length new ≤ b → get_or (spliced l at out new) b no_node ≡ get_or l (b - length new + out) no_node
  unfolding spliced
  slot-after b g =
      let e : b ≡ length (take at l) + (b - at) = omega (arith, long) in
      let d : b - at ≡ length new + (b - at - length new) = omega arith in
      ap (λ (i : ℕ). get_or (take at l ++ (new ++ drop (at + out) l)) i no_node) e
      ∙ (get_or-append-add (take at l) (new ++ drop (at + out) l) (b - at) no_node
      ∙ (ap (λ (i : ℕ). get_or (new ++ drop (at + out) l) i no_node) d
      ∙ (get_or-append-add new (drop (at + out) l) (b - at - length new) no_node
      ∙ (get_or-drop (at + out) l (b - at - length new) no_node
      ∙ ap (λ (i : ℕ). get_or l i no_node) (omega arith)))))

-- ---- all slots

-- Slots that are written from a list, all of them, are the list and then zeros.
pub slots_of_lem : (l : List Node) → length l ≤ most_nodes
    → put 0 (λ b. get_or l b no_node) most_nodes (replicate most_nodes no_node) ≡ l ++ replicate (most_nodes - length l) no_node
slots_of_lem l few =
    ext_get_or no_node (put 0 f most_nodes blank) (l ++ rest)
    (omega (
      arith,
      length-put 0 f most_nodes blank,
      length-replicate most_nodes no_node,
      length-append l rest,
      length-replicate (most_nodes - length l) no_node,
    ))
    (λ i h. let k : i < most_nodes = omega (arith, length-put 0 f most_nodes blank, length-replicate most_nodes no_node) in
    get_or_put-first f most_nodes blank i no_node k (omega (arith, length-replicate most_nodes no_node)) ∙ sym (same i k))
  where
    f : ℕ → Node
    f b = get_or l b no_node

    blank : List Node
    blank = replicate most_nodes no_node

    rest : List Node
    rest = replicate (most_nodes - length l) no_node

    same : (i : ℕ) → i < most_nodes → get_or (l ++ rest) i no_node ≡ f i
    same i k =
        ⊎_elim (λ h. get_or-append l rest no_node i h)
        (λ g. let e : i ≡ length l + (i - length l) = omega arith in
        ap (λ (j : ℕ). get_or (l ++ rest) j no_node) e
        ∙ (get_or-append-add l rest (i - length l) no_node
        ∙ (get_or-replicate (most_nodes - length l) (i - length l) no_node no_node (omega arith)
        ∙ sym (get_or-eq_default l no_node {n = i} g))))
        (lt_or_ge i (length l))

-- ---- one slot of a cluster

-- As many copies of a node as are new, none or one.
pub length-new : (new : ℕ) (n : Node) → new ≤ 1 → length (take new (n ∷ [])) ≡ new
length-new new n h = length-take-le new (n ∷ []) h

module _ (nodes : List Node) (count at out : ℕ) (n : Node) (new : ℕ) (few : count ≤ length nodes) (room : at + out ≤ count) (one : new ≤ 1) where
  used : length (take count nodes) ≡ count
  used = length-take-le count nodes few

  abbrev all : List Node
  all = spliced (take count nodes) at out (take new (n ∷ []))

  pub all-length : length all + out ≡ count + new
  all-length = omega (arith, used, length-new new n one, length-spliced (take count nodes) at out (take new (n ∷ [])) (omega (arith, used)))

  pub all-before : (b : ℕ) → b < at → get_or nodes b no_node ≡ get_or all b no_node
  all-before b h =
      sym (slot-before (take count nodes) at out (take new (n ∷ [])) (omega (arith, used)) b h ∙ get_or-take count nodes b no_node (omega arith))

  pub all_new : (b : ℕ) → (b < at → ⊥) → b < at + new → n ≡ get_or all b no_node
  all_new b g h =
      let e : b - at ≡ 0 = omega arith in
      let d : new ≡ 1 = omega arith in
      sym
      (slot-new (take count nodes) at out (take new (n ∷ [])) (omega (arith, used)) b (omega arith) (omega (arith, length-new new n one))
      ∙ ap₂ (λ (k i : ℕ). get_or (take k (n ∷ [])) i no_node) d e)

  pub all_after : (b : ℕ) → (b < at + new → ⊥) → b - new + out < count → get_or nodes (b - new + out) no_node ≡ get_or all b no_node
  all_after b g h =
      sym
      (slot-after (take count nodes) at out (take new (n ∷ [])) (omega (arith, used)) b (omega (arith, length-new new n one))
      ∙ (ap (λ (k : ℕ). get_or (take count nodes) (b - k + out) no_node) (length-new new n one)
      ∙ get_or-take count nodes (b - new + out) no_node h))

  pub all_none : (b : ℕ) → (b < at + new → ⊥) → (b - new + out < count → ⊥) → no_node ≡ get_or all b no_node
  all_none b g h = sym (get_or-eq_default all no_node {n = b} (omega (arith, all-length)))

-- The whole cluster, its slots written one by one.
pub made : (c : Cluster) (at out : ℕ) (n : Node) (new : ℕ) (nodes : List Node) (b : ℕ)
    → length c.nodes ≡ most_nodes → c.count ≤ most_nodes → at + out ≤ c.count → new ≤ 1 → c.count + new ≤ most_nodes + out → b ≡ most_nodes
    → nodes ≡ put 0 (λ i. get_or (spliced (topology c).nodes at out (take new (n ∷ []))) i no_node) b (replicate most_nodes no_node)
    → record { bits = c.bits; replication = c.replication; redundancy = c.redundancy; count = c.count + new - out; nodes = nodes }
    ≡ slots_of (with_nodes (topology c) (spliced (topology c).nodes at out (take new (n ∷ []))))
unfolding slots_of
made c at out n new nodes b long few room one fits end e =
    let l : List Node = spliced (topology c).nodes at out (take new (n ∷ [])) in
    let d = all-length c.nodes c.count at out n new (omega arith) room one in
    ap₂ (λ (k : ℕ) (r : List Node). record { bits = c.bits; replication = c.replication; redundancy = c.redundancy; count = k; nodes = r })
    (omega (arith, d))
    (e ∙ (ap (λ (i : ℕ). put 0 (λ j. get_or l j no_node) i (replicate most_nodes no_node)) end ∙ slots_of_lem l (omega (arith, d))))
