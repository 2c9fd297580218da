-- The steps from sets of nodes are the moves of the terms: what is missing, what survives, and the cells.
-- Assumes nothing.
use Prim.Native.Nat.{ℕ, ◌-◌, ◌≤◌, ◌<◌}
use mathlib.Core.Path.{◌≡◌, refl, sym, ap, ap₂, ◌∙◌}
use mathlib.Core.Bool.{Bool, true, false, not, ◌&&◌}
use mathlib.Core.List.{List, [], ◌∷◌, ◌++◌, map}
use native.Mathlib.Omega.{arith}
use lib.ListN.{length, get_or, length-append, length-map}
use Rattle.sums.specs.TermsSums.{one_if}
use Rattle.sums.proofs.Tests.{one-if_le}
use Rattle.sets.specs.ModelBits.{bit, mask_of, difference_of}
use Rattle.sets.proofs.Laws.{bit-mask_of, bit-difference, mask_lt}
use Rattle.cluster.specs.Terms.{most_nodes, no_node, Topology, ids_of, mem, rising, Layout, row}
use Rattle.cluster.specs.declared.Node.{Node}
use Rattle.incidence.specs.ModelIncidence.{bits_of, ids_where}
use Rattle.incidence.proofs.TieRows.{id_known, where_cong, where_row}
use Rattle.moves.specs.TermsMoves.{Move, send, discard, surviving, survivors, missing, row_moves, source_of, step_cells}
use Rattle.moves.proofs.Missing.{mem-missing, rising-missing, missing-mem, surviving_known, mem-surviving, rising-surviving}
use Rattle.step_cells.specs.ModelSteps.{step_count, first_id, kind_cells, row_steps}
use Rattle.step_cells.proofs.StepWalk.{difference_low, where_count}

-- ---- cells

-- The cells of moves one after the other.
pub cells-append : (t : Topology) (F : Layout) (k l : List Move) → step_cells t F (k ++ l) ≡ step_cells t F k ++ step_cells t F l
unfolding step_cells
cells-append t F [] l = refl
cells-append t F (m ∷ ms) l = ap (λ (x : List ℕ). m.kind ∷ m.partition ∷ m.node ∷ source_of t F m ∷ x) (cells-append t F ms l)

-- Sends have one source, the first that survives; drops have none.
sends-cells : (t : Topology) (F : Layout) (p : ℕ) (l : List ℕ) → step_cells t F (map (send p) l) ≡ kind_cells 0 p (get_or (survivors t F p) 0 0) l
unfolding step_cells kind_cells source_of
sends-cells t F p [] = refl
sends-cells t F p (i ∷ is) = ap (λ (x : List ℕ). 0 ∷ p ∷ i ∷ get_or (survivors t F p) 0 0 ∷ x) (sends-cells t F p is)

drops_cells : (t : Topology) (F : Layout) (p : ℕ) (l : List ℕ) → step_cells t F (map (discard p) l) ≡ kind_cells 1 p 0 l
unfolding step_cells kind_cells source_of
drops_cells t F p [] = refl
drops_cells t F p (i ∷ is) = ap (λ (x : List ℕ). 1 ∷ p ∷ i ∷ 0 ∷ x) (drops_cells t F p is)

-- ---- one row

-- A test and no other, as numbers.
but : (a b : Bool) → one_if (a && not b) ≡ one_if a - one_if b
unfolding one_if
but true true = refl
but true false = refl
but false true = refl
but false false = refl

module _ (t : Topology) (f r : List ℕ) (few : length t.nodes ≤ most_nodes) (ids : rising (ids_of t.nodes) ≡ true) (old_rise : rising f ≡ true)
    (new_rise : rising r ≡ true) (known : (i : ℕ) → mem i r ≡ true → mem i (ids_of t.nodes) ≡ true) where
  abbrev ns : List Node
  ns = t.nodes

  abbrev old : ℕ
  old = mask_of (bits_of ns f) (length ns)

  abbrev new : ℕ
  new = mask_of (bits_of ns r) (length ns)

  -- The digits of the two sets.
  old_bit : (b : ℕ) → b < length ns → bit old b ≡ one_if (mem (get_or ns b no_node).id (surviving t f))
  old_bit b h =
      bit-mask_of (bits_of ns f) (length ns) b h (one-if_le (mem (get_or ns b no_node).id f))
      ∙ ap one_if (sym (mem-surviving t (get_or ns b no_node).id f (id_known ns b h)))

  new-bit : (b : ℕ) → b < length ns → bit new b ≡ one_if (mem (get_or ns b no_node).id r)
  new-bit b h = bit-mask_of (bits_of ns r) (length ns) b h (one-if_le (mem (get_or ns b no_node).id r))

  -- A rising row of known ids is told by the digits of a set.
  told : (l : List ℕ) (s : ℕ) → rising l ≡ true → ((i : ℕ) → mem i l ≡ true → mem i (ids_of ns) ≡ true)
      → ((b : ℕ) → b < length ns → one_if (mem (get_or ns b no_node).id l) ≡ bit s b) → l ≡ ids_where ns (bit s)
  told l s rise inside same = sym (where_row 0 0 ns l ids rise inside) ∙ where_cong ns (bits_of ns l) (bit s) same

  -- What survives, is to be sent and is to be dropped are the ids of three sets.
  pub survive_where : surviving t f ≡ ids_where ns (bit old)
  survive_where = told (surviving t f) old (rising-surviving t 0 f old_rise) (surviving_known t f) (λ b h. sym (old_bit b h))

  pub send_where : missing r (surviving t f) ≡ ids_where ns (bit (difference_of new old))
  send_where =
      told (missing r (surviving t f)) (difference_of new old) (rising-missing 0 r (surviving t f) new_rise)
      (λ i m. known i (missing-mem r (surviving t f) i m).0)
      (λ b h. ap one_if (mem-missing (get_or ns b no_node).id r (surviving t f))
      ∙ (but (mem (get_or ns b no_node).id r) (mem (get_or ns b no_node).id (surviving t f))
      ∙ (ap₂ ◌-◌ (sym (new-bit b h)) (sym (old_bit b h)) ∙ sym (bit-difference new old b (omega arith)))))

  pub drop_where : missing (surviving t f) r ≡ ids_where ns (bit (difference_of old new))
  drop_where =
      told (missing (surviving t f) r) (difference_of old new) (rising-missing 0 (surviving t f) r (rising-surviving t 0 f old_rise))
      (λ i m. surviving_known t f i (missing-mem (surviving t f) r i m).0)
      (λ b h. ap one_if (mem-missing (get_or ns b no_node).id (surviving t f) r)
      ∙ (but (mem (get_or ns b no_node).id (surviving t f)) (mem (get_or ns b no_node).id r)
      ∙ (ap₂ ◌-◌ (sym (old_bit b h)) (sym (new-bit b h)) ∙ sym (bit-difference old new b (omega arith)))))

  -- There are as many steps as moves.
  pub row_count : (p : ℕ) → step_count old new ≡ length (row_moves p (surviving t f) r)
  unfolding step_count row_moves
  row_count p =
      let s = missing r (surviving t f) in
      let d = missing (surviving t f) r in
      omega (
        arith,
        length-append (map (send p) s) (map (discard p) d),
        length-map s (send p),
        length-map d (discard p),
        ap length send_where,
        ap length drop_where,
        where_count ns (difference_of new old) few (difference_low (length ns) few new old (mask_lt (bits_of ns r) (length ns))),
        where_count ns (difference_of old new) few (difference_low (length ns) few old new (mask_lt (bits_of ns f) (length ns))),
      )

  -- And the cells are theirs.
  pub row-cells : (F : Layout) (p : ℕ) → row F p ≡ f → row_steps ns p old new ≡ step_cells t F (row_moves p (surviving t f) r)
  unfolding row_steps row_moves first_id survivors
  row-cells F p e =
      let s = missing r (surviving t f) in
      let d = missing (surviving t f) r in
      let first : get_or (ids_where ns (bit old)) 0 0 ≡ get_or (surviving t (row F p)) 0 0 =
      ap (λ (l : List ℕ). get_or l 0 0) (sym survive_where ∙ ap (surviving t) (sym e)) in
      ap₂ (λ (x y : List ℕ). x ++ y)
      (ap₂ (λ (x : ℕ) (y : List ℕ). kind_cells 0 p x y) first (sym send_where) ∙ sym (sends-cells t F p s))
      (ap (kind_cells 1 p 0) (sym drop_where) ∙ sym (drops_cells t F p d))
      ∙ sym (cells-append t F (map (send p) s) (map (discard p) d))
