-- The walk over the nodes of a set, the lowest first, that puts a step for each.
-- Assumes nothing.
use Prim.Native.Nat.{ℕ, ◌+◌, ◌*◌, ◌^◌, ◌≤◌, ◌<◌, min}
use mathlib.Core.Path.{◌≡◌, refl, sym, ap, ap₂, ◌∙◌}
use mathlib.Core.List.{List, [], ◌∷◌, ◌++◌, append-nil}
use mathlib.Core.Logic.{⊎_elim}
use native.Mathlib.Omega.{arith}
use lib.ListN.{length, take, drop, get_or, length-append, take-append-drop}
use Rattle.sums.proofs.Sum.{lt_or_ge, sum_cong}
use Rattle.sets.specs.ModelBits.{mask_bits, bit, without_of, difference_of, count_of, least_of}
use Rattle.sets.proofs.Laws.{bit_le, bit_high, bit_lt, without_lt, bit-without, bit-without_same, bit-without_other, difference_lt, bit-difference, count-sum, count_le, count_empty, least-before, least_at, least-some, least-taken}
use Rattle.cells.proofs.Puts.{parts_join}
use Rattle.cluster.specs.Terms.{most_nodes, no_node}
use Rattle.cluster.specs.declared.Node.{Node}
use Rattle.incidence.specs.ModelIncidence.{ids_where}
use Rattle.masks.proofs.Where.{where_length, where_first, where_empty}
use Rattle.moves.specs.TermsMoves.{step_width}
use Rattle.step_cells.specs.ModelSteps.{step_count, first_id, kind_cells, row_steps}

-- ---- sets of the first n nodes

module _ (n : ℕ) (few : n ≤ mask_bits) where
  -- What is taken out leaves such a set,
  pub without-low : (s i : ℕ) → s < 2 ^ n → without_of s i < 2 ^ n
  without-low s i h = bit_lt mask_bits n (without_of s i) (without_lt s i) (λ j l k. omega (arith, bit-without s i j k, bit_high n s j h l))

  -- and so does a difference.
  pub difference_low : (s t : ℕ) → s < 2 ^ n → difference_of s t < 2 ^ n
  difference_low s t h = bit_lt mask_bits n (difference_of s t) (difference_lt s t) (λ j l k. omega (arith, bit-difference s t j k, bit_high n s j h l))

  -- The least member is below n.
  pub least-low : (s : ℕ) → s < 2 ^ n → s < 2 ^ mask_bits → (s ≡ 0 → ⊥) → least_of s < n
  least-low s h word some =
      ⊎_elim (λ l. l) (λ l. absurd (omega (arith, least_at s (least-some s word some), bit_high n s (least_of s) h l))) (lt_or_ge (least_of s) n)

-- There are at most as many steps as two sets have members.
pub few_steps : (old new : ℕ) → step_count old new ≤ 2 * mask_bits
unfolding step_count
few_steps old new =
    omega (arith, count_le mask_bits (difference_of new old) (omega arith) (difference_lt new old), count_le mask_bits (difference_of old new) (omega arith) (difference_lt old new))

-- ---- the walk

module _ (ns : List Node) (kind p source : ℕ) where
  -- What the cells come to: those before `to`, the steps of the nodes that are left, and the cells after these.
  unfoldable pub comes_to : List ℕ → ℕ → ℕ → List ℕ
  comes_to cells to left = take to cells ++ kind_cells kind p source (ids_where ns (bit left)) ++ drop (to + step_width * count_of left) cells

  -- Where none is left, they are what they are.
  pub none_left : (cells : List ℕ) (to left : ℕ) → left ≡ 0 → comes_to cells to left ≡ cells
  unfolding comes_to kind_cells
  none_left cells to left e =
      let z : to + step_width * count_of left ≡ to = omega (arith, ap count_of e, count_empty) in
      ap₂ (λ (l : List ℕ) (k : ℕ). take to cells ++ kind_cells kind p source l ++ drop k cells) (ap (λ (s : ℕ). ids_where ns (bit s)) e ∙ where_empty ns) z
      ∙ (ap (λ (l : List ℕ). l ++ drop to cells) (append-nil (take to cells)) ∙ take-append-drop to cells)

  -- The step of the lowest node that is left is put: what the cells come to stays.
  pub step-put : (cells after : List ℕ) (to left node rest : ℕ) → length ns ≤ most_nodes → left < 2 ^ length ns → left < 2 ^ mask_bits → (left ≡ 0 → ⊥)
      → to ≤ length cells → node ≡ (get_or ns (least_of left) no_node).id
      → rest ≡ without_of left (least_of left) → after ≡ take to cells ++ (kind ∷ p ∷ node ∷ source ∷ []) ++ drop (to + step_width) cells
      → comes_to after (to + step_width) rest ≡ comes_to cells to left
  unfolding comes_to kind_cells
  step-put cells after to left node rest few low word some room own taken e =
      let u = least_of left in
      let inside : u < length ns = least-low (length ns) few left low word some in
      let ids : ids_where ns (bit left) ≡ node ∷ ids_where ns (bit rest) =
      where_first ns (bit left) (bit rest) u inside (λ j k. least-before left j k) (omega (arith, least_at left (least-some left word some)))
      (ap (λ (s : ℕ). bit s u) taken ∙ bit-without_same left u (omega arith)) (λ j k q. ap (λ (s : ℕ). bit s j) taken ∙ bit-without_other left u j (omega arith) q)
      ∙ ap (λ (i : ℕ). i ∷ ids_where ns (bit rest)) (sym own) in
      let far : to + step_width + step_width * count_of rest ≡ to + step_width * count_of left = omega (arith, ap count_of taken, least-taken left word some) in
      parts_join cells (kind ∷ p ∷ node ∷ source ∷ []) (kind_cells kind p source (ids_where ns (bit rest))) after to step_width (step_width * count_of rest) refl room e
      ∙ ap₂ (λ (l : List ℕ) (k : ℕ). take to cells ++ kind_cells kind p source l ++ drop k cells) (sym ids) far

-- ---- the cells of a set

-- Four cells for each id.
pub length-kind : (kind p source : ℕ) (l : List ℕ) → length (kind_cells kind p source l) ≡ step_width * length l
unfolding kind_cells
length-kind kind p source [] = refl
length-kind kind p source (i ∷ is) = let e = length-kind kind p source is in omega arith

-- A set of the nodes has as many ids as members,
pub where_count : (ns : List Node) (s : ℕ) → length ns ≤ most_nodes → s < 2 ^ length ns → length (ids_where ns (bit s)) ≡ count_of s
where_count ns s few low =
    where_length ns (bit s)
    ∙ (sum_cong (length ns) (λ b. min 1 (bit s b)) (bit s) (λ b l. omega (arith, bit_le s b)) ∙ sym (count-sum (length ns) s few low))

-- and so many steps.
pub length-steps : (ns : List Node) (kind p source s : ℕ) → length ns ≤ most_nodes → s < 2 ^ length ns
    → length (kind_cells kind p source (ids_where ns (bit s))) ≡ step_width * count_of s
length-steps ns kind p source s few low = length-kind kind p source (ids_where ns (bit s)) ∙ ap (λ (n : ℕ). step_width * n) (where_count ns s few low)

-- The sends of a row are put, then its drops right behind them: these are the row's steps.
pub row_put : (ns : List Node) (p source old new sends drops at then : ℕ) (lent cells after : List ℕ) → length ns ≤ most_nodes → new < 2 ^ length ns
    → source ≡ first_id ns old → sends ≡ difference_of new old → drops ≡ difference_of old new → at ≤ length lent → then ≡ at + step_width * count_of sends
    → cells ≡ take at lent ++ kind_cells 0 p source (ids_where ns (bit sends)) ++ drop (at + step_width * count_of sends) lent
    → after ≡ take then cells ++ kind_cells 1 p 0 (ids_where ns (bit drops)) ++ drop (then + step_width * count_of drops) cells
    → after ≡ take at lent ++ row_steps ns p old new ++ drop (at + step_width * step_count old new) lent
unfolding row_steps step_count
row_put ns p source old new sends drops at then lent cells after few low from s d room behind first second =
    let k = step_width * count_of sends in
    let m = step_width * count_of drops in
    let low' : sends < 2 ^ length ns = omega (arith, s, difference_low (length ns) few new old low) in
    let sent = kind_cells 0 p source (ids_where ns (bit sends)) in
    let dropped = kind_cells 1 p 0 (ids_where ns (bit drops)) in
    let far : at + k + m ≡ at + step_width * (count_of (difference_of new old) + count_of (difference_of old new)) = omega (arith, ap count_of s, ap count_of d) in
    let rows : sent ++ dropped ≡ row_steps ns p old new =
    ap₂ (λ (x y : List ℕ). x ++ y) (ap₂ (λ (x y : ℕ). kind_cells 0 p x (ids_where ns (bit y))) from s) (ap (λ (y : ℕ). kind_cells 1 p 0 (ids_where ns (bit y))) d) in
    second
    ∙ (ap (λ (x : ℕ). take x cells ++ dropped ++ drop (x + m) cells) behind
    ∙ (parts_join lent sent dropped cells at k m (length-steps ns 0 p source sends few low') room first
    ∙ ap₂ (λ (l : List ℕ) (x : ℕ). take at lent ++ l ++ drop x lent) rows far))

-- The steps of a row take four cells each.
pub length-row : (ns : List Node) (p old new : ℕ) → length ns ≤ most_nodes → old < 2 ^ length ns → new < 2 ^ length ns
    → length (row_steps ns p old new) ≡ step_width * step_count old new
unfolding row_steps step_count
length-row ns p old new few o n =
    length-append (kind_cells 0 p (first_id ns old) (ids_where ns (bit (difference_of new old)))) (kind_cells 1 p 0 (ids_where ns (bit (difference_of old new))))
    ∙ omega (
      arith,
      length-steps ns 0 p (first_id ns old) (difference_of new old) few (difference_low (length ns) few new old n),
      length-steps ns 1 p 0 (difference_of old new) few (difference_low (length ns) few old new o),
    )
