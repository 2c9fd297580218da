-- The order in which list and count find their faults, and what it means that they find none.
-- Assumes nothing.
use Prim.Native.Nat.{ℕ, ◌*◌, ◌≤◌, ◌<◌}
use mathlib.Core.Path.{◌≡◌, sym, ap, ◌∙◌, subst}
use mathlib.Core.Bool.{Bool, true, cond}
use mathlib.Core.List.{List, ◌++◌}
use mathlib.Core.Logic.{⊎_elim}
use native.Mathlib.Omega.{arith}
use lib.Dec.{eqb}
use lib.ListN.{length, drop}
use borrow.Author.Tests.{lt-ltb, le-ltb, eq-eqb, ne_eqb}
use Rattle.sums.specs.TermsSums.{every_to}
use Rattle.sums.proofs.Sum.{lt_or_ge, eq_or_ne}
use Rattle.sums.proofs.Tests.{true_or_false}
use Rattle.cluster.specs.Terms.{wide_row_cells, wide_cells, Topology, topology, partitions, Layout, ValidAt, row_of, formed}
use Rattle.cluster.specs.TermsReading.{Accepted}
use Rattle.cluster.specs.declared.Cluster.{Cluster}
use Rattle.cluster.proofs.Accepting.{accepted}
use Rattle.cell_rows.specs.ModelRows.{HoldsRows}
use Rattle.layouts.specs.TermsCheck.{Checked, fault, check_of}
use Rattle.layouts.proofs.CheckMeaning.{passed_valid, check-layout, check-holds}
use Rattle.moves.specs.TermsMoves.{step_width, step_cells}
use Rattle.move_list.specs.TermsMoveList.{Listed, former_fault, moves_fault, former_in, new_in, moves_in, listed, count_moves, list_moves, cells_listed}

-- Whether the former rows are formed.
abbrev pub former_formed : Topology → List ℕ → Bool
former_formed t former = every_to (partitions t) (λ p. formed (row_of wide_row_cells former p))

-- Formed rows have no fault,
pub former_sound : (t : Topology) (former : List ℕ) → former_formed t former ≡ true → former_fault t former ≡ 0
unfolding former_fault
former_sound t former e = ap (λ (b : Bool). cond b 0 5) e

-- and rows without fault are formed.
pub sound_former : (t : Topology) (former : List ℕ) → former_fault t former ≡ 0 → former_formed t former ≡ true
unfolding former_fault
sound_former t former e = ⊎_elim (λ h. h) (λ h. absurd (omega (arith, sym e ∙ ap (λ (b : Bool). cond b 0 5) h))) (true_or_false (former_formed t former))

module _ (c : Cluster) (former assignment : List ℕ) where
  -- A short former buffer is refused first, as a short assignment is.
  pub order_short : length former < wide_cells → moves_fault c former assignment ≡ fault 8 0
  unfolding moves_fault
  order_short h = simp (lt-ltb (length former) wide_cells h)

  module _ (whole : wide_cells ≤ length former) where
    -- Then what check refuses,
    pub order-check : ((check_of c assignment 1).refusal ≡ 0 → ⊥) → moves_fault c former assignment ≡ check_of c assignment 1
    unfolding moves_fault
    order-check h = simp (le-ltb (length former) wide_cells whole, ne_eqb (check_of c assignment 1).refusal 0 h)

    -- then the former rows.
    pub order-former : (check_of c assignment 1).refusal ≡ 0 → moves_fault c former assignment ≡ fault (former_fault (topology c) former) 0
    unfolding moves_fault
    order-former e = simp (le-ltb (length former) wide_cells whole, eq-eqb (check_of c assignment 1).refusal 0 e)

  -- Where nothing is refused, none of the three has a fault.
  pub all_pass : (moves_fault c former assignment).refusal ≡ 0
      → (wide_cells ≤ length former) × ((check_of c assignment 1).refusal ≡ 0) × (former_formed (topology c) former ≡ true)
  all_pass e =
      ⊎_elim (λ h. absurd (omega (arith, ap (λ (k : Checked). k.refusal) (order_short h)))) (λ w.
      ⊎_elim (λ z. (w, z, sound_former (topology c) former (sym (ap (λ (k : Checked). k.refusal) (order-former w z)) ∙ e)))
      (λ z. absurd (z (sym (ap (λ (k : Checked). k.refusal) (order-check w z)) ∙ e))) (eq_or_ne (check_of c assignment 1).refusal 0))
      (lt_or_ge (length former) wide_cells)

  -- And the other way round, with place 0.
  pub pass_all : wide_cells ≤ length former → (check_of c assignment 1).refusal ≡ 0 → former_formed (topology c) former ≡ true → moves_fault c former assignment ≡ fault 0 0
  pass_all w z f = order-former w z ∙ ap (λ (n : ℕ). fault n 0) (former_sound (topology c) former f)

  -- The cluster is then accepted, the cells hold the new layout, and this is valid at size 1.
  module _ (e : (moves_fault c former assignment).refusal ≡ 0) where
    pub new_accepted : Accepted (topology c)
    new_accepted = accepted c (passed_valid c assignment 1 (all_pass e).1).accepted_cluster

    pub new-holds : HoldsRows (partitions (topology c)) assignment
    new-holds = check-holds c assignment 1 (passed_valid c assignment 1 (all_pass e).1)

    pub new_valid : ValidAt (topology c) (new_in c assignment) 1
    new_valid =
        let h = passed_valid c assignment 1 (all_pass e).1 in
        subst (λ (L : Layout). ValidAt (topology c) L 1) (check-layout c assignment 1 h) h.valid

  -- ---- the answers

  -- A fault is answered with its place and no steps.
  pub count-refused : ((moves_fault c former assignment).refusal ≡ 0 → ⊥)
      → count_moves c former assignment ≡ listed (moves_fault c former assignment).refusal (moves_fault c former assignment).place 0
  unfolding count_moves
  count-refused h = simp (ne_eqb (moves_fault c former assignment).refusal 0 h)

  -- Else the moves are counted.
  pub count-made : (moves_fault c former assignment).refusal ≡ 0 → count_moves c former assignment ≡ listed 0 0 (length (moves_in c former assignment))
  unfolding count_moves
  count-made e = simp (eq-eqb (moves_fault c former assignment).refusal 0 e)

  -- A count that is not refused has no fault.
  pub counted_sound : (count_moves c former assignment).refusal ≡ 0 → (moves_fault c former assignment).refusal ≡ 0
  counted_sound e = ⊎_elim (λ h. h) (λ h. absurd (h (sym (ap (λ (n : Listed). n.refusal) (count-refused h)) ∙ e))) (eq_or_ne (moves_fault c former assignment).refusal 0)

  -- A refused count has no steps, so the list is refused in the same way, whatever its room.
  pub list-refused : (room : ℕ) → ((count_moves c former assignment).refusal ≡ 0 → ⊥) → list_moves c former assignment room ≡ count_moves c former assignment
  unfolding list_moves
  list-refused room h =
      let f : (moves_fault c former assignment).refusal ≡ 0 → ⊥ = λ e. h (ap (λ (n : Listed). n.refusal) (count-made e)) in
      let none : step_width * (count_moves c former assignment).steps ≡ 0 = ap (λ (n : Listed). step_width * n.steps) (count-refused f) in
      simp (le-ltb room (step_width * (count_moves c former assignment).steps) (omega (arith, none)))

  -- Too little room is refused with 8,
  pub list_short : (room : ℕ) → room < step_width * (count_moves c former assignment).steps → list_moves c former assignment room ≡ listed 8 0 0
  unfolding list_moves
  list_short room h = simp (lt-ltb room (step_width * (count_moves c former assignment).steps) h)

  -- and with enough the list is answered as the count.
  pub list-made : (room : ℕ) → step_width * (count_moves c former assignment).steps ≤ room → list_moves c former assignment room ≡ count_moves c former assignment
  unfolding list_moves
  list-made room h = simp (le-ltb room (step_width * (count_moves c former assignment).steps) h)

  -- A refused list leaves the cells,
  pub cells-kept : (cells : List ℕ) → ((list_moves c former assignment (length cells)).refusal ≡ 0 → ⊥) → cells_listed c former assignment cells ≡ cells
  unfolding cells_listed
  cells-kept cells h = simp (ne_eqb (list_moves c former assignment (length cells)).refusal 0 h)

  -- and a made one has its steps in the first of them.
  pub cells-made : (cells : List ℕ) (n : ℕ) → list_moves c former assignment (length cells) ≡ listed 0 0 n
      → cells_listed c former assignment cells ≡ step_cells (topology c) (former_in c former) (moves_in c former assignment) ++ drop (step_width * n) cells
  unfolding cells_listed
  cells-made cells n e =
      ap (λ (a : Listed). cond (eqb a.refusal 0) (step_cells (topology c) (former_in c former) (moves_in c former assignment) ++ drop (step_width * a.steps) cells) cells) e
