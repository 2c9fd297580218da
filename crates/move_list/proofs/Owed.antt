-- What the list owes its callers where it is not refused: the promises of the terms, about the two calls.
-- Assumes nothing.
use Prim.Native.Nat.{ℕ, zero, suc, ◌+◌, ◌*◌, ◌≤◌, ◌<◌}
use mathlib.Core.Path.{◌≡◌, sym, ap, ap₂, ◌∙◌, subst}
use mathlib.Core.Bool.{true}
use mathlib.Core.List.{List, ◌++◌, map}
use native.Mathlib.Omega.{arith}
use lib.ListN.{length, drop, length-append, length-map, length-take}
use Rattle.sums.proofs.Tests.{every-all}
use Rattle.cluster.specs.Terms.{row_cells, buffer_rows, wide_row_cells, Topology, topology, partitions, Layout, row, rising, row_of, formed}
use Rattle.cluster.specs.declared.Cluster.{Cluster}
use Rattle.cluster.proofs.Accepting.{few_partitions}
use Rattle.cell_rows.proofs.CellRows.{ids-length}
use Rattle.layouts.specs.TermsCheck.{Checked, fault}
use Rattle.moves.specs.TermsMoves.{Move, send, discard, surviving, survivors, missing, row_moves, moves_from, moves_of, step_width, step_cells, held, FitsSixteen, held_again, Resumes}
use Rattle.moves.proofs.Missing.{missing_few, surviving_few}
use Rattle.moves.proofs.WideRows.{length_wide_rows}
use Rattle.moves.proofs.Promises.{kept_whole, ends_new, sources_hold, sends-sent, resumes, held-formed, held-read, length-wide_cells}
use Rattle.move_list.specs.TermsMoveList.{Listed, moves_fault, former_in, new_in, moves_in, listed, count_moves, list_moves, held_cells, moves_left, MadeAfresh, MovesOwed}
use Rattle.move_list.proofs.MovesOrder.{all_pass, pass_all, new_accepted, new_valid, count-made, list-made, cells-made}
use Rattle.move_list.proofs.AllRows.{former-row, former_rises}

-- Rows with at most k moves each.
few_from : (H L : ℕ → List ℕ) (k p n : ℕ) → ((q : ℕ) → q < p + n → length (row_moves q (H q) (L q)) ≤ k) → length (moves_from H L p n) ≤ n * k
unfolding moves_from
few_from H L k p zero h = omega arith
few_from H L k p (suc n) h =
    omega (arith, length-append (row_moves p (H p) (L p)) (moves_from H L (suc p) n), h p (omega arith), few_from H L k (suc p) n (λ q l. h q (omega arith)))

module _ (c : Cluster) (former assignment : List ℕ) (e : (moves_fault c former assignment).refusal ≡ 0) where
  abbrev t : Topology
  t = topology c

  abbrev F : Layout
  F = former_in c former

  abbrev L : Layout
  L = new_in c assignment

  few_rows : partitions t ≤ buffer_rows
  few_rows = few_partitions t.bits (new_accepted c former assignment e).bits

  former_rise : (p : ℕ) → p < partitions t → rising (row F p) ≡ true
  former_rise p h = ap rising (former-row c former assignment e p h) ∙ former_rises c former assignment e p h

  -- A row has at most eight sends and sixteen drops.
  row_few : (p : ℕ) → p < partitions t → length (row_moves p (survivors t F p) (row L p)) ≤ wide_row_cells + row_cells
  unfolding row_moves survivors
  row_few p h =
      let s = missing (row L p) (surviving t (row F p)) in
      let d = missing (surviving t (row F p)) (row L p) in
      omega (
        arith,
        length-append (map (send p) s) (map (discard p) d),
        length-map s (send p),
        length-map d (discard p),
        missing_few (row L p) (surviving t (row F p)),
        missing_few (surviving t (row F p)) (row L p),
        surviving_few t (row F p),
        ap length (former-row c former assignment e p h),
        ids-length (row_of wide_row_cells former p),
        length-take wide_row_cells (drop (p * wide_row_cells) former),
        ((new_valid c former assignment e).rows p h).many,
        (new_accepted c former assignment e).replication,
      )

  moves_few : length (moves_in c former assignment) ≤ buffer_rows * (wide_row_cells + row_cells)
  unfolding moves_of
  moves_few = omega (arith, few_rows, few_from (survivors t F) (row L) (wide_row_cells + row_cells) 0 (partitions t) (λ q l. row_few q (omega arith)))

  module _ (room : FitsSixteen t F L) (k : ℕ) (rest : List ℕ) where
    abbrev again : List ℕ
    again = held_cells c former assignment k ++ rest

    -- The cells hold what is held,
    same_rows : former_in c again ≡ held_again t F L k
    same_rows = held-read t F L few_rows (length_wide_rows (partitions t) former) former_rise (new_valid c former assignment e).partition_rows (new_valid c former assignment e).rows room k rest

    -- they are not refused,
    accepted_again : moves_fault c again assignment ≡ fault 0 0
    accepted_again =
        pass_all c again assignment (omega (arith, length-append (held_cells c former assignment k) rest, length-wide_cells (held t F L k))) (all_pass c former assignment e).1
        (every-all (partitions t) (λ p. formed (row_of wide_row_cells again p))
        (λ p h. held-formed t F L few_rows (length_wide_rows (partitions t) former) former_rise (new_valid c former assignment e).partition_rows (new_valid c former assignment e).rows room k p rest h))

    made_again : Resumes t F L k
    made_again = resumes t F L few_rows (length_wide_rows (partitions t) former) former_rise (new_valid c former assignment e).partition_rows (new_valid c former assignment e).rows room k

    -- and their moves are those that were left.
    same_moves : moves_in c again assignment ≡ moves_left c former assignment k
    same_moves = ap (λ (H : Layout). moves_of t H L) same_rows ∙ made_again.same

    counted : count_moves c again assignment ≡ listed 0 0 (length (moves_left c former assignment k))
    counted = count-made c again assignment (ap (λ (a : Checked). a.refusal) accepted_again) ∙ ap (λ (l : List Move). listed 0 0 (length l)) same_moves

    accepted : (n : ℕ) → step_width * length (moves_left c former assignment k) ≤ n → list_moves c again assignment n ≡ listed 0 0 (length (moves_left c former assignment k))
    accepted n h = list-made c again assignment n (omega (arith, ap (λ (a : Listed). a.steps) counted)) ∙ counted

    afresh : MadeAfresh c former assignment k again
    afresh = record {
      counted = counted;
      accepted = accepted;
      written = λ cells h.
          cells-made c again assignment cells (length (moves_left c former assignment k)) (accepted (length cells) h)
          ∙ ap (λ (l : List Move). step_cells t (former_in c again) l ++ drop (step_width * length (moves_left c former assignment k)) cells) same_moves;
      ends = λ p h.
          ap₂ (λ (H : Layout) (n : ℕ). held t H L n p) same_rows (ap length (sym made_again.same)) ∙ made_again.ends p h;
      onward = λ j p h. ap (λ (H : Layout). held t H L j p) same_rows ∙ made_again.onward j p h;
      fits = subst (λ (H : Layout). FitsSixteen t H L) (sym same_rows) made_again.again;
    }

  pub owed : MovesOwed c former assignment
  owed =
      let fr = length_wide_rows (partitions t) former in
      let nr = (new_valid c former assignment e).partition_rows in
      let rows = (new_valid c former assignment e).rows in
      record {
        whole = kept_whole t F L few_rows fr former_rise nr rows;
        ends = ends_new t F L few_rows fr former_rise nr rows;
        resumes = afresh;
        sources = sources_hold t F L few_rows fr former_rise nr rows;
        sending = sends-sent t F L few_rows fr former_rise nr rows;
        few = moves_few;
      }
