-- The states of planning are a machine that improves layouts, from any good first rows.
-- Assumes nothing.
use Prim.Native.Nat.{ℕ, ◌+◌, ◌*◌, ◌≤◌, ◌<◌}
use mathlib.Core.Path.{◌≡◌, ap, ◌∙◌}
use mathlib.Core.Bool.{true, false}
use mathlib.Core.List.{List, []}
use native.Mathlib.Omega.{arith}
use native.Mathlib.Nat.{mul-le-mul}
use Rattle.cluster.proofs.Accepting.{few_partitions}
use Rattle.sums.specs.TermsSums.{one_if}
use Rattle.cluster.specs.Terms.{Topology, partitions, node_at, mem, Layout, row, ValidAt, sent}
use Rattle.cluster.specs.TermsReading.{most_improvements, Accepted, Fits32}
use Rattle.incidence.specs.ModelIncidence.{incidence}
use Rattle.incidence.proofs.TieSending.{sent_law}
use Rattle.incidence.proofs.TieLayouts.{within_of_valid}
use Rattle.sizing.specs.ModelSizing.{nodes_of, size_of}
use Rattle.sizing.proofs.Sizes.{size_is}
use Rattle.steps.specs.ModelSteps.{State}
use Rattle.improve.specs.ModelImprove.{begun, ran_in}
use Rattle.improve.proofs.Ground.{begun_good, next_good, next-gains, none_heavier, none-former, run_finishes}
use Rattle.planning.specs.ModelPlan.{sent_rows, sent_at, improves_at, next_at, answer_layout}
use Rattle.planning.proofs.Rules.{Machine}
use Rattle.planning.proofs.Grounds.{GoodRows, GoodAt, fm_bit, same_weight, ground, measure, sent_is}
use Rattle.planning.proofs.Firsts.{answer_valid, answer-sent, answer-first}

module _ (t : Topology) (acc : Accepted t) (F : Layout) where
  abbrev P : ℕ
  P = partitions t

  abbrev N : ℕ
  N = nodes_of t

  abbrev R : ℕ
  R = t.replication

  -- Where a state cannot be improved, no layout sends less.
  none-less : (s : State) → GoodAt t acc F s → improves_at t F s ≡ false → (L : Layout) → ValidAt t L (size_of t) → sent_at t F s ≤ sent t L F
  none-less s g e L v =
      omega (
        arith,
        sent_is t acc F s.rows g.good,
        measure t acc F s.rows g.good,
        none_heavier (ground t acc F) s g e (incidence t L) (within_of_valid t acc.ids L (size_of t) v),
        same_weight t acc F (incidence t L),
        sent_law t L F acc.ids v.rows,
      )

  -- Without former copies nothing is to be improved.
  blank : (s : State) → GoodAt t acc F s → ((p : ℕ) → p < P → row F p ≡ []) → (improves_at t F s ≡ false) × (sent_at t F s ≡ R * P)
  unfolding incidence mem one_if sent_rows
  blank s g h =
      let w = none-former (ground t acc F) s g (λ p b l k. fm_bit t acc F p l b k ∙ ap (λ (r : List ℕ). one_if (mem (node_at t b).id r)) (h p l)) in
      (w.0, omega (arith, w.1))

  -- One improvement saves as many copies as there are nodes at most ..
  bounded : (s : State) → GoodAt t acc F s → improves_at t F s ≡ true → sent_at t F s ≤ sent_at t F (next_at t F s) + N
  bounded s g e =
      let n = (next_good (ground t acc F) s g e).good in
      omega (arith, (next-gains (ground t acc F) s g e).1, sent_is t acc F s.rows g.good, measure t acc F s.rows g.good, sent_is t acc F _ n, measure t acc F _ n)

  -- .. and one at least.
  falls : (s : State) → GoodAt t acc F s → improves_at t F s ≡ true → sent_at t F (next_at t F s) + 1 ≤ sent_at t F s
  falls s g e =
      let n = (next_good (ground t acc F) s g e).good in
      omega (arith, (next-gains (ground t acc F) s g e).0, sent_is t acc F s.rows g.good, measure t acc F s.rows g.good, sent_is t acc F _ n, measure t acc F _ n)

  -- From good first rows the states of planning are a machine that improves layouts.
  pub machine : Fits32 t → 1 ≤ size_of t → (start : List ℕ) → GoodRows t start
      → Machine t F (size_of t) (improves_at t F) (next_at t F) (answer_layout t F) (sent_at t F) (begun start) (GoodAt t acc F)
  unfolding ran_in
  machine low large start g =
      record {
        sized = size_is t acc low large;
        starts = begun_good (ground t acc F) start g;
        stays = next_good (ground t acc F);
        valid = λ f x h. unfold answer_layout in answer_valid t acc F x.rows h.good large f;
        measured = λ f x h. unfold answer_layout in answer-sent t acc F x.rows h.good f;
        first = λ x h. unfold answer_layout in answer-first t acc F x.rows h.good;
        falls = falls;
        bounded = bounded;
        nearest = none-less;
        enough = run_finishes (ground t acc F) start g most_improvements (mul-le-mul (few_partitions t.bits acc.bits) acc.replication.1);
        blank = blank (begun start) (begun_good (ground t acc F) start g);
      }
