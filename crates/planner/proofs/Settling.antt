-- What settling a plan rests on, over plain lists and numbers: what is subtracted is there, and the answer and the cells are those of the
-- definition.
-- Assumes nothing.
use Prim.Native.Nat.{ℕ, ◌-◌, ◌*◌, ◌≤◌, ◌<◌}
use mathlib.Core.Path.{◌≡◌, sym, ap, ◌∙◌, subst}
use mathlib.Core.Bool.{Bool, true}
use mathlib.Core.List.{List, ◌++◌}
use native.Mathlib.Omega.{arith}
use lib.ListN.{length, drop, replicate, length-replicate}
use borrow.Author.Tests.{le-leb}
use Rattle.sets.specs.ModelBits.{bits_at, mask_of}
use Rattle.sets.proofs.Laws.{mask_cong}
use Rattle.cells.proofs.Cells.{tab_cong}
use Rattle.exchange.proofs.Agreeing.{SameLayout}
use Rattle.cluster.specs.Terms.{buffer_rows, layout_cells, most_copies, Topology, topology, partitions, Layout, rows_in, cells_of, row_at, ids_in, fault_of}
use Rattle.cluster.specs.TermsReading.{Accepted}
use Rattle.incidence.specs.ModelIncidence.{bits_of, incidence}
use Rattle.cluster.specs.declared.Cluster.{Cluster}
use Rattle.cluster.proofs.Accepting.{few_partitions, accepted}
use Rattle.cell_rows.proofs.CellLayouts.{row-rows_in}
use Rattle.masks.specs.ModelMasks.{masks_read, row_mask, rows_formed}
use Rattle.masks.proofs.Laws.{mask-bits, formed_each}
use Rattle.mask_cells.specs.ModelMaskCells.{cells_written}
use Rattle.mask_cells.proofs.Layouts.{written-layout}
use Rattle.sizing.specs.ModelSizing.{nodes_of, size_of}
use Rattle.allowances.specs.ModelRun.{Ran}
use Rattle.agreement.specs.ModelAgreement.{agreement_in}
use Rattle.steps.specs.ModelSteps.{State}
use Rattle.improve.specs.ModelImprove.{ran_in}
use Rattle.planning.specs.ModelPlan.{former_masks, start_rows, ran_from, layout_rows, sent_rows, answer_bits, plan_from, plan_of}
use Rattle.planner.specs.TermsPlan.{Planned, plan_in, answered}
use Rattle.improve.proofs.Ground.{run_good}
use Rattle.planning.proofs.Grounds.{GoodRows, start_good, fm_long, ground, measure}
use Rattle.planning.proofs.Rows.{rows-first, rows_share}

module _ (c : Cluster) (e : fault_of c ≡ 0) where
  abbrev t : Topology
  t = topology c

  acc : Accepted t
  acc = accepted c e

  -- The former rows that code reads are those of the former layout.
  module _ (former : List ℕ) (P : ℕ) (before : List ℕ) (formed : rows_formed former (partitions t) ≡ true) (eP : P ≡ partitions t)
      (eb : before ≡ masks_read t.nodes former P (replicate buffer_rows 0))
    where
      abbrev F : Layout
      F = rows_in (partitions t) former

      mask_is : (p : ℕ) → p < partitions t → row_mask t.nodes former p ≡ mask_of (incidence t F p) (nodes_of t)
      unfolding incidence
      mask_is p l =
          let w = formed_each former (partitions t) p formed l in
          mask-bits t.nodes former p acc.ids w.0 w.1
          ∙ mask_cong (bits_of t.nodes (ids_in (row_at former p))) (incidence t F p) (nodes_of t)
          (λ b k. ap (λ (r : List ℕ). bits_of t.nodes r b) (sym (row-rows_in (partitions t) former p l)))

      pub before-is : before ≡ former_masks t F
      unfolding masks_read former_masks
      before-is =
          eb
          ∙ (ap (λ (n : ℕ). masks_read t.nodes former n (replicate buffer_rows 0)) eP
          ∙ (simp (le-leb (partitions t) buffer_rows (few_partitions t.bits acc.bits), length-replicate {A = ℕ} buffer_rows 0)
          (ap (λ (l : List ℕ). l ++ drop (partitions t) (replicate buffer_rows 0))
          (tab_cong (λ p. row_mask t.nodes former p) (λ p. mask_of (incidence t F p) (nodes_of t)) (partitions t) mask_is))))

      -- There is one for each partition.
      pub before_long : partitions t ≤ length before
      before_long = omega (arith, ap length before-is, fm_long t acc F)

      -- The run from them ended in these rows, ordered where it is finished.
      module _ (a size : ℕ) (es : size ≡ size_of t) (large : 1 ≤ size) (f : Bool) (ef : f ≡ (ran_from t (size_of t) before (start_rows t) a).finished)
          (new : List ℕ) (good : GoodRows t new)
          (bits : SameLayout (partitions t) (nodes_of t) (bits_at new)
          (answer_bits t (size_of t) before f (ran_from t (size_of t) before (start_rows t) a).state.rows))
        where
          abbrev ran : Ran State
          ran = ran_from t (size_of t) (former_masks t F) (start_rows t) a

          ran_is : ran_from t (size_of t) before (start_rows t) a ≡ ran
          ran_is = ap (λ (l : List ℕ). ran_from t (size_of t) l (start_rows t) a) before-is

          finished_is : f ≡ ran.finished
          finished_is = ef ∙ ap (λ (r : Ran State). r.finished) ran_is

          reached_good : GoodRows t ran.state.rows
          unfolding ran_from
          reached_good = (run_good (ground t acc F) (start_rows t) (start_good t acc (omega (arith, es))) a).good

          answered-bits : SameLayout (partitions t) (nodes_of t) (bits_at new) (answer_bits t (size_of t) (former_masks t F) ran.finished ran.state.rows)
          answered-bits =
              subst (SameLayout (partitions t) (nodes_of t) (bits_at new))
              (λ i. answer_bits t (size_of t) (before-is i) (finished_is i) (ran_is i).state.rows) bits

          agreement-is : agreement_in new before P ≡ agreement_in new (former_masks t F) (partitions t)
          agreement-is = λ i. agreement_in new (before-is i) (eP i)

          -- What counting asks for is there.
          pub countable : (c.replication ≤ most_copies) × (P ≤ buffer_rows) × (P ≤ length before) × (P ≤ length new)
              × (agreement_in new before P ≤ c.replication * P)
          countable = (
            acc.replication.1,
            omega (arith, eP, few_partitions t.bits acc.bits),
            omega (arith, eP, before_long),
            omega (arith, eP, good.long),
            omega (arith, agreement-is, ap (λ (n : ℕ). c.replication * n) eP, measure t acc F new good),
          )

          sends : (d : ℕ) → d ≡ c.replication * P - agreement_in new before P → d ≡ sent_rows t F ran.state.rows
          unfolding sent_rows
          sends d ed =
              ed
              ∙ ((λ i. c.replication * eP i - agreement-is i)
              ∙ ap (λ (n : ℕ). c.replication * partitions t - n)
              (rows_share t acc F ran.state.rows reached_good ran.finished new answered-bits good.long good.small))

          -- The answer is that of the definition, and the cells written of the rows are those of its layout.
          pub settled : (d : ℕ) → d ≡ c.replication * P - agreement_in new before P → (s : ℕ) → s ≡ (ran_from t (size_of t) before (start_rows t) a).steps
              → (cells : List ℕ) → layout_cells ≤ length cells
              → (◌≡◌ {A = Planned} (record { refusal = 0; size = size; sent = d; finished = f; improvements = s }) (answered (plan_in c former a)))
              × (cells_written t.nodes new P cells ≡ cells_of (plan_in c former a).layout ++ drop layout_cells cells)
          unfolding plan_of plan_from layout_rows ran_from ran_in
          settled d ed s e-steps cells whole = (
            λ i. record {
              refusal = 0;
              size = es i;
              sent = sends d ed i;
              finished = finished_is i;
              improvements = (e-steps ∙ ap (λ (r : Ran State). r.steps) ran_is) i;
            },
            ap (λ (n : ℕ). cells_written t.nodes new n cells) eP
                ∙ (written-layout t new cells (few_partitions t.bits acc.bits) good.long whole
                (λ p l. omega (arith, (good.within.rows p l).size, acc.replication.1))
                ∙ ap (λ (l : Layout). cells_of l ++ drop layout_cells cells) (rows-first t F (start_rows t) a new answered-bits)),
          )
