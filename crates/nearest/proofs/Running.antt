-- What the run of a plan rests on, over plain lists and numbers: it is the one of the definition, from the beginning dealt at the size.
-- Assumes nothing.
use Prim.Native.Nat.{ℕ, ◌≤◌}
use mathlib.Core.Path.{◌≡◌, refl, sym, ap, ◌∙◌, subst}
use mathlib.Core.Bool.{Bool, true, false}
use mathlib.Core.List.{List}
use native.Mathlib.Omega.{arith}
use lib.ListN.{length, replicate, length-replicate}
use Rattle.sets.specs.ModelBits.{bits_at}
use Rattle.exchange.specs.ModelRow.{weigh}
use Rattle.exchange.proofs.Agreeing.{SameLayout}
use Rattle.ties.specs.ModelOrder.{first_of}
use Rattle.cluster.specs.Terms.{buffer_rows, Topology, topology, partitions, fault_of}
use Rattle.cluster.specs.TermsReading.{Accepted}
use Rattle.incidence.specs.ModelIncidence.{zone_index, cap_at, zone_cells}
use Rattle.cluster.specs.declared.Cluster.{Cluster}
use Rattle.cluster.proofs.Accepting.{few_partitions, accepted}
use Rattle.sizing.specs.ModelSizing.{nodes_of, mate_cells, cap_cells, size_of, dealt_in}
use Rattle.sizing.proofs.Reading.{deal_in, deal-length}
use Rattle.allowances.specs.ModelRun.{Ran}
use Rattle.steps.specs.ModelSteps.{State}
use Rattle.improve.specs.ModelImprove.{ran_in}
use Rattle.planning.specs.ModelPlan.{mates_of, dealt_at, start_rows, ran_from, first_bits, answer_bits}
use Rattle.improve.proofs.Ground.{Ground, Good, run_good}
use Rattle.planning.proofs.Grounds.{GoodRows, start_good, ground_over}
use Rattle.planning.proofs.Rows.{finished_bits, stopped_bits}

module _ (c : Cluster) (e : fault_of c ≡ 0) where
  abbrev t : Topology
  t = topology c

  acc : Accepted t
  acc = accepted c e

  -- The rows that code deals are the dealt rows, and there is one for each partition.
  module _ (size : ℕ) (rows dealt : List ℕ) (e-rows : rows ≡ replicate buffer_rows 0) (e-dealt : dealt ≡ dealt_in c size rows) where
    the_dealt : dealt ≡ dealt_at t size
    the_dealt =
        e-dealt
        ∙ (ap (dealt_in c size) e-rows
        ∙ deal_in c size (replicate buffer_rows 0) e (omega (arith, few_partitions t.bits acc.bits, length-replicate {A = ℕ} buffer_rows 0)))

    pub dealt-fits : (P : ℕ) → P ≡ partitions t → (P ≤ buffer_rows) × (P ≤ length dealt)
    dealt-fits P eP =
        let few : P ≤ buffer_rows = omega (arith, eP, few_partitions t.bits acc.bits) in
        (few, omega (arith, few, ap length the_dealt, deal-length t size (replicate buffer_rows 0), length-replicate {A = ℕ} buffer_rows 0))

  -- The run from the dealt rows, with the numbers and cells that code makes of the cluster.
  module _ (size P n : ℕ) (before rows zones mates caps dealt : List ℕ) (a : ℕ) (es : size ≡ size_of t) (eP : P ≡ partitions t) (en : n ≡ nodes_of t)
      (e-rows : rows ≡ replicate buffer_rows 0) (e-dealt : dealt ≡ dealt_in c size rows) (e-zones : zones ≡ zone_cells t) (e-mates : mates ≡ mate_cells zones n)
      (e-caps : caps ≡ cap_cells t size)
    where
      the_mates : mates ≡ mates_of t
      the_mates = e-mates ∙ (λ i. mate_cells (e-zones i) (en i))

      the_caps : caps ≡ cap_cells t (size_of t)
      the_caps = e-caps ∙ ap (cap_cells t) es

      the_start : dealt ≡ start_rows t
      unfolding start_rows
      the_start = the_dealt size rows dealt e-rows e-dealt ∙ ap (dealt_at t) es

      -- How a run from these rows ended: it made these improvements, finished or not, and left these rows, ordered where it finished.
      abbrev Ended : Bool → ℕ → List ℕ → ℕ → ℕ → List ℕ → List ℕ → List ℕ → Type 0
      Ended f s new P n mates caps start =
          let r = ran_in before P mates caps n c.redundancy a start in
          (f ≡ r.finished) × (s ≡ r.steps) × (length new ≡ length start) × (f ≡ false → new ≡ r.state.rows)
          × (f ≡ true → (R : ℕ) (zone cap : ℕ → ℕ) → Ground P n R c.redundancy zone cap before mates caps → Good P n R c.redundancy zone cap start
          → Good P n R c.redundancy zone cap new × SameLayout P n (bits_at new)
          (first_of P n R c.redundancy zone cap (bits_at before) (weigh P n (bits_at before) (bits_at r.state.rows))))

      module _ (large : 1 ≤ size) (long : partitions t ≤ length before) (f : Bool) (s : ℕ) (new : List ℕ) where
        abbrev ran_on : Ran State
        ran_on = ran_from t (size_of t) before (start_rows t) a

        start : GoodRows t (start_rows t)
        start = start_good t acc (omega (arith, es))

        -- What such a run leaves are good rows with the bits that are answered.
        abbrev Answers : Type 0
        Answers =
            (f ≡ ran_on.finished) × (s ≡ ran_on.steps) × GoodRows t new
            × SameLayout (partitions t) (nodes_of t) (bits_at new) (answer_bits t (size_of t) before f ran_on.state.rows)

        at_the_start : Ended f s new (partitions t) (nodes_of t) (mates_of t) (cap_cells t (size_of t)) (start_rows t) → Answers
        unfolding ran_from first_bits
        at_the_start o = go f refl
          where
            go : (b : Bool) → f ≡ b → Answers
            go true z =
                let w = o.4 z t.replication (zone_index t) (cap_at t (size_of t)) (ground_over t acc before long) start in (
                  o.0,
                  o.1,
                  w.0,
                  subst (SameLayout (partitions t) (nodes_of t) (bits_at new)) (sym (finished_bits t (size_of t) before f ran_on.state.rows z)) w.1,
                )
            go false z = (
              o.0,
              o.1,
              subst (GoodRows t) (sym (o.3 z)) (run_good (ground_over t acc before long) (start_rows t) start a).good,
              subst (SameLayout (partitions t) (nodes_of t) (bits_at new)) (sym (stopped_bits t (size_of t) before f ran_on.state.rows z))
                  (λ p l b k. ap (λ (x : List ℕ). bits_at x p b) (o.3 z)),
            )

        pub answers : Ended f s new P n mates caps dealt → Answers
        answers o =
            at_the_start (subst (λ (X : Type 0). X) (λ i. Ended f s new (eP i) (en i) (the_mates i) (the_caps i) (the_start i)) o)
