-- The layout that a run answers: it is valid at the size and sends what the rows reached send, and where the run finished it is the first that does.
-- Assumes nothing.
use Prim.Native.Nat.{ℕ, ◌≤◌}
use mathlib.Core.Path.{◌≡◌, refl, sym, ◌∙◌, subst}
use mathlib.Core.Bool.{Bool, true, false}
use mathlib.Core.List.{List}
use mathlib.Core.Logic.{◌⊎◌, inl, inr, ⊎_elim}
use native.Mathlib.Omega.{arith}
use Rattle.sets.specs.ModelBits.{bits_at}
use Rattle.exchange.specs.ModelRow.{weigh}
use Rattle.ties.specs.ModelOrder.{Nearest, Foremost}
use Rattle.ties.proofs.Largest.{first_of_lem}
use Rattle.cluster.specs.Terms.{Topology, partitions, Layout, ValidAt, sent}
use Rattle.cluster.specs.TermsFirst.{Before}
use Rattle.cluster.specs.TermsReading.{Accepted}
use Rattle.incidence.specs.ModelIncidence.{zone_index, cap_at, incidence, layout_of}
use Rattle.incidence.proofs.TieSending.{sent_law}
use Rattle.incidence.proofs.TieLayouts.{valid_ids, layout-incidence, within_of_valid, valid_of_within, sent-bits}
use Rattle.incidence.proofs.TieOrder.{same_layout_lem, ids-before}
use Rattle.sizing.specs.ModelSizing.{nodes_of, size_of}
use Rattle.improve.proofs.Ground.{agreement-weighs}
use Rattle.planning.specs.ModelPlan.{former_masks, sent_rows, first_bits, answer_bits}
use Rattle.planning.proofs.Grounds.{GoodRows, ground, same_weight, measure, sent_is}

module _ (t : Topology) (acc : Accepted t) (F : Layout) where
  abbrev P : ℕ
  P = partitions t

  abbrev N : ℕ
  N = nodes_of t

  abbrev fm : List ℕ
  fm = former_masks t F

  -- Layouts at the cluster's size that share as much with the former rows as these rows do.
  abbrev pub Near : List ℕ → (ℕ → ℕ → ℕ) → Type 0
  Near rows = Nearest P N t.replication t.redundancy (zone_index t) (cap_at t (size_of t)) (bits_at fm) (weigh P N (bits_at fm) (bits_at rows))

  module _ (rows : List ℕ) (g : GoodRows t rows) where
    -- The first bits are such a layout, and the first.
    the_first : Near rows (first_bits t (size_of t) fm rows)
        × Foremost P N t.replication t.redundancy (zone_index t) (cap_at t (size_of t)) (bits_at fm) (weigh P N (bits_at fm) (bits_at rows))
        (first_bits t (size_of t) fm rows)
    unfolding first_bits
    the_first =
        first_of_lem P N t.replication t.redundancy (zone_index t) (cap_at t (size_of t)) (bits_at fm) (weigh P N (bits_at fm) (bits_at rows)) (bits_at rows)
        (record { within = g.within; weighs = refl })

    -- Where the run finished, what is answered comes before each other valid layout that sends as much.
    module _ (M : Layout) (v : ValidAt t M (size_of t)) (e : sent t M F ≡ sent_rows t F rows) where
      as_near : Near rows (incidence t M)
      as_near =
          record {
            within = within_of_valid t acc.ids M (size_of t) v;
            weighs =
                omega (
                  arith,
                  sent_is t acc F rows g,
                  measure t acc F rows g,
                  agreement-weighs (ground t acc F) rows g,
                  same_weight t acc F (incidence t M),
                  sent_law t M F acc.ids v.rows,
                );
          }

      back : layout_of t (incidence t M) ≡ M
      back = layout-incidence t acc.ids M v.partition_rows v.rows

      pub answer-first : (layout_of t (answer_bits t (size_of t) fm true rows) ≡ M) ⊎ Before (layout_of t (answer_bits t (size_of t) fm true rows)) M
      unfolding answer_bits
      answer-first =
          let S = first_bits t (size_of t) fm rows in
          ⊎_elim (λ h. inl (same_layout_lem t S (incidence t M) h ∙ back))
          (λ h. inr (subst (Before (layout_of t S)) back
          (ids-before t acc.ids S (incidence t M)
          (λ p l. (valid_ids t acc.ids (S p) (the_first.0.within.rows p l)).many ∙ sym (valid_ids t acc.ids (incidence t M p) (as_near.within.rows p l)).many) h)))
          (the_first.1 (incidence t M) as_near)

    -- What is answered shares as much, finished or not.
    pub answer-near : (f : Bool) → Near rows (answer_bits t (size_of t) fm f rows)
    unfolding answer_bits
    answer-near true = the_first.0
    answer-near false = record { within = g.within; weighs = refl }

    -- Its layout is valid at the size,
    pub answer_valid : 1 ≤ size_of t → (f : Bool) → ValidAt t (layout_of t (answer_bits t (size_of t) fm f rows)) (size_of t)
    answer_valid large f = valid_of_within t acc.ids (answer_bits t (size_of t) fm f rows) (size_of t) large (answer-near f).within

    -- and sends what the rows send.
    pub answer-sent : (f : Bool) → sent_rows t F rows ≡ sent t (layout_of t (answer_bits t (size_of t) fm f rows)) F
    answer-sent f =
        let n = answer-near f in
        omega (
          arith,
          sent_is t acc F rows g,
          measure t acc F rows g,
          agreement-weighs (ground t acc F) rows g,
          n.weighs,
          same_weight t acc F (answer_bits t (size_of t) fm f rows),
          sent-bits t acc.ids (answer_bits t (size_of t) fm f rows) F n.within.rows,
        )
