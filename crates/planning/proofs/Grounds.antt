-- The cluster and its former layout are a ground of improvements, and the pairs that rows share with the former ones tell how many copies their layout
-- sends.
-- Assumes nothing.
use Prim.Native.Nat.{ℕ, ◌+◌, ◌*◌, ◌^◌, ◌≤◌, ◌<◌}
use mathlib.Core.Path.{◌≡◌, refl, sym, ap, ◌∙◌, subst}
use mathlib.Core.List.{List}
use native.Mathlib.Omega.{arith}
use lib.ListN.{length, drop, replicate, length-replicate, length-append, get_or-append}
use lib.Pow.{pow_pos}
use Rattle.cluster.proofs.Accepting.{few_partitions}
use Rattle.sums.specs.TermsSums.{tab}
use Rattle.sets.specs.ModelBits.{bit, bits_at, mask_of}
use Rattle.sets.proofs.Laws.{mask_lt, bit-mask_of}
use Rattle.cells.proofs.Cells.{length-tab, get_or_tab}
use Rattle.exchange.specs.ModelRow.{weigh}
use Rattle.exchange.proofs.Agreeing.{weigh_cong, within_cong}
use Rattle.cluster.specs.Terms.{buffer_rows, Topology, partitions, Layout, sent}
use Rattle.cluster.specs.TermsReading.{Accepted}
use Rattle.incidence.specs.ModelIncidence.{zone_index, cap_at, incidence, zone_cells}
use Rattle.incidence.proofs.TieZones.{zone_below}
use Rattle.incidence.proofs.TieSending.{incidence_le}
use Rattle.incidence.proofs.TieLayouts.{sent-bits}
use Rattle.incidence.proofs.Columns.{cell-column}
use Rattle.sizing.specs.ModelSizing.{nodes_of, cap_cells, size_of, dealt_bits, dealt_rows}
use Rattle.sizing.proofs.Sizes.{beginning_within}
use Rattle.sizing.proofs.Reading.{mates-hold, deal-length, deal-cell, deal-bit}
use Rattle.agreement.specs.ModelAgreement.{agreement_in}
use Rattle.steps.specs.ModelSteps.{State}
use Rattle.improve.proofs.Ground.{Ground, Good, GoodState, agreement-weighs}
use Rattle.planning.specs.ModelPlan.{mates_of, former_masks, start_rows, layout_rows, sent_rows}

-- Rows of nodes of the cluster, within the caps at its size.
abbrev pub GoodRows : Topology → List ℕ → Type 0
GoodRows t = Good (partitions t) (nodes_of t) t.replication t.redundancy (zone_index t) (cap_at t (size_of t))

module _ (t : Topology) (acc : Accepted t) where
  abbrev P : ℕ
  P = partitions t

  abbrev N : ℕ
  N = nodes_of t

  abbrev R : ℕ
  R = t.replication

  -- The dealt rows are good.
  pub start_good : 1 ≤ size_of t → GoodRows t (start_rows t)
  unfolding start_rows
  start_good some =
      let long : P ≤ length {A = ℕ} (replicate buffer_rows 0) = omega (arith, few_partitions t.bits acc.bits, length-replicate {A = ℕ} buffer_rows 0) in
      record {
        long = omega (arith, long, deal-length t (size_of t) (replicate buffer_rows 0));
        small = λ p l. subst (λ (x : ℕ). x < 2 ^ N) (sym (deal-cell t (size_of t) (replicate buffer_rows 0) long p l)) (mask_lt (dealt_bits t (size_of t) p) N);
        within =
            within_cong P N (dealt_bits t (size_of t)) (bits_at (dealt_rows t (size_of t) (replicate buffer_rows 0)))
            (λ p l b k. sym (deal-bit t (size_of t) (replicate buffer_rows 0) long p l b k)) R t.redundancy (zone_index t) (cap_at t (size_of t))
            (beginning_within t acc (size_of t) some (omega arith));
      }

  -- The cluster is a ground of improvements, whatever the former rows, if there are enough of them.
  pub ground_over : (before : List ℕ) → P ≤ length before
      → Ground P N R t.redundancy (zone_index t) (cap_at t (size_of t)) before (mates_of t) (cap_cells t (size_of t))
  unfolding cap_cells
  ground_over before long =
      record {
        partitions = (pow_pos t.bits, few_partitions t.bits acc.bits);
        copied = acc.replication.0;
        zones = record { few = acc.few; inside = zone_below t; mate = mates-hold t acc.few (zone_cells t) (mates_of t) refl refl };
        capped = λ b l. cell-column (cap_at t (size_of t)) N b acc.few l;
        rows = long;
      }

  -- ---- a former layout

  module _ (F : Layout) where
    abbrev fm : List ℕ
    fm = former_masks t F

    pub fm_long : P ≤ length fm
    unfolding former_masks
    fm_long =
        omega (
          arith,
          length-append (tab (λ p. mask_of (incidence t F p) N) P) (drop P (replicate buffer_rows 0)),
          length-tab (λ p. mask_of (incidence t F p) N) P,
        )

    -- The bits of the former rows.
    pub fm_bit : (p : ℕ) → p < P → (b : ℕ) → b < N → bits_at fm p b ≡ incidence t F p b
    unfolding former_masks
    fm_bit p l b k =
        ap (λ (x : ℕ). bit x b)
        (get_or-append (tab (λ p. mask_of (incidence t F p) N) P) (drop P (replicate buffer_rows 0)) 0 p
        (omega (arith, length-tab (λ p. mask_of (incidence t F p) N) P))
        ∙ get_or_tab (λ p. mask_of (incidence t F p) N) P p 0 l)
        ∙ bit-mask_of (incidence t F p) N b k (incidence_le t F p b)

    -- The former rows weigh as the former layout does.
    pub same_weight : (S : ℕ → ℕ → ℕ) → weigh P N (bits_at fm) S ≡ weigh P N (incidence t F) S
    same_weight S = weigh_cong P N (bits_at fm) (incidence t F) S S fm_bit (λ p l b k. refl)

    -- The cluster and its former layout are such a ground.
    pub ground : Ground P N R t.redundancy (zone_index t) (cap_at t (size_of t)) fm (mates_of t) (cap_cells t (size_of t))
    ground = ground_over fm fm_long

    -- Good rows, and what a run keeps of its last walk.
    abbrev pub GoodAt : State → Type 0
    GoodAt = GoodState P N R t.redundancy (zone_index t) (cap_at t (size_of t)) fm

    -- ---- what rows send

    -- What is sent and the pairs shared make up all copies.
    pub measure : (rows : List ℕ) → GoodRows t rows → sent t (layout_rows t rows) F + agreement_in rows fm P ≡ R * P
    unfolding layout_rows
    measure rows g = omega (arith, agreement-weighs ground rows g, same_weight (bits_at rows), sent-bits t acc.ids (bits_at rows) F g.within.rows)

    -- What is reckoned is what is sent.
    pub sent_is : (rows : List ℕ) → GoodRows t rows → sent_rows t F rows ≡ sent t (layout_rows t rows) F
    unfolding sent_rows
    sent_is rows g = omega (arith, measure rows g)
