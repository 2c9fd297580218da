-- Where the search of the exchange graph of a layout ends with a potential, what each node lacks of the highest level are prices, and the least; where it
-- ends with a cycle, another layout of the size sends fewer.
-- Assumes nothing.
use Prim.Native.Nat.{ℕ, ◌-◌, ◌^◌, ◌≤◌, ◌<◌}
use mathlib.Core.Path.{◌≡◌, refl, sym, ap, ◌∙◌, subst}
use mathlib.Core.Bool.{true}
use mathlib.Core.List.{List}
use mathlib.Core.Logic.{⊎_elim}
use native.Mathlib.Omega.{arith}
use lib.ListN.{get_or, drop, replicate, get_or-append}
use Rattle.sums.specs.TermsSums.{tab}
use Rattle.sums.specs.ModelSums.{max_to}
use Rattle.sums.proofs.Tests.{true_or_false}
use Rattle.sets.specs.ModelBits.{bits_at, mask_of}
use Rattle.sets.proofs.Laws.{bit_le, mask_lt}
use Rattle.cells.proofs.Cells.{length-tab, get_or_tab}
use Rattle.exchange.specs.ModelRow.{Exchange, swap}
use Rattle.exchange.specs.ModelPrices.{Prices}
use Rattle.exchange.specs.ModelLevels.{Outcome, potential_found, dist, outcome}
use Rattle.exchange.proofs.Agreeing.{SameLayout, same_layout_sym, valid_cong, swap_cong, copies_cong, within_cong}
use Rattle.exchange.proofs.Prices.{potential_prices}
use Rattle.exchange.proofs.Search.{outcome_potential}
use Rattle.exchange.proofs.Join.{graph_potential}
use Rattle.ties.specs.ModelOrder.{any}
use Rattle.cluster.specs.Terms.{buffer_rows, Topology, partitions, Layout, row, ValidAt, sent}
use Rattle.cluster.specs.TermsReading.{Accepted}
use Rattle.incidence.specs.ModelIncidence.{zone_index, cap_at, incidence}
use Rattle.incidence.proofs.TieLayouts.{layout-incidence, within_of_valid, valid_of_within}
use Rattle.incidence.proofs.TieOrder.{same_layout_lem}
use Rattle.incidence.proofs.Columns.{cell-column}
use Rattle.sizing.specs.ModelSizing.{nodes_of, size_of}
use Rattle.steps.specs.ModelSteps.{State}
use Rattle.improve.specs.ModelImprove.{begun}
use Rattle.improve.proofs.Ground.{GoodState, graph, witness, the_graph, some, found_none, sought-none, begun_good, next_good, next-gains}
use Rattle.planning.specs.ModelPlan.{former_masks, layout_rows, improves_at, next_at}
use Rattle.planning.proofs.Grounds.{GoodRows, fm_long, fm_bit, ground, measure}
use Rattle.certificate.specs.TermsCertificate.{costs, Certificate}
use Rattle.certificate.specs.ModelCertificate.{price_by, arcs_at, graph_at, cycle_at, price_cells}
use Rattle.certificate.proofs.Duality.{has-certificate, certificate-prices}
use Rattle.certificate.proofs.Least.{prices-least}

-- Prices are read at nodes only: they are prices of every layout with the same bits, over weights with the same values.
module _ (P N R Z : ℕ) (zone cap : ℕ → ℕ) (g f S T : ℕ → ℕ → ℕ) (y z : ℕ → ℕ) (weights : SameLayout P N g f) (bits : SameLayout P N S T)
    (same : (b : ℕ) → b < N → y b ≡ z b) where
  -- An exchange of the one is one of the other.
  back : (p a b : ℕ) → p < P → Exchange N R Z zone any T p a b → Exchange N R Z zone any S p a b
  back p a b l e =
      record {
        a_node = e.a_node;
        b_node = e.b_node;
        a_in = bits p l a e.a_node ∙ e.a_in;
        b_out = bits p l b e.b_node ∙ e.b_out;
        a_free = refl;
        b_free = refl;
        valid =
            valid_cong N zone (swap (T p) a b) (swap (S p) a b) (swap_cong N zone (T p) (S p) (λ x k. sym (bits p l x k)) a b) R Z e.valid;
      }

  pub prices_cong : Prices P N R Z zone cap g any S y → Prices P N R Z zone cap f any T z
  prices_cong c =
      record {
        full = λ b l o. sym (copies_cong P N S T bits b l) ∙ c.full b l (omega (arith, same b l));
        fair = λ p a b l e.
            omega (
              arith,
              c.fair p a b l (back p a b l e),
              same a e.a_node,
              same b e.b_node,
              weights p l a e.a_node,
              weights p l b e.b_node,
            );
      }

module _ (t : Topology) (acc : Accepted t) (F L : Layout) (v : ValidAt t L (size_of t)) where
  abbrev P : ℕ
  P = partitions t

  abbrev N : ℕ
  N = nodes_of t

  abbrev R : ℕ
  R = t.replication

  abbrev Z : ℕ
  Z = t.redundancy

  abbrev fm : List ℕ
  fm = former_masks t F

  abbrev rows : List ℕ
  rows = former_masks t L

  abbrev caps : ℕ → ℕ
  caps = cap_at t (size_of t)

  -- The rows of the layout, as masks, are good.
  small : (p : ℕ) → p < P → get_or rows p 0 < 2 ^ N
  unfolding former_masks
  small p l =
      subst (λ (x : ℕ). x < 2 ^ N)
      (sym (get_or-append (tab (λ p. mask_of (incidence t L p) N) P) (drop P (replicate buffer_rows 0)) 0 p (omega (arith, length-tab (λ p. mask_of (incidence t L p) N) P))
      ∙ get_or_tab (λ p. mask_of (incidence t L p) N) P p 0 l))
      (mask_lt (incidence t L p) N)

  pub rows_good : GoodRows t rows
  rows_good =
      record {
        long = fm_long t acc L;
        small = small;
        within =
            within_cong P N (incidence t L) (bits_at rows) (λ p l b k. sym (fm_bit t acc L p l b k)) R Z (zone_index t) caps
            (within_of_valid t acc.ids L (size_of t) v);
      }

  -- There is a node.
  pub has-nodes : 1 ≤ N
  has-nodes = some (ground t acc F) rows rows_good

  -- They stand for it.
  pub rows-stand : layout_rows t rows ≡ L
  unfolding layout_rows
  rows-stand = same_layout_lem t (bits_at rows) (incidence t L) (fm_bit t acc L) ∙ layout-incidence t acc.ids L v.partition_rows v.rows

  -- ---- a cycle is found

  abbrev s₀ : State
  s₀ = begun rows

  good₀ : GoodState P N R Z (zone_index t) caps fm s₀
  good₀ = begun_good (ground t acc F) rows rows_good

  improves : (cycle_at t F L ≡ 0 → ⊥) → improves_at t F s₀ ≡ true
  unfolding cycle_at
  improves n = ⊎_elim (λ e. e) (λ e. absurd (n (sought-none (ground t acc F) s₀ good₀ e))) (true_or_false (improves_at t F s₀))

  -- Where a cycle is found, another layout of the size sends fewer.
  pub cycle_fewer : (cycle_at t F L ≡ 0 → ⊥) → (M : Layout) × ValidAt t M (size_of t) × (sent t M F < sent t L F)
  cycle_fewer n =
      let e = improves n in
      let new = (next_at t F s₀).rows in
      let g = (next_good (ground t acc F) s₀ good₀ e).good in (
        layout_rows t new,
        unfold layout_rows in valid_of_within t acc.ids (bits_at new) (size_of t) v.positive g.within,
        omega (
          arith,
          (next-gains (ground t acc F) s₀ good₀ e).0,
          measure t acc F rows rows_good,
          measure t acc F new g,
          ap (λ (M : Layout). sent t M F) rows-stand,
        ),
      )

  -- ---- no cycle is found

  module _ (none : cycle_at t F L ≡ 0) where
    -- The search ends with a potential.
    pub ends : (k : ℕ) × (outcome (graph_at t F L) ≡ potential_found k)
    unfolding cycle_at arcs_at
    ends = found_none (ground t acc F) rows rows_good none

    abbrev k : ℕ
    k = ends.0

    -- The prices by the levels.
    abbrev lacks : ℕ → ℕ
    lacks b = max_to N (dist (graph_at t F L) k) - dist (graph_at t F L) k b

    cell-price : (b : ℕ) → b < N → lacks b ≡ get_or (price_cells t F L) b 0
    unfolding price_cells price_by
    cell-price b l =
        ap (λ (o : Outcome). price_by (graph_at t F L) o b) (sym ends.1)
        ∙ sym (cell-column (price_by (graph_at t F L) (outcome (graph_at t F L))) N b acc.few l)

    level-prices : Prices P N R Z (zone_index t) caps (bits_at fm) any (bits_at rows) lacks
    unfolding arcs_at
    level-prices =
        potential_prices P N R Z (zone_index t) caps (bits_at fm) any (bits_at rows) (dist (graph_at t F L) k) rows_good.within
        (graph_potential P N R Z 1 (zone_index t) caps (bits_at fm) any (bits_at rows) (graph (ground t acc F) rows rows_good) (witness (ground t acc F) rows rows_good)
        (the_graph (ground t acc F) rows rows_good) (dist (graph_at t F L) k)
        (outcome_potential (graph_at t F L) k (some (ground t acc F) rows rows_good) ends.1).1)

    -- The layout has a certificate, with the prices in the cells,
    pub levels-certify : Certificate t F (size_of t) L (λ b. get_or (price_cells t F L) b 0) (λ p. costs t (λ b. get_or (price_cells t F L) b 0) (row F p) (row L p))
    levels-certify =
        has-certificate t acc.ids F (size_of t) L v (λ b. get_or (price_cells t F L) b 0)
        (prices_cong P N R Z (zone_index t) caps (bits_at fm) (incidence t F) (bits_at rows) (incidence t L) lacks (λ b. get_or (price_cells t F L) b 0) (fm_bit t acc F)
        (fm_bit t acc L) cell-price level-prices)

    -- and none has a smaller price anywhere.
    pub levels-least : (y low : ℕ → ℕ) → Certificate t F (size_of t) L y low → (b : ℕ) → b < N → get_or (price_cells t F L) b 0 ≤ y b
    unfolding arcs_at
    levels-least y low c b l =
        omega (
          arith,
          cell-price b l,
          prices-least P N R Z 1 (zone_index t) caps (bits_at fm) any (bits_at rows) (graph (ground t acc F) rows rows_good) (witness (ground t acc F) rows rows_good)
              (the_graph (ground t acc F) rows rows_good) (λ p b. bit_le (get_or fm p 0) b) y
              (prices_cong P N R Z (zone_index t) caps (incidence t F) (bits_at fm) (incidence t L) (bits_at rows) y y (same_layout_sym (fm_bit t acc F))
              (same_layout_sym (fm_bit t acc L)) (λ b l. refl) (certificate-prices t acc.ids F (size_of t) L y low c))
              k b (omega (arith, (outcome_potential (graph_at t F L) k (some (ground t acc F) rows rows_good) ends.1).0)) l,
        )
