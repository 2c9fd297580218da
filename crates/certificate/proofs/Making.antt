-- What the functions of pricing rest on, over plain lists and numbers: the highest level as the levels are passed, the masks that code makes of the cluster
-- and the two layouts, and the prices that it makes of the levels.
-- Assumes nothing.
use Prim.Native.Nat.{ℕ, zero, suc, ◌+◌, ◌-◌, ◌<◌, max}
use mathlib.Core.Path.{◌≡◌, refl, sym, ap, ap₂, ◌∙◌, subst}
use mathlib.Core.List.{List}
use mathlib.Core.Bool.{Bool, true, cond}
use native.Mathlib.Omega.{arith}
use native.Mathlib.Numerals.{add-one}
use lib.Dec.{eqb}
use lib.ListN.{get_or, replicate}
use borrow.Author.Tests.{eq-eqb, ne_eqb}
use Rattle.sums.specs.ModelSums.{max_to}
use Rattle.cluster.specs.Terms.{buffer_rows, Topology, topology, partitions, Layout, ValidAt, fault_of}
use Rattle.cluster.specs.TermsReading.{Accepted}
use Rattle.cluster.specs.declared.Cluster.{Cluster}
use Rattle.cluster.proofs.Accepting.{accepted}
use Rattle.incidence.specs.ModelIncidence.{column, zone_cells}
use Rattle.incidence.proofs.Columns.{column_cong}
use Rattle.masks.specs.ModelMasks.{masks_read, rows_formed}
use Rattle.exchange.specs.ModelLevels.{Outcome, potential_found, dist, outcome}
use Rattle.levels.specs.ModelGraph.{graph_of}
use Rattle.cycles.specs.ModelFound.{walk_cells, found_length}
use Rattle.sizing.specs.ModelSizing.{nodes_of, mate_cells, cap_cells, size_of}
use Rattle.steps.specs.ModelSteps.{arcs_in, cycle_in}
use Rattle.planner.proofs.Settling.{before-is}
use Rattle.certificate.specs.ModelCertificate.{price_by, arcs_at, graph_at, cycle_at, price_cells}
use Rattle.certificate.specs.TermsCertify.{former_in, new_in, unpriced, priced}
use Rattle.certificate.proofs.Levels.{ends}

-- ---- the highest level

-- A turn of the loop that looks for it.
pub max_next : (f : ℕ → ℕ) (n s v r : ℕ) → s ≡ max_to n f → v ≡ f n → r ≡ max s v → r ≡ max_to (n + 1) f
unfolding max_to
max_next f n s v r e d q = q ∙ (ap₂ max e d ∙ ap (λ (k : ℕ). max_to k f) (sym (add-one n)))

-- The end of the loop.
pub max_passed : (f : ℕ → ℕ) (v n s : ℕ) → s ≡ max_to v f → v ≡ n → s ≡ max_to n f
max_passed f v n s e d = e ∙ ap (λ (k : ℕ). max_to k f) d

-- Equal levels have the same highest one.
max_cong : (n : ℕ) (f g : ℕ → ℕ) → ((i : ℕ) → i < n → f i ≡ g i) → max_to n f ≡ max_to n g
unfolding max_to
max_cong zero f g h = refl
max_cong (suc n) f g h = ap₂ max (max_cong n f g (λ i l. h i (omega arith))) (h n (omega arith))

-- ---- what code makes of the cluster and the two layouts

module _ (c : Cluster) (e : fault_of c ≡ 0) (former assignment : List ℕ) where
  abbrev t : Topology
  t = topology c

  abbrev F : Layout
  F = former_in c former

  abbrev L : Layout
  L = new_in c assignment

  -- The masks of the exchange graph.
  pub arcs_are : rows_formed former (partitions t) ≡ true → rows_formed assignment (partitions t) ≡ true → (P n : ℕ) → P ≡ partitions t → n ≡ nodes_of t
      → (before rows zones mates caps arcs : List ℕ) → before ≡ masks_read t.nodes former P (replicate buffer_rows 0)
      → rows ≡ masks_read t.nodes assignment P (replicate buffer_rows 0) → zones ≡ zone_cells t → mates ≡ mate_cells zones n → caps ≡ cap_cells t (size_of t)
      → arcs ≡ arcs_in before P mates caps n c.redundancy rows → arcs ≡ arcs_at t F L
  unfolding arcs_at
  arcs_are ff fa P n eP en before rows zones mates caps arcs eb er ez em ec ea =
      let b = before-is c e former P before ff eP eb in
      let r = before-is c e assignment P rows fa eP er in
      let m = em ∙ (λ i. mate_cells (ez i) (en i)) in
      ea ∙ (λ i. arcs_in (b i) (eP i) (m i) (ec i) (en i) c.redundancy (r i))

  module _ (arcs : List ℕ) (ea : arcs ≡ arcs_at t F L) (n : ℕ) (en : n ≡ nodes_of t) where
    -- The length of the cycle that is found.
    pub found-is : (m : ℕ) → m ≡ found_length arcs n (replicate walk_cells 0) → m ≡ cycle_at t F L
    unfolding cycle_at cycle_in arcs_at
    found-is m q = q ∙ (λ i. found_length (ea i) (en i) (replicate walk_cells 0))

    -- The answer, where there is one,
    pub fewer_answer : (m : ℕ) → m ≡ found_length arcs n (replicate walk_cells 0) → (m ≡ 0 → ⊥)
        → unpriced 20 0 ≡ cond (eqb (cycle_at t F L) 0) (priced (price_cells t F L)) (unpriced 20 0)
    fewer_answer m q some =
        sym (ap (λ (b : Bool). cond b (priced (price_cells t F L)) (unpriced 20 0)) (ne_eqb (cycle_at t F L) 0 (λ z. some (found-is m q ∙ z))))

    -- and where there is none.
    module _ (v : ValidAt t L (size_of t)) (m : ℕ) (em : m ≡ found_length arcs n (replicate walk_cells 0)) (ez : m ≡ 0) (levels : List ℕ)
        (told : (k : ℕ) → outcome (graph_of arcs n) ≡ potential_found k → (b : ℕ) → b < n → get_or levels b 0 ≡ dist (graph_of arcs n) k b) where
      abbrev acc : Accepted t
      acc = accepted c e

      none : cycle_at t F L ≡ 0
      none = sym (found-is m em) ∙ ez

      abbrev k : ℕ
      k = (ends t acc F L v none).0

      stands : outcome (graph_at t F L) ≡ potential_found k
      stands = (ends t acc F L v none).1

      level : (b : ℕ) → b < nodes_of t → get_or levels b 0 ≡ dist (graph_at t F L) k b
      level =
          subst (λ (X : Type 0). X)
          (λ i. (k : ℕ) → outcome (graph_of (ea i) (en i)) ≡ potential_found k → (b : ℕ) → b < en i → get_or levels b 0 ≡ dist (graph_of (ea i) (en i)) k b) told k stands

      prices_are : (prices : List ℕ) → prices ≡ column (λ b. max_to n (λ v. get_or levels v 0) - get_or levels b 0) n → prices ≡ price_cells t F L
      unfolding price_cells price_by
      prices_are prices q =
          q
          ∙ ((λ i. column (λ b. max_to (en i) (λ v. get_or levels v 0) - get_or levels b 0) (en i))
          ∙ column_cong (λ b. max_to (nodes_of t) (λ v. get_or levels v 0) - get_or levels b 0) (price_by (graph_at t F L) (outcome (graph_at t F L))) (nodes_of t)
          (λ b l. ap₂ ◌-◌ (max_cong (nodes_of t) (λ v. get_or levels v 0) (dist (graph_at t F L) k) level) (level b l)
          ∙ ap (λ (o : Outcome). price_by (graph_at t F L) o b) (sym stands)))

      pub priced-answer : (prices : List ℕ) → prices ≡ column (λ b. max_to n (λ v. get_or levels v 0) - get_or levels b 0) n
          → priced prices ≡ cond (eqb (cycle_at t F L) 0) (priced (price_cells t F L)) (unpriced 20 0)
      priced-answer prices q =
          ap priced (prices_are prices q) ∙ sym (ap (λ (b : Bool). cond b (priced (price_cells t F L)) (unpriced 20 0)) (eq-eqb (cycle_at t F L) 0 none))
