-- What certify answers of a cluster, its former layout, a layout in hand and a size: the refusals in their order and the prices; and what it owes.
-- Assumes nothing.
use Rattle.std.specs.Prelude.{ℕ, suc, ◌≤◌, ◌<◌, ◌≡◌, cond, List, ◌⊎◌, Result, Ok, Err, ltb, eqb, length, get_or, replicate}
use Rattle.sums.specs.TermsSums.{every_to}
use Rattle.cluster.specs.Terms.{most_nodes, layout_cells, Topology, topology, partitions, Layout, row, ValidAt, IsSize, IsFormer, sent, row_at, formed, rows_in}
use Rattle.cluster.specs.declared.Cluster.{Cluster}
use Rattle.layouts.specs.TermsCheck.{Checked, fault, or_else, check_of}
use Rattle.sizing.specs.ModelSizing.{size_of}
use Rattle.cluster.specs.TermsRefusal.{number_of}
use Rattle.layouts.specs.declared.check.Fault.{Fault}
use Rattle.certificate.specs.TermsCertificate.{Short, costs, Certificate}
use Rattle.certificate.specs.ModelCertificate.{cycle_at, price_cells}

-- ---- the answer

-- One of the first P former rows that is not rising ids followed by zeros: 5.
unfoldable pub former_fault : Topology → List ℕ → ℕ
former_fault t former = cond (every_to (partitions t) (λ p. formed (row_at former p))) 0 5

-- As check at the size, 8 also for a short former buffer, then the former rows.
unfoldable pub certify_fault : Cluster → List ℕ → List ℕ → ℕ → Checked
certify_fault c former assignment size =
    cond (ltb (length former) layout_cells) (fault 8 0) (or_else (check_of c assignment size) (fault (former_fault (topology c) former) 0))

-- The two layouts in lent cells.
abbrev pub former_in : Cluster → List ℕ → Layout
former_in c former = rows_in (partitions (topology c)) former

abbrev pub new_in : Cluster → List ℕ → Layout
new_in c assignment = rows_in (partitions (topology c)) assignment

-- What certify answers: a refusal, 0 for none, its place, as check answers it, and the price of each node, 0 where it is refused.
pub record Certified : Type 0 where
  pub refusal : ℕ
  pub place : ℕ
  pub prices : List ℕ

-- "Refused, all prices are 0."
abbrev pub unpriced : ℕ → ℕ → Certified
unpriced refusal place = record { refusal = refusal; place = place; prices = replicate most_nodes 0 }

abbrev pub priced : List ℕ → Certified
priced prices = record { refusal = 0; place = 0; prices = prices }

-- An answer as these numbers.
abbrev pub certified_as : Result (List ℕ) Fault → Certified
certified_as (Ok prices) = priced prices
certified_as (Err f) = unpriced (number_of f.refusal) f.place

-- Without another fault: 19, a layout is valid at a larger size; 20, one valid at the size sends fewer; else the prices.
unfoldable pub certified_of : Cluster → List ℕ → List ℕ → ℕ → Certified
certified_of c former assignment size =
    let f = certify_fault c former assignment size in
    cond (eqb f.refusal 0)
    (cond (ltb size (size_of (topology c))) (unpriced 19 0)
    (cond (eqb (cycle_at (topology c) (former_in c former) (new_in c assignment)) 0) (priced (price_cells (topology c) (former_in c former) (new_in c assignment))) (unpriced 20 0)))
    (unpriced f.refusal f.place)

-- ---- what is owed

-- The price of node b.
abbrev pub price_in : Certified → ℕ → ℕ
price_in r b = get_or r.prices b 0

-- What is owed to a call without other fault, of the cluster t, the former layout F, the layout L in hand and the size s of this very call.
pub record Owed (t : Topology) (F L : Layout) (s : ℕ) (r : Certified) : Type 0 where
  pub former : IsFormer t F
  pub valid : ValidAt t L s
  pub only : (r.refusal ≡ 0) ⊎ ((r.refusal ≡ 19) ⊎ (r.refusal ≡ 20))
  -- 19 is answered just when a layout is valid at a larger size;
  pub larger : r.refusal ≡ 19 → (M : Layout) × (s' : ℕ) × ValidAt t M s' × (s < s')
  pub largest : (r.refusal ≡ 19 → ⊥) → IsSize t s
  -- and where it is not answered, one of two sums falls short at the next size;
  pub short : (r.refusal ≡ 19 → ⊥) → Short t (suc s)
  -- 20 just when the size is the cluster's and a layout valid there sends fewer;
  pub fewer : r.refusal ≡ 20 → (M : Layout) × ValidAt t M s × (sent t M F < sent t L F)
  -- 0 just when the size is the cluster's and no layout valid there sends fewer;
  pub nearest : r.refusal ≡ 0 → (M : Layout) → ValidAt t M s → sent t L F ≤ sent t M F
  pub exactly : IsSize t s → ((M : Layout) → ValidAt t M s → sent t L F ≤ sent t M F) → r.refusal ≡ 0
  -- and then the prices are a certificate, each row of L a cheapest one,
  pub certified : r.refusal ≡ 0 → Certificate t F s L (price_in r) (λ p. costs t (price_in r) (row F p) (row L p))
  -- and the least: no certificate of the layout has a smaller price anywhere.
  pub least : r.refusal ≡ 0 → (y low : ℕ → ℕ) → Certificate t F s L y low → (b : ℕ) → b < length t.nodes → price_in r b ≤ y b
