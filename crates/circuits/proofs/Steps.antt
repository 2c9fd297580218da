-- What the functions rest on, over plain lists and numbers: a turn, and a walk in cells that are written.
-- Assumes nothing.
use Prim.Native.Nat.{ℕ, suc, ◌+◌, ◌≤◌, ◌<◌}
use mathlib.Core.Path.{◌≡◌, refl, sym, ap, ◌∙◌}
use mathlib.Core.Bool.{Bool, true, false, ◌&&◌, and-true, and-false}
use mathlib.Core.List.{List}
use native.Mathlib.Numerals.{add-one}
use native.Mathlib.Omega.{arith}
use lib.Dec.{ltb}
use lib.ListN.{length, get_or}
use Rattle.sums.specs.TermsSums.{every_to}
use Rattle.sums.proofs.Tests.{every_cong, every_fails}
use Rattle.cells.specs.ModelCells.{put}
use Rattle.cells.proofs.Cells.{get_or_put-first, get_or_put-out}
use Rattle.exchange.specs.ModelUncross.{Walk, Same}
use Rattle.walks.specs.ModelWalks.{witness_of, walk_in, renewed_at, renewed, stands_at, stands}
use Rattle.freeing.specs.ModelFreed.{freed_of}
use Rattle.exchanging.specs.ModelExchanged.{exchanged, walked_of}
use Rattle.circuits.specs.ModelCircuits.{witness_in, cycle_of, turned_of}
use Rattle.freeing.proofs.Freeing.{freed_same, freed_none}
use Rattle.exchanging.proofs.Making.{length_exchanged, walked_same}

-- ---- a turn

module _ (rows former : List ℕ) (P : ℕ) (mates : List ℕ) (all z : ℕ) where
  -- Walks that are the same lead to the same rows.
  pub turned_same : {w u : Walk} → Same w u → turned_of rows former P mates all z w ≡ turned_of rows former P mates all z u
  turned_same s = walked_same P (freed_same rows former P mates all z s) rows

  -- A walk without arcs leaves the rows as they are.
  pub turned_none : (w : Walk) → w.len ≡ 0 → turned_of rows former P mates all z w ≡ rows
  unfolding exchanged
  turned_none w e = ap (λ (u : Walk). walked_of P u rows) (freed_none rows former P mates all z w e) ∙ ap (λ (k : ℕ). exchanged P w.node w.partition k rows) e

  -- The rows stay as many.
  pub turned-length : (w : Walk) → length (turned_of rows former P mates all z w) ≡ length rows
  turned-length w = let u = freed_of rows former P mates all z w in length_exchanged P u.node u.partition rows u.len

-- ---- a walk in cells

-- The walk of a cycle that is loaded into cells.
pub loaded : (rows former : List ℕ) (P : ℕ) (mates arcs : List ℕ) (all z : ℕ) (nodes : List ℕ) (m : ℕ) (ys qs y₀ q₀ : List ℕ)
    → ys ≡ put 0 (λ t. get_or nodes t 0) (m + 1) y₀ → m + 1 ≤ length y₀ → qs ≡ put 0 (witness_in nodes rows former P mates arcs all z) m q₀ → m ≤ length q₀
    → Same (cycle_of rows former P mates arcs all z nodes m) (walk_in m ys qs)
loaded rows former P mates arcs all z nodes m ys qs y₀ q₀ e a f b =
    record {
      lens = refl;
      nodes = λ t l. sym (ap (λ (s : List ℕ). get_or s t 0) e ∙ get_or_put-first (λ t. get_or nodes t 0) (m + 1) y₀ t 0 (omega arith) a);
      partitions = λ t l.
          ap (λ (k : ℕ). witness_of rows former P mates arcs all z (get_or nodes k 0) (get_or nodes t 0)) (sym (add-one t))
          ∙ sym (ap (λ (s : List ℕ). get_or s t 0) f ∙ get_or_put-first (witness_in nodes rows former P mates arcs all z) m q₀ t 0 l b);
    }

-- New partitions for the arcs of a walk in cells, arc by arc: qs holds those of the first t arcs.
module _ (rows former : List ℕ) (P : ℕ) (mates : List ℕ) (all z : ℕ) (caps ys q₀ : List ℕ) where
  -- The new partition of the arc t, and whether it stands.
  abbrev pub renewed_in : ℕ → ℕ
  renewed_in t = renewed_at rows former P mates all z (get_or q₀ t 0) (get_or ys (t + 1) 0) (get_or ys t 0)

  abbrev pub stands_in : ℕ → Bool
  stands_in t = stands_at rows former P mates all z caps (get_or q₀ t 0) (get_or ys (t + 1) 0) (get_or ys t 0)

  module _ (qs : List ℕ) (t : ℕ) (e : qs ≡ put 0 renewed_in t q₀) where
    -- The arc t is still at its old partition.
    still : get_or qs t 0 ≡ get_or q₀ t 0
    still = ap (λ (s : List ℕ). get_or s t 0) e ∙ get_or_put-out 0 renewed_in t q₀ t 0 (λ j l f. omega arith)

    -- What was found of it is of the walk as it was.
    pub stands_at_lem : (b : Bool) → b ≡ stands_at rows former P mates all z caps (get_or qs t 0) (get_or ys (t + 1) 0) (get_or ys t 0) → stands_in t ≡ b
    stands_at_lem b h = sym (h ∙ ap (λ (q : ℕ). stands_at rows former P mates all z caps q (get_or ys (t + 1) 0) (get_or ys t 0)) still)

    pub renewed-at : (r : ℕ) → r ≡ renewed_at rows former P mates all z (get_or qs t 0) (get_or ys (t + 1) 0) (get_or ys t 0) → r ≡ renewed_in t
    renewed-at r h = h ∙ ap (λ (q : ℕ). renewed_at rows former P mates all z q (get_or ys (t + 1) 0) (get_or ys t 0)) still

  every-arc : (m : ℕ)
      → every_to m stands_in ≡ every_to m (λ t. stands_at rows former P mates all z caps (get_or q₀ t 0) (get_or ys (suc t) 0) (get_or ys t 0))
  every-arc m =
      every_cong m stands_in (λ t. stands_at rows former P mates all z caps (get_or q₀ t 0) (get_or ys (suc t) 0) (get_or ys t 0))
      (λ t l. ap (λ (k : ℕ). stands_at rows former P mates all z caps (get_or q₀ t 0) (get_or ys k 0) (get_or ys t 0)) (add-one t))

  -- An arc does not stand.
  pub renew_fails : (m t : ℕ) → t < m → stands_in t ≡ false → false ≡ stands rows former P mates all z caps (walk_in m ys q₀)
  unfolding stands
  renew_fails m t l e = sym (ap (λ (b : Bool). ltb 0 m && b) (sym (every-arc m) ∙ every_fails m t stands_in l e) ∙ and-false (ltb 0 m))

  -- All stand.
  pub renew-stands : (m : ℕ) → every_to m stands_in ≡ true → ltb 0 m ≡ stands rows former P mates all z caps (walk_in m ys q₀)
  unfolding stands
  renew-stands m e = sym (ap (λ (b : Bool). ltb 0 m && b) (sym (every-arc m) ∙ e) ∙ and-true (ltb 0 m))

  pub renew-made : (m : ℕ) (qs : List ℕ) → qs ≡ put 0 renewed_in m q₀ → m ≤ length q₀
      → Same (renewed rows former P mates all z (walk_in m ys q₀)) (walk_in m ys qs)
  renew-made m qs e b =
      record {
        lens = refl;
        nodes = λ t l. refl;
        partitions = λ t l.
            ap (λ (k : ℕ). renewed_at rows former P mates all z (get_or q₀ t 0) (get_or ys k 0) (get_or ys t 0)) (sym (add-one t))
            ∙ sym (ap (λ (s : List ℕ). get_or s t 0) e ∙ get_or_put-first renewed_in m q₀ t 0 l b);
      }
