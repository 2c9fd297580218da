-- The laws of the levels: what one scan over the arcs into a node does, how far a level may fall, and what made a node fall.
-- Assumes nothing.
use Prim.Native.Nat.{ℕ, zero, suc, ◌+◌, ◌-◌, ◌*◌, ◌≤◌, ◌<◌}
use mathlib.Core.Path.{◌≡◌, refl, sym, ap, ◌∙◌, subst}
use mathlib.Core.Bool.{Bool, true, false, cond, ◌&&◌, false≢true}
use mathlib.Core.Logic.{◌⊎◌, inl, inr, ⊎_elim}
use native.Mathlib.Nat.{mul-le-mul_right}
use native.Mathlib.Omega.{arith}
use lib.Dec.{ltb, eqb}
use borrow.Author.Tests.{ltb-true, ltb-false, eqb-true, eqb-false}
use Rattle.sums.proofs.Sum.{lt_or_ge}
use Rattle.sums.proofs.Tests.{true_or_false}
use Rattle.exchange.specs.ModelLevels.{Graph, Fall, relax, scan, level, dist, from, fell}

-- ---- one scan

-- A look at the arc from u, from f to r: the arc passes, offers less, and is taken; or all stays, and if it passes, it offers no less.
abbrev pub Looked : Graph → (ℕ → ℕ) → ℕ → ℕ → Bool → Fall → Fall → Type 0
Looked G d v u on f r =
    ((on ≡ true) × (G.arc u v ≡ 1) × (d u + G.W u v < f.dist + G.C) × (r ≡ record { dist = d u + G.W u v - G.C; from = u }))
    ⊎ ((r ≡ f) × (on ≡ true → G.arc u v ≡ 1 → f.dist + G.C ≤ d u + G.W u v))

-- A look at an arc goes one of these two ways.
pub relax_cases : (G : Graph) (d : ℕ → ℕ) (v u : ℕ) (on : Bool) (f : Fall) → Looked G d v u on f (relax G d v u on f)
unfolding relax
relax_cases G d v u on f = go on (eqb (G.arc u v) 1) (ltb (d u + G.W u v) (f.dist + G.C)) refl refl
  where
    go : (o a l : Bool) → eqb (G.arc u v) 1 ≡ a → ltb (d u + G.W u v) (f.dist + G.C) ≡ l
        → Looked G d v u o f (cond (o && (a && l)) (record { dist = d u + G.W u v - G.C; from = u }) f)
    go false a l p q = inr (refl, λ h e. absurd (false≢true h))
    go true false l p q = inr (refl, λ h e. absurd (eqb-false (G.arc u v) 1 p e))
    go true true false p q = inr (refl, λ h e. ltb-false (d u + G.W u v) (f.dist + G.C) q)
    go true true true p q = inl (refl, eqb-true (G.arc u v) 1 p, ltb-true (d u + G.W u v) (f.dist + G.C) q, refl)

-- The fall f of v was taken by an arc from a node below n.
pub record Took (G : Graph) (d : ℕ → ℕ) (v n : ℕ) (f : Fall) : Type 0 where
  pub below : f.dist < d v
  pub node : f.from < n
  pub arc : G.arc f.from v ≡ 1
  pub exact : f.dist + G.C ≡ d f.from + G.W f.from v

module _ (G : Graph) (on : ℕ → Bool) (d : ℕ → ℕ) (v : ℕ) where
  step_le : (u : ℕ) → (scan G on d v (suc u)).dist ≤ (scan G on d v u).dist
  unfolding scan
  step_le u =
      ⊎_elim (λ s. omega (arith, s.2, ap (λ (f : Fall). f.dist) s.3)) (λ s. omega (arith, ap (λ (f : Fall). f.dist) s.0))
      (relax_cases G d v u (on u) (scan G on d v u))

  -- A scan never raises.
  pub scan_le : (n : ℕ) → (scan G on d v n).dist ≤ d v
  unfolding scan
  scan_le zero = omega arith
  scan_le (suc u) = omega (arith, step_le u, scan_le u)

  -- After a scan no arc that passes offers less.
  pub scan_relaxed : (n u : ℕ) → u < n → G.C ≤ d u → on u ≡ true → G.arc u v ≡ 1 → (scan G on d v n).dist + G.C ≤ d u + G.W u v
  unfolding scan
  scan_relaxed zero u l c o a = absurd (omega arith)
  scan_relaxed (suc n) u l c o a =
      ⊎_elim (λ b. omega (arith, step_le n, scan_relaxed n u b c o a))
      (λ b. let e : u ≡ n = omega arith in subst (λ (k : ℕ). (scan G on d v (suc k)).dist + G.C ≤ d u + G.W u v) e here) (lt_or_ge u n)
    where
      here : (scan G on d v (suc u)).dist + G.C ≤ d u + G.W u v
      here =
          ⊎_elim (λ s. omega (arith, ap (λ (f : Fall). f.dist) s.3)) (λ s. omega (arith, s.1 o a, ap (λ (f : Fall). f.dist) s.0))
          (relax_cases G d v u (on u) (scan G on d v u))

  -- A scan leaves a node as it was, or takes it down by an arc.
  pub scan_cases : (n : ℕ) → ((u : ℕ) → u < n → G.C ≤ d u)
      → (scan G on d v n ≡ record { dist = d v; from = v }) ⊎ Took G d v n (scan G on d v n)
  unfolding scan
  scan_cases zero c = inl refl
  scan_cases (suc u) c = go (scan_cases u (λ i l. c i (omega arith))) (relax_cases G d v u (on u) (scan G on d v u))
    where
      f : Fall
      f = scan G on d v u

      go : {r : Fall} → (f ≡ record { dist = d v; from = v }) ⊎ Took G d v u f → Looked G d v u (on u) f r
          → (r ≡ record { dist = d v; from = v }) ⊎ Took G d v (suc u) r
      go h (inl s) =
          inr
          (subst (λ (f : Fall). Took G d v (suc u) f) (sym s.3)
          (record { below = omega (arith, s.2, scan_le u, c u (omega arith)); node = omega arith; arc = s.1; exact = omega (arith, c u (omega arith)) }))
      go (inl e) (inr s) = inl (s.0 ∙ e)
      go (inr t) (inr s) =
          inr
          (subst (λ (f : Fall). Took G d v (suc u) f) (sym s.0)
          (record { below = t.below; node = omega (arith, t.node); arc = t.arc; exact = t.exact }))

-- A scan may skip the nodes whose arcs offer nothing below the start.
pub scan-skip : (G : Graph) (on : ℕ → Bool) (d : ℕ → ℕ) (v n : ℕ)
    → ((u : ℕ) → u < n → on u ≡ false → G.arc u v ≡ 1 → d v + G.C ≤ d u + G.W u v)
    → scan G on d v n ≡ scan G (λ u. true) d v n
unfolding scan relax
scan-skip G on d v zero h = refl
scan-skip G on d v (suc u) h =
    ap (λ (f : Fall). relax G d v u (on u) f) (scan-skip G on d v u (λ i l. h i (omega arith))) ∙ go (on u) refl
  where
    all : Fall
    all = scan G (λ i. true) d v u

    go : (b : Bool) → on u ≡ b → relax G d v u b all ≡ relax G d v u true all
    go true e = refl
    go false e =
        ⊎_elim (λ s. absurd (omega (arith, s.2, h u (omega arith) e s.1, scan_le G (λ i. true) d v u))) (λ s. sym s.0)
        (relax_cases G d v u true all)

-- ---- levels

module _ (G : Graph) where
  -- A level is at most the one before.
  pub dist_falls : (k v : ℕ) → dist G (suc k) v ≤ dist G k v
  unfolding level
  dist_falls k v = scan_le G (λ u. true) (dist G k) v G.N

  -- A later level is at most an earlier one.
  pub dist_mono : (j k v : ℕ) → j ≤ k → dist G k v ≤ dist G j v
  dist_mono j zero v l = let e : j ≡ 0 = omega arith in subst (λ (i : ℕ). dist G 0 v ≤ dist G i v) (sym e) (omega arith)
  dist_mono j (suc k) v l =
      ⊎_elim (λ a. omega (arith, dist_falls k v, dist_mono j k v (omega arith)))
      (λ b. let e : j ≡ suc k = omega arith in subst (λ (i : ℕ). dist G (suc k) v ≤ dist G i v) (sym e) (omega arith)) (lt_or_ge j (suc k))

  -- No distance is above that of level 0.
  pub dist_le : (k v : ℕ) → dist G k v ≤ G.N * G.C
  unfolding level
  dist_le k v = dist_mono 0 k v (omega arith)

  high-room : (k u : ℕ) → k < G.N → G.N * G.C ≤ dist G k u + k * G.C → G.C ≤ dist G k u
  high-room k u l h = omega (arith, mul-le-mul_right G.C l)

  -- No level falls by more than C.
  pub dist-high : (k v : ℕ) → k ≤ G.N → G.N * G.C ≤ dist G k v + k * G.C
  unfolding level
  dist-high zero v l = omega arith
  dist-high (suc k) v l =
      ⊎_elim (λ e. omega (arith, ap (λ (f : Fall). f.dist) e, dist-high k v (omega arith)))
      (λ t. omega (arith, t.exact, dist-high k (from G (suc k) v) (omega arith)))
      (scan_cases G (λ u. true) (dist G k) v G.N (λ u m. high-room k u l (dist-high k u (omega arith))))

  -- Before level N there is room for an arc's weight: nothing is cut off at 0.
  pub dist-room : (k u : ℕ) → k < G.N → G.C ≤ dist G k u
  dist-room k u l = high-room k u l (dist-high k u (omega arith))

  -- At the next level a node is as it was, or it was taken down by an arc.
  pub level_cases : (k v : ℕ) → k < G.N
      → (level G (suc k) v ≡ record { dist = dist G k v; from = v }) ⊎ Took G (dist G k) v G.N (level G (suc k) v)
  unfolding level
  level_cases k v l = scan_cases G (λ u. true) (dist G k) v G.N (λ u m. dist-room k u l)

  -- The next level is relaxed: no arc offers less.
  pub relaxed : (k u v : ℕ) → k < G.N → u < G.N → G.arc u v ≡ 1 → dist G (suc k) v + G.C ≤ dist G k u + G.W u v
  unfolding level
  relaxed k u v l m a = scan_relaxed G (λ i. true) (dist G k) v G.N u m (dist-room k u l) refl a

  -- Where a node came from is a node.
  pub from-node : (k v : ℕ) → k ≤ G.N → v < G.N → from G k v < G.N
  unfolding level
  from-node zero v l m = m
  from-node (suc k) v l m =
      ⊎_elim (λ e. omega (arith, ap (λ (f : Fall). f.from) e)) (λ t. t.node) (level_cases k v l)

  -- ---- who fell

  -- A node that fell stands lower.
  pub fell_lt : (k v : ℕ) → fell G (suc k) v ≡ true → dist G (suc k) v < dist G k v
  unfolding fell
  fell_lt k v e = ltb-true (dist G (suc k) v) (dist G k v) e

  -- A node that did not fall stands where it stood.
  pub stayed_eq : (k v : ℕ) → fell G (suc k) v ≡ false → dist G (suc k) v ≡ dist G k v
  unfolding fell
  stayed_eq k v e = omega (arith, ltb-false (dist G (suc k) v) (dist G k v) e, dist_falls k v)

  -- A node that did not fall came from itself.
  pub stayed_from : (k v : ℕ) → k < G.N → fell G (suc k) v ≡ false → from G (suc k) v ≡ v
  stayed_from k v l e =
      ⊎_elim (λ q. ap (λ (f : Fall). f.from) q) (λ t. absurd (omega (arith, t.below, stayed_eq k v e))) (level_cases k v l)

  -- An arc from a node that did not fall at level k offers nothing new.
  pub quiet : (k u v : ℕ) → k < G.N → u < G.N → fell G k u ≡ false → G.arc u v ≡ 1 → dist G k v + G.C ≤ dist G k u + G.W u v
  unfolding fell
  quiet zero u v l m e a = absurd (false≢true (sym e))
  quiet (suc k) u v l m e a = omega (arith, relaxed k u v (omega arith) m a, stayed_eq k u e)

  -- A program need only look at the arcs from nodes that fell at the level before.
  pub level-skip : (k v : ℕ) → k < G.N → scan G (fell G k) (dist G k) v G.N ≡ level G (suc k) v
  unfolding level
  level-skip k v l = scan-skip G (fell G k) (dist G k) v G.N (λ u m e a. quiet k u v l m e a)

-- What made v fall at level k + 1: an arc from u, which fell at level k.
pub record Parent (G : Graph) (k v u : ℕ) : Type 0 where
  pub node : u < G.N
  pub arc : G.arc u v ≡ 1
  pub exact : dist G (suc k) v + G.C ≡ dist G k u + G.W u v
  pub fallen : fell G k u ≡ true

-- A node that fell has a parent.
pub parent : (G : Graph) (k v : ℕ) → k < G.N → fell G (suc k) v ≡ true → Parent G k v (from G (suc k) v)
parent G k v l e = ⊎_elim (λ q. absurd (omega (arith, ap (λ (f : Fall). f.dist) q, fell_lt G k v e))) took (level_cases G k v l)
  where
    u : ℕ
    u = from G (suc k) v

    took : Took G (dist G k) v G.N (level G (suc k) v) → Parent G k v u
    took t =
        record {
          node = t.node;
          arc = t.arc;
          exact = t.exact;
          fallen = ⊎_elim (λ f. f) (λ n. absurd (omega (arith, t.below, t.exact, quiet G k u v l t.node n t.arc))) (true_or_false (fell G k u));
        }
