-- The search by levels: ways back, the cycle that a way back closes, and the two ends of the search. As long as no way back comes to its
-- start again, its nodes are all different, so the search ends within N levels.
-- Assumes nothing.
use Prim.Native.Nat.{ℕ, zero, suc, ◌+◌, ◌-◌, ◌*◌, ◌≤◌, ◌<◌, max}
use mathlib.Core.Path.{◌≡◌, refl, sym, ap, ◌∙◌, subst}
use mathlib.Core.Bool.{Bool, true, false, cond, ◌&&◌, false≢true}
use mathlib.Core.Logic.{⊎_elim}
use native.Mathlib.Omega.{arith}
use lib.Dec.{ltb, eqb}
use borrow.Author.Tests.{eqb-true, eqb-false, eq-eqb}
use Rattle.sums.proofs.First.{first-none, first_some, first_cases}
use Rattle.sums.specs.TermsSums.{sum_to}
use Rattle.sums.specs.ModelSums.{is, first_from}
use Rattle.sums.proofs.Sum.{lt_or_ge, is_eq, is_one, is_le}
use Rattle.sums.proofs.Count.{pigeonhole}
use Rattle.exchange.specs.ModelLevels.{Graph, Outcome, potential_found, cycle_found, level, dist, from, fell, back, way, closes, search_from, outcome, cycle_length, IsPotential, IsCycle}
use Rattle.exchange.proofs.Levels.{Parent, parent, relaxed, from-node, fell_lt, stayed_eq, stayed_from, dist_mono}

-- ---- ways back

module _ (G : Graph) where
  -- One step more is one step down: a walk over the levels follows the way.
  pub back-next : (k v t j : ℕ) → j + t ≡ k → back G k v (suc t) ≡ from G j (back G k v t)
  unfolding back level
  back-next zero v zero j e = let q : j ≡ 0 = omega arith in subst (λ (i : ℕ). v ≡ from G i v) (sym q) refl
  back-next zero v (suc t) j e = absurd (omega arith)
  back-next (suc k) v zero j e = let q : j ≡ suc k = omega arith in ap (λ (i : ℕ). from G i v) (sym q)
  back-next (suc k) v (suc t) j e = back-next k (from G (suc k) v) t j (omega arith)

  -- A way back goes over nodes.
  pub back-node : (k v t : ℕ) → k ≤ G.N → v < G.N → back G k v t < G.N
  unfolding back
  back-node k v zero l m = m
  back-node zero v (suc t) l m = m
  back-node (suc k) v (suc t) l m = back-node k (from G (suc k) v) t (omega arith) (from-node G (suc k) v l m)

  -- Every node on the way back of a node that fell fell too, at its own level.
  pub back-fell : (k v t j : ℕ) → j + t ≡ k → k ≤ G.N → fell G k v ≡ true → fell G j (back G k v t) ≡ true
  unfolding back
  back-fell k v zero j e l f = let q : k ≡ j = omega arith in subst (λ (i : ℕ). fell G i v ≡ true) q f
  back-fell zero v (suc t) j e l f = absurd (omega arith)
  back-fell (suc k) v (suc t) j e l f =
      back-fell k (from G (suc k) v) t j (omega arith) (omega arith) (parent G k v l f).fallen

  -- Each step back is a parent's arc.
  pub back_parent : (k v t j : ℕ) → suc j + t ≡ k → k ≤ G.N → fell G k v ≡ true → Parent G j (back G k v t) (back G k v (suc t))
  back_parent k v t j e l f =
      subst (λ (u : ℕ). Parent G j (back G k v t) u) (sym (back-next k v t (suc j) e))
      (parent G j (back G k v t) (omega arith) (back-fell k v t (suc j) e l f))

  -- The weights along a way back add up to the fall.
  pub back_sum : (k v t j : ℕ) → j + t ≡ k → k ≤ G.N → fell G k v ≡ true
      → sum_to t (λ i. G.W (back G k v (suc i)) (back G k v i)) + dist G j (back G k v t) ≡ dist G k v + t * G.C
  unfolding sum_to back
  back_sum k v zero j e l f = let q : j ≡ k = omega arith in omega (arith, ap (λ (i : ℕ). dist G i v) q)
  back_sum k v (suc t) j e l f =
      omega (arith, back_sum k v t (suc j) (omega arith) l f, (back_parent k v t j (omega arith) l f).exact)

  -- ---- ways as sets

  -- A way is a set: 0 or 1 for each node.
  pub way_le : (k v x : ℕ) → way G k v x ≤ 1
  unfolding way
  way_le zero v x = is_le v x
  way_le (suc k) v x = omega (arith, is_le v x, way_le k (from G (suc k) v) x)

  -- A node is on its own way.
  pub way_self : (k v x : ℕ) → is v x ≤ way G k v x
  unfolding way
  way_self zero v x = omega arith
  way_self (suc k) v x = omega arith

  -- The way of a node at the next level is the node, and the way of where it came from: a mask follows it.
  pub way_next : (k v x : ℕ) → way G (suc k) v x ≡ max (is v x) (way G k (from G (suc k) v) x)
  unfolding way
  way_next k v x = refl

  -- The way of a node that did not fall stays.
  pub way_stays : (k v x : ℕ) → k < G.N → fell G (suc k) v ≡ false → way G (suc k) v x ≡ way G k v x
  unfolding way
  way_stays k v x l e = omega (arith, ap (λ (u : ℕ). way G k u x) (stayed_from G k v l e), way_self k v x)

  -- What the way back comes to is on the way.
  pub way_at : (k v t : ℕ) → t ≤ k → way G k v (back G k v t) ≡ 1
  unfolding way back
  way_at k v zero l = omega (arith, way_self k v v, is_eq {a = v} {b = v} refl, way_le k v v)
  way_at zero v (suc t) l = absurd (omega arith)
  way_at (suc k) v (suc t) l =
      omega (arith, way_at k (from G (suc k) v) t (omega arith), is_le v (back G k (from G (suc k) v) t))

  -- And the way back comes to all that is on the way.
  pub way_back : (k v x : ℕ) → way G k v x ≡ 1 → (t : ℕ) × (t ≤ k) × (back G k v t ≡ x)
  unfolding way back
  way_back zero v x e = (0, omega arith, is_one v x e)
  way_back (suc k) v x e =
      ⊎_elim (λ a. let w = way_back k (from G (suc k) v) x (omega (arith, way_le k (from G (suc k) v) x)) in (suc w.0, omega (arith, w.1), w.2))
      (λ b. (0, omega arith, is_one v x (omega (arith, is_le v x)))) (lt_or_ge 0 (way G k (from G (suc k) v) x))

-- ---- no way back comes to its start again

-- No node closes a cycle up to level k.
abbrev pub Open : Graph → ℕ → Type 0
Open G k = (j v : ℕ) → j ≤ k → v < G.N → closes G j v ≡ false

-- At level 0 nothing is closed.
pub open_zero : (G : Graph) → Open G 0
unfolding closes
open_zero G zero v l m = refl
open_zero G (suc j) v l m = absurd (omega arith)

-- One level more at which none closes a cycle.
pub open_next : (G : Graph) (k : ℕ) → Open G k → ((v : ℕ) → v < G.N → closes G (suc k) v ≡ false) → Open G (suc k)
open_next G k o h j v l m =
    ⊎_elim (λ a. o j v (omega arith) m) (λ b. let e : suc k ≡ j = omega arith in subst (λ (i : ℕ). closes G i v ≡ false) e (h v m))
    (lt_or_ge j (suc k))

-- A node that closes a cycle fell, and is on the way of its parent.
pub closes-way : (G : Graph) (k v : ℕ) → closes G (suc k) v ≡ true → (fell G (suc k) v ≡ true) × (way G k (from G (suc k) v) v ≡ 1)
unfolding closes
closes-way G k v h = go (fell G (suc k) v) (eqb (way G k (from G (suc k) v) v) 1) refl refl h
  where
    go : (a b : Bool) → fell G (suc k) v ≡ a → eqb (way G k (from G (suc k) v) v) 1 ≡ b → a && b ≡ true
        → (fell G (suc k) v ≡ true) × (way G k (from G (suc k) v) v ≡ 1)
    go true true p q h = (p, eqb-true (way G k (from G (suc k) v) v) 1 q)
    go true false p q h = absurd (false≢true h)
    go false b p q h = absurd (false≢true h)

-- A node that fell and is on the way of its parent closes a cycle.
pub way-closes : (G : Graph) (k v : ℕ) → fell G (suc k) v ≡ true → way G k (from G (suc k) v) v ≡ 1 → closes G (suc k) v ≡ true
unfolding closes
way-closes G k v f e = ap (λ (a : Bool). a && eqb (way G k (from G (suc k) v) v) 1) f ∙ eq-eqb (way G k (from G (suc k) v) v) 1 e

-- As long as none closes a cycle, the nodes of a way back are all different.
pub back_distinct : (G : Graph) (k v : ℕ) → k ≤ G.N → v < G.N → fell G k v ≡ true → Open G k
    → (i j : ℕ) → i < j → j ≤ k → back G k v i ≡ back G k v j → ⊥
unfolding back
back_distinct G zero v l m f o i j a b e = omega arith
back_distinct G (suc k) v l m f o zero zero a b e = omega arith
back_distinct G (suc k) v l m f o zero (suc j) a b e =
    false≢true (sym (o (suc k) v (omega arith) m) ∙ way-closes G k v f (ap (λ (x : ℕ). way G k (from G (suc k) v) x) e ∙ way_at G k (from G (suc k) v) j (omega arith)))
back_distinct G (suc k) v l m f o (suc i) zero a b e = omega arith
back_distinct G (suc k) v l m f o (suc i) (suc j) a b e =
    back_distinct G k (from G (suc k) v) (omega arith) (from-node G (suc k) v l m) (parent G k v l f).fallen
    (λ h w p q. o h w (omega arith) q) i j (omega arith) (omega arith) e

-- So while none closes a cycle, nodes fall only below level N.
pub open_few : (G : Graph) (k v : ℕ) → k ≤ G.N → v < G.N → fell G k v ≡ true → Open G k → k < G.N
open_few G k v l m f o =
    ⊎_elim (λ a. a)
    (λ b. let w = pigeonhole (suc k) G.N (back G k v) (λ i h. back-node G k v i l m) (omega arith) in
    absurd (back_distinct G k v l m f o w.0 w.1 w.2 (omega (arith, w.3)) w.4))
    (lt_or_ge k G.N)

-- ---- the cycle

-- A way back, from a node that fell to the first time that it comes to that node again, is a simple negative cycle.
pub cycle_to : (G : Graph) (k v m : ℕ) → k < G.N → v < G.N → Open G k → fell G (suc k) v ≡ true → 1 ≤ m → m ≤ suc k
    → back G (suc k) v m ≡ v → ((t : ℕ) → 1 ≤ t → t < m → back G (suc k) v t ≡ v → ⊥) → IsCycle G m (back G (suc k) v)
unfolding back
cycle_to G k v m l n o f some few e first =
    record {
      some = some;
      few = omega arith;
      nodes = λ i h. back-node G (suc k) v i l n;
      closed = e;
      distinct = apart;
      arcs = λ i h. (back_parent G (suc k) v i (k - i) (omega arith) l f).arc;
      negative = omega (arith, back_sum G (suc k) v m (suc k - m) (omega arith) l f, ap (λ (x : ℕ). dist G (suc k - m) x) e, fell_lt G k v f, dist_mono G (suc k - m) k v (omega arith));
    }
  where
    apart : (i j : ℕ) → i < j → j < m → back G (suc k) v i ≡ back G (suc k) v j → ⊥
    apart zero j a b q = first j a b (sym q)
    apart (suc i) zero a b q = omega arith
    apart (suc i) (suc j) a b q =
        back_distinct G k (from G (suc k) v) (omega arith) (from-node G (suc k) v l n) (parent G k v l f).fallen o i j (omega arith) (omega arith) q

-- What the search has when it ends with a cycle.
pub record Closing (G : Graph) (k v : ℕ) : Type 0 where
  pub node : v < G.N
  pub fallen : fell G k v ≡ true
  pub length_le : cycle_length G k v ≤ k
  pub first : (j w : ℕ) → j < k → w < G.N → closes G j w ≡ false
  pub cycle : IsCycle G (cycle_length G k v) (back G k v)

-- The first node that closes a cycle, at the first level with one.
pub closing : (G : Graph) (k v : ℕ) → k < G.N → v < G.N → Open G k → closes G (suc k) v ≡ true → Closing G (suc k) v
unfolding cycle_length back
closing G k v l n o c = ⊎_elim found none (first_cases at (suc k) 1)
  where
    at : ℕ → Bool
    at t = eqb (back G (suc k) v t) v

    m : ℕ
    m = first_from at (suc k) 1

    w : (fell G (suc k) v ≡ true) × (way G k (from G (suc k) v) v ≡ 1)
    w = closes-way G k v c

    found : (1 ≤ m) × (m < 1 + suc k) × (at m ≡ true) × ((j : ℕ) → 1 ≤ j → j < m → at j ≡ false) → Closing G (suc k) v
    found h =
        record {
          node = n;
          fallen = w.0;
          length_le = omega (arith, h.1);
          first = λ j x a b. o j x (omega arith) b;
          cycle = cycle_to G k v m l n o w.0 h.0 (omega (arith, h.1)) (eqb-true (back G (suc k) v m) v h.2) (λ t a b. eqb-false (back G (suc k) v t) v (h.3 t a b));
        }

    none : (m ≡ 1 + suc k) × ((j : ℕ) → 1 ≤ j → j < 1 + suc k → at j ≡ false) → Closing G (suc k) v
    none h =
        let s = way_back G k (from G (suc k) v) v w.1 in
        absurd (eqb-false (back G (suc k) v (suc s.0)) v (h.1 (suc s.0) (omega arith) (omega (arith, s.1))) s.2)

-- ---- the search

-- What an end of the search stands for.
abbrev pub Stands : Graph → Outcome → Type 0
Stands G (potential_found k) = (k < G.N) × IsPotential G (dist G k)
Stands G (cycle_found k v) = Closing G k v

-- Where nothing falls at the next level, the distances are a potential.
pub still_potential : (G : Graph) (k : ℕ) → k < G.N → ((v : ℕ) → v < G.N → fell G (suc k) v ≡ false) → IsPotential G (dist G k)
still_potential G k l h u v m n a = omega (arith, relaxed G k u v l m a, stayed_eq G k v (h v n))

-- After level k, at which a node fell and up to which none closed a cycle, the search comes to an end that stands.
pub search-stands : (G : Graph) (n k v : ℕ) → k + n ≡ G.N → v < G.N → fell G k v ≡ true → Open G k → Stands G (search_from G n k)
unfolding search_from
search-stands G zero k v e m f o = absurd (omega (arith, open_few G k v (omega arith) m f o))
search-stands G (suc n) k v e m f o =
    go (ltb falls G.N) (ltb closer G.N) refl refl (λ w a b c. search-stands G n (suc k) w (omega arith) a b c)
  where
    falls : ℕ
    falls = first_from (fell G (suc k)) G.N 0

    closer : ℕ
    closer = first_from (closes G (suc k)) G.N 0

    go : (a b : Bool) → ltb falls G.N ≡ a → ltb closer G.N ≡ b
        → ((w : ℕ) → w < G.N → fell G (suc k) w ≡ true → Open G (suc k) → Stands G (search_from G n (suc k)))
        → Stands G (cond a (cond b (cycle_found (suc k) closer) (search_from G n (suc k))) (potential_found k))
    go false b p q r = (omega arith, still_potential G k (omega arith) (first-none (fell G (suc k)) G.N p))
    go true true p q r = let c = first_some (closes G (suc k)) G.N q in closing G k closer (omega arith) c.0 o c.1
    go true false p q r =
        let w = first_some (fell G (suc k)) G.N p in
        r falls w.0 w.1 (open_next G k o (first-none (closes G (suc k)) G.N q))

-- The search ends with a potential or with a simple negative cycle; it never runs out of levels.
pub outcome-stands : (G : Graph) → 1 ≤ G.N → Stands G (outcome G)
unfolding outcome fell
outcome-stands G h = search-stands G _ 0 0 (omega arith) h refl (open_zero G)

-- The end with a potential.
pub outcome_potential : (G : Graph) (k : ℕ) → 1 ≤ G.N → outcome G ≡ potential_found k → (k < G.N) × IsPotential G (dist G k)
outcome_potential G k h e = subst (λ (r : Outcome). Stands G r) e (outcome-stands G h)

-- The end with a cycle.
pub outcome_cycle : (G : Graph) (k v : ℕ) → 1 ≤ G.N → outcome G ≡ cycle_found k v → Closing G k v
outcome_cycle G k v h e = subst (λ (r : Outcome). Stands G r) e (outcome-stands G h)
