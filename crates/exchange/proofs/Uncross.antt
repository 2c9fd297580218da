-- Splitting a circuit at a crossed pair, and going on until no pair is crossed: the circuit that is left still gains, and its turn betters the layout.
-- Assumes nothing.
use Prim.Native.Nat.{ℕ, zero, suc, ◌+◌, ◌-◌, ◌*◌, ◌≤◌, ◌<◌}
use mathlib.Core.Path.{◌≡◌, refl, sym, ap, ap₂, ◌∙◌, subst}
use mathlib.Core.Bool.{Bool, true, false, ◌&&◌, and-eq-true_iff, true≢false, cond}
use mathlib.Core.Logic.{inl, ⊎_elim}
use native.Mathlib.Nat.{add-mul}
use native.Mathlib.Omega.{arith}
use lib.Dec.{ltb, eqb}
use borrow.Author.Tests.{ltb-true, ltb-false, lt-ltb, le-ltb, le-leb, lt-leb, eqb-true, eq-eqb}
use Rattle.sums.specs.TermsSums.{sum_to}
use Rattle.sums.proofs.Sum.{lt_or_ge, eq_or_ne, sum_cong, sum-part, sum_but_one}
use Rattle.exchange.specs.ModelRow.{Within}
use Rattle.exchange.specs.ModelCircuit.{cost, Allowed, Crossed, Uncrossed, Better}
use Rattle.exchange.specs.ModelUncross.{Walk, crosses, partner, first_crossed, skip, wrap, part, inner, outer, walk_costs, split, uncross, improved, Round, Right}
use Rattle.sums.proofs.First.{first_cases, first_some, first-none}
use Rattle.exchange.proofs.Circuit.{cost-row, exchange, turn_better}

-- ---- where the entries of the two parts stand

-- The laws of the two ways to count anew.
pub skip-low : (i k t : ℕ) → t ≤ i → skip i k t ≡ t
unfolding skip
skip-low i k t l = ap (λ (b : Bool). cond b t (t + k)) (le-leb t i l)

pub skip-high : (i k t : ℕ) → i < t → skip i k t ≡ t + k
unfolding skip
skip-high i k t l = ap (λ (b : Bool). cond b t (t + k)) (lt-leb t i l)

pub wrap-low : (i k t : ℕ) → t < k → wrap i k t ≡ t + suc i
unfolding wrap
wrap-low i k t l = ap (λ (b : Bool). cond b (t + suc i) (suc i)) (lt-ltb t k l)

pub wrap_end : (i k t : ℕ) → k ≤ t → wrap i k t ≡ suc i
unfolding wrap
wrap_end i k t l = ap (λ (b : Bool). cond b (t + suc i) (suc i)) (le-ltb t k l)

pub skip_le : (i k t : ℕ) → skip i k t ≤ t + k
skip_le i k t = ⊎_elim (λ a. omega (arith, skip-high i k t a)) (λ b. omega (arith, skip-low i k t b)) (lt_or_ge i t)

-- The two parts have the entries of the whole.
parts-sum : (m i j : ℕ) (f : ℕ → ℕ) → i < j → j < m
    → sum_to (m - (j - i)) (λ t. f (skip i (j - i) t)) + sum_to (j - i) (λ t. f (wrap i (j - i) t)) ≡ sum_to m f
parts-sum m i j f l h =
    let k = j - i in
    let r = m - suc j in
    omega (
      arith,
      sum-part (m - k) (suc i) r (λ t. f (skip i k t)) (omega arith),
      sum-part m (suc i) (k + r) f (omega arith),
      sum-part (k + r) k r (λ t. f (suc i + t)) refl,
      sum_cong (suc i) (λ t. f (skip i k t)) f (λ t x. ap f (skip-low i k t (omega arith))),
      sum_cong r (λ t. f (skip i k (suc i + t))) (λ t. f (suc i + (k + t))) (λ t x. ap f (skip-high i k (suc i + t) (omega arith) ∙ omega arith)),
      sum_cong k (λ t. f (wrap i k t)) (λ t. f (suc i + t)) (λ t x. ap f (wrap-low i k t x ∙ omega arith)),
    )

-- ---- the two parts of a circuit at a crossed pair

module _ (P N R Z C : ℕ) (zone cap : ℕ → ℕ) (g free S : ℕ → ℕ → ℕ) (w : Walk) (c : Round P N R Z C zone cap g free S w) where
  -- The arc from entry a to entry b, at the partition of entry b.
  abbrev Arc : ℕ → ℕ → Type 0
  Arc a b = Allowed P N R Z zone cap free S (w.partition b) (w.node a) (w.node b)

  arc-at : {a b d e : ℕ} → d ≡ a → e ≡ b → Arc a b → Arc d e
  arc-at {a} {b} {d} {e} p r h = subst (λ (t : ℕ). Arc t e) (sym p) (subst (λ (t : ℕ). Arc a t) (sym r) h)

  -- A part of a circuit that follows it but at one arc, and gains, is a circuit.
  part_circuit : (n s : ℕ) (f : ℕ → ℕ) → ((t : ℕ) → t < n → f t < w.len) → ((t u : ℕ) → t < u → u < n → f t < f u)
      → w.node (f n) ≡ w.node (f 0) → ((t : ℕ) → t < n → (t ≡ s → ⊥) → f (suc t) ≡ suc (f t)) → Arc (f (suc s)) (f s)
      → walk_costs P C g (part n f w) < n * C → Round P N R Z C zone cap g free S (part n f w)
  part_circuit n s f below rises closed follows new gains =
      record {
        closed = closed;
        distinct = λ t u l k. c.distinct (f t) (f u) (rises t u l k) (below u k);
        arcs = λ t l.
            ⊎_elim (λ e. arc-at (ap (λ (u : ℕ). f (suc u)) e) (ap f e) new) (λ d. arc-at (follows t l d) refl (c.arcs (f t) (below t l)))
            (eq_or_ne t s);
        gains = gains;
      }

  -- Both parts are shorter than the whole and not empty, as i < j < len.
  module _ (i j : ℕ) (l : i < j) (h : j < w.len) (x : Crossed P N R Z zone free S w.node w.partition i j) where
    -- How many entries stand between the two.
    abbrev k : ℕ
    k = j - i

    skip-on : (t : ℕ) → (t ≡ i → ⊥) → skip i k (suc t) ≡ suc (skip i k t)
    skip-on t d =
        ⊎_elim (λ a. skip-low i k (suc t) a ∙ ap suc (sym (skip-low i k t (omega arith))))
        (λ b. let a : i < t = omega (arith, d) in omega (arith, skip-high i k (suc t) (omega arith), skip-high i k t a))
        (lt_or_ge t i)

    skip_rises : (t u : ℕ) → t < u → skip i k t < skip i k u
    skip_rises t u a =
        ⊎_elim (λ b. omega (arith, skip_le i k t, skip-high i k u b)) (λ b. omega (arith, skip-low i k u b, skip-low i k t (omega arith)))
        (lt_or_ge i u)

    skip-last : skip i k (w.len - k) ≡ w.len
    skip-last = skip-high i k (w.len - k) (omega arith) ∙ omega arith

    skip_cross : skip i k (suc i) ≡ suc j
    skip_cross = skip-high i k (suc i) (omega arith) ∙ omega arith

    wrap-on : (t : ℕ) → t < k → (t ≡ k - 1 → ⊥) → wrap i k (suc t) ≡ suc (wrap i k t)
    wrap-on t a d = omega (arith, wrap-low i k t a, wrap-low i k (suc t) (omega (arith, d)))

    wrap-last : wrap i k (k - 1) ≡ j
    wrap-last = wrap-low i k (k - 1) (omega arith) ∙ omega arith

    wrap_cross : wrap i k (suc (k - 1)) ≡ suc i
    wrap_cross = wrap_end i k (suc (k - 1)) (omega arith)

    -- The outer part is a circuit if it gains.
    pub outer_circuit : walk_costs P C g (outer w i j) < (w.len - k) * C → Round P N R Z C zone cap g free S (outer w i j)
    outer_circuit =
        part_circuit (w.len - k) i (skip i k) (λ t a. omega (arith, skip_le i k t)) (λ t u a b. skip_rises t u a)
        (ap w.node skip-last ∙ (c.closed ∙ ap w.node (sym (skip-low i k 0 (omega arith))))) (λ t a d. skip-on t d)
        (arc-at skip_cross (skip-low i k i (omega arith)) (inl (x.row, x.outer)))

    -- The inner part is a circuit if it gains.
    pub inner_circuit : walk_costs P C g (inner w i j) < k * C → Round P N R Z C zone cap g free S (inner w i j)
    inner_circuit =
        part_circuit k (k - 1) (wrap i k) (λ t a. omega (arith, wrap-low i k t a))
        (λ t u a b. omega (arith, wrap-low i k t (omega arith), wrap-low i k u b))
        (ap w.node (wrap_end i k k (omega arith) ∙ omega (arith, wrap-low i k 0 (omega arith)))) wrap-on
        (arc-at wrap_cross wrap-last
        (subst (λ (p : ℕ). Allowed P N R Z zone cap free S p (w.node (suc i)) (w.node j)) x.same (inl (x.row, x.inner))))

    -- The two parts cost what the whole costs.
    pub parts-cost : ((p b : ℕ) → g p b ≤ C) → walk_costs P C g (outer w i j) + walk_costs P C g (inner w i j) ≡ walk_costs P C g w
    parts-cost light =
        omega (
          arith,
          parts-sum w.len i j arc l h,
          crossed,
          sum_but_one (w.len - k) i (between (skip i k)) (λ t. arc (skip i k t)) (omega arith) (λ t a d. follows (skip i k) t (skip-on t d)),
          sum_but_one k (k - 1) (between (wrap i k)) (λ t. arc (wrap i k t)) (omega arith) (λ t a d. follows (wrap i k) t (wrap-on t a d)),
        )
      where
        -- What the arc from entry a to entry b costs.
        price : ℕ → ℕ → ℕ
        price a b = cost P C g (w.partition b) (w.node a) (w.node b)

        arc : ℕ → ℕ
        arc t = price (suc t) t

        between : (ℕ → ℕ) → ℕ → ℕ
        between f t = price (f (suc t)) (f t)

        follows : (f : ℕ → ℕ) (t : ℕ) → f (suc t) ≡ suc (f t) → between f t ≡ arc (f t)
        follows f t e = ap (λ (a : ℕ). price a (f t)) e

        -- At one partition costs are differences, so the sources may change places.
        swapped : price (suc j) i + price (suc i) j ≡ price (suc i) i + price (suc j) j
        swapped =
            let law = cost-row P C g light in
            let r : w.partition j < P = omega (arith, x.same, x.row) in
            omega (
              arith,
              law (w.partition i) (w.node (suc j)) (w.node i) x.row,
              law (w.partition i) (w.node (suc i)) (w.node i) x.row,
              law (w.partition j) (w.node (suc i)) (w.node j) r,
              law (w.partition j) (w.node (suc j)) (w.node j) r,
              ap (λ (p : ℕ). g p (w.node (suc i))) x.same,
              ap (λ (p : ℕ). g p (w.node (suc j))) x.same,
            )

        crossed : between (skip i k) i + between (wrap i k) (k - 1) ≡ arc (skip i k i) + arc (wrap i k (k - 1))
        crossed =
            omega (
              arith,
              ap₂ price skip_cross (skip-low i k i (omega arith)),
              ap arc (skip-low i k i (omega arith)),
              ap₂ price wrap_cross wrap-last,
              ap arc wrap-last,
              swapped,
            )

    -- The part to go on with is a circuit.
    pub split_circuit : ((p b : ℕ) → g p b ≤ C) → Round P N R Z C zone cap g free S (split P C g w i j)
    unfolding split
    split_circuit light = go (ltb (walk_costs P C g (inner w i j)) (k * C)) refl
      where
        go : (t : Bool) → ltb (walk_costs P C g (inner w i j)) (k * C) ≡ t → Round P N R Z C zone cap g free S (cond t (inner w i j) (outer w i j))
        go true e = inner_circuit (ltb-true (walk_costs P C g (inner w i j)) (k * C) e)
        go false e =
            let d : k + (w.len - k) ≡ w.len = omega arith in
            outer_circuit
            (omega (
              arith,
              parts-cost light,
              c.gains,
              ltb-false (walk_costs P C g (inner w i j)) (k * C) e,
              add-mul k (w.len - k) C,
              ap (λ (t : ℕ). t * C) d,
            ))

-- The part to go on with is shorter.
pub split_shorter : (P C : ℕ) (g : ℕ → ℕ → ℕ) (w : Walk) (i j : ℕ) → i < j → j < w.len → (split P C g w i j).len < w.len
unfolding split
split_shorter P C g w i j l h = go (ltb (walk_costs P C g (inner w i j)) ((j - i) * C))
  where
    go : (t : Bool) → (cond t (inner w i j) (outer w i j)).len < w.len
    go true = omega arith
    go false = omega arith

-- ---- the search

module _ (P : ℕ) (ok : ℕ → ℕ → ℕ → Bool) (w : Walk) where
  -- A partner that is found comes later and passes the test.
  pub partner-some : (i : ℕ) → partner P ok w i < w.len
      → (i < partner P ok w i) × (crosses P ok w.node w.partition i (partner P ok w i) ≡ true)
  unfolding partner
  partner-some i l =
      ⊎_elim (λ s. (s.0, s.2)) (λ s. absurd (omega (arith, s.0)))
      (first_cases (crosses P ok w.node w.partition i) (w.len - suc i) (suc i))

  -- Where none is found, no later arc passes.
  pub partner-none : (i : ℕ) → w.len ≤ partner P ok w i → (j : ℕ) → i < j → j < w.len → crosses P ok w.node w.partition i j ≡ false
  unfolding partner
  partner-none i l j a b =
      ⊎_elim (λ s. absurd (omega (arith, s.1))) (λ s. s.1 j a (omega arith))
      (first_cases (crosses P ok w.node w.partition i) (w.len - suc i) (suc i))

  -- The pair that the search finds.
  pub first-pair : first_crossed P ok w < w.len → (first_crossed P ok w < partner P ok w (first_crossed P ok w)) × (partner P ok w (first_crossed P ok w) < w.len)
  first-pair l = let h = some in ((partner-some (first_crossed P ok w) h).0, h)
    where
      some : partner P ok w (first_crossed P ok w) < w.len
      some =
          unfold first_crossed in
          ltb-true (partner P ok w (first_crossed P ok w)) w.len
          (first_some (λ i. ltb (partner P ok w i) w.len) w.len (lt-ltb (first_crossed P ok w) w.len l)).1

  -- Where it finds none, no two arcs pass.
  pub first-none-pair : w.len ≤ first_crossed P ok w → (i j : ℕ) → i < j → j < w.len → crosses P ok w.node w.partition i j ≡ false
  unfolding first_crossed
  first-none-pair l i j a b =
      partner-none i
      (ltb-false (partner P ok w i) w.len
      (first-none (λ i. ltb (partner P ok w i) w.len) w.len (le-ltb (first_crossed P ok w) w.len l) i (omega arith)))
      j a b

-- ---- no crossed pair is left

module _ (P N R Z C : ℕ) (zone cap : ℕ → ℕ) (g free S : ℕ → ℕ → ℕ) (ok : ℕ → ℕ → ℕ → Bool) (right : Right P N R Z zone free S ok) where
  -- Two arcs that pass the test can be crossed, and only such.
  crosses_sound : (w : Walk) → Round P N R Z C zone cap g free S w → (i j : ℕ) → i < j → j < w.len
      → crosses P ok w.node w.partition i j ≡ true → Crossed P N R Z zone free S w.node w.partition i j
  unfolding crosses
  crosses_sound w c i j l h t =
      let y = w.node in
      let q = w.partition in
      let last = (and-eq-true_iff (ltb (q i) P && eqb (q i) (q j) && ok (q i) (y (suc j)) (y i)) (ok (q i) (y (suc i)) (y j))).0 t in
      let third = (and-eq-true_iff (ltb (q i) P && eqb (q i) (q j)) (ok (q i) (y (suc j)) (y i))).0 last.0 in
      let both = (and-eq-true_iff (ltb (q i) P) (eqb (q i) (q j))).0 third.0 in
      let r = ltb-true (q i) P both.0 in
      let e = eqb-true (q i) (q j) both.1 in
      let u = exchange P N R Z C zone cap g free S w.len y q c i (q i) (omega arith) r refl in
      let v = exchange P N R Z C zone cap g free S w.len y q c j (q i) h r (sym e) in
      record {
        row = r;
        same = e;
        outer = right.sound (q i) (y (suc j)) (y i) r v.a_node u.b_node v.a_in u.b_out third.1;
        inner = right.sound (q i) (y (suc i)) (y j) r u.a_node v.b_node u.a_in v.b_out last.1;
      }

  crosses_complete : (y q : ℕ → ℕ) (i j : ℕ) → Crossed P N R Z zone free S y q i j → crosses P ok y q i j ≡ true
  unfolding crosses
  crosses_complete y q i j x =
      rw (
        lt-ltb (q i) P x.row,
        eq-eqb (q i) (q j) x.same,
        right.complete (q i) (y (suc j)) (y i) x.row x.outer,
        right.complete (q i) (y (suc i)) (y j) x.row x.inner,
      )

  -- Where the search finds no pair, none is crossed.
  none-crossed : (w : Walk) → w.len ≤ first_crossed P ok w → Uncrossed P N R Z zone free S w.len w.node w.partition
  none-crossed w e i j l h x =
      true≢false (sym (crosses_complete w.node w.partition i j x) ∙ first-none-pair P ok w e i j l h)

  -- With as many splits as the circuit is long, a circuit is left in which no pair is crossed.
  pub uncross_circuit : ((p b : ℕ) → g p b ≤ C) → (n : ℕ) (w : Walk) → w.len ≤ n → Round P N R Z C zone cap g free S w
      → let u = uncross n P C g ok w in Round P N R Z C zone cap g free S u × Uncrossed P N R Z zone free S u.len u.node u.partition
  unfolding uncross
  uncross_circuit light zero w l c = (c, λ i j a b. absurd (omega arith))
  uncross_circuit light (suc n) w l c = go (λ v. uncross_circuit light n v) (ltb (first_crossed P ok w) w.len) refl
    where
      Done : Walk → Type 0
      Done u = Round P N R Z C zone cap g free S u × Uncrossed P N R Z zone free S u.len u.node u.partition

      next : Walk
      next = split P C g w (first_crossed P ok w) (partner P ok w (first_crossed P ok w))

      go : ((v : Walk) → v.len ≤ n → Round P N R Z C zone cap g free S v → Done (uncross n P C g ok v)) → (t : Bool) → ltb (first_crossed P ok w) w.len ≡ t
          → Done (cond t (uncross n P C g ok next) w)
      go again true e =
          let i = first_crossed P ok w in
          let j = partner P ok w i in
          let (a, b) = first-pair P ok w (ltb-true i w.len e) in
          again next (omega (arith, split_shorter P C g w i j a b))
          (split_circuit P N R Z C zone cap g free S w c i j a b (crosses_sound w c i j a b (partner-some P ok w i b).1) light)
      go again false e = (c, none-crossed w (ltb-false (first_crossed P ok w) w.len e))

  -- From a circuit of a layout to a better layout.
  pub improved_better : ((x : ℕ) → x < N → zone x < N) → ((p b : ℕ) → g p b ≤ C) → Within P N R Z zone cap S → (w : Walk)
      → Round P N R Z C zone cap g free S w → Better P N R Z C zone cap g free S (improved P C g ok w S)
  unfolding improved
  improved_better zones light s w c =
      let u = uncross w.len P C g ok w in
      let d = uncross_circuit light w.len w (omega arith) c in
      turn_better P N R Z C zone cap g free S u.len u.node u.partition d.0 zones light s d.1
