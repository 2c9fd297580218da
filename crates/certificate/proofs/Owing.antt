-- The order in which certify finds its faults, what it means that it finds none, and the four ends of a call, over plain lists and numbers: each gives
-- the answer and what is owed, as the contract has them.
-- Assumes nothing.
use Prim.Native.Nat.{ℕ, ◌≤◌, ◌<◌}
use mathlib.Core.Path.{◌≡◌, refl, sym, ap, ◌∙◌, subst}
use mathlib.Core.Bool.{Bool, true, false, cond}
use mathlib.Core.List.{List}
use mathlib.Core.Logic.{inl, inr, ⊎_elim}
use native.Mathlib.Omega.{arith}
use lib.Dec.{ltb, eqb}
use lib.ListN.{length}
use borrow.Author.Tests.{lt-ltb, le-ltb, eq-eqb, ne_eqb}
use Rattle.sums.specs.TermsSums.{every_to}
use Rattle.sums.proofs.Sum.{lt_or_ge, eq_or_ne}
use Rattle.sums.proofs.Tests.{true_or_false}
use Rattle.cluster.specs.Terms.{layout_cells, Topology, topology, partitions, ids_of, rising, Layout, row, ValidAt, IsSize, IsFormer, sent, row_at, formed, fault_of}
use Rattle.cluster.specs.TermsReading.{Accepted, Fits32}
use Rattle.cluster.specs.declared.Cluster.{Cluster}
use Rattle.cluster.proofs.Accepting.{accepted}
use Rattle.masks.specs.ModelMasks.{rows_formed}
use Rattle.masks.proofs.Laws.{holds-formed, formed-former}
use Rattle.layouts.specs.TermsCheck.{Checked, fault, Passes, check_of}
use Rattle.layouts.proofs.CheckMeaning.{passed_valid, check-layout, check-holds}
use Rattle.sizing.specs.ModelSizing.{cap_cells, caps_in, size_of}
use Rattle.sizing.proofs.Reading.{caps_in_lem}
use Rattle.sizing.proofs.Sizes.{size-largest, size_is}
use Rattle.planner.proofs.Refusals.{former_same}
use Rattle.certificate.specs.ModelCertificate.{cycle_at, price_cells}
use Rattle.certificate.specs.TermsCertify.{Certified, former_fault, certify_fault, former_in, new_in, unpriced, priced, certified_of, price_in, Owed}
use Rattle.certificate.specs.TermsCertificate.{costs}
use Rattle.certificate.proofs.Larger.{short_next}
use Rattle.certificate.proofs.Duality.{certified, certificate_same}
use Rattle.certificate.proofs.Levels.{cycle_fewer, levels-certify, levels-least}

-- Whether the former rows are formed.
abbrev pub former_formed : Topology → List ℕ → Bool
former_formed t former = every_to (partitions t) (λ p. formed (row_at former p))

sound_former : (t : Topology) (former : List ℕ) → former_fault t former ≡ 0 → former_formed t former ≡ true
unfolding former_fault
sound_former t former e = ⊎_elim (λ h. h) (λ h. absurd (omega (arith, sym e ∙ ap (λ (b : Bool). cond b 0 5) h))) (true_or_false (former_formed t former))

module _ (c : Cluster) (former assignment : List ℕ) (size : ℕ) where
  abbrev t : Topology
  t = topology c

  abbrev F : Layout
  F = former_in c former

  abbrev L : Layout
  L = new_in c assignment

  -- ---- the order of the faults

  -- A short former buffer is refused first, as a short assignment is.
  pub order_short : length former < layout_cells → certify_fault c former assignment size ≡ fault 8 0
  unfolding certify_fault
  order_short h = simp (lt-ltb (length former) layout_cells h)

  module _ (whole : layout_cells ≤ length former) where
    -- Then what check refuses,
    pub order-check : ((check_of c assignment size).refusal ≡ 0 → ⊥) → certify_fault c former assignment size ≡ check_of c assignment size
    unfolding certify_fault
    order-check h = simp (le-ltb (length former) layout_cells whole, ne_eqb (check_of c assignment size).refusal 0 h)

    -- then the former rows.
    pub order-former : (check_of c assignment size).refusal ≡ 0 → certify_fault c former assignment size ≡ fault (former_fault t former) 0
    unfolding certify_fault
    order-former e = simp (le-ltb (length former) layout_cells whole, eq-eqb (check_of c assignment size).refusal 0 e)

  -- Where nothing is refused, none of the three has a fault.
  pub all_pass : (certify_fault c former assignment size).refusal ≡ 0
      → (layout_cells ≤ length former) × ((check_of c assignment size).refusal ≡ 0) × (former_formed t former ≡ true)
  all_pass e =
      ⊎_elim (λ h. absurd (omega (arith, ap (λ (k : Checked). k.refusal) (order_short h)))) (λ w.
      ⊎_elim (λ z. (w, z, sound_former t former (sym (ap (λ (k : Checked). k.refusal) (order-former w z)) ∙ e)))
      (λ z. absurd (z (sym (ap (λ (k : Checked). k.refusal) (order-check w z)) ∙ e))) (eq_or_ne (check_of c assignment size).refusal 0))
      (lt_or_ge (length former) layout_cells)

  -- And the other way round.
  pub pass_all : layout_cells ≤ length former → (check_of c assignment size).refusal ≡ 0 → rows_formed former (partitions t) ≡ true
      → (certify_fault c former assignment size).refusal ≡ 0
  unfolding former_fault
  pass_all w z r =
      ap (λ (k : Checked). k.refusal) (order-former w z)
      ∙ ap (λ (b : Bool). cond b 0 5) (former_same c former w (passed_valid c assignment size z).accepted_cluster ∙ r)

  -- What a call with this answer has to meet.
  abbrev pub Ends : Certified → Type 0
  Ends r = (r ≡ certified_of c former assignment size) × ((certify_fault c former assignment size).refusal ≡ 0 → Owed t F L size r)

  -- ---- the ends

  -- A fault is answered with its place.
  pub refused_ends : (f : Checked) → f ≡ certify_fault c former assignment size → (f.refusal ≡ 0 → ⊥) → Ends (unpriced f.refusal f.place)
  unfolding certified_of
  refused_ends f e n =
      let m : (certify_fault c former assignment size).refusal ≡ 0 → ⊥ = λ z. n (ap (λ (k : Checked). k.refusal) e ∙ z) in
      (ap (λ (k : Checked). unpriced k.refusal k.place) e ∙ simp (ne_eqb (certify_fault c former assignment size).refusal 0 m), λ z. absurd (m z))

  module _ (e : (certify_fault c former assignment size).refusal ≡ 0) where
    passes : Passes c assignment size
    passes = passed_valid c assignment size (all_pass e).1

    pub faultless : fault_of c ≡ 0
    faultless = passes.accepted_cluster

    pub acc : Accepted t
    acc = accepted c faultless

    pub in_hand_lem : ValidAt t L size
    in_hand_lem = subst (λ (M : Layout). ValidAt t M size) (check-layout c assignment size passes) passes.valid

    -- The rows of both layouts are formed.
    pub former-rows : rows_formed former (partitions t) ≡ true
    former-rows = sym (former_same c former (all_pass e).0 faultless) ∙ (all_pass e).2

    pub own-rows : rows_formed assignment (partitions t) ≡ true
    own-rows = holds-formed (partitions t) assignment (check-holds c assignment size passes)

    lent : IsFormer t F
    lent = formed-former t former former-rows

    answer : (r : Certified) → r ≡ cond (ltb size (size_of t)) (unpriced 19 0) (cond (eqb (cycle_at t F L) 0) (priced (price_cells t F L)) (unpriced 20 0))
        → r ≡ certified_of c former assignment size
    unfolding certified_of
    answer r q =
        q
        ∙ sym (ap (λ (b : Bool). cond b (cond (ltb size (size_of t)) (unpriced 19 0) (cond (eqb (cycle_at t F L) 0) (priced (price_cells t F L)) (unpriced 20 0)))
        (unpriced (certify_fault c former assignment size).refusal (certify_fault c former assignment size).place)) (eq-eqb (certify_fault c former assignment size).refusal 0 e))

    module _ (low : Fits32 t) where
      large : 1 ≤ size_of t
      large = omega (arith, size-largest t acc low L size in_hand_lem, in_hand_lem.positive)

      is-size : IsSize t (size_of t)
      is-size = size_is t acc low large

      -- A layout is valid at a larger size.
      pub larger_ends : size < size_of t → Ends (unpriced 19 0)
      larger_ends l = (
        answer (unpriced 19 0)
            (sym (ap (λ (b : Bool). cond b (unpriced 19 0) (cond (eqb (cycle_at t F L) 0) (priced (price_cells t F L)) (unpriced 20 0))) (lt-ltb size (size_of t) l))),
        λ z. record {
          former = lent;
          valid = in_hand_lem;
          only = inr (inl refl);
          larger = λ x. (is-size.reached.0, size_of t, is-size.reached.1, l);
          largest = λ n. absurd (n refl);
          short = λ n. absurd (n refl);
          fewer = λ x. absurd (omega (arith, x));
          nearest = λ x. absurd (omega (arith, x));
          exactly = λ i x. absurd (omega (arith, l, i.largest is-size.reached.0 (size_of t) is-size.reached.1));
          certified = λ x. absurd (omega (arith, x));
          least = λ x. absurd (omega (arith, x));
        },
      )

      module _ (no : size_of t ≤ size) where
        the_size : size_of t ≡ size
        the_size = omega (arith, no, size-largest t acc low L size in_hand_lem)

        at_size : ValidAt t L (size_of t)
        at_size = subst (λ (n : ℕ). ValidAt t L n) (sym the_size) in_hand_lem

        past : (b : Bool) → eqb (cycle_at t F L) 0 ≡ b → (r : Certified) → r ≡ cond b (priced (price_cells t F L)) (unpriced 20 0) → r ≡ certified_of c former assignment size
        past b q r h =
            answer r
            (h
            ∙ (ap (λ (x : Bool). cond x (priced (price_cells t F L)) (unpriced 20 0)) (sym q)
            ∙ sym (ap (λ (x : Bool). cond x (unpriced 19 0) (cond (eqb (cycle_at t F L) 0) (priced (price_cells t F L)) (unpriced 20 0))) (le-ltb size (size_of t) no))))

        -- A layout of the size sends fewer.
        pub fewer_ends : (cycle_at t F L ≡ 0 → ⊥) → Ends (unpriced 20 0)
        fewer_ends n =
            let w = cycle_fewer t acc F L at_size n in (
              past false (ne_eqb (cycle_at t F L) 0 n) (unpriced 20 0) refl,
              λ z. subst (λ (k : ℕ). Owed t F L k (unpriced 20 0)) the_size
                  (record {
                    former = lent;
                    valid = at_size;
                    only = inr (inr refl);
                    larger = λ x. absurd (omega (arith, x));
                    largest = λ x. is-size;
                    short = λ x. short_next t acc (size_of t) is-size;
                    fewer = λ x. w;
                    nearest = λ x. absurd (omega (arith, x));
                    exactly = λ i x. absurd (omega (arith, w.2, x w.0 w.1));
                    certified = λ x. absurd (omega (arith, x));
                    least = λ x. absurd (omega (arith, x));
                  }),
            )

        -- None does, and the prices show it.
        pub priced_ends : cycle_at t F L ≡ 0 → (prices : List ℕ) → prices ≡ price_cells t F L → Ends (priced prices)
        priced_ends n prices q = (
          past true (eq-eqb (cycle_at t F L) 0 n) (priced prices) (ap priced q),
          λ z. subst (λ (k : ℕ). Owed t F L k (priced prices)) the_size
              (subst (λ (x : List ℕ). Owed t F L (size_of t) (priced x)) (sym q)
              (record {
                former = lent;
                valid = at_size;
                only = inl refl;
                larger = λ x. absurd (omega (arith, x));
                largest = λ x. is-size;
                short = λ x. short_next t acc (size_of t) is-size;
                fewer = λ x. absurd (omega (arith, x));
                nearest = λ x. certified t acc.ids F (size_of t) L _ _ (levels-certify t acc F L at_size n);
                exactly = λ i x. refl;
                certified = λ x. levels-certify t acc F L at_size n;
                least = λ x. levels-least t acc F L at_size n;
              })),
        )

        -- One of the two is answered.
        pub price_ends : (r : Certified) → r ≡ cond (eqb (cycle_at t F L) 0) (priced (price_cells t F L)) (unpriced 20 0) → Ends r
        price_ends r q =
            ⊎_elim
            (λ n. subst Ends (sym (q ∙ ap (λ (b : Bool). cond b (priced (price_cells t F L)) (unpriced 20 0)) (eq-eqb (cycle_at t F L) 0 n))) (priced_ends n (price_cells t F L) refl))
            (λ n. subst Ends (sym (q ∙ ap (λ (b : Bool). cond b (priced (price_cells t F L)) (unpriced 20 0)) (ne_eqb (cycle_at t F L) 0 n))) (fewer_ends n))
            (eq_or_ne (cycle_at t F L) 0)

        -- What pricing asks for.
        pub price_asks : (caps : List ℕ) → caps ≡ caps_in c size
            → (fault_of c ≡ 0) × (rows_formed former (partitions t) ≡ true) × (rows_formed assignment (partitions t) ≡ true) × (caps ≡ cap_cells t (size_of t)) × ValidAt t L (size_of t)
        price_asks caps q = (faultless, former-rows, own-rows, q ∙ (caps_in_lem c size acc.bits ∙ ap (cap_cells t) (sym the_size)), at_size)

  -- So what is owed holds of what is answered, of every cluster whose capacities have 32 bits.
  pub answer_owed : (certify_fault c former assignment size).refusal ≡ 0 → Fits32 t → Owed t F L size (certified_of c former assignment size)
  answer_owed e low =
      ⊎_elim (λ l. let w = larger_ends e low l in subst (Owed t F L size) w.0 (w.1 e))
      (λ no. let w = price_ends e low no (cond (eqb (cycle_at t F L) 0) (priced (price_cells t F L)) (unpriced 20 0)) refl in
      subst (Owed t F L size) w.0 (w.1 e))
      (lt_or_ge size (size_of t))

-- The prices belong to the cluster and the former layout: two layouts that are certified at a size have the same ones, whoever planned them.
pub prices_belong : (t : Topology) → rising (ids_of t.nodes) ≡ true → (F L M : Layout) (s : ℕ) (r q : Certified) → Owed t F L s r → Owed t F M s q
    → r.refusal ≡ 0 → q.refusal ≡ 0 → (b : ℕ) → b < length t.nodes → price_in r b ≡ price_in q b
prices_belong t ids F L M s r q o u a c b l =
    let x : ℕ → ℕ = λ p. costs t (price_in r) (row F p) (row L p) in
    let y : ℕ → ℕ = λ p. costs t (price_in q) (row F p) (row M p) in
    let e : sent t M F ≡ sent t L F =
    omega (arith, certified t ids F s L (price_in r) x (o.certified a) M u.valid, certified t ids F s M (price_in q) y (u.certified c) L o.valid) in
    omega (
      arith,
      o.least a (price_in q) y (certificate_same t ids F s M L (price_in q) y (u.certified c) o.valid (sym e)) b l,
      u.least c (price_in r) x (certificate_same t ids F s L M (price_in r) x (o.certified a) u.valid e) b l,
    )
