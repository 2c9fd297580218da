-- The search over sets as masks finds the set that the terms find among lists of ids.
-- Assumes nothing.
use Prim.Native.Nat.{ℕ, zero, suc, ◌+◌, ◌≤◌, ◌<◌, ◌^◌}
use mathlib.Core.Path.{◌≡◌, refl, sym, ap, ap₂, ◌∙◌}
use mathlib.Core.Logic.{⊎_elim}
use mathlib.Core.List.{List, [], ◌∷◌, ◌++◌, map, map-append, append_assoc, append-nil}
use native.Mathlib.Omega.{arith}
use lib.ListN.{length, take, drop, get_or, drop_of_length-le}
use lib.Seq.{drop-cons}
use lib.Pow.{pow-lt}
use borrow.Author.Tests.{lt-ltb, le-ltb}
use Rattle.sums.proofs.Sum.{lt_or_ge}
use Rattle.sets.specs.ModelBits.{mask_bits, bit, with_of, below_of}
use Rattle.sets.proofs.Laws.{bit_high, bit_lt, with_lt, bit-with_same, bit-with_other, bit_below, bit-below_not}
use Rattle.cluster.specs.Terms.{most_nodes, no_node, ids_of, Layout}
use Rattle.cluster.specs.declared.Node.{Node}
use Rattle.incidence.specs.ModelIncidence.{ids_where}
use Rattle.incidence.proofs.TieRows.{id-at, length_ids, where_out, where_in}
use Rattle.masks.proofs.Where.{where_none, where_empty}
use Rattle.loss.specs.TermsLoss.{loss_of, sets_of, costlier, costliest}
use Rattle.loss.proofs.Costliest.{more, no_more, kept-join}
use Rattle.loss.specs.ModelSearch.{costing, lost_rows, kept_of, searched}
use Rattle.loss.specs.declared.search.Found.{Found}

-- ---- the ids of a set with one node more

-- Where g has node i beside those of f, which are all before it, its ids are those of f and then that of i.
where_last : (ns : List Node) (f g : ℕ → ℕ) (i : ℕ) → i < length ns → ((j : ℕ) → j < i → g j ≡ f j) → 1 ≤ g i
    → ((j : ℕ) → i ≤ j → j < length ns → f j ≡ 0) → ((j : ℕ) → i < j → j < length ns → g j ≡ 0)
    → ids_where ns g ≡ ids_where ns f ++ ((get_or ns i no_node).id ∷ [])
where_last [] f g i h same here none past = absurd (omega arith)
where_last (n ∷ ns) f g zero h same here none past =
    where_in n ns g here
    ∙ (ap (λ (r : List ℕ). n.id ∷ r) (where_none ns (λ b. g (suc b)) (λ b l. past (suc b) (omega arith) (omega arith)))
    ∙ ap (λ (r : List ℕ). r ++ (n.id ∷ [])) (sym (where_none (n ∷ ns) f (λ b l. none b (omega arith) l))))
where_last (n ∷ ns) f g (suc i) h same here none past =
    let rest = where_last ns (λ b. f (suc b)) (λ b. g (suc b)) i (omega arith) (λ j l. same (suc j) (omega arith)) here
    (λ j l k. none (suc j) (omega arith) (omega arith)) (λ j l k. past (suc j) (omega arith) (omega arith)) in
    ⊎_elim
    (λ l. where_out n ns g (omega (arith, same 0 (omega arith))) ∙ (rest ∙ ap (λ (r : List ℕ). r ++ ((get_or ns i no_node).id ∷ [])) (sym (where_out n ns f (omega arith)))))
    (λ l. where_in n ns g (omega (arith, same 0 (omega arith)))
    ∙ (ap (λ (r : List ℕ). n.id ∷ r) rest ∙ ap (λ (r : List ℕ). r ++ ((get_or ns i no_node).id ∷ [])) (sym (where_in n ns f l))))
    (lt_or_ge (f 0) 1)

-- A set of nodes below i, and one with node i.
low-with : (set i : ℕ) → i < mask_bits → set < 2 ^ i → with_of set i < 2 ^ suc i
low-with set i h l =
    bit_lt mask_bits (suc i) (with_of set i) (with_lt set i)
    (λ j p q. bit-with_other set i j q (λ e. omega arith) ∙ bit_high i set j l (omega arith))

pub where_with : (ns : List Node) (set i : ℕ) → length ns ≤ most_nodes → i < length ns → set < 2 ^ i
    → ids_where ns (bit (with_of set i)) ≡ ids_where ns (bit set) ++ ((get_or ns i no_node).id ∷ [])
where_with ns set i few h l =
    where_last ns (bit set) (bit (with_of set i)) i h (λ j p. bit-with_other set i j (omega arith) (λ e. omega arith))
    (omega (arith, bit-with_same set i (omega arith))) (λ j p q. bit_high i set j l p)
    (λ j p q. bit-with_other set i j (omega arith) (λ e. omega arith) ∙ bit_high i set j l (omega arith))

-- The nodes below n, as a set, have the first n ids.
where_first_ones : (ns : List Node) (n : ℕ) (f : ℕ → ℕ) → ((b : ℕ) → b < n → b < length ns → 1 ≤ f b) → ((b : ℕ) → n ≤ b → f b ≡ 0) → ids_where ns f ≡ take n (ids_of ns)
unfolding ids_of ids_where
where_first_ones [] zero f ones none = refl
where_first_ones [] (suc n) f ones none = refl
where_first_ones (m ∷ ns) zero f ones none = where_none (m ∷ ns) f (λ b l. none b (omega arith))
where_first_ones (m ∷ ns) (suc n) f ones none =
    where_in m ns f (ones 0 (omega arith) (omega arith))
    ∙ ap (λ (r : List ℕ). m.id ∷ r) (where_first_ones ns n (λ b. f (suc b)) (λ b l k. ones (suc b) (omega arith) (omega arith)) (λ b l. none (suc b) (omega arith)))

pub where_below : (ns : List Node) (n : ℕ) → length ns ≤ most_nodes → ids_where ns (bit (below_of n)) ≡ take n (ids_of ns)
where_below ns n few =
    where_first_ones ns n (bit (below_of n)) (λ b l k. omega (arith, bit_below n b (omega arith) l)) (λ b l. bit-below_not n b l)

-- ---- the search

-- The rows that are searched are those of the layout and `past` more, which are lost with every set.
module _ (ns : List Node) (rows : List ℕ) (L : Layout) (past : ℕ) (few : length ns ≤ most_nodes)
    (same : (set : ℕ) → lost_rows rows set ≡ loss_of L (ids_where ns (bit set)) + past) where
  abbrev ids : ℕ → List ℕ
  ids set = ids_where ns (bit set)

  -- Those of a set, and then others.
  abbrev then : List ℕ → List (List ℕ) → List (List ℕ)
  then pre Xs = map (λ (X : List ℕ). pre ++ X) Xs

  then_one : (pre : List ℕ) (x : ℕ) (Xs : List (List ℕ)) → then pre (map (λ (X : List ℕ). x ∷ X) Xs) ≡ then (pre ++ (x ∷ [])) Xs
  then_one pre x [] = refl
  then_one pre x (X ∷ Xs) = ap₂ (λ (Y : List ℕ) (Ys : List (List ℕ)). Y ∷ Ys) (sym (append_assoc pre (x ∷ []) X)) (then_one pre x Xs)

  -- What the search answers, as a set that costs what it says, and its ids as the terms find them.
  abbrev Finds : ℕ → ℕ → ℕ → ℕ → ℕ → ℕ → Type 0
  Finds left i k set best r =
      (searched rows left i k set (costing rows best) ≡ costing rows r) × (ids r ≡ costliest L (ids best) (then (ids set) (sets_of left (drop i (ids_of ns)))))

  pub finds : (left i k set best : ℕ) → i + k ≡ length ns → set < 2 ^ i → (r : ℕ) × Finds left i k set best r
  unfolding searched sets_of costliest kept_of costing
  finds zero i k set best e l =
      let s : ids set ++ [] ≡ ids set = append-nil (ids set) in
      ⊎_elim
      (λ h. (
        set,
        (
          rw (lt-ltb (lost_rows rows best) (lost_rows rows set) h),
          sym (ap (costlier L (ids best)) s ∙ more L (ids best) (ids set) (omega (arith, same set, same best))),
        ),
      ))
      (λ h. (
        best,
        (
          rw (le-ltb (lost_rows rows best) (lost_rows rows set) h),
          sym (ap (costlier L (ids best)) s ∙ no_more L (ids best) (ids set) (omega (arith, same set, same best))),
        ),
      ))
      (lt_or_ge (lost_rows rows best) (lost_rows rows set))
  finds (suc left) i zero set best e l =
      let none : drop i (ids_of ns) ≡ [] = drop_of_length-le (ids_of ns) {i = i} (omega (arith, length_ids ns)) in
      (best, (refl, sym (ap (λ (r : List ℕ). costliest L (ids best) (then (ids set) (sets_of (suc left) r))) none)))
  finds (suc left) i (suc k) set best e l =
      let here : i < length ns = omega arith in
      let x = (get_or ns i no_node).id in
      let later = drop (suc i) (ids_of ns) in
      let cut : drop i (ids_of ns) ≡ x ∷ later =
      drop-cons (ids_of ns) i 0 (omega (arith, length_ids ns)) ∙ ap (λ (y : ℕ). y ∷ later) (id-at ns i) in
      let u = finds left (suc i) k (with_of set i) best (omega arith) (low-with set i (omega arith) l) in
      let w = finds (suc left) (suc i) k set u.0 (omega arith) (wider set i l) in (
        w.0,
        (
          ap (λ (b : Found). searched rows (suc left) (suc i) k set b) u.1.0 ∙ w.1.0,
          w.1.1
              ∙ (ap (λ (b : List ℕ). costliest L b (then (ids set) (sets_of (suc left) later))) u.1.1
              ∙ (ap (λ (p : List ℕ). costliest L (costliest L (ids best) (then p (sets_of left later))) (then (ids set) (sets_of (suc left) later)))
              (where_with ns set i few here l)
              ∙ (ap (λ (a : List (List ℕ)). costliest L (costliest L (ids best) a) (then (ids set) (sets_of (suc left) later))) (sym (then_one (ids set) x (sets_of left later)))
              ∙ (sym (kept-join L (ids best) (then (ids set) (map (λ (X : List ℕ). x ∷ X) (sets_of left later))) (then (ids set) (sets_of (suc left) later)))
              ∙ (ap (costliest L (ids best)) (sym (map-append (λ (X : List ℕ). ids set ++ X) (map (λ (X : List ℕ). x ∷ X) (sets_of left later)) (sets_of (suc left) later)))
              ∙ ap (λ (r : List ℕ). costliest L (ids best) (then (ids set) (sets_of (suc left) r))) (sym cut)))))),
        ),
      )
    where
      wider : (s j : ℕ) → s < 2 ^ j → s < 2 ^ suc j
      wider s j h = omega (arith, pow-lt {i = j} {j = suc j} (omega arith))

  -- From no node, all of them, and the set of the first n: the worst set of the terms, with what it costs.
  pub finds_worst : (n : ℕ) → (r : ℕ) × (searched rows n 0 (length ns) 0 (costing rows (below_of n)) ≡ costing rows r)
      × (ids r ≡ costliest L (take n (ids_of ns)) (sets_of n (ids_of ns)))
  finds_worst n =
      let w = finds n 0 (length ns) 0 (below_of n) (omega arith) (omega arith) in (
        w.0,
        w.1.0,
        w.1.1
            ∙ (ap (λ (p : List ℕ). costliest L (ids (below_of n)) (then p (sets_of n (ids_of ns)))) (where_empty ns)
            ∙ (ap (λ (Xs : List (List ℕ)). costliest L (ids (below_of n)) Xs) (then-none (sets_of n (ids_of ns)))
            ∙ ap (λ (p : List ℕ). costliest L p (sets_of n (ids_of ns))) (where_below ns n few))),
      )
    where
      then-none : (Xs : List (List ℕ)) → then [] Xs ≡ Xs
      then-none [] = refl
      then-none (X ∷ Xs) = ap (λ (Ys : List (List ℕ)). X ∷ Ys) (then-none Xs)
