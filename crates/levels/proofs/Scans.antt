-- What a scan comes to: the least distance that is offered below the node's own, from the first node that offers it.
-- Assumes nothing.
use Prim.Native.Nat.{ℕ, zero, suc, ◌+◌, ◌≤◌, ◌<◌}
use mathlib.Core.Path.{◌≡◌, refl, sym, ap, ◌∙◌, subst}
use mathlib.Core.List.{List}
use mathlib.Core.Logic.{⊎_elim}
use native.Mathlib.Omega.{arith}
use lib.ListN.{get_or}
use borrow.Author.Tests.{lt-ltb, le-ltb}
use Rattle.sums.specs.TermsSums.{one_if}
use Rattle.sums.proofs.Sum.{lt_or_ge}
use Rattle.sets.specs.ModelBits.{bit, member_of}
use Rattle.sets.proofs.Laws.{member-true, bit-true}
use Rattle.exchange.specs.ModelLevels.{Fall, scan}
use Rattle.exchange.proofs.Levels.{relax_cases, scan_le}
use Rattle.levels.specs.ModelGraph.{graph_of, arc_of, weight_of}
use Rattle.levels.specs.ModelTurns.{Held}

-- No member of mask below t offers v less than c.
abbrev pub None : List ℕ → ℕ → List ℕ → ℕ → ℕ → ℕ → Type 0
None arcs mask d t v c = (u : ℕ) → u < t → bit mask u ≡ 1 → arc_of arcs u v ≡ 1 → c < get_or d u 0 + weight_of arcs u v

-- The least that is offered to v, below where it stands, is m, and u is the first that offers it.
pub record First (arcs : List ℕ) (n mask : ℕ) (d : List ℕ) (v m u : ℕ) : Type 0 where
  pub below : m < get_or d v 0
  pub node : u < n
  pub member : bit mask u ≡ 1
  pub arc : arc_of arcs u v ≡ 1
  pub exact : get_or d u 0 + weight_of arcs u v ≡ m + 1
  pub least : None arcs mask d n v m
  pub first : None arcs mask d u v (m + 1)

module _ (arcs : List ℕ) (n mask : ℕ) (d : List ℕ) (v : ℕ) where
  abbrev fall : ℕ → Fall
  fall t = scan (graph_of arcs n) (member_of mask) (λ i. get_or d i 0) v t

  -- A scan does not go below what is offered.
  above : (t c : ℕ) → None arcs mask d t v c → c ≤ get_or d v 0 → c ≤ (fall t).dist
  unfolding scan
  above zero c h l = l
  above (suc t) c h l =
      ⊎_elim (λ s. omega (arith, h t (omega arith) (member-true mask t s.0) s.1, ap (λ (f : Fall). f.dist) s.3))
      (λ s. omega (arith, ap (λ (f : Fall). f.dist) s.0, above t c (λ u k. h u (omega arith)) l))
      (relax_cases (graph_of arcs n) (λ i. get_or d i 0) v t (member_of mask t) (fall t))

  -- From the first node that offers the least on, it is at that.
  falls : (m u : ℕ) → First arcs n mask d v m u → (t : ℕ) → u < t → t ≤ n → fall t ≡ record { dist = m; from = u }
  unfolding scan
  falls m u f zero k l = absurd (omega arith)
  falls m u f (suc t) k l = ⊎_elim (λ g. later (falls m u f t g (omega arith))) (λ g. let e : u ≡ t = omega arith in subst (λ (i : ℕ). fall (suc i) ≡ record { dist = m; from = u }) e here) (lt_or_ge u t)
    where
      later : fall t ≡ record { dist = m; from = u } → fall (suc t) ≡ record { dist = m; from = u }
      later e =
          ⊎_elim (λ s. absurd (omega (arith, ap (λ (f : Fall). f.dist) e, s.2, f.least t (omega arith) (member-true mask t s.0) s.1))) (λ s. s.0 ∙ e)
          (relax_cases (graph_of arcs n) (λ i. get_or d i 0) v t (member_of mask t) (fall t))

      here : fall (suc u) ≡ record { dist = m; from = u }
      here =
          ⊎_elim (λ s. s.3 ∙ ap (λ (i : ℕ). record { dist = i; from = u }) (omega (arith, f.exact)))
          (λ s. absurd (omega (arith, s.1 (bit-true mask u f.member) f.arc, f.exact, above u (m + 1) f.first (omega (arith, f.below)))))
          (relax_cases (graph_of arcs n) (λ i. get_or d i 0) v u (member_of mask u) (fall u))

  -- Cells with the least offer and the first that makes it hold the scan.
  pub held_first : (x y b : ℕ) → First arcs n mask d v x y → b ≡ 1 → Held (get_or d v 0) (fall n) x y b
  unfolding one_if
  held_first x y b f q =
      subst (λ (g : Fall). Held (get_or d v 0) g x y b) (sym (falls x y f n f.node (omega arith)))
      (record { low = omega (arith, f.below); dist = refl; from = λ g. refl; mark = q ∙ ap one_if (sym (lt-ltb x (get_or d v 0) f.below)) })

  -- Where nothing less is offered, a node stays.
  pub held-still : (x y b : ℕ) → None arcs mask d n v (get_or d v 0) → x ≡ get_or d v 0 → b ≡ 0 → Held (get_or d v 0) (fall n) x y b
  unfolding one_if
  held-still x y b h e q =
      let l = above n (get_or d v 0) h (omega arith) in
      record {
        low = scan_le (graph_of arcs n) (member_of mask) (λ i. get_or d i 0) v n;
        dist = omega (arith, scan_le (graph_of arcs n) (member_of mask) (λ i. get_or d i 0) v n);
        from = λ g. absurd (omega arith);
        mark = q ∙ ap one_if (sym (le-ltb (fall n).dist (get_or d v 0) l));
      }
