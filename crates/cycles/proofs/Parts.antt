-- The nodes behind the fallen, one after the other, and the trace back step by step.
-- Assumes nothing.
use Prim.Native.Nat.{ℕ, ◌+◌, ◌-◌, ◌*◌, ◌≤◌, ◌<◌}
use mathlib.Core.Path.{◌≡◌, refl, sym, ap, ◌∙◌, subst}
use mathlib.Core.Bool.{Bool, true, false, ◌&&◌}
use mathlib.Core.List.{List}
use mathlib.Core.Logic.{⊎_elim}
use native.Mathlib.Numerals.{add-one}
use native.Mathlib.Omega.{arith}
use lib.Dec.{eqb}
use lib.ListN.{get_or, set}
use borrow.Author.Tests.{eq-eqb, ne_eqb}
use Rattle.cluster.specs.Terms.{most_nodes}
use Rattle.cells.specs.ModelCells.{put}
use Rattle.cells.proofs.Cells.{put_next}
use Rattle.sums.proofs.Sum.{eq_or_ne, is_ne}
use Rattle.sets.specs.ModelBits.{bit, member_of, with_of}
use Rattle.sets.proofs.Laws.{bit_zero, bit-true, bit-false}
use Rattle.sets.specs.ModelMembers.{Comes}
use Rattle.sets.proofs.Scan.{Left}
use Rattle.sums.specs.ModelSums.{first_from}
use Rattle.levels.specs.ModelTurns.{Nodes}
use Rattle.cycles.specs.ModelTrails.{behind, returned, closer, trail, trail_length}
use Rattle.levels.proofs.Visits.{visit_member, visit_below, visit_before, visit_after}
use Rattle.sums.proofs.First.{first-is, first-is-none, first_hit, first_miss, first_end}

-- ---- ways

-- The nodes behind v, as they are read and made.
pub behind-with : (row way : List ℕ) (v w : ℕ) → w ≡ with_of (get_or way (get_or row v 0) 0) (get_or row v 0) → w ≡ behind row way v
unfolding behind
behind-with row way v w e = e

-- Of the nodes that are not left, none closes a cycle.
abbrev pub Open : ℕ → List ℕ → List ℕ → ℕ → Type 0
Open fell row way left = (v : ℕ) → v < most_nodes → bit left v ≡ 0 → returned fell row way v ≡ false

module _ (fell : ℕ) (row way : List ℕ) where
  -- At first all that fell are left.
  pub open_start : Open fell row way fell
  unfolding returned
  open_start v l e = ap (λ (b : Bool). b && member_of (behind row way v) v) (bit-false fell v e)

  module _ {left v rest : ℕ} (L : Left fell left) (m : Comes left v rest) (w : ℕ) (at-way : w ≡ behind row way v) (h : Open fell row way left) where
    returned-if : member_of w v ≡ returned fell row way v
    unfolding returned
    returned-if = ap (λ (i : ℕ). member_of i v) at-way ∙ ap (λ (b : Bool). b && member_of (behind row way v) v) (sym (bit-true fell v (visit_member L m)))

    -- The next one closes none.
    pub open_more : member_of w v ≡ false → Open fell row way rest
    open_more e j l z =
        ⊎_elim (λ q. subst (λ (i : ℕ). returned fell row way i ≡ false) q (sym returned-if ∙ e))
        (λ n. h j l (omega (arith, visit_after L m j l, is_ne n))) (eq_or_ne v j)

    -- The next one closes one.
    pub closer_hit : (n : ℕ) → Nodes n fell → member_of w v ≡ true → v ≡ closer n fell row way
    unfolding closer
    closer_hit n k e =
        sym (first-is (returned fell row way) n 0 v (omega arith) (omega (arith, visit_below L m n k)) (sym returned-if ∙ e) (λ j b l. h j (omega (arith, m.below)) (visit_before L m j l)))

  -- None does.
  pub closer-none : (n left : ℕ) → n ≤ most_nodes → left ≡ 0 → Open fell row way left → n ≡ closer n fell row way
  unfolding closer
  closer-none n left s z h =
      sym (first-is-none (returned fell row way) n (λ j l. h j (omega arith) (ap (λ (i : ℕ). bit i j) z ∙ bit_zero j)))

-- ---- the trace

-- The first step back after t that is at v again.
unfoldable pub trail_from : List ℕ → ℕ → ℕ → ℕ → ℕ
trail_from table k v t = first_from (λ t. eqb (trail table k v t) v) (k + 1 - (t + 1)) (t + 1)

module _ (table : List ℕ) (k v : ℕ) where
  -- The trace begins at the node itself.
  pub trail-start : v ≡ trail table k v 0
  unfolding trail
  trail-start = refl

  -- One step back.
  pub trail-next : (t x : ℕ) → x ≡ trail table k v t → get_or table ((k - t) * most_nodes + x) 0 ≡ trail table k v (t + 1)
  unfolding trail
  trail-next t x e = rw (add-one t, e)

  -- The search for v begins at step 1.
  pub length-start : trail_length table k v ≡ trail_from table k v 0
  unfolding trail_length trail_from
  length-start = ap (λ (i : ℕ). first_from (λ t. eqb (trail table k v t) v) i 1) (omega arith)

  -- The next step is at v.
  pub length_hit : (t : ℕ) → t < k → trail table k v (t + 1) ≡ v → trail_from table k v t ≡ t + 1
  unfolding trail_from
  length_hit t l e = first_hit (λ t. eqb (trail table k v t) v) (k + 1) (t + 1) (omega arith) (eq-eqb (trail table k v (t + 1)) v e)

  -- The next step is not.
  pub length_miss : (t : ℕ) → t < k → (trail table k v (t + 1) ≡ v → ⊥) → trail_from table k v t ≡ trail_from table k v (t + 1)
  unfolding trail_from
  length_miss t l e = first_miss (λ t. eqb (trail table k v t) v) (k + 1) (t + 1) (omega arith) (ne_eqb (trail table k v (t + 1)) v e)

  -- No step is.
  pub length_end : (t : ℕ) → k ≤ t → trail_from table k v t ≡ t + 1
  unfolding trail_from
  length_end t l = first_end (λ t. eqb (trail table k v t) v) (k + 1) (t + 1) (omega arith)

  -- The trace ends at v: its length, and all its cells.
  pub trace-found : (t x y : ℕ) (walk₀ walk : List ℕ) → t < k → x ≡ trail table k v t → y ≡ trail table k v (t + 1) → y ≡ v
      → walk ≡ put 0 (trail table k v) t walk₀ → trail_length table k v ≡ trail_from table k v t
      → (t + 1 ≡ trail_length table k v) × (set (set walk t x) (t + 1) y ≡ put 0 (trail table k v) (trail_length table k v + 1) walk₀)
  trace-found t x y walk₀ walk l ex ey e p q =
      let m : trail_length table k v ≡ t + 1 = q ∙ length_hit t l (sym ey ∙ e) in
      (sym m, put_next (trail table k v) (t + 1) y walk₀ (set walk t x) (put_next (trail table k v) t x walk₀ walk p ex) ey ∙ ap (λ (i : ℕ). put 0 (trail table k v) (i + 1) walk₀) (sym m))
