-- The members of a set, one after the other, the least first: the cells of those that are not left, and the nodes that have been passed.
-- Assumes nothing.
use Prim.Native.Nat.{ℕ, ◌+◌, ◌-◌, ◌≤◌, ◌<◌}
use mathlib.Core.Path.{◌≡◌, refl, sym, ap, ◌∙◌, subst}
use mathlib.Core.List.{List}
use mathlib.Core.Logic.{⊎_elim}
use native.Mathlib.Omega.{arith}
use lib.ListN.{length, get_or, set}
use lib.Seq.{get_or-set_same, get_or-set_other}
use Rattle.cluster.specs.Terms.{most_nodes}
use Rattle.sums.specs.ModelSums.{is}
use Rattle.sums.proofs.Sum.{lt_or_ge, eq_or_ne, is_eq, is_ne}
use Rattle.sets.specs.ModelBits.{bit, without_of}
use Rattle.sets.proofs.Laws.{bit_le, bit_zero, bit-without, least_at, least-before}
use Rattle.sets.specs.ModelMembers.{Comes}
use Rattle.sets.proofs.Scan.{Left, left_less, done_more, done_all}
use Rattle.levels.specs.ModelTurns.{Settled, Nodes}

-- The turn at the next member w, of those left, with the rest after it.
module _ {s left w rest : ℕ} (L : Left s left) (m : Comes left w rest) where
  here : bit left w ≡ 1
  here = ap (bit left) m.least ∙ least_at left (omega (arith, m.least, m.below))

  -- It is a member.
  pub visit_member : bit s w ≡ 1
  visit_member = omega (arith, L.part w m.below, here, bit_le s w)

  -- It is below n where all members are.
  pub visit_below : (n : ℕ) → Nodes n s → w < n
  visit_below n k = ⊎_elim (λ l. l) (λ g. absurd (omega (arith, k w m.below g, visit_member))) (lt_or_ge w n)

  -- Nothing is left before it.
  pub visit_before : (i : ℕ) → i < w → bit left i ≡ 0
  visit_before i l = least-before left i (omega (arith, m.least))

  -- What is left is still a part.
  pub visit_rest : Left s rest
  visit_rest = subst (Left s) (sym m.rest) (left_less s left L m.some)

  -- After it the others are left.
  pub visit_after : (v : ℕ) → v < most_nodes → bit rest v ≡ bit left v - is w v
  visit_after v l = ap (λ (i : ℕ). bit i v) (m.rest ∙ ap (without_of left) (sym m.least)) ∙ bit-without left w v l

  done : (v : ℕ) → v < most_nodes → bit s v - bit left v + is w v ≡ bit s v - bit rest v
  done v l = omega (arith, done_more s left L m.some v l, ap (λ (i : ℕ). is i v) m.least, ap (λ (i : ℕ). bit i v) m.rest)

  still : (v : ℕ) → v < most_nodes → (w ≡ v → ⊥) → bit s v - bit left v ≡ bit s v - bit rest v
  still v l n = omega (arith, done v l, is_ne n)

  -- The cell of the next member holds what it shall.
  pub settled-more : (x : ℕ → ℕ) (y : ℕ) (l₀ l : List ℕ) → most_nodes ≤ length l → y ≡ x w → Settled (λ v. bit s v - bit left v) x l₀ l
      → Settled (λ v. bit s v - bit rest v) x l₀ (set l w y)
  settled-more x y l₀ l k q h =
      record {
        taken = λ v i e. ⊎_elim (λ r. same v r) (λ n. other v n ∙ h.taken v i (still v i n ∙ e)) (eq_or_ne w v);
        left = λ v i e. ⊎_elim (λ r. absurd (omega (arith, done v i, is_eq r))) (λ n. other v n ∙ h.left v i (still v i n ∙ e)) (eq_or_ne w v);
      }
    where
      same : (v : ℕ) → w ≡ v → get_or (set l w y) v 0 ≡ x v
      same v r = subst (λ (i : ℕ). get_or (set l w y) i 0 ≡ x i) r (get_or-set_same l w y 0 (omega (arith, m.below)) ∙ q)

      other : (v : ℕ) → (w ≡ v → ⊥) → get_or (set l w y) v 0 ≡ get_or l v 0
      other v n = get_or-set_other l w v y 0 (λ r. n (sym r))

-- Before the first member all cells are as they were.
pub settled-start : (s : ℕ) (x : ℕ → ℕ) (l : List ℕ) → Settled (λ v. bit s v - bit s v) x l l
settled-start s x l = record { taken = λ v m e. absurd (omega arith); left = λ v m e. refl }

-- After the last the cells of all members hold what they shall.
pub settled_end : (s left : ℕ) (x : ℕ → ℕ) (l l' : List ℕ) → left ≡ 0 → Settled (λ v. bit s v - bit left v) x l l' → Settled (bit s) x l l'
settled_end s left x l l' z h =
    record { taken = λ v m e. h.taken v m (done_all s left v z ∙ e); left = λ v m e. h.left v m (done_all s left v z ∙ e) }

-- ---- in order

-- All nodes below t have been passed, and none from t on.
pub record Passed (s left t : ℕ) : Type 0 where
  pub gone : (i : ℕ) → i < t → bit left i ≡ 0
  pub ahead : (i : ℕ) → t ≤ i → i < most_nodes → bit left i ≡ bit s i

-- At first none has.
pub passed_start : (s : ℕ) → Passed s s 0
passed_start s = record { gone = λ i l. absurd (omega arith); ahead = λ i a b. refl }

-- At last there is no member from t on.
pub passed_end : {s left t : ℕ} → Passed s left t → left ≡ 0 → (i : ℕ) → t ≤ i → i < most_nodes → bit s i ≡ 0
passed_end p z i a b = sym (p.ahead i a b) ∙ (ap (λ (x : ℕ). bit x i) z ∙ bit_zero i)

module _ {s left t w rest : ℕ} (p : Passed s left t) (m : Comes left w rest) where
  -- What is left is a part.
  pub passed_left : Left s left
  passed_left = record { word = m.word; part = λ i l. ⊎_elim (λ a. omega (arith, p.gone i a)) (λ a. omega (arith, p.ahead i a l)) (lt_or_ge i t) }

  -- The next member has not been passed.
  passed_le : t ≤ w
  passed_le = ⊎_elim (λ l. absurd (omega (arith, p.gone w l, here passed_left m))) (λ l. l) (lt_or_ge w t)

  -- There is none before it.
  pub passed_none : (i : ℕ) → t ≤ i → i < w → bit s i ≡ 0
  passed_none i a b = sym (p.ahead i a (omega (arith, m.below))) ∙ visit_before passed_left m i b

  -- After it, it has been passed.
  pub passed_next : Passed s rest (w + 1)
  passed_next =
      record {
        gone = λ i l. ⊎_elim (λ a. omega (arith, visit_after passed_left m i (omega (arith, m.below)), visit_before passed_left m i a))
            (λ a. omega (arith, visit_after passed_left m i (omega (arith, m.below)), is_eq {a = w} {b = i} (omega arith), bit_le left i)) (lt_or_ge i w);
        ahead = λ i a b. omega (arith, visit_after passed_left m i b, is_ne {a = w} {b = i} (λ q. omega arith), p.ahead i (omega (arith, passed_le)) b);
      }
