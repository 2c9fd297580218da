-- The cells still lead along every even exchange after a turn, once those of the rows that changed are added.
-- Assumes nothing.
use Prim.Native.Nat.{ℕ, zero, suc, ◌≤◌, ◌<◌}
use mathlib.Core.Path.{◌≡◌, sym, ap, ◌∙◌, subst}
use mathlib.Core.List.{List}
use mathlib.Core.Logic.{◌⊎◌, inl, inr, ⊎_elim}
use native.Mathlib.Omega.{arith}
use lib.ListN.{get_or}
use Rattle.sums.proofs.Sum.{lt_or_ge, eq_or_ne}
use Rattle.cluster.specs.Terms.{most_nodes}
use Rattle.sets.specs.ModelBits.{bit}
use Rattle.sets.proofs.Laws.{bit_le}
use Rattle.exchange.specs.ModelRow.{Exchange, copies, swap}
use Rattle.exchange.specs.ModelCircuit.{Circuit, turn}
use Rattle.exchange.proofs.Circuit.{turn-room, turn-kept}
use Rattle.exchange.proofs.Agreeing.{valid_cong, swap_cong}
use Rattle.ties.specs.ModelEven.{Even}
use Rattle.attempts.specs.ModelDeciding.{Covers}

-- Some arc is of a partition, or none is.
some-arc : (m : ℕ) (q : ℕ → ℕ) (p : ℕ) → ((i : ℕ) × (i < m) × (q i ≡ p)) ⊎ ((i : ℕ) → i < m → q i ≡ p → ⊥)
some-arc zero q p = inr (λ i l. absurd (omega arith))
some-arc (suc n) q p =
    ⊎_elim (λ w. inl (w.0, omega (arith, w.1), w.2))
    (λ h. ⊎_elim (λ e. inl (n, omega arith, e))
    (λ d. inr (λ i l. ⊎_elim (λ k. h i k) (λ k e. d (let z : i ≡ n = omega arith in ap q (sym z) ∙ e)) (lt_or_ge i n))) (eq_or_ne (q n) p))
    (some-arc n q p)

module _ (P N R Z C : ℕ) (zone cap : ℕ → ℕ) (g w free S : ℕ → ℕ → ℕ) (d : ℕ → ℕ) (m : ℕ) (y q : ℕ → ℕ) (c : Circuit P N R Z C zone cap w free S m y q)
    (old new : List ℕ) (h : Covers P N R Z zone cap g free S d old) (more : (u v : ℕ) → u < N → v < N → bit (get_or old u 0) v ≤ bit (get_or new u 0) v)
    (rows : (i u v : ℕ) → i < m → q i < P → Even N R Z zone g free (turn m y q S) d (q i) u v → bit (get_or new u 0) v ≡ 1)
    (store : (i v : ℕ) → i < m → P ≤ q i → v < N → d v ≡ d (y i) → bit (get_or new (y i) 0) v ≡ 1)
    (nodes : (u v : ℕ) → u < most_nodes → N ≤ v → v < most_nodes → bit (get_or new u 0) v ≡ 0)
  where
    -- Cells that only grew, have the even exchanges of the changed rows, and for each step over the store those beside its target, cover the turn.
    pub covers_turn : Covers P N R Z zone cap g free (turn m y q S) d new
    covers_turn =
        record {
          rows = λ p u v l t. ⊎_elim
              (λ x. rows x.0 u v x.1 (omega (arith, x.2))
              (subst (λ (k : ℕ). Even N R Z zone g free (turn m y q S) d k u v) (sym x.2) t))
              (λ n. kept p u v l t n) (some-arc m q p);
          store = λ u v l k r e. ⊎_elim
              (λ f. let x = turn-room P N R Z C zone cap w free S m y q c u f in
              subst (λ (j : ℕ). bit (get_or new j 0) v ≡ 1) x.3 (store x.0 v x.1 x.2 k (e ∙ ap d (sym x.3))))
              (λ f. omega (arith, h.store u v l k (omega arith) e, more u v l k, bit_le (get_or new u 0) v))
              (lt_or_ge (copies P (turn m y q S) u) (copies P S u));
          nodes = nodes;
        }
      where
        kept : (p u v : ℕ) → p < P → Even N R Z zone g free (turn m y q S) d p u v → ((i : ℕ) → i < m → q i ≡ p → ⊥) → bit (get_or new u 0) v ≡ 1
        kept p u v l t n =
            let same = turn-kept P N R Z C zone cap w free S m y q c p n in
            let e = t.exchange in
            let x : Exchange N R Z zone free S p u v =
            record {
              a_node = e.a_node;
              b_node = e.b_node;
              a_in = sym (same u) ∙ e.a_in;
              b_out = sym (same v) ∙ e.b_out;
              a_free = e.a_free;
              b_free = e.b_free;
              valid = valid_cong N zone (swap (turn m y q S p) u v) (swap (S p) u v) (swap_cong N zone (turn m y q S p) (S p) (λ z k. same z) u v) R Z e.valid;
            } in
            omega (arith, h.rows p u v l (record { exchange = x; level = t.level }), more u v e.a_node e.b_node, bit_le (get_or new u 0) v)
