-- A sweep over the distances, from the least on: before each, all that is offered less has been taken.
-- Assumes nothing.
use Prim.Native.Nat.{ℕ, ◌+◌, ◌-◌, ◌*◌, ◌≤◌, ◌<◌, min, max}
use mathlib.Core.Path.{◌≡◌, refl, sym, ap, ◌∙◌, subst}
use mathlib.Core.List.{List, ◌++◌}
use mathlib.Core.Logic.{◌⊎◌, inl, inr, ⊎_elim}
use native.Mathlib.Omega.{arith}
use lib.Dec.{leb}
use lib.ListN.{length, get_or, set, take}
use lib.Seq.{get_or-set_same, get_or-set_other}
use Rattle.cells.proofs.Parts.{part-before, part_in}
use Rattle.cluster.specs.Terms.{most_nodes}
use Rattle.sums.specs.TermsSums.{one_if}
use Rattle.sums.proofs.Sum.{lt_or_ge}
use Rattle.sets.specs.ModelBits.{bit, below_of, union_of, meet_of, difference_of}
use Rattle.sets.proofs.Laws.{bit_le, bit_zero, bit-union, bit-meet, bit-difference, bit_below, bit-below_not}
use Rattle.levels.specs.ModelGraph.{arc_of, weight_of}
use Rattle.levels.specs.ModelTurns.{AtMost, Nodes, Ready, Swept, Descended, Taken, stand_of, leads_to}
use Rattle.levels.proofs.Offers.{one_in, one_out, in_one, out_one, stand_in, stand-out}
use Rattle.levels.proofs.Scans.{None, First, held_first, held-still}
use Rattle.levels.proofs.Leads.{At, Near, lead-all, lead-some}

-- Before distance c: the nodes of fell have fallen below it, each to the least that is offered to it; the others stand where they stood, and are offered
-- nothing less than c.
pub record Falling (arcs : List ℕ) (n mask : ℕ) (d next₀ : List ℕ) (c : ℕ) (next row : List ℕ) (fell : ℕ) : Type 0 where
  pub nodes : Nodes n fell
  pub kept : (v : ℕ) → v < most_nodes → bit fell v ≡ 0 → get_or next v 0 ≡ get_or next₀ v 0
  pub low : (v : ℕ) → v < n → bit fell v ≡ 1 → get_or next v 0 < c
  pub first : (v : ℕ) → v < n → bit fell v ≡ 1 → First arcs n mask d v (get_or next v 0) (get_or row v 0)
  pub none : (v : ℕ) → v < n → bit fell v ≡ 0 → None arcs mask d n v (min c (get_or d v 0))

-- The sets of the distances below c are those of the next level, and the others those of the level before.
pub record Stood (c : ℕ) (next atmost₀ atmost : List ℕ) : Type 0 where
  pub low : (v e : ℕ) → v < most_nodes → e < c → bit (get_or atmost e 0) v ≡ one_if (leb (get_or next v 0) e)
  pub high : (e : ℕ) → c ≤ e → get_or atmost e 0 ≡ get_or atmost₀ e 0

-- Between two distances: here has the nodes that stood at c or below, even those of mask that stood at c, and up those that stood one below it.
pub record Sweeping (arcs : List ℕ) (n mask : ℕ) (d next₀ atmost₀ : List ℕ) (c here even up fell : ℕ) (next row atmost : List ℕ) : Type 0 where
  pub upto : c ≤ n
  pub falling : Falling arcs n mask d next₀ c next row fell
  pub stood : Stood c next atmost₀ atmost
  pub at_here : c < n → here ≡ get_or atmost₀ c 0
  pub evens : At n mask d (c + 1) even
  pub ups : At n mask d c up

-- What a turn at distance c makes.
pub record Turned (arcs : List ℕ) (n mask c here even up fell : ℕ) (next row atmost : List ℕ) (above down near free still : ℕ) (next' row' : List ℕ) : Type 0 where
  pub inside : c < n
  pub at_above : above ≡ stand_of atmost n (c + 1)
  pub at_down : down ≡ difference_of (meet_of mask above) here
  pub at-near : near ≡ union_of down (union_of even up)
  pub at-free : free ≡ difference_of (below_of n) (union_of here fell)
  pub taken : Taken near (leads_to arcs even up) most_nodes free still c next row next' row'

-- The free nodes are all but those here and those that have fallen.
pub frees : (free all met n here fell : ℕ) → free ≡ difference_of all met → all ≡ below_of n → met ≡ union_of here fell → free ≡ difference_of (below_of n) (union_of here fell)
frees free all met n here fell e a m = cc

-- Before the least distance that can be offered nothing has fallen.
pub sweep-start : (arcs : List ℕ) (n k mask c here : ℕ) (d next row atmost : List ℕ) → Ready n k mask d next atmost → c + k + 1 ≡ n → here ≡ stand_of atmost n c
    → Sweeping arcs n mask d next atmost c here 0 0 0 next row atmost
sweep-start arcs n k mask c here d next row atmost r e q =
    record {
      upto = omega arith;
      falling =
          record {
            nodes = λ v l g. bit_zero v;
            kept = λ v l z. refl;
            low = λ v l z. absurd (omega (arith, bit_zero v));
            first = λ v l z. absurd (omega (arith, bit_zero v));
            none = λ v l z u g m a. omega (arith, r.high u g);
          };
      stood = record { low = λ v i l g. r.stand v i l (omega arith); high = λ i g. refl };
      at_here = λ l. q ∙ stand_in atmost n c l;
      evens = record { some = λ u l z. absurd (omega (arith, bit_zero u)); all = λ u l m z. absurd (omega (arith, r.high u l)) };
      ups = record { some = λ u l z. absurd (omega (arith, bit_zero u)); all = λ u l m z. absurd (omega (arith, r.high u l)) };
    }

module _ {arcs d next₀ atmost₀ next row atmost next' row' : List ℕ} {n k mask c here even up fell above down near free still : ℕ} (r : Ready n k mask d next₀ atmost₀)
    (i : Sweeping arcs n mask d next₀ atmost₀ c here even up fell next row atmost) (t : Turned arcs n mask c here even up fell next row atmost above down near free still next' row') where
  f : Falling arcs n mask d next₀ c next row fell
  f = i.falling

  here_bit : (v : ℕ) → v < most_nodes → bit here v ≡ one_if (leb (get_or next₀ v 0) c)
  here_bit v l = ap (λ (x : ℕ). bit x v) (i.at_here t.inside) ∙ r.stand v c l t.inside

  here_at : (v : ℕ) → v < n → bit here v ≡ one_if (leb (get_or d v 0) c)
  here_at v l = here_bit v (omega (arith, r.small)) ∙ ap (λ (x : ℕ). one_if (leb x c)) (r.same v l)

  above_cell : c + 1 < n → above ≡ get_or atmost₀ (c + 1) 0
  above_cell l = t.at_above ∙ (stand_in atmost n (c + 1) l ∙ i.stood.high (c + 1) (omega arith))

  above_at : (v : ℕ) → v < n → bit above v ≡ one_if (leb (get_or d v 0) (c + 1))
  above_at v l =
      ⊎_elim
      (λ g. ap (λ (x : ℕ). bit x v) (above_cell g) ∙ (r.stand v (c + 1) (omega (arith, r.small)) g ∙ ap (λ (x : ℕ). one_if (leb x (c + 1))) (r.same v l)))
      (λ g. ap (λ (x : ℕ). bit x v) (t.at_above ∙ stand-out atmost n (c + 1) g)
      ∙ (bit_below n v (omega (arith, r.small)) l ∙ sym (one_in (get_or d v 0) (c + 1) (omega (arith, r.low v l)))))
      (lt_or_ge (c + 1) n)

  down_bit : (u : ℕ) → u < most_nodes → bit down u ≡ min (bit mask u) (bit above u) - bit here u
  down_bit u l = omega (arith, ap (λ (x : ℕ). bit x u) t.at_down, bit-difference (meet_of mask above) here u l, bit-meet mask above u l)

  downs : At n mask d (c + 2) down
  downs =
      record {
        some = λ u l e.
            let m : bit mask u ≡ 1 = omega (arith, down_bit u l, bit_le mask u) in
            let k : u < n = ⊎_elim (λ g. g) (λ g. absurd (omega (arith, r.nodes u l g))) (lt_or_ge u n) in
            let a : get_or d u 0 ≤ c + 1 = in_one (get_or d u 0) (c + 1) (omega (arith, above_at u k, down_bit u l, bit_le above u)) in
            let b : c < get_or d u 0 = out_one (get_or d u 0) c (omega (arith, here_at u k, down_bit u l, bit_le mask u)) in
            (k, m, omega arith);
        all = λ u l m e.
            omega (
              arith,
              down_bit u (omega (arith, r.small)),
              above_at u l,
              one_in (get_or d u 0) (c + 1) (omega arith),
              here_at u l,
              one_out (get_or d u 0) c (omega arith),
            );
      }

  nears : Near n mask d c down even up near
  nears = record { small = r.small; downs = downs; evens = i.evens; ups = i.ups; both = t.at-near }

  free-bit : (v : ℕ) → v < most_nodes → bit free v ≡ bit (below_of n) v - max (bit here v) (bit fell v)
  free-bit v l = omega (arith, ap (λ (x : ℕ). bit x v) t.at-free, bit-difference (below_of n) (union_of here fell) v l, bit-union here fell v l)

  free-node : (v : ℕ) → v < most_nodes → 1 ≤ bit free v → v < n
  free-node v l e = ⊎_elim (λ g. g) (λ g. absurd (omega (arith, free-bit v l, bit-below_not n v g))) (lt_or_ge v n)

  -- A free node has not fallen, and stands above c.
  free-high : (v : ℕ) → v < most_nodes → 1 ≤ bit free v → (bit fell v ≡ 0) × (c < get_or d v 0)
  free-high v l e =
      let b = bit_le (below_of n) v in
      (omega (arith, free-bit v l), out_one (get_or d v 0) c (omega (arith, here_at v (free-node v l e), free-bit v l)))

  -- A free node is offered nothing less than c.
  free-none : (v : ℕ) → v < most_nodes → 1 ≤ bit free v → None arcs mask d n v c
  free-none v l e u k m a = let h = free-high v l e in omega (arith, f.none v (free-node v l e) h.0 u k m a)

  -- Nor c, by a node that does not lead to it.
  free_more : (v : ℕ) → v < most_nodes → 1 ≤ bit free v → (u : ℕ) → u < n → (bit near u ≡ 1 → bit (leads_to arcs even up u) v ≡ 0) → bit mask u ≡ 1 → arc_of arcs u v ≡ 1
      → c + 1 < get_or d u 0 + weight_of arcs u v
  free_more v l e u k h m a =
      ⊎_elim (λ g. g)
      (λ g. let p = lead-all nears arcs u v k m a (omega (arith, free-none v l e u k m a)) in absurd (omega (arith, h p.0, p.1)))
      (lt_or_ge (c + 1) (get_or d u 0 + weight_of arcs u v))

  -- A node that falls does so to the least that is offered, by the first that offers it.
  falls_first : (v : ℕ) → v < most_nodes → bit still v < bit free v → First arcs n mask d v c (get_or row' v 0)
  falls_first v l e =
      let g : 1 ≤ bit free v = omega arith in
      let w = t.taken.node v l e in
      let p = lead-some nears arcs (get_or row' v 0) v w.0 w.1 w.2 (λ b m a. free-none v l g (get_or row' v 0) b m a) in
      record {
        below = (free-high v l g).1;
        node = p.0;
        member = p.1;
        arc = p.2;
        exact = p.3;
        least = free-none v l g;
        first = λ x k m a. free_more v l g x (omega (arith, p.0)) (λ s. t.taken.first x v l e k s) m a;
      }

  module _ {fell' cell : ℕ} (long : c < length atmost) (q : fell' ≡ union_of fell (difference_of free still)) (s : cell ≡ union_of here fell') where
    fell-bit : (v : ℕ) → v < most_nodes → bit fell' v ≡ max (bit fell v) (bit free v - bit still v)
    fell-bit v l = omega (arith, ap (λ (x : ℕ). bit x v) q, bit-union fell (difference_of free still) v l, bit-difference free still v l)

    falls_or_not : (v : ℕ) → v < most_nodes → (bit still v < bit free v) ⊎ (bit still v ≡ bit free v)
    falls_or_not v l = ⊎_elim (λ g. inl g) (λ g. inr (omega (arith, t.taken.part v l))) (lt_or_ge (bit still v) (bit free v))

    falling-next : Falling arcs n mask d next₀ (c + 1) next' row' fell'
    falling-next =
        record {
          nodes = λ v l g. omega (arith, fell-bit v l, f.nodes v l g, free-bit v l, bit-below_not n v g);
          kept = λ v l e.
              let h : bit still v ≡ bit free v = omega (arith, fell-bit v l, t.taken.part v l) in
              (t.taken.kept v l h).0 ∙ f.kept v l (omega (arith, fell-bit v l));
          low = λ v b e.
              let l : v < most_nodes = omega (arith, r.small) in
              ⊎_elim (λ h. omega (arith, t.taken.took v l h)) (λ h. omega (arith, (t.taken.kept v l h).0, f.low v b (omega (arith, fell-bit v l)))) (falls_or_not v l);
          first = λ v b e.
              let l : v < most_nodes = omega (arith, r.small) in
              ⊎_elim (λ h. subst (λ (x : ℕ). First arcs n mask d v x (get_or row' v 0)) (sym (t.taken.took v l h)) (falls_first v l h))
              (λ h. rw ((t.taken.kept v l h).0, (t.taken.kept v l h).1) (f.first v b (omega (arith, fell-bit v l)))) (falls_or_not v l);
          none = λ v b e u k m a.
              let l : v < most_nodes = omega (arith, r.small) in
              let h : bit still v ≡ bit free v = omega (arith, fell-bit v l, t.taken.part v l) in
              let z : bit fell v ≡ 0 = omega (arith, fell-bit v l) in
              ⊎_elim
              (λ g. let p : get_or d v 0 ≤ c = in_one (get_or d v 0) c (omega (arith, here_at v b, free-bit v l, bit_below n v l b, bit_le here v)) in omega (arith, f.none v b z u k m a))
              (λ g. omega (arith, free_more v l g u k (λ s. t.taken.none u v l (omega (arith, bit_le free v)) (omega (arith, r.small)) s) m a))
              (lt_or_ge (bit free v) 1);
        }

    cell-bit : (v : ℕ) → v < most_nodes → bit cell v ≡ max (bit here v) (bit fell' v)
    cell-bit v l = ap (λ (x : ℕ). bit x v) s ∙ bit-union here fell' v l

    other : (e : ℕ) → (e ≡ c → ⊥) → get_or (set atmost c cell) e 0 ≡ get_or atmost e 0
    other e g = get_or-set_other atmost c e cell 0 g

    -- A node that falls stood above c.
    stood_high : (v : ℕ) → v < most_nodes → bit still v < bit free v → c < get_or next v 0
    stood_high v l e =
        let h = free-high v l (omega arith) in
        omega (arith, f.kept v l h.0, r.same v (free-node v l (omega arith)))

    below_c : (v e : ℕ) → v < most_nodes → e < c → bit (get_or (set atmost c cell) e 0) v ≡ one_if (leb (get_or next' v 0) e)
    below_c v e l g =
        ap (λ (x : ℕ). bit x v) (other e (λ z. omega arith))
        ∙ (i.stood.low v e l g
        ∙ ⊎_elim (λ h. one_out (get_or next v 0) e (omega (arith, stood_high v l h)) ∙ sym (one_out (get_or next' v 0) e (omega (arith, t.taken.took v l h))))
        (λ h. ap (λ (x : ℕ). one_if (leb x e)) (sym (t.taken.kept v l h).0)) (falls_or_not v l))

    at_c : (v : ℕ) → v < most_nodes → bit cell v ≡ one_if (leb (get_or next' v 0) c)
    at_c v l =
        ⊎_elim
        (λ z. let h : bit still v ≡ bit free v = omega (arith, fell-bit v l, t.taken.part v l) in
        omega (arith, cell-bit v l, here_bit v l)
        ∙ ap (λ (x : ℕ). one_if (leb x c)) (sym (falling-next.kept v l (omega arith))))
        (λ z. let e : bit fell' v ≡ 1 = omega (arith, bit_le fell' v) in
        let b : v < n = ⊎_elim (λ g. g) (λ g. absurd (omega (arith, falling-next.nodes v l g))) (lt_or_ge v n) in
        omega (arith, cell-bit v l, bit_le here v, one_in (get_or next' v 0) c (omega (arith, falling-next.low v b e))))
        (lt_or_ge (bit fell' v) 1)

    -- After distance c the same holds before the next.
    pub sweep-more : Sweeping arcs n mask d next₀ atmost₀ (c + 1) above down even fell' next' row' (set atmost c cell)
    sweep-more =
        record {
          upto = omega (arith, t.inside);
          falling = falling-next;
          stood =
              record {
                low = λ v e l g.
                    ⊎_elim (λ h. below_c v e l h)
                    (λ h. let z : c ≡ e = omega arith in
                    subst (λ (x : ℕ). bit (get_or (set atmost c cell) x 0) v ≡ one_if (leb (get_or next' v 0) x)) z
                    (ap (λ (x : ℕ). bit x v) (get_or-set_same atmost c cell 0 long) ∙ at_c v l))
                    (lt_or_ge e c);
                high = λ e g. other e (λ z. omega arith) ∙ i.stood.high e (omega arith);
              };
          at_here = above_cell;
          evens = subst (λ (x : ℕ). At n mask d x down) (omega arith) downs;
          ups = i.evens;
        }

module _ {arcs d next₀ atmost₀ next row atmost : List ℕ} {n k mask c here even up fell : ℕ} (r : Ready n k mask d next₀ atmost₀)
    (i : Sweeping arcs n mask d next₀ atmost₀ c here even up fell next row atmost) (e : n ≤ c) where
  -- After the last distance the sweep is done.
  pub sweep_end : Swept arcs n mask d next row fell
  sweep_end v l =
      ⊎_elim
      (λ g. let z : bit fell v ≡ 0 = omega arith in
      held-still arcs n mask d v (get_or next v 0) (get_or row v 0) (bit fell v) (λ u k m a. omega (arith, i.falling.none v l z u k m a, r.low v l))
      (i.falling.kept v (omega (arith, r.small)) z ∙ r.same v l) z)
      (λ g. let z : bit fell v ≡ 1 = omega (arith, bit_le fell v) in held_first arcs n mask d v (get_or next v 0) (get_or row v 0) (bit fell v) (i.falling.first v l z) z)
      (lt_or_ge (bit fell v) 1)

  pub sweep-stand : AtMost n next atmost
  sweep-stand v x l g = i.stood.low v x l (omega arith)

-- ---- one level down

-- A sweep into row k + 1 of the table is one level down.
pub descended : (arcs : List ℕ) (n k mask r : ℕ) (d next table row rest : List ℕ) → n ≤ most_nodes → (k + 1) * most_nodes ≤ length table → most_nodes ≤ length row
    → Swept arcs n mask d next row r → Nodes n r → Descended arcs n k mask d next table (take ((k + 1) * most_nodes) table ++ (row ++ rest)) r
descended arcs n k mask r d next table row rest small h g s nodes =
    record {
      swept = λ v l. rw (part_in ((k + 1) * most_nodes) table row h rest v (omega arith)) (s v l);
      kept = λ i l. part-before ((k + 1) * most_nodes) table row h rest i l;
      nodes = nodes;
    }
