-- The steps of the loop of `trace`, over plain lists and numbers.
-- Assumes nothing.
use Prim.Native.Nat.{ℕ, suc, ◌+◌, ◌-◌, ◌≤◌, ◌<◌}
use mathlib.Core.Path.{◌≡◌, refl, sym, ap, ◌∙◌}
use mathlib.Core.List.{List}
use mathlib.Core.Logic.{⊎_elim}
use native.Mathlib.Nat.{sub-zero}
use native.Mathlib.Numerals.{add-one}
use native.Mathlib.Omega.{arith}
use lib.ListN.{length, get_or, set}
use lib.Seq.{get_or-set_same, get_or-set_other}
use Rattle.std.specs.Prelude.{Option, None, Some, unwrap_or, IsSome}
use Rattle.sums.proofs.Sum.{lt_or_ge}
use Rattle.cluster.specs.Terms.{most_nodes}
use Rattle.sets.specs.ModelBits.{bit, meet_of, least_of}
use Rattle.sets.proofs.Laws.{meet_lt, bit-meet, bit_le, least-some, least_at}
use Rattle.waves.specs.ModelWaves.{wave_cells, wave_of, Waved, source_of}
use Rattle.waves.proofs.Waving.{wave_back}
use Rattle.waves.proofs.Sources.{source-some}
use Rattle.ways.specs.ModelWays.{Traced}

-- The way back before arc i is traced: it ends in the goal, its node j is of wave k - j, and each arc before i is where `arc` puts it.
pub record Tracing (leads : List ℕ) (b goal k i : ℕ) (arc : ℕ → ℕ → ℕ) (P : ℕ) (y q : List ℕ) : Type 0 where
  pub ends : bit goal (get_or y 0 0) ≡ 1
  pub nodes : (j : ℕ) → j ≤ i → (get_or y j 0 < most_nodes) × (bit (wave_of leads b (k - j)) (get_or y j 0) ≡ 1)
  pub arcs : (j : ℕ) → j < i → (get_or q j 0 ≡ arc (get_or y (suc j) 0) (get_or y j 0)) × (get_or q j 0 ≤ P)

-- A number below the one that stands for none is that of something.
pub some_below : (o : Option ℕ) (n : ℕ) → unwrap_or o n < n → IsSome o
some_below None n h = absurd (omega arith)
some_below (Some x) n h = refl

module _ {leads : List ℕ} {b goal k : ℕ} (small : b < most_nodes) (kw : k < wave_cells) {waves : List ℕ} (W : Waved leads b goal k waves)
    {arc : ℕ → ℕ → ℕ} {P : ℕ}
  where
    -- The first node is the least of the last wave that the goal has.
    pub tracing_starts : (y : List ℕ) {x : ℕ} {q : List ℕ} → x ≡ least_of (meet_of (get_or waves k 0) goal) → 0 < length y
        → Tracing leads b goal k 0 arc P (set y 0 x) q
    tracing_starts y {x} {q} e l =
        let m = W.met kw in
        let w = wave_of leads b k in
        let r : x ≡ least_of (meet_of w goal) = e ∙ ap (λ (s : ℕ). least_of (meet_of s goal)) (m.2 k (omega arith)) in
        let h : least_of (meet_of w goal) < most_nodes = least-some (meet_of w goal) (meet_lt w goal) m.0 in
        let o : bit (meet_of w goal) x ≡ 1 = ap (bit (meet_of w goal)) r ∙ least_at (meet_of w goal) h in
        let lx : x < most_nodes = omega (arith, h) in
        let s = get_or-set_same y 0 x 0 l in
        record {
          ends = rw s (omega (arith, o, bit-meet w goal x lx, bit_le goal x));
          nodes = λ j i. let z : j ≡ 0 = omega arith in rw (z, s, sub-zero k) (lx, omega (arith, o, bit-meet w goal x lx, bit_le w x));
          arcs = λ j i. absurd (omega arith);
        }

    module _ {i : ℕ} {y q : List ℕ} (T : Tracing leads b goal k i arc P y q) (ik : i < k) {s : ℕ}
        (es : s ≡ source_of leads (get_or waves (k - i - 1) 0) (get_or y i 0))
      where
        -- The node before is of the wave before, and leads to node i.
        pub tracing_source : (s < most_nodes) × (bit (wave_of leads b (k - suc i)) s ≡ 1) × (bit (get_or leads s 0) (get_or y i 0) ≡ 1)
        tracing_source =
            let v = get_or y i 0 in
            let t = T.nodes i (omega arith) in
            let n : k - i ≡ suc (k - suc i) = omega arith in
            let back = wave_back leads b small (k - suc i) v t.0 (sym (ap (λ (x : ℕ). bit (wave_of leads b x) v) n) ∙ t.1) in
            let d : k - i - 1 ≡ k - suc i = omega arith in
            let r : s ≡ source_of leads (wave_of leads b (k - suc i)) v =
            es ∙ ap (λ (x : ℕ). source_of leads x v) (ap (λ (x : ℕ). get_or waves x 0) d ∙ (W.met kw).2 (k - suc i) (omega arith)) in
            rw r (source-some leads v (wave_of leads b (k - suc i)) back.0 back.1 back.2 back.3)

        module _ (ly : suc k < length y) where
          -- The nodes with that one.
          abbrev longer : List ℕ
          longer = set y (i + 1) s

          -- It stands after node i.
          here : get_or longer (suc i) 0 ≡ s
          here = ap (λ (n : ℕ). get_or longer n 0) (sym (add-one i)) ∙ get_or-set_same y (i + 1) s 0 (omega arith)

          -- The others stay.
          before : (j : ℕ) → j ≤ i → get_or longer j 0 ≡ get_or y j 0
          before j h = get_or-set_other y (i + 1) j s 0 (λ z. omega arith)

          -- So the way ends in the goal.
          ends_on : bit goal (get_or longer 0 0) ≡ 1
          ends_on = rw (before 0 (omega arith)) T.ends

          -- Its nodes are of the waves.
          nodes-on : (j : ℕ) → j ≤ i → (get_or longer j 0 < most_nodes) × (bit (wave_of leads b (k - j)) (get_or longer j 0) ≡ 1)
          nodes-on j h = rw (before j h) (T.nodes j h)

          -- Its arcs stay.
          arcs-on : (j : ℕ) → j < i → (get_or q j 0 ≡ arc (get_or longer (suc j) 0) (get_or longer j 0)) × (get_or q j 0 ≤ P)
          arcs-on j h = rw (before (suc j) (omega arith), before j (omega arith)) (T.arcs j h)

          -- The trace stops where the arc is nowhere.
          pub tracing_stops : {p : ℕ} → suc P ≡ arc s (get_or y i 0) → Traced leads b goal k i arc P p longer q
          tracing_stops {p} e =
              let t = tracing_source in
              record {
                short = omega arith;
                ends = ends_on;
                nodes = nodes-on;
                arcs = arcs-on;
                stale = λ h. rw (here, before i (omega arith)) (t.0, t.1, t.2, sym e);
                closed = λ h. absurd (omega arith);
              }

          -- The next turn.
          pub tracing_on : k < length q → {at : ℕ} → at ≡ arc s (get_or y i 0) → at ≤ P → Tracing leads b goal k (i + 1) arc P longer (set q i at)
          tracing_on lq {at} e g =
              let t = tracing_source in
              record {
                ends = ends_on;
                nodes = λ j h. ⊎_elim (λ c. nodes-on j (omega arith)) (λ c. let z : j ≡ suc i = omega arith in rw (z, here) (t.0, t.1)) (lt_or_ge j (suc i));
                arcs = λ j h. ⊎_elim (λ c. rw (get_or-set_other q i j at 0 (λ z. omega arith)) (arcs-on j c))
                    (λ c. let z : j ≡ i = omega arith in rw (z, get_or-set_same q i at 0 (omega arith), here, before i (omega arith)) (e, g)) (lt_or_ge j i);
              }

    -- A way that is whole is closed at p.
    pub tracing_ends : {p : ℕ} {y q : List ℕ} → suc k < length y → k < length q → Tracing leads b goal k k arc P y q
        → Traced leads b goal k k arc P p (set y (k + 1) (get_or y 0 0)) (set q k p)
    tracing_ends {p} {y} {q} ly lq T =
        record {
          short = omega arith;
          ends = rw (kept 0 (omega arith)) T.ends;
          nodes = λ j h. rw (kept j h) (T.nodes j h);
          arcs = λ j h. rw (kept (suc j) (omega arith), kept j (omega arith), get_or-set_other q k j p 0 (λ z. omega arith)) (T.arcs j h);
          stale = λ h. absurd (omega arith);
          closed = λ h. (
            ap (λ (n : ℕ). get_or (set y (k + 1) (get_or y 0 0)) n 0) (sym (add-one k))
                ∙ (get_or-set_same y (k + 1) (get_or y 0 0) 0 (omega arith) ∙ sym (kept 0 (omega arith))),
            get_or-set_same q k p 0 lq,
          );
        }
      where
        -- The nodes stay.
        kept : (j : ℕ) → j ≤ k → get_or (set y (k + 1) (get_or y 0 0)) j 0 ≡ get_or y j 0
        kept j h = get_or-set_other y (k + 1) j (get_or y 0 0) 0 (λ z. omega arith)
