-- The laws of the sets of partitions: one partition more or less in a node's set, the sets of one row more, of a row with another node, and how
-- many partitions a set has.
-- Assumes nothing.
use Prim.Native.Nat.{ℕ, ◌+◌, ◌-◌, ◌*◌, ◌/◌, ◌%◌, ◌^◌, ◌≤◌, ◌<◌, min, max}
use mathlib.Core.Path.{◌≡◌, refl, sym, ap, ap₂, subst, ◌∙◌}
use mathlib.Core.Bool.{Bool, true, false}
use mathlib.Core.Logic.{⊎_elim}
use mathlib.Core.List.{List}
use native.Mathlib.Omega.{arith}
use lib.ListN.{length, get_or, set, replicate, length-set, length-replicate, get_or-replicate}
use lib.Arith.{lt_of_le-ne}
use lib.Seq.{get_or-set_same, get_or-set_other, set_comm}
use Rattle.sums.specs.TermsSums.{sum_to}
use Rattle.sums.specs.ModelSums.{is}
use Rattle.sums.proofs.Sum.{eq_or_ne, is_eq, is_ne, is_le, is_cases, sum_cong, sum_le, sum_const, sum_zero, sum-cut, sum_term, sum_but_one}
use Rattle.cluster.specs.Terms.{most_nodes, buffer_rows}
use Rattle.sets.specs.ModelBits.{mask_bits, bit, bits_at, member_of, with_of, without_of, least_of}
use Rattle.sets.specs.ModelMembers.{Comes}
use Rattle.sets.proofs.Laws.{bit_le, bit_zero, bit_high, member-true, member-false, bit-with, bit-without, least_at}
use Rattle.sets.proofs.Scan.{Left, least-word, done_more, done_all}
use Rattle.exchange.specs.ModelRow.{copies}
use Rattle.holders.specs.ModelHolders.{set_words, holder_cells, holder_cell, count_cell, holds, Counted, Held, Absent, Taken, Gone}

-- Two partitions of one word are the same where their numbers in it are.
place : (p q : ℕ) → p / mask_bits ≡ q / mask_bits → is (p % mask_bits) (q % mask_bits) ≡ is p q
place p q e =
    ⊎_elim (λ w. w.1 ∙ sym (is_eq (omega (arith, w.0)))) (λ w. w.1 ∙ sym (is_ne (λ f. w.0 (ap (λ (x : ℕ). x % mask_bits) f))))
    (is_cases (p % mask_bits) (q % mask_bits))

-- The number j of word k is partition `mask_bits` * k + j.
pub holds_at : (held : List ℕ) (u k j : ℕ) → j < mask_bits → holds held u (mask_bits * k + j) ≡ bit (get_or held (set_words * u + k) 0) j
unfolding holds
holds_at held u k j l =
    let e : (mask_bits * k + j) / mask_bits ≡ k = omega arith in
    let f : (mask_bits * k + j) % mask_bits ≡ j = omega arith in
    ap₂ (λ (c i : ℕ). bit (get_or held (set_words * u + c) 0) i) e f

-- ---- how many partitions a set has

module _ (held : List ℕ) (C : Counted held) (u : ℕ) (lu : u < most_nodes) where
  -- No set has more partitions than there are.
  pub count_few : get_or held (count_cell u) 0 ≤ buffer_rows
  unfolding holds
  count_few =
      omega (
        arith,
        C.counts u lu,
        sum_le buffer_rows (holds held u) (λ q. 1) (λ q l. bit_le (get_or held (holder_cell u q) 0) (q % mask_bits)),
        sum_const buffer_rows 1,
      )

  -- A set that has a partition counts it.
  pub count-some : (p : ℕ) → p < buffer_rows → holds held u p ≡ 1 → 1 ≤ get_or held (count_cell u) 0
  count-some p l e = omega (arith, C.counts u lu, sum_term buffer_rows p (holds held u) l)

-- The count of a node is that of the rows that have it.
pub count-all : (rows : List ℕ) (P : ℕ) (held : List ℕ) (u : ℕ) → Held rows P held → P ≤ buffer_rows → u < most_nodes
    → get_or held (count_cell u) 0 ≡ copies P (bits_at rows) u
unfolding copies
count-all rows P held u H l lu =
    H.counts u lu
    ∙ (sum-cut P buffer_rows (holds held u) l (λ q a b. H.beyond u q lu a b)
    ∙ sum_cong P (holds held u) (λ q. bits_at rows q u) (λ q m. H.here u q lu m))

-- No row has a node past the last.
pub count_none : (rows : List ℕ) (P u : ℕ) → ((q : ℕ) → get_or rows q 0 < 2 ^ mask_bits) → most_nodes ≤ u → copies P (bits_at rows) u ≡ 0
unfolding copies
count_none rows P u h l = sum_zero P (λ q. bits_at rows q u) (λ q m. bit_high mask_bits (get_or rows q 0) u (h q) l)

-- ---- one partition more or less

-- Another count n of node u's set, and another word x in it.
abbrev stored : List ℕ → ℕ → ℕ → ℕ → ℕ → List ℕ
stored held p u n x = set (set held (count_cell u) n) (holder_cell u p) x

-- One step at partition p of node u: F says what becomes of a bit, from the bit and from 1 at that partition.
module _ (F : ℕ → ℕ → ℕ) (keep : (a : ℕ) → F a 0 ≡ a) (held : List ℕ) (p u : ℕ) where
  abbrev Stepped : List ℕ → Type 0
  Stepped after = (b q : ℕ) → b < most_nodes → q < buffer_rows → holds after b q ≡ F (holds held b q) (min (is u b) (is p q))

  -- A partition at which there is no step stays.
  keeps : (b q : ℕ) → (u ≡ b → p ≡ q → ⊥) → holds held b q ≡ F (holds held b q) (min (is u b) (is p q))
  keeps b q d =
      let z : min (is u b) (is p q) ≡ 0 =
      ⊎_elim (λ v. ⊎_elim (λ w. absurd (d v.0 w.0)) (λ w. omega (arith, w.1)) (is_cases p q)) (λ v. omega (arith, v.1)) (is_cases u b) in
      sym (ap (F (holds held b q)) z ∙ keep (holds held b q))

  -- Where the step changes nothing, or the node has no set, the sets stay.
  stayed : (u < most_nodes → F (holds held u p) 1 ≡ holds held u p) → Stepped held
  stayed h b q lb lq =
      ⊎_elim (λ v. ⊎_elim (λ w. same v.0 w.0) (λ w. keeps b q (λ e f. w.0 f)) (is_cases p q)) (λ v. keeps b q (λ e f. v.0 e)) (is_cases u b)
    where
      same : u ≡ b → p ≡ q → holds held b q ≡ F (holds held b q) (min (is u b) (is p q))
      same e f =
          sym (ap₂ F (sym (ap₂ (holds held) e f)) (omega (arith, is_eq e, is_eq f)) ∙ (h (omega arith) ∙ ap₂ (holds held) e f))

  -- Else the word of the partition changes, and the count of its set.
  module _ (n x : ℕ) (C : Counted held) (lp : p < buffer_rows) (lu : u < most_nodes)
      (word : (j : ℕ) → j < mask_bits → bit x j ≡ F (bit (get_or held (holder_cell u p) 0) j) (is (p % mask_bits) j))
      (count : n + holds held u p ≡ get_or held (count_cell u) 0 + F (holds held u p) 1)
    where
      abbrev recounted : List ℕ
      recounted = set held (count_cell u) n

      abbrev after : List ℕ
      after = stored held p u n x

      long : length recounted ≡ holder_cells
      long = length-set held (count_cell u) n ∙ C.cells

      stepped : Stepped after
      unfolding holds
      stepped b q lb lq = ⊎_elim here else (eq_or_ne (holder_cell u p) (holder_cell b q))
        where
          here : holder_cell u p ≡ holder_cell b q → holds after b q ≡ F (holds held b q) (min (is u b) (is p q))
          here e =
              let d : u ≡ b = omega arith in
              let f : p / mask_bits ≡ q / mask_bits = omega arith in
              ap (λ (y : ℕ). bit y (q % mask_bits))
              (ap (λ (i : ℕ). get_or after i 0) (sym e) ∙ get_or-set_same recounted (holder_cell u p) x 0 (omega (arith, long)))
              ∙ (word (q % mask_bits) (omega arith)
              ∙ ap₂ F (ap (λ (i : ℕ). bit (get_or held i 0) (q % mask_bits)) e) (omega (arith, place p q f, is_eq d, is_le p q)))

          else : (holder_cell u p ≡ holder_cell b q → ⊥) → holds after b q ≡ F (holds held b q) (min (is u b) (is p q))
          else m =
              ap (λ (y : ℕ). bit y (q % mask_bits))
              (get_or-set_other recounted (holder_cell u p) (holder_cell b q) x 0 (λ e. m (sym e))
              ∙ get_or-set_other held (count_cell u) (holder_cell b q) n 0 (λ e. omega arith))
              ∙ keeps b q (λ d e. m (ap₂ holder_cell d e))

      other : (b q : ℕ) → b < most_nodes → q < buffer_rows → (u ≡ b → p ≡ q → ⊥) → holds after b q ≡ holds held b q
      other b q lb lq d = stepped b q lb lq ∙ sym (keeps b q d)

      step : Counted after × Stepped after
      step = (
        record {
          cells = length-set recounted (holder_cell u p) x ∙ long;
          counts = λ b lb.
              get_or-set_other recounted (holder_cell u p) (count_cell b) x 0 (λ e. omega arith)
              ∙ ⊎_elim (λ e. own b e) (λ d. foreign b lb d) (eq_or_ne u b);
        },
        stepped,
      )
        where
          own : (b : ℕ) → u ≡ b → get_or recounted (count_cell b) 0 ≡ sum_to buffer_rows (holds after b)
          own b e =
              let one : min (is u u) (is p p) ≡ 1 = omega (arith, is_eq {a = u} refl, is_eq {a = p} refl) in
              ap (λ (y : ℕ). get_or recounted (count_cell y) 0) (sym e)
              ∙ (omega (
                arith,
                get_or-set_same held (count_cell u) n 0 (omega (arith, C.cells)),
                C.counts u lu,
                stepped u p lu lp ∙ ap (F (holds held u p)) one,
                sum_but_one buffer_rows p (holds after u) (holds held u) lp (λ q l d. other u q lu l (λ e f. d (sym f))),
              )
              ∙ ap (λ (y : ℕ). sum_to buffer_rows (holds after y)) e)

          foreign : (b : ℕ) → b < most_nodes → (u ≡ b → ⊥) → get_or recounted (count_cell b) 0 ≡ sum_to buffer_rows (holds after b)
          foreign b lb d =
              get_or-set_other held (count_cell u) (count_cell b) n 0 (λ e. d (omega arith))
              ∙ (C.counts b lb ∙ sum_cong buffer_rows (holds held b) (holds after b) (λ q l. sym (other b q lb l (λ e f. d e))))

-- A node with no set takes no partition on, and lets none go.
module _ (held : List ℕ) (p u : ℕ) (far : most_nodes ≤ u) where
  pub none-taken : Taken (is u) p held held
  none-taken = stayed max (λ a. omega arith) held p u (λ l. absurd (omega arith))

  pub none_gone : Gone u p held held
  none_gone = stayed ◌-◌ (λ a. omega arith) held p u (λ l. absurd (omega arith))

-- The code's test m, whether node u's set has partition p, and what follows from it.
module _ (held : List ℕ) (p u : ℕ) (m : Bool) (e : m ≡ member_of (get_or held (holder_cell u p) 0) (p % mask_bits)) where
  pub has : m ≡ true → holds held u p ≡ 1
  unfolding holds
  has t = member-true (get_or held (holder_cell u p) 0) (p % mask_bits) (sym e ∙ t)

  pub lacks : m ≡ false → holds held u p ≡ 0
  unfolding holds
  lacks t = member-false (get_or held (holder_cell u p) 0) (p % mask_bits) (sym e ∙ t)

  pub taken-before : m ≡ true → Taken (is u) p held held
  taken-before t = stayed max (λ a. omega arith) held p u (λ l. omega (arith, has t))

  pub gone_before : m ≡ false → Gone u p held held
  gone_before t = stayed ◌-◌ (λ a. omega arith) held p u (λ l. omega (arith, lacks t))

  pub gone_now : (x : ℕ) → Counted held → p < buffer_rows → u < most_nodes → m ≡ true → x ≡ without_of (get_or held (holder_cell u p) 0) (p % mask_bits)
      → Counted (stored held p u (get_or held (count_cell u) 0 - 1) x) × Gone u p held (stored held p u (get_or held (count_cell u) 0 - 1) x)
  gone_now x C lp lu t d =
      step ◌-◌ (λ a. omega arith) held p u (get_or held (count_cell u) 0 - 1) x C lp lu
      (λ j l. ap (λ (y : ℕ). bit y j) d ∙ bit-without (get_or held (holder_cell u p) 0) (p % mask_bits) j l)
      (omega (arith, has t, count-some held C u lu p lp (has t)))

-- A partition that node u's set lacks: first the word x is stored that has it, then it is counted.
module _ (held : List ℕ) (p u x : ℕ) (lp : p < buffer_rows) (lu : u < most_nodes) where
  abbrev worded : List ℕ
  worded = set held (holder_cell u p) x

  -- The word does not change the count.
  pub count_stays : get_or worded (count_cell u) 0 ≡ get_or held (count_cell u) 0
  count_stays = get_or-set_other held (holder_cell u p) (count_cell u) x 0 (λ e. omega arith)

  pub taken_now : Counted held → holds held u p ≡ 0 → x ≡ with_of (get_or held (holder_cell u p) 0) (p % mask_bits)
      → Counted (set worded (count_cell u) (get_or worded (count_cell u) 0 + 1)) × Taken (is u) p held (set worded (count_cell u) (get_or worded (count_cell u) 0 + 1))
  taken_now C n d =
      subst (λ (l : List ℕ). Counted l × Taken (is u) p held l) (sym order)
      (step max (λ a. omega arith) held p u (get_or held (count_cell u) 0 + 1) x C lp lu
      (λ j l. ap (λ (y : ℕ). bit y j) d ∙ bit-with (get_or held (holder_cell u p) 0) (p % mask_bits) j l)
      (omega (arith, n)))
    where
      order : set worded (count_cell u) (get_or worded (count_cell u) 0 + 1) ≡ stored held p u (get_or held (count_cell u) 0 + 1) x
      order =
          ap (λ (n : ℕ). set worded (count_cell u) (n + 1)) count_stays
          ∙ set_comm held (holder_cell u p) (count_cell u) x (get_or held (count_cell u) 0 + 1) (λ e. omega arith)

-- ---- the sets of rows

-- The nodes of the row that are left no more took partition p on.
abbrev pub Partly : ℕ → ℕ → ℕ → List ℕ → List ℕ → Type 0
Partly row left = Taken (λ b. bit row b - bit left b)

join : (d i s : ℕ) {e : ℕ} → d + i ≡ e → e ≤ 1 → max (min d s) (min i s) ≡ min e s
join d i s h l = omega arith

widen : (x a b : ℕ) {c h g : ℕ} → h ≡ max x a → g ≡ max h b → max a b ≡ c → g ≡ max x c
widen x a b e f h = omega arith

module _ (row p : ℕ) (before : List ℕ) where
  pub partly_none : Partly row row p before before
  partly_none b q lb lq = omega arith

  pub partly_more : (left u next : ℕ) (held after : List ℕ) → Left row left → Comes left u next → Partly row left p before held → Taken (is u) p held after
      → Partly row next p before after
  partly_more left u next held after L C h taken b q lb lq =
      let t = subst (λ (i : ℕ). Taken (is i) p held after) C.least taken in
      rw C.rest
      (widen (holds before b q) (min (bit row b - bit left b) (is p q)) (min (is (least_of left) b) (is p q)) (h b q lb lq) (t b q lb lq)
      (join (bit row b - bit left b) (is (least_of left) b) (is p q) (done_more row left L C.some b lb) (omega (arith, bit_le row b))))

  -- The least node that is left lacks partition p, which no set had.
  pub least-lacks : (left u next : ℕ) (held : List ℕ) → p < buffer_rows → Left row left → Comes left u next → Absent p before → Partly row left p before held
      → holds held u p ≡ 0
  least-lacks left u next held lp L C n h =
      let here : bit left u ≡ 1 = ap (bit left) C.least ∙ least_at left (least-word row left L C.some) in
      omega (arith, h u p C.below lp, n u C.below, bit_le row u, here)

  pub partly_all : (left : ℕ) (held : List ℕ) → left ≡ 0 → Partly row left p before held → Taken (bit row) p before held
  partly_all left held e h b q lb lq = omega (arith, h b q lb lq, done_all row left b e)

-- Cells of 0 are the sets of no row.
pub held_none : (rows : List ℕ) → Held rows 0 (replicate holder_cells 0)
unfolding holds
held_none rows =
    record {
      cells = length-replicate {A = ℕ} holder_cells 0;
      counts = λ u lu.
          get_or-replicate {A = ℕ} holder_cells (count_cell u) 0 0 (omega arith)
          ∙ sym (sum_zero buffer_rows (holds (replicate holder_cells 0) u) (λ p lp. none u p lu lp));
      here = λ u p lu lp. absurd (omega arith);
      beyond = λ u p lu l lp. none u p lu lp;
    }
  where
    none : (u p : ℕ) → u < most_nodes → p < buffer_rows → holds (replicate holder_cells 0) u p ≡ 0
    none u p lu lp = ap (λ (x : ℕ). bit x (p % mask_bits)) (get_or-replicate {A = ℕ} holder_cells (holder_cell u p) 0 0 (omega arith)) ∙ bit_zero (p % mask_bits)

-- One row more.
pub held_more : (rows : List ℕ) (p : ℕ) (before after : List ℕ) → p < buffer_rows → Held rows p before → Counted after
    → Taken (bit (get_or rows p 0)) p before after → Held rows (p + 1) after
held_more rows p before after l H C T =
    record {
      cells = C.cells;
      counts = C.counts;
      here = λ u q lu lq.
          ⊎_elim
          (λ w. omega (
            arith,
            T u q lu (omega arith),
            w.1,
            H.beyond u q lu (omega (arith, w.0)) (omega arith),
            bit_le (get_or rows p 0) u,
            ap (λ (x : ℕ). bit (get_or rows x 0) u) w.0,
          ))
          (λ w. let m : q < p = lt_of_le-ne (omega arith) (λ e. w.0 (sym e)) in omega (arith, T u q lu (omega arith), w.1, H.here u q lu m))
          (is_cases p q);
      beyond = λ u q lu m lq. omega (arith, T u q lu lq, is_ne {a = p} {b = q} (λ e. omega arith), H.beyond u q lu (omega arith) lq);
    }

-- Another node in one row.
module _ (held left after : List ℕ) (p u v : ℕ) (C : Counted after) (G : Gone u p held left) (T : Taken (is v) p left after)
    (rows : List ℕ) (P : ℕ) (few : P ≤ buffer_rows) (lp : p < P) (lr : p < length rows) (H : Held rows P held)
  where
    passed : (b q : ℕ) → b < most_nodes → q < buffer_rows → holds after b q ≡ max (holds held b q - min (is u b) (is p q)) (min (is v b) (is p q))
    passed b q lb lq = omega (arith, T b q lb lq, G b q lb lq)

    pub held-exchange : Held (set rows p (with_of (without_of (get_or rows p 0) u) v)) P after
    held-exchange =
        record {
          cells = C.cells;
          counts = C.counts;
          here = λ b q lb lq.
              ⊎_elim
              (λ w. omega (
                arith,
                passed b q lb (omega arith),
                w.1,
                H.here b q lb lq,
                is_le u b,
                is_le v b,
                bit-with (without_of (get_or rows p 0) u) v b lb,
                bit-without (get_or rows p 0) u b lb,
                ap (λ (x : ℕ). bit (get_or rows x 0) b) w.0,
                ap (λ (x : ℕ). bit x b) (get_or-set_same rows p (with_of (without_of (get_or rows p 0) u) v) 0 lr),
                ap (λ (x : ℕ). bit (get_or (set rows p (with_of (without_of (get_or rows p 0) u) v)) x 0) b) w.0,
              ))
              (λ w. omega (
                arith,
                passed b q lb (omega arith),
                w.1,
                H.here b q lb lq,
                ap (λ (x : ℕ). bit x b) (get_or-set_other rows p q (with_of (without_of (get_or rows p 0) u) v) 0 (λ e. w.0 (sym e))),
              ))
              (is_cases p q);
          beyond = λ b q lb m lq. omega (arith, passed b q lb lq, is_ne {a = p} {b = q} (λ e. omega arith), H.beyond b q lb m lq);
        }
