-- The turns of the walks that make the figures, over plain lists and numbers, and what the figures are made of.
-- Assumes nothing.
use Prim.Native.Nat.{ℕ, zero, suc, ◌+◌, ◌*◌, ◌≤◌, ◌<◌}
use mathlib.Core.Path.{◌≡◌, sym, ap, ap₂, ◌∙◌}
use mathlib.Core.Bool.{Bool, cond}
use mathlib.Core.List.{List, [], ◌∷◌, ◌++◌, append_assoc, append-nil}
use native.Mathlib.Nat.{zero-add}
use native.Mathlib.Omega.{arith}
use lib.Dec.{ltb, eqb}
use lib.ListN.{length, take, drop, get_or, set, length-append, length-drop, take-append-drop}
use lib.Seq.{length-take-le, take_at, drop-cons, drop-append-add, drop-drop, set_at}
use borrow.Author.Tests.{lt-ltb, le-ltb, eq-eqb, ne_eqb}
use Rattle.sums.specs.TermsSums.{sum_to, tab}
use Rattle.sums.specs.ModelSums.{is}
use Rattle.sums.proofs.Sum.{is_times, not_times, sum_cong}
use Rattle.cells.specs.ModelCells.{put}
use Rattle.cells.proofs.Cells.{length-tab, tab_get_or, put_cong}
use Rattle.cluster.specs.Terms.{most_nodes, Topology, topology, partitions, no_node, node_at, copies_in, rows_in}
use Rattle.cluster.specs.TermsReading.{figure_cells}
use Rattle.cluster.specs.declared.Cluster.{Cluster}
use Rattle.cluster.specs.declared.Node.{Node}
use Rattle.cluster.proofs.Slots.{node-slot}
use Rattle.copies.specs.TermsCounts.{node_copies, counts_after}
use Rattle.copies.proofs.Counted.{counted, counted-used}
use Rattle.layouts.specs.TermsCheck.{Checked, fault, check_of}
use Rattle.figures.specs.TermsFigures.{Figured, zone_copies, figures_made, hope_of, figures_fault, figures_of, figures_in}
use Rattle.figures.specs.ModelZones.{zone_sum}

-- Numbers put from a place on stand between what was before and what comes after.
put-parts : (b : ℕ) (f : ℕ → ℕ) (n : ℕ) (l : List ℕ) → b + n ≤ length l → put b f n l ≡ take b l ++ tab f n ++ drop (b + n) l
unfolding put tab
put-parts b f zero l h =
    let e : b ≡ b + 0 = omega arith in
    sym (take-append-drop b l) ∙ ap₂ (λ (x : List ℕ) (k : ℕ). x ++ drop k l) (sym (append-nil (take b l))) e
put-parts b f (suc n) l h =
    let front = take b l ++ tab f n in
    let rest = drop (suc (b + n)) l in
    let long : length front ≡ b + n = omega (arith, length-append (take b l) (tab f n), length-take-le b l (omega arith), length-tab f n) in
    let next : suc (b + n) ≡ b + suc n = omega arith in
    ap (λ (k : List ℕ). set k (b + n) (f n)) (put-parts b f n l (omega arith) ∙ ap (λ (r : List ℕ). front ++ r) (drop-cons l (b + n) 0 (omega arith)))
    ∙ (set_at front (get_or l (b + n) 0) rest (f n) (b + n) long
    ∙ (sym (append_assoc front (f n ∷ []) rest)
    ∙ ap₂ (λ (x : List ℕ) (k : ℕ). x ++ drop k l) (append_assoc (take b l) (tab f n) (f n ∷ [])) next))

-- Cells copied to the front are put there one by one.
pub put-copied : (counts l : List ℕ) → length counts ≤ length l → counts ++ drop (length counts) l ≡ put 0 (λ b. get_or counts b 0) (length counts) l
put-copied counts l h =
    sym (put-parts 0 (λ b. get_or counts b 0) (length counts) l (omega arith) ∙ ap₂ (λ (x : List ℕ) (n : ℕ). x ++ drop n l) (tab_get_or counts 0) (zero-add (length counts)))

-- A number for each node, and another for each in the cells after them.
put_both : (f g : ℕ → ℕ) (l : List ℕ) → figure_cells ≤ length l → put most_nodes g most_nodes (put 0 f most_nodes l) ≡ tab f most_nodes ++ tab g most_nodes ++ drop figure_cells l
put_both f g l h =
    let k = tab f 32 ++ drop 32 l in
    let rest : drop 64 k ≡ drop 64 l =
    ap (λ (n : ℕ). drop (n + 32) k) (sym (length-tab f 32)) ∙ (drop-append-add (tab f 32) (drop 32 l) 32 ∙ drop-drop 32 32 l) in
    ap (put 32 g 32) (put-parts 0 f 32 l (omega arith))
    ∙ (put-parts 32 g 32 k (omega (arith, length-append (tab f 32) (drop 32 l), length-tab f 32, length-drop 32 l))
    ∙ ap₂ (λ (x y : List ℕ). x ++ tab g 32 ++ y) (take_at (tab f 32) (drop 32 l) 32 (length-tab f 32)) rest)

-- ---- the copies in a zone

-- What node x adds to the zone of node b.
unfoldable pub zone_term : Topology → List ℕ → ℕ → ℕ → ℕ
zone_term t counts b x = is (node_at t x).zone (node_at t b).zone * get_or counts x 0

module _ (c : Cluster) (counts : List ℕ) (b x : ℕ) (b-used : b < c.count) (x-used : x < c.count) where
  -- A node of the zone adds its copies.
  pub term_same : (get_or c.nodes x no_node).zone ≡ (get_or c.nodes b no_node).zone → get_or counts x 0 ≡ zone_term (topology c) counts b x
  unfolding zone_term
  term_same e =
      sym (is_times (ap (λ (n : Node). n.zone) (node-slot c x x-used) ∙ (e ∙ sym (ap (λ (n : Node). n.zone) (node-slot c b b-used)))) (get_or counts x 0))

  -- Another node adds nothing.
  pub term_other : ((get_or c.nodes x no_node).zone ≡ (get_or c.nodes b no_node).zone → ⊥) → 0 ≡ zone_term (topology c) counts b x
  unfolding zone_term
  term_other h =
      sym
      (not_times
      (λ (e : (node_at (topology c) x).zone ≡ (node_at (topology c) b).zone). h
      (sym (ap (λ (n : Node). n.zone) (node-slot c x x-used)) ∙ (e ∙ ap (λ (n : Node). n.zone) (node-slot c b b-used))))
      (get_or counts x 0))

module _ (t : Topology) (counts : List ℕ) (b : ℕ) where
  -- A slot that is not in use has no zone.
  pub zone_unused : length t.nodes ≤ b → 0 ≡ zone_sum t counts b
  unfolding zone_sum
  zone_unused h = sym (simp (le-ltb b (length t.nodes) h))

  -- The zone of a node in use.
  pub zone_used : b < length t.nodes → sum_to (length t.nodes) (zone_term t counts b) ≡ zone_sum t counts b
  unfolding zone_sum zone_term
  zone_used h = sym (simp (lt-ltb b (length t.nodes) h))

-- ---- the figures

module _ (t : Topology) (cells : List ℕ) (p : ℕ) where
  -- The sums of the counts are the copies of the zones.
  pub zone_figure : length t.nodes ≤ most_nodes → (b : ℕ) → zone_sum t (counts_after t cells p) b ≡ zone_copies t (rows_in p cells) b
  unfolding zone_sum zone_copies is
  zone_figure few b =
      ap (λ (n : ℕ). cond (ltb b (length t.nodes)) n 0)
      (sum_cong (length t.nodes) (λ x. is (node_at t x).zone (node_at t b).zone * get_or (counts_after t cells p) x 0)
      (λ x. is (node_at t x).zone (node_at t b).zone * copies_in (rows_in p cells) (node_at t x).id)
      (λ x l. ap (λ (n : ℕ). is (node_at t x).zone (node_at t b).zone * n) (counted-used t cells p x (omega arith) l)))

  -- All 64 cells.
  pub all-figures : length t.nodes ≤ most_nodes → (counts l : List ℕ) → figure_cells ≤ length l → counts ≡ counts_after t cells p
      → put most_nodes (zone_sum t counts) most_nodes (put 0 (λ b. get_or counts b 0) most_nodes l)
      ≡ figures_made t (rows_in p cells) l
  all-figures few counts l long e =
      put_cong most_nodes (zone_sum t counts) (zone_copies t (rows_in p cells)) most_nodes (put 0 (λ b. get_or counts b 0) most_nodes l)
      (λ b h. ap (λ (k : List ℕ). zone_sum t k b) e ∙ zone_figure few b)
      ∙ (ap (put most_nodes (zone_copies t (rows_in p cells)) most_nodes)
      (put_cong 0 (λ b. get_or counts b 0) (node_copies t (rows_in p cells)) most_nodes l
      (λ b h. ap (λ (k : List ℕ). get_or k b 0) e ∙ counted t cells p b h))
      ∙ put_both (node_copies t (rows_in p cells)) (zone_copies t (rows_in p cells)) l long)

-- ---- the answer

module _ (c : Cluster) (assignment : List ℕ) (size : ℕ) (cells : List ℕ) where
  -- A short buffer is refused first.
  pub short_fault : length cells < figure_cells → figures_fault c assignment size cells ≡ fault 8 0
  unfolding figures_fault
  short_fault h = simp (lt-ltb (length cells) figure_cells h)

  -- Then what check refuses.
  pub check-fault : figure_cells ≤ length cells → figures_fault c assignment size cells ≡ check_of c assignment size
  unfolding figures_fault
  check-fault h = simp (le-ltb (length cells) figure_cells h)

  -- The answer, and what the cells hold, where it is refused,
  pub refused-answer : (f : Checked) → figures_fault c assignment size cells ≡ f → (f.refusal ≡ 0 → ⊥)
      → (record { refusal = f.refusal; place = f.place; hope = 0 } ≡ figures_of c assignment size cells) × (cells ≡ figures_in c assignment size cells)
  unfolding figures_of figures_in
  refused-answer f e h =
      let n = ap (λ (k : Checked). eqb k.refusal 0) e ∙ ne_eqb f.refusal 0 h in
      (sym (ap (λ (k : Checked). answer k (cond (eqb k.refusal 0) (hope_of (topology c)) 0)) e ∙ ap (λ (b : Bool). answer f (cond b (hope_of (topology c)) 0)) (ne_eqb f.refusal 0 h)), sym (simp n))
    where
      answer : Checked → ℕ → Figured
      answer k hope = record { refusal = k.refusal; place = k.place; hope = hope }

  -- and where it is not.
  pub made-answer : (f : Checked) → figures_fault c assignment size cells ≡ f → f.refusal ≡ 0
      → (record { refusal = 0; place = f.place; hope = hope_of (topology c) } ≡ figures_of c assignment size cells)
      × (figures_made (topology c) (rows_in (partitions (topology c)) assignment) cells ≡ figures_in c assignment size cells)
  unfolding figures_of figures_in
  made-answer f e h =
      let n = ap (λ (k : Checked). eqb k.refusal 0) e ∙ eq-eqb f.refusal 0 h in
      (sym (ap (λ (k : Checked). answer k.refusal k.place (cond (eqb k.refusal 0) (hope_of (topology c)) 0)) e ∙ ap (λ (r : ℕ). answer r f.place (cond (eqb r 0) (hope_of (topology c)) 0)) h), sym (simp n))
    where
      answer : ℕ → ℕ → ℕ → Figured
      answer r p hope = record { refusal = r; place = p; hope = hope }
