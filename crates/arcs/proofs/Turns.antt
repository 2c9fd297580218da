-- One turn of each loop, and what the whole leaves, over plain numbers and lists.
-- Assumes nothing.
use Prim.Native.Nat.{ℕ, ◌+◌, ◌-◌, ◌*◌, ◌/◌, ◌%◌, ◌≤◌, ◌<◌, min, max}
use mathlib.Core.Path.{◌≡◌, refl, sym, ap, ap₂, ◌∙◌}
use mathlib.Core.List.{List, ◌++◌}
use mathlib.Core.Logic.{⊎_elim}
use native.Mathlib.Numerals.{add-one}
use native.Mathlib.Omega.{arith}
use lib.ListN.{length, get_or, drop, length-append, length-drop, get_or-append}
use Rattle.cluster.specs.Terms.{most_nodes}
use Rattle.levels.specs.ModelGraph.{arc_cells}
use Rattle.sums.specs.TermsSums.{tab}
use Rattle.sums.specs.ModelSums.{max_to, is}
use Rattle.sums.proofs.Sum.{lt_or_ge}
use Rattle.sets.specs.ModelBits.{bit, without_of, meet_of, difference_of, least_of}
use Rattle.sets.specs.ModelMembers.{Comes}
use Rattle.sets.proofs.Laws.{bit_zero, bit_le, bit-meet, bit-difference}
use Rattle.cells.proofs.Cells.{length-tab, get_or_tab}
use Rattle.swaps.specs.ModelSwaps.{tight_of, targets_in, targets_of}
use Rattle.swaps.proofs.Steps.{targets_spare}
use Rattle.arcs.specs.ModelMoves.{weighs, joined, leads, moves, moves_to, noted}
use Rattle.arcs.specs.ModelGrowth.{Grown, Written}
use Rattle.arcs.proofs.Growing.{grown_same, grown_then, grown_joined, slot, by-weight, grown_noted, done_grows}
use Rattle.sets.proofs.Scan.{Left, least-word, done_all}

-- ---- the nodes of a row

-- What the nodes of a row that are no more left add.
unfoldable pub doing : List ℕ → ℕ → ℕ → ℕ → ℕ → ℕ → ℕ → ℕ → ℕ
doing mates all z row former left j b =
    min (bit row (j % most_nodes) - bit left (j % most_nodes)) (min (bit (targets_of mates all z row (j % most_nodes)) b) (weighs former (j / most_nodes) (j % most_nodes) b))

module _ (mates : List ℕ) (all z row former : ℕ) (l₀ : List ℕ) where
  -- At first nothing is added.
  pub row-none : Grown (doing mates all z row former row) l₀ l₀
  unfolding doing
  row-none = grown_same (doing mates all z row former row) l₀ (λ j b p q. omega arith)

  -- A turn.
  pub row-turn : (left a next to : ℕ) (l m : List ℕ) → Left row left → Comes left a next → arc_cells ≤ length l₀
      → to ≡ targets_of mates all z row a → m ≡ noted l a former to
      → Grown (doing mates all z row former left) l₀ l → Grown (doing mates all z row former next) l₀ m
  unfolding doing
  row-turn left a next to l m L C g et em G =
      let k = least_of left in
      let T = targets_of mates all z row k in
      rw (em, et, C.rest, C.least)
      (grown_then (doing mates all z row former left) (λ j b. min (is k (j % most_nodes)) (min (bit T b) (weighs former (j / most_nodes) k b)))
      (doing mates all z row former (without_of left k)) l₀ l (noted l k former T) G
      (grown_noted l k former T (least-word row left L C.some) (omega (arith, G.long)))
      (λ j b p q. done_grows row left L C.some (j % most_nodes) (is k (j % most_nodes)) (min (bit T b) (weighs former (j / most_nodes) k b))
      (min (bit (targets_of mates all z row (j % most_nodes)) b) (weighs former (j / most_nodes) (j % most_nodes) b)) (omega arith) refl
      (λ e. ap (λ (i : ℕ). min (bit (targets_of mates all z row i) b) (weighs former (j / most_nodes) i b)) e)))

  -- At last all that the row allows is added.
  pub row-all : (left : ℕ) (l : List ℕ) → left ≡ 0 → Grown (doing mates all z row former left) l₀ l → Grown (moves mates all z row former) l₀ l
  unfolding doing moves
  row-all left l e G =
      record {
        long = G.long;
        bits = λ j b p q.
            G.bits j b p q
            ∙ ap (λ (d : ℕ). max (bit (get_or l₀ j 0) b) (min d (min (bit (targets_of mates all z row (j % most_nodes)) b) (weighs former (j / most_nodes) (j % most_nodes) b))))
            (done_all row left (j % most_nodes) e);
        rest = G.rest;
      }

-- ---- the nodes of a graph

-- What the nodes of `all` that are no more left add to the sets, of all that X has.
unfoldable pub adding : ℕ → ℕ → (ℕ → ℕ → ℕ) → ℕ → ℕ → ℕ
adding all left X j b = min (bit all (j % most_nodes) - bit left (j % most_nodes)) (X j b)

module _ (all : ℕ) (X : ℕ → ℕ → ℕ) (l₀ : List ℕ) where
  -- At first nothing is added.
  pub nodes-none : Grown (adding all all X) l₀ l₀
  unfolding adding
  nodes-none = grown_same (adding all all X) l₀ (λ j b p q. omega arith)

  -- A turn.
  pub nodes-turn : (left a next : ℕ) (l m : List ℕ) → Left all left → Comes left a next → Grown (adding all left X) l₀ l
      → Grown (λ j b. min (is a (j % most_nodes)) (X j b)) l m → Grown (adding all next X) l₀ m
  unfolding adding
  nodes-turn left a next l m L C G H =
      rw C.rest
      (grown_then (adding all left X) (λ j b. min (is a (j % most_nodes)) (X j b)) (adding all (without_of left (least_of left)) X) l₀ l m G H
      (λ j b p q. done_grows all left L C.some (j % most_nodes) (is a (j % most_nodes)) (X j b) (X j b) (omega arith) (ap (λ (x : ℕ). is x (j % most_nodes)) C.least) (λ e. refl)))

  -- At last the sets of all nodes of `all` are there.
  pub nodes-all : (left : ℕ) (l : List ℕ) → left ≡ 0 → Grown (adding all left X) l₀ l → Grown (λ j b. min (bit all (j % most_nodes)) (X j b)) l₀ l
  unfolding adding
  nodes-all left l e G =
      record {
        long = G.long;
        bits = λ j b p q.
            G.bits j b p q ∙ ap (λ (d : ℕ). max (bit (get_or l₀ j 0) b) (min d (X j b))) (done_all all left (j % most_nodes) e);
        rest = G.rest;
      }

-- ---- a row with a zone to spare

-- A condition A of two others, each with its own.
inside : (A H K x y s u : ℕ) → s ≡ min A H → u ≡ min A K → max (min s x) (min u y) ≡ min A (max (min H x) (min K y))
inside A H K x y s u e f = ap₂ (λ (p q : ℕ). max (min p x) (min q y)) e f ∙ (ap₂ max (within A H x) (within A K y) ∙ either A (min H x) (min K y))
  where
    within : (A H x : ℕ) → min (min A H) x ≡ min A (min H x)
    within A H x = omega arith

    either : (A x y : ℕ) → max (min A x) (min A y) ≡ min A (max x y)
    either A x y = omega arith

-- The two sets of one node of a part.
pub part-node : (l m n : List ℕ) (a h low high : ℕ) → a < most_nodes → h ≤ 1 → arc_cells ≤ length l → m ≡ joined l (a + h * most_nodes) low
    → n ≡ joined m (a + h * most_nodes + most_nodes) high → Grown (λ j b. min (is a (j % most_nodes)) (leads h low high j b)) l n
unfolding leads
part-node l m n a h low high q p g em en =
    let i = a + h * most_nodes in
    let F = grown_joined l i low (omega arith) g in
    rw (en, em)
    (grown_then (λ j b. min (is i j) (bit low b)) (λ j b. min (is (i + most_nodes) j) (bit high b)) (λ j b. min (is a (j % most_nodes)) (leads h low high j b)) l
    (joined l i low) (joined (joined l i low) (i + most_nodes) high) F
    (grown_joined (joined l i low) (i + most_nodes) high (omega arith) (omega (arith, F.long)))
    (λ j b r s. inside (is a (j % most_nodes)) (is h (j / most_nodes)) (is (h + 1) (j / most_nodes)) (bit low b) (bit high b) (is i j) (is (i + most_nodes) j) (slot a h j q)
    (ap (λ (x : ℕ). is x j) (omega arith) ∙ slot a (h + 1) j q)))

-- The set at weight 0 of one node.
pub middle_node : (l m : List ℕ) (a s : ℕ) → a < most_nodes → arc_cells ≤ length l → m ≡ joined l (a + most_nodes) s
    → Grown (λ j b. min (is a (j % most_nodes)) (min (is 1 (j / most_nodes)) (bit s b))) l m
middle_node l m a s q g e =
    rw e
    (grown_then (λ j b. 0) (λ j b. min (is (a + most_nodes) j) (bit s b)) (λ j b. min (is a (j % most_nodes)) (min (is 1 (j / most_nodes)) (bit s b))) l l
    (joined l (a + most_nodes) s) (grown_same (λ j b. 0) l (λ j b r t. refl)) (grown_joined l (a + most_nodes) s (omega arith) g)
    (λ j b r t. both (is (a + most_nodes) j) (is a (j % most_nodes)) (is 1 (j / most_nodes)) (bit s b) (slot a 1 j q)))
  where
    both : (i x y b : ℕ) → i ≡ min x y → max 0 (min i b) ≡ min x (min y b)
    both i x y b e = omega arith

-- The two parts of the row together: what the former row does not have, and what it has.
module _ (row F all : ℕ) (l₀ l₁ l₂ : List ℕ) (free low high new old : ℕ) (ef : free ≡ difference_of all row) (el : low ≡ meet_of free F) (eh : high ≡ difference_of free F)
    (en : new ≡ difference_of row F) (eo : old ≡ meet_of row F) where
  -- A node is in one of them.
  part-new : (c : ℕ) → c < most_nodes → bit new c ≡ bit row c - bit F c
  part-new c l = ap (λ (x : ℕ). bit x c) en ∙ bit-difference row F c l

  part-old : (c : ℕ) → c < most_nodes → bit old c ≡ min (bit row c) (bit F c)
  part-old c l = ap (λ (x : ℕ). bit x c) eo ∙ bit-meet row F c l

  -- So each node of the row leads at the weights that the former row gives.
  parts-lead : (j b : ℕ) → j < arc_cells → b < most_nodes
      → max (min (bit new (j % most_nodes)) (leads 0 low high j b)) (min (bit old (j % most_nodes)) (leads 1 low high j b))
      ≡ min (bit row (j % most_nodes)) (min (bit (difference_of all row) b) (weighs F (j / most_nodes) (j % most_nodes) b))
  unfolding leads
  parts-lead j b p q =
      let a = j % most_nodes in
      let h = j / most_nodes in
      let T = difference_of all row in
      let A = bit row a in
      let x = bit (meet_of T F) b in
      let y = bit (difference_of T F) b in
      ap₂ (λ (u v : ℕ). max (min (bit new a) (max (min (is 0 h) u) (min (is 1 h) v))) (min (bit old a) (max (min (is 1 h) u) (min (is 2 h) v))))
      (ap (λ (u : ℕ). bit u b) (el ∙ ap (λ (v : ℕ). meet_of v F) ef)) (ap (λ (u : ℕ). bit u b) (eh ∙ ap (λ (v : ℕ). difference_of v F) ef))
      ∙ ⊎_elim
      (λ o. let e : bit F a ≡ 0 = omega arith in
      first A (bit new a) (bit old a) (is 0 h) (is 1 h) (is 2 h) x y (omega (arith, part-new a (omega arith))) (omega (arith, part-old a (omega arith)))
      ∙ by-weight a F T h A (min A (is 0 h)) (min A (is 1 h)) b q (bit_le row a) (ap (λ (k : ℕ). min A (is k h)) (sym e)) (ap (λ (k : ℕ). min A (is (1 + k) h)) (sym e)))
      (λ o. let e : bit F a ≡ 1 = omega (arith, bit_le F a) in
      second A (bit new a) (bit old a) (is 0 h) (is 1 h) (is 2 h) x y (omega (arith, part-new a (omega arith), bit_le row a)) (omega (arith, part-old a (omega arith), bit_le row a))
      ∙ by-weight a F T h A (min A (is 1 h)) (min A (is 2 h)) b q (bit_le row a) (ap (λ (k : ℕ). min A (is k h)) (sym e)) (ap (λ (k : ℕ). min A (is (1 + k) h)) (sym e)))
      (lt_or_ge (bit F a) 1)
    where
      first : (A n o H K L x y : ℕ) → n ≡ A → o ≡ 0
          → max (min n (max (min H x) (min K y))) (min o (max (min K x) (min L y))) ≡ max (min (min A H) x) (min (min A K) y)
      first A n o H K L x y e f =
          ap₂ (λ (p q : ℕ). max (min p (max (min H x) (min K y))) (min q (max (min K x) (min L y)))) e f
          ∙ (left A (max (min H x) (min K y)) (max (min K x) (min L y)) ∙ sym (inside A H K x y (min A H) (min A K) refl refl))
        where
          left : (A u v : ℕ) → max (min A u) (min 0 v) ≡ min A u
          left A u v = omega arith

      second : (A n o H K L x y : ℕ) → n ≡ 0 → o ≡ A
          → max (min n (max (min H x) (min K y))) (min o (max (min K x) (min L y))) ≡ max (min (min A K) x) (min (min A L) y)
      second A n o H K L x y e f =
          ap₂ (λ (p q : ℕ). max (min p (max (min H x) (min K y))) (min q (max (min K x) (min L y)))) e f
          ∙ (right A (max (min H x) (min K y)) (max (min K x) (min L y)) ∙ sym (inside A K L x y (min A K) (min A L) refl refl))
        where
          right : (A u v : ℕ) → max (min 0 u) (min A v) ≡ min A v
          right A u v = omega arith

  pub spare-all : Grown (λ j b. min (bit new (j % most_nodes)) (leads 0 low high j b)) l₀ l₁ → Grown (λ j b. min (bit old (j % most_nodes)) (leads 1 low high j b)) l₁ l₂
      → Grown (λ j b. min (bit row (j % most_nodes)) (min (bit (difference_of all row) b) (weighs F (j / most_nodes) (j % most_nodes) b))) l₀ l₂
  spare-all G H =
      grown_then (λ j b. min (bit new (j % most_nodes)) (leads 0 low high j b)) (λ j b. min (bit old (j % most_nodes)) (leads 1 low high j b))
      (λ j b. min (bit row (j % most_nodes)) (min (bit (difference_of all row) b) (weighs F (j / most_nodes) (j % most_nodes) b))) l₀ l₁ l₂ G H parts-lead

-- Where the row may lose any zone, that is what it allows.
pub spare-moves : (mates : List ℕ) (all z row former : ℕ) (l m : List ℕ) → tight_of mates z row ≡ 0
    → Grown (λ j b. min (bit row (j % most_nodes)) (min (bit (difference_of all row) b) (weighs former (j / most_nodes) (j % most_nodes) b))) l m
    → Grown (moves mates all z row former) l m
unfolding moves targets_of
spare-moves mates all z row former l m e G =
    record {
      long = G.long;
      bits = λ j b p q.
          G.bits j b p q
          ∙ ap (λ (t : ℕ). max (bit (get_or l j 0) b) (min (bit row (j % most_nodes)) (min (bit t b) (weighs former (j / most_nodes) (j % most_nodes) b))))
          (sym (ap (targets_in all row (get_or mates (j % most_nodes) 0)) e ∙ targets_spare all row (get_or mates (j % most_nodes) 0)));
      rest = G.rest;
    }

-- ---- the rows

-- Clearing keeps the length.
pub clear-length : (l m : List ℕ) → arc_cells ≤ length l → m ≡ tab (λ k. 0) arc_cells ++ drop arc_cells l → length m ≡ length l
clear-length l m g e =
    omega (arith, ap length e, length-append (tab (λ k. 0) arc_cells) (drop arc_cells l), length-tab {A = ℕ} (λ k. 0) arc_cells, length-drop arc_cells l)

-- What is added after clearing is all that the sets have.
pub written : (f : ℕ → ℕ → ℕ) (l m n : List ℕ) → arc_cells ≤ length l → m ≡ tab (λ k. 0) arc_cells ++ drop arc_cells l → Grown f m n → Written f l n
written f l m n g e G =
    record {
      long = G.long ∙ clear-length l m g e;
      bits = λ j b p q. omega (
        arith,
        G.bits j b p q,
        ap (λ (x : List ℕ). bit (get_or x j 0) b) e,
        ap (λ (x : ℕ). bit x b) (get_or-append (tab (λ k. 0) arc_cells) (drop arc_cells l) 0 j (omega (arith, length-tab {A = ℕ} (λ k. 0) arc_cells)) ∙ get_or_tab (λ k. 0) arc_cells j 0 p),
        bit_zero b,
      );
    }

module _ (rows former mates : List ℕ) (all z : ℕ) where
  -- Before the first row nothing is added.
  pub rows_none : (l₀ : List ℕ) → Grown (moves_to rows former 0 mates all z) l₀ l₀
  unfolding moves_to max_to
  rows_none l₀ = grown_same (moves_to rows former 0 mates all z) l₀ (λ j b p q. refl)

  -- A row more.
  pub rows-turn : (p s f : ℕ) (l₀ l m : List ℕ) → s ≡ get_or rows p 0 → f ≡ get_or former p 0 → Grown (moves_to rows former p mates all z) l₀ l
      → Grown (moves mates all z s f) l m → Grown (moves_to rows former (p + 1) mates all z) l₀ m
  unfolding moves_to max_to
  rows-turn p s f l₀ l m es ef G H =
      grown_then (moves_to rows former p mates all z) (moves mates all z s f) (moves_to rows former (p + 1) mates all z) l₀ l m G H
      (λ j b q r.
      ap (λ (x : ℕ). max (moves_to rows former p mates all z j b) x) (ap₂ (λ (x y : ℕ). moves mates all z x y j b) es ef)
      ∙ ap (λ (k : ℕ). moves_to rows former k mates all z j b) (sym (add-one p)))
