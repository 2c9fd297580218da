-- From one level down to the end of the search or to the next level: the ways that grow, the first node that closes a cycle, and the walk back
-- around that cycle.
-- Assumes nothing.
use Prim.Native.Nat.{ℕ, zero, suc, ◌+◌, ◌-◌, ◌*◌, ◌≤◌, ◌<◌, ◌^◌, max}
use mathlib.Core.Path.{◌≡◌, refl, sym, ap, ap₂, ◌∙◌, subst}
use mathlib.Core.Bool.{Bool, true, false, cond, ◌&&◌, true≢false}
use mathlib.Core.List.{List}
use mathlib.Core.Logic.{⊎_elim}
use native.Mathlib.Nat.{sub-zero}
use native.Mathlib.Numerals.{add-one}
use native.Mathlib.Omega.{arith}
use lib.Dec.{ltb, eqb}
use lib.ListN.{get_or, take, drop}
use lib.Seq.{get_or-take, get_or-drop}
use borrow.Author.Tests.{lt-ltb, le-ltb}
use Rattle.cluster.specs.Terms.{most_nodes}
use Rattle.sums.specs.ModelSums.{is, first_from}
use Rattle.sums.proofs.Sum.{lt_or_ge}
use Rattle.cells.specs.ModelCells.{put}
use Rattle.cells.proofs.Cells.{put_cong}
use Rattle.sets.specs.ModelBits.{mask_bits, bit, member_of, least_of}
use Rattle.sets.proofs.Laws.{bit_zero, member-true, member-false, bit-true, bit-false, bit-with, least-some, least_at}
use Rattle.exchange.specs.ModelLevels as levels
use Rattle.exchange.specs.ModelLevels.{Graph, Outcome, potential_found, cycle_found, fell, back, way, closes, search_from, outcome, cycle_length, IsPotential}
use Rattle.exchange.proofs.Levels.{from-node, dist_le}
use Rattle.sums.proofs.Tests.{true_or_false}
use Rattle.exchange.proofs.Search.{open_next, Closing, closing, way_next, way_stays, back-next, back-fell, back-node, outcome_potential}
use Rattle.sums.proofs.First.{first_lt, first_cong, first-is-none, first_some, first-none}
use Rattle.cycles.specs.ModelFound.{end_length, end_walk, Levelled}
use Rattle.levels.specs.ModelTurns.{Settled}
use Rattle.cycles.specs.ModelTrails.{behind, returned, closer, trail, trail_length}
use Rattle.cycles.proofs.States.{State, Next}

-- One level down from level k, with all that the cells hold: the state before, the next level, and the row of the nodes that the fallen came from.
pub record Turning (G : Graph) (k set mask : ℕ) (next table dist next₀ ways table₀ row : List ℕ) : Type 0 where
  pub small : G.N ≤ most_nodes
  pub below : k < G.N
  pub down : Next G k set next table
  pub state : State G k mask dist next₀ ways table₀
  pub at_row : (v : ℕ) → v < most_nodes → get_or row v 0 ≡ get_or table ((k + 1) * most_nodes + v) 0

module _ {G : Graph} {k set mask : ℕ} {next table dist next₀ ways table₀ row : List ℕ} (T : Turning G k set mask next table dist next₀ ways table₀ row) where
  abbrev n : ℕ
  n = G.N

  -- One step of the search.
  search-step : search_from G (n - k) k
      ≡ cond (ltb (first_from (fell G (suc k)) n 0) n)
      (cond (ltb (first_from (closes G (suc k)) n 0) n) (cycle_found (suc k) (first_from (closes G (suc k)) n 0)) (search_from G (n - (k + 1)) (k + 1)))
      (potential_found k)
  unfolding search_from
  search-step =
      let e : n - k ≡ suc (n - (k + 1)) = omega arith in
      ap (λ (i : ℕ). search_from G i k) e
      ∙ ap (λ (i : ℕ). cond (ltb (first_from (fell G (suc k)) n 0) n)
      (cond (ltb (first_from (closes G (suc k)) n 0) n) (cycle_found (suc k) (first_from (closes G (suc k)) n 0)) (search_from G (n - (k + 1)) i))
      (potential_found k)) (sym (add-one k))

  -- Where none fell, the search ends with a potential.
  pub search-still : set ≡ 0 → search_from G (n - k) k ≡ potential_found k
  search-still z =
      search-step
      ∙ ap (λ (b : Bool). cond b (cond (ltb (first_from (closes G (suc k)) n 0) n) (cycle_found (suc k) (first_from (closes G (suc k)) n 0)) (search_from G (n - (k + 1)) (k + 1))) (potential_found k))
      (le-ltb (first_from (fell G (suc k)) n 0) n (omega (arith, first-is-none (fell G (suc k)) n none)))
    where
      none : (v : ℕ) → v < n → fell G (suc k) v ≡ false
      none v l = sym (T.down.marks v l) ∙ (ap (λ (s : ℕ). member_of s v) z ∙ bit-false 0 v (bit_zero v))

  -- Where some fell, it ends with a cycle or goes on.
  search_moved : (set ≡ 0 → ⊥) → set < 2 ^ mask_bits
      → search_from G (n - k) k ≡ cond (ltb (first_from (closes G (suc k)) n 0) n) (cycle_found (suc k) (first_from (closes G (suc k)) n 0)) (search_from G (n - (k + 1)) (k + 1))
  search_moved z f =
      search-step
      ∙ ap (λ (b : Bool). cond b (cond (ltb (first_from (closes G (suc k)) n 0) n) (cycle_found (suc k) (first_from (closes G (suc k)) n 0)) (search_from G (n - (k + 1)) (k + 1))) (potential_found k))
      (lt-ltb (first_from (fell G (suc k)) n 0) n (first_lt (fell G (suc k)) n w node (sym (T.down.marks w node) ∙ bit-true set w (least_at set l))))
    where
      w : ℕ
      w = least_of set

      l : least_of set < most_nodes
      l = least-some set f z

      node : least_of set < n
      node = ⊎_elim (λ a. a) (λ b. absurd (omega (arith, least_at set l, T.down.nodes (least_of set) l b))) (lt_or_ge (least_of set) n)

  -- ---- the ways, by the row of the nodes that the fallen came from

  row_from : (v : ℕ) → v < n → fell G (suc k) v ≡ true → get_or row v 0 ≡ levels.from G (suc k) v
  row_from v l e =
      T.at_row v (omega arith) ∙ (ap (λ (i : ℕ). get_or table (i * most_nodes + v) 0) (add-one k) ∙ T.down.rows (suc k) v (omega arith) (omega arith) l e)

  -- Where a node came from is a node.
  pub row-node : (v : ℕ) → v < n → member_of set v ≡ true → get_or row v 0 < most_nodes
  row-node v l e = omega (arith, row_from v l (sym (T.down.marks v l) ∙ e), from-node G (suc k) v T.below l)

  behind-is : (v x : ℕ) → v < n → x < most_nodes → fell G (suc k) v ≡ true → bit (behind row ways v) x ≡ way G k (levels.from G (suc k) v) x
  unfolding behind
  behind-is v x l m e =
      bit-with (get_or ways (get_or row v 0) 0) (get_or row v 0) x m
      ∙ (ap (λ (i : ℕ). max (bit (get_or ways i 0) x) (is i x)) (row_from v l e)
      ∙ omega (arith, T.state.ways (levels.from G (suc k) v) x (from-node G (suc k) v T.below l) m))

  -- A node that fell is behind itself if it closes a cycle.
  closes-is : (v : ℕ) → v < n → returned set row ways v ≡ closes G (suc k) v
  unfolding closes member_of returned
  closes-is v l = ⊎_elim yes no (true_or_false (fell G (suc k) v))
    where
      yes : fell G (suc k) v ≡ true → returned set row ways v ≡ closes G (suc k) v
      yes e = ap₂ ◌&&◌ (T.down.marks v l) (ap (λ (i : ℕ). eqb i 1) (behind-is v v l (omega arith) e))

      no : fell G (suc k) v ≡ false → returned set row ways v ≡ closes G (suc k) v
      no e =
          ap (λ (b : Bool). b && member_of (behind row ways v) v) (T.down.marks v l ∙ e)
          ∙ ap (λ (b : Bool). b && eqb (way G k (levels.from G (suc k) v) v) 1) (sym e)

  closer-is : closer n set row ways ≡ first_from (closes G (suc k)) n 0
  unfolding closer
  closer-is = first_cong (returned set row ways) (closes G (suc k)) n 0 (λ j a b. closes-is j (omega arith))

  grown_is : (grown : List ℕ) → Settled (bit set) (behind row ways) ways grown → (v x : ℕ) → v < n → x < most_nodes → max (is v x) (bit (get_or grown v 0) x) ≡ way G (suc k) v x
  grown_is grown g v x l m = ⊎_elim yes no (true_or_false (fell G (suc k) v))
    where
      yes : fell G (suc k) v ≡ true → max (is v x) (bit (get_or grown v 0) x) ≡ way G (suc k) v x
      yes e =
          ap (λ (i : ℕ). max (is v x) (bit i x)) (g.taken v (omega arith) (member-true set v (T.down.marks v l ∙ e)))
          ∙ omega (arith, behind-is v x l m e, way_next G k v x)

      no : fell G (suc k) v ≡ false → max (is v x) (bit (get_or grown v 0) x) ≡ way G (suc k) v x
      no e =
          ap (λ (i : ℕ). max (is v x) (bit i x)) (g.left v (omega arith) (member-false set v (T.down.marks v l ∙ e)))
          ∙ (T.state.ways v x l m ∙ sym (way_stays G k v x T.below e))

  -- Where none closes a cycle, the search goes on.
  pub search-on : (set ≡ 0 → ⊥) → set < 2 ^ mask_bits → n ≤ closer n set row ways → search_from G (n - k) k ≡ search_from G (n - (k + 1)) (k + 1)
  search-on z f h =
      search_moved z f
      ∙ ap (λ (b : Bool). cond b (cycle_found (suc k) (first_from (closes G (suc k)) n 0)) (search_from G (n - (k + 1)) (k + 1)))
      (le-ltb (first_from (closes G (suc k)) n 0) n (omega (arith, closer-is)))

  -- And the cells hold the next level.
  pub state-on : (grown : List ℕ) → n ≤ closer n set row ways → Settled (bit set) (behind row ways) ways grown → State G (k + 1) set next next grown table
  state-on grown c g =
      subst (λ (i : ℕ). State G i set next next grown table) (sym (add-one k))
      (record {
        dists = T.down.nexts;
        nexts = T.down.nexts;
        marks = T.down.marks;
        nodes = T.down.nodes;
        ways = grown_is grown g;
        rows = T.down.rows;
        still_open = open_next G k T.state.still_open (first-none (closes G (suc k)) n (le-ltb (first_from (closes G (suc k)) n 0) n (omega (arith, closer-is))));
      })

  -- ---- the cycle

  module _ (v : ℕ) (is-closer : v ≡ closer n set row ways) (node : v < n) where
    found : closes G (suc k) v ≡ true
    found =
        let e : v ≡ first_from (closes G (suc k)) n 0 = is-closer ∙ closer-is in
        let h = first_some (closes G (suc k)) n (lt-ltb (first_from (closes G (suc k)) n 0) n (omega arith)) in
        ap (λ (i : ℕ). closes G (suc k) i) e ∙ h.1

    ends : Closing G (suc k) v
    ends = closing G k v T.below node T.state.still_open found

    -- Where a node closes a cycle, the search ends with it.
    pub search-closed : (set ≡ 0 → ⊥) → set < 2 ^ mask_bits → search_from G (n - k) k ≡ cycle_found (suc k) v
    search-closed z f =
        let e : first_from (closes G (suc k)) n 0 ≡ v = sym (is-closer ∙ closer-is) in
        search_moved z f
        ∙ (ap (λ (b : Bool). cond b (cycle_found (suc k) (first_from (closes G (suc k)) n 0)) (search_from G (n - (k + 1)) (k + 1))) (lt-ltb (first_from (closes G (suc k)) n 0) n (omega arith))
        ∙ ap (λ (i : ℕ). cycle_found (suc k) i) e)

    -- The trace back is the way back.
    trail-back : (t : ℕ) → t ≤ suc k → trail table (suc k) v t ≡ back G (suc k) v t
    unfolding trail back
    trail-back zero l = refl
    trail-back (suc t) l =
        ap (λ (i : ℕ). get_or table ((suc k - t) * most_nodes + i) 0) (trail-back t (omega arith))
        ∙ (T.down.rows (suc k - t) (back G (suc k) v t) (omega arith) (omega arith) (back-node G (suc k) v t T.below node)
        (back-fell G (suc k) v t (suc k - t) (omega arith) T.below ends.fallen)
        ∙ sym (back-next G (suc k) v t (suc k - t) (omega arith)))

    length-is : trail_length table (suc k) v ≡ cycle_length G (suc k) v
    unfolding trail_length cycle_length
    length-is =
        first_cong (λ t. eqb (trail table (suc k) v t) v) (λ t. eqb (back G (suc k) v t) v) (suc k) 1
        (λ j a b. ap (λ (i : ℕ). eqb i v) (trail-back j (omega arith)))

    -- The trace back comes to its start within the levels.
    pub trail-closes : trail_length table (k + 1) v ≤ k + 1
    trail-closes = rw (add-one k) (omega (arith, length-is, ends.length_le))

    -- It goes over nodes.
    pub trail-node : (t : ℕ) → t < k + 1 → trail table (k + 1) v t < most_nodes
    trail-node t l = rw (add-one k) (omega (arith, trail-back t (omega arith), back-node G (suc k) v t T.below node))

    -- It is the walk that the search ends with.
    pub trail-walk : (walk : List ℕ) → put 0 (trail table (k + 1) v) (trail_length table (k + 1) v + 1) walk ≡ end_walk G (cycle_found (suc k) v) walk
    unfolding end_walk
    trail-walk walk =
        rw (add-one k, length-is)
        (put_cong 0 (trail table (suc k) v) (back G (suc k) v) (cycle_length G (suc k) v + 1) walk (λ i l. trail-back i (omega (arith, ends.length_le))))

    -- Its length is the cycle's.
    pub trail-length : trail_length table (k + 1) v ≡ end_length G (cycle_found (suc k) v)
    unfolding end_length
    trail-length = rw (add-one k) length-is

-- The row that a part of the table shows.
pub part-row : (i v : ℕ) (l : List ℕ) → v < most_nodes → get_or (take (i + most_nodes - i) (drop i l)) v 0 ≡ get_or l (i + v) 0
part-row i v l h = get_or-take (i + most_nodes - i) (drop i l) v 0 (omega arith) ∙ get_or-drop i l v 0

-- The level of a potential.
level_of : Outcome → ℕ
level_of (potential_found k) = k
level_of (cycle_found k v) = 0

-- Whether an outcome is a cycle.
is_cycle : Outcome → Bool
is_cycle (potential_found k) = false
is_cycle (cycle_found k v) = true

module _ (G : Graph) (o : Outcome) (k : ℕ) {mask : ℕ} {dist next ways table : List ℕ} (st : State G k mask dist next ways table) where
  level-low : (v : ℕ) → v < G.N → get_or dist v 0 ≤ G.N * G.C
  level-low v l = omega (arith, st.dists v l, dist_le G k v)

  -- The distances where a search ends with a potential.
  pub levelled_still : o ≡ potential_found k → Levelled G o dist
  unfolding level_of
  levelled_still e =
      (level-low, λ j q v l. let z : k ≡ j = ap level_of (sym e ∙ q) in st.dists v l ∙ ap (λ (i : ℕ). levels.dist G i v) z)

  -- The distances where it ends with a cycle.
  pub levelled_closed : (j v : ℕ) → o ≡ cycle_found j v → Levelled G o dist
  unfolding is_cycle
  levelled_closed j v e = (level-low, λ i q w l. absurd (true≢false (ap is_cycle (sym e ∙ q))))

-- Where a search ends with a potential, its distances are one.
pub levelled_potential : (G : Graph) → 1 ≤ G.N → (cells : List ℕ) → Levelled G (outcome G) cells → (k : ℕ) → outcome G ≡ potential_found k → IsPotential G (λ v. get_or cells v 0)
levelled_potential G s cells h k e u v lu lv a =
    omega (arith, (outcome_potential G k s e).1 u v lu lv a, h.1 k e u lu, h.1 k e v lv)

-- What a search answers that ends with a potential.
pub ends_still : (G : Graph) (o : Outcome) (k : ℕ) (walk₀ walk : List ℕ) → o ≡ potential_found k → walk ≡ walk₀ → (0 ≡ end_length G o) × (walk ≡ end_walk G o walk₀)
unfolding end_length end_walk
ends_still G o k walk₀ walk e w = (ap (λ (i : Outcome). end_length G i) (sym e), w ∙ ap (λ (i : Outcome). end_walk G i walk₀) (sym e))

-- What a search answers that ends with a cycle.
pub ends_closed : (G : Graph) (o : Outcome) (k v r : ℕ) (walk₀ walk : List ℕ) → o ≡ cycle_found k v → r ≡ end_length G (cycle_found k v) → walk ≡ end_walk G (cycle_found k v) walk₀
    → (r ≡ end_length G o) × (walk ≡ end_walk G o walk₀)
ends_closed G o k v r walk₀ walk e q w = (q ∙ ap (λ (i : Outcome). end_length G i) (sym e), w ∙ ap (λ (i : Outcome). end_walk G i walk₀) (sym e))

-- Where no level is left, the search ends with a potential.
pub search_spent : (G : Graph) (k : ℕ) → G.N ≤ k → search_from G (G.N - k) k ≡ potential_found k
unfolding search_from
search_spent G k l = let e : G.N - k ≡ 0 = omega arith in ap (λ (i : ℕ). search_from G i k) e

-- The search begins at level 0.
pub search-start : (G : Graph) → outcome G ≡ search_from G (G.N - 0) 0
unfolding outcome
search-start G = ap (λ (i : ℕ). search_from G i 0) (sym (sub-zero G.N))
