-- The ends of an attempt as its code reaches them, over plain numbers and lists.
-- Assumes nothing.
use Prim.Native.Nat.{ℕ, suc, ◌+◌, ◌≤◌, ◌<◌}
use mathlib.Core.Path.{◌≡◌, refl, sym, ap, ◌∙◌, subst}
use mathlib.Core.Bool.{Bool, true, false, cond}
use mathlib.Core.List.{List}
use native.Mathlib.Numerals.{add-one}
use native.Mathlib.Omega.{arith}
use lib.ListN.{length, get_or, set}
use Rattle.cluster.specs.Terms.{most_nodes}
use Rattle.sets.specs.ModelBits.{bit, bits_at, without_of, below_of}
use Rattle.evens.specs.ModelEvens.{wanted_of, givers_of}
use Rattle.walks.specs.ModelWalks.{walk_in}
use Rattle.waves.specs.ModelWaves.{wave_cells, Waved}
use Rattle.ways.specs.ModelWays.{arc_for, Traced}
use Rattle.exchanging.specs.ModelExchanged.{walked_of}
use Rattle.exchanging.proofs.Making.{length_exchanged}
use Rattle.attempts.specs.ModelDeciding.{Ordered, Keeps, Goes, Reaches, Refreshed, members}
use Rattle.attempts.proofs.Attempts.{in_ordered, unwanted_ordered, none_ordered, shut_ordered, stale_ordered, turned_ordered, stale-less, ordered_row}

-- ---- one attempt

-- After the turn of a walk there are as many rows.
pub walked_long : (P m : ℕ) (y q rows rows' : List ℕ) → rows' ≡ walked_of P (walk_in m y q) rows → length rows' ≡ length rows
walked_long P m y q rows rows' e = ap length e ∙ length_exchanged P (λ i. get_or y i 0) (λ i. get_or q i 0) rows m

module _ (P : ℕ) (former mates caps : List ℕ) (all z : ℕ) (even : List ℕ) (p b : ℕ) where
  module _ (goal : ℕ) (rows leads : List ℕ) (in_p : p < P) (is-goal : goal ≡ givers_of mates all z even (get_or rows p 0) (get_or former p 0) b) where
    -- The goal, as the set of all nodes is told.
    goal_of : (N : ℕ) → all ≡ below_of N → goal ≡ givers_of mates (below_of N) z even (get_or rows p 0) (get_or former p 0) b
    goal_of N e = is-goal ∙ ap (λ (x : ℕ). givers_of mates x z even (get_or rows p 0) (get_or former p 0) b) e

    -- No wave met the goal.
    pub shut_goes : (r : ℕ) (waves : List ℕ) → Waved leads b goal r waves → wave_cells ≤ r → Goes P former mates caps all z even p b rows leads (suc b) rows leads
    shut_goes r waves w l N R zone cap A d e in_b out o =
        shut_ordered P N R z zone cap A former mates caps even d p b rows leads o in_p in_b out goal (goal_of N e) r waves w l

    -- Nobody could give way; where somebody could, nothing is done yet.
    pub begin_keeps : bits_at rows p b ≡ 0 → (again : Bool) → (again ≡ false → goal ≡ 0) → Keeps P former mates caps all z even p b rows leads (cond again b (suc b)) rows leads
    begin_keeps out true h N R zone cap A d e in_b o = o
    begin_keeps out false h N R zone cap A d e in_b o =
        none_ordered P N R z zone cap A former mates caps even d p b rows leads o in_p in_b out goal (goal_of N e) (h refl)

    module _ (k r : ℕ) (y q : List ℕ) (t : Traced leads b goal k r (arc_for rows former P mates caps all z even p b) P p y q) where
      -- The trace, as the set of all nodes is told.
      trace_of : (N : ℕ) → all ≡ below_of N → Traced leads b goal k r (arc_for rows former P mates caps (below_of N) z even p b) P p y q
      trace_of N e = subst (λ (x : ℕ). Traced leads b goal k r (arc_for rows former P mates caps x z even p b) P p y q) e t

      -- An arc was nowhere: its nodes, and that the one leads to the other.
      pub stale-node : r < k → (get_or y (r + 1) 0 < most_nodes) × (get_or y r 0 < most_nodes) × (bit (get_or leads (get_or y (r + 1) 0) 0) (get_or y r 0) ≡ 1)
      stale-node l =
          let e : suc r ≡ r + 1 = omega arith in
          let s = t.stale l in
          (subst (λ (j : ℕ). get_or y j 0 < most_nodes) e s.0, (t.nodes r (omega arith)).0, subst (λ (j : ℕ). bit (get_or leads (get_or y j 0) 0) (get_or y r 0) ≡ 1) e s.2)

      -- The cells without it.
      pub stale_goes : r < k → length leads ≡ most_nodes → (leads' : List ℕ)
          → leads' ≡ set leads (get_or y (r + 1) 0) (without_of (get_or leads (get_or y (r + 1) 0) 0) (get_or y r 0))
          → Goes P former mates caps all z even p b rows leads b rows leads' × (members leads' < members leads)
      stale_goes l long leads' e =
          let n = stale-node l in
          let to : set leads (get_or y (suc r) 0) (without_of (get_or leads (get_or y (suc r) 0) 0) (get_or y r 0)) ≡ leads' =
          ap (λ (j : ℕ). set leads (get_or y j 0) (without_of (get_or leads (get_or y j 0) 0) (get_or y r 0))) (omega arith) ∙ sym e in (
            λ N R zone cap A d f in_b out o.
                subst (λ (x : List ℕ). Ordered P N R z zone cap A former mates caps even d p b rows x) to
                (stale_ordered P N R z zone cap A former mates caps even d p b rows leads o in_p in_b out goal (goal_of N f) k r y q (trace_of N f) l long),
            subst (λ (x : List ℕ). members x < members leads) (sym e) (stale-less leads (get_or y (r + 1) 0) (get_or y r 0) long n.0 n.1 n.2),
          )

      -- The way was whole, and was turned.
      pub turned_goes : (waves : List ℕ) → Waved leads b goal k waves → k < wave_cells → k ≤ r → (rows' leads' : List ℕ) → rows' ≡ walked_of P (walk_in (k + 1) y q) rows
          → Refreshed rows' former P mates all z even y q (k + 1) leads leads' → Goes P former mates caps all z even p b rows leads (suc b) rows' leads'
      turned_goes waves w met l rows' leads' e f N R zone cap A d g in_b out o =
          let whole : r ≡ k = omega (arith, t.short) in
          let one : k + 1 ≡ suc k = omega arith in
          turned_ordered P N R z zone cap A former mates caps even d p b rows leads o in_p in_b out goal (goal_of N g) k waves y q w met
          (subst (λ (x : ℕ). Traced leads b goal k x (arc_for rows former P mates caps (below_of N) z even p b) P p y q) whole (trace_of N g)) rows' leads'
          (e ∙ ap (λ (m : ℕ). walked_of P (walk_in m y q) rows) one)
          (subst (λ (m : ℕ). Refreshed rows' former P mates (below_of N) z even y q m leads leads') one
          (subst (λ (x : ℕ). Refreshed rows' former P mates x z even y q (k + 1) leads leads') g f))

  -- The row has b.
  pub in_keeps : (rows leads : List ℕ) → p < P → bits_at rows p b ≡ 1 → Keeps P former mates caps all z even p b rows leads (suc b) rows leads
  in_keeps rows leads in_p has N R zone cap A d e in_b o = in_ordered P N R z zone cap A former mates caps even d p b rows leads o in_p in_b has

  -- The node is not wanted.
  pub unwanted_keeps : (rows leads : List ℕ) (wanted : ℕ) → p < P → wanted ≡ wanted_of even (get_or rows p 0) (get_or former p 0) → bit wanted b ≡ 0
      → Keeps P former mates caps all z even p b rows leads (suc b) rows leads
  unwanted_keeps rows leads wanted in_p w h N R zone cap A d e in_b o =
      unwanted_ordered P N R z zone cap A former mates caps even d p b rows leads o in_p in_b (ap (λ (x : ℕ). bit x b) (sym w) ∙ h)

  -- Another attempt, with the rows as they were.
  pub again_keeps : (rows₀ leads₀ rows leads rows' leads' : List ℕ) (again : Bool) (next : ℕ) → again ≡ true → rows ≡ rows₀ → bits_at rows₀ p b ≡ 0
      → Keeps P former mates caps all z even p b rows₀ leads₀ (cond again b (suc b)) rows leads → Goes P former mates caps all z even p b rows leads next rows' leads' → Keeps P former mates caps all z even p b rows₀ leads₀ next rows' leads'
  again_keeps rows₀ leads₀ rows leads rows' leads' again next e same out f g N R zone cap A d h in_b o =
      g N R zone cap A d h in_b (ap (λ (x : List ℕ). bits_at x p b) same ∙ out)
      (subst (λ (x : Bool). Ordered P N R z zone cap A former mates caps even d p (cond x b (suc b)) rows leads) e (f N R zone cap A d h in_b o))

  -- The last one is made.
  pub end_keeps : (rows₀ leads₀ rows leads : List ℕ) (again : Bool) → again ≡ false → Keeps P former mates caps all z even p b rows₀ leads₀ (cond again b (suc b)) rows leads
      → Keeps P former mates caps all z even p b rows₀ leads₀ (suc b) rows leads
  end_keeps rows₀ leads₀ rows leads again e f N R zone cap A d h in_b o =
      subst (λ (x : Bool). Ordered P N R z zone cap A former mates caps even d p (cond x b (suc b)) rows leads) e (f N R zone cap A d h in_b o)

-- ---- attempts at one pair

-- The goal, as the former row is told.
pub goal_told : (mates : List ℕ) (all z : ℕ) (even : List ℕ) (row was former b goal : ℕ) → goal ≡ givers_of mates all z even row was b → was ≡ former
    → goal ≡ givers_of mates all z even row former b
goal_told mates all z even row was former b goal e h = e ∙ ap (λ (x : ℕ). givers_of mates all z even row x b) h

-- Rows that are as before are those of the start.
pub again_same : (rows₀ rows rows' : List ℕ) → rows ≡ rows₀ → rows' ≡ rows → rows' ≡ rows₀
again_same rows₀ rows rows' e h = h ∙ e

-- How many attempts may follow.
abbrev pub left : Bool → List ℕ → ℕ
left again leads = cond again (suc (members leads)) 0

-- After an attempt they are fewer.
pub left_less : (again next : Bool) (leads leads' : List ℕ) → again ≡ true → (next ≡ true → members leads' < members leads) → left next leads' < left again leads
left_less again next leads leads' e h = subst (λ (x : Bool). left next leads' < left x leads) (sym e) (go next h)
  where
    go : (next : Bool) → (next ≡ true → members leads' < members leads) → left next leads' < suc (members leads)
    go true f = omega (arith, f refl)
    go false f = omega arith

-- ---- pairs and rows

module _ (P : ℕ) (former mates caps : List ℕ) (N z : ℕ) (even : List ℕ) (p₀ b₀ : ℕ) (rows₀ leads₀ : List ℕ) where
  module _ (p b : ℕ) (rows leads : List ℕ) (f : Reaches P former mates caps N z even p₀ b₀ rows₀ leads₀ p b rows leads) where
    -- One pair more.
    pub reaches-pair : (all : ℕ) (rows' leads' : List ℕ) → all ≡ below_of N → b < N → Keeps P former mates caps all z even p b rows leads (suc b) rows' leads'
        → Reaches P former mates caps N z even p₀ b₀ rows₀ leads₀ p (b + 1) rows' leads'
    reaches-pair all rows' leads' e l g R zone cap A d o =
        subst (λ (x : ℕ). Ordered P N R z zone cap A former mates caps even d p x rows' leads') (sym (add-one b)) (g N R zone cap A d e l (f R zone cap A d o))

    -- The last pair of a row.
    pub reaches-row : b ≡ N → Reaches P former mates caps N z even p₀ b₀ rows₀ leads₀ (suc p) 0 rows leads
    reaches-row e R zone cap A d o =
        ordered_row P N R z zone cap A former mates caps even d p rows leads
        (subst (λ (x : ℕ). Ordered P N R z zone cap A former mates caps even d p x rows leads) e (f R zone cap A d o))

-- One row more.
pub reaches-next : (P : ℕ) (former mates caps : List ℕ) (N z : ℕ) (even rows₀ leads₀ : List ℕ) (p : ℕ) (rows leads rows' leads' : List ℕ)
    → Reaches P former mates caps N z even 0 0 rows₀ leads₀ p 0 rows leads → Reaches P former mates caps N z even p 0 rows leads (suc p) 0 rows' leads'
    → Reaches P former mates caps N z even 0 0 rows₀ leads₀ (p + 1) 0 rows' leads'
reaches-next P former mates caps N z even rows₀ leads₀ p rows leads rows' leads' f g R zone cap A d o =
    subst (λ (x : ℕ). Ordered P N R z zone cap A former mates caps even d x 0 rows' leads') (sym (add-one p)) (g R zone cap A d (f R zone cap A d o))
