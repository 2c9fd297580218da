-- An example that passes the test holds; and every example of both tables passes.
-- Assumes nothing.
use Prim.Native.Nat.{ℕ, suc, ◌≤◌}
use mathlib.Core.Path.{◌≡◌, refl, sym, ap₂, ◌∙◌}
use mathlib.Core.Bool.{Bool, true, false, not, ◌&&◌, ◌||◌, false≢true}
use mathlib.Core.Logic.{◌⊎◌, ⊎_elim}
use mathlib.Core.List.{List, [], ◌∷◌}
use native.Mathlib.Omega.{arith}
use lib.Dec.{leb, eqb}
use borrow.Author.Tests.{leb-true, eqb-true, eq-eqb, not-true}
use Rattle.sums.specs.TermsSums.{sum_to, one_if}
use Rattle.sums.proofs.Sum.{lt_or_ge}
use Rattle.cluster.specs.Terms.{usable, takes, Topology, ids_of, mem, rising_from, rising, different, zones_named, Layout, copies_in, ValidAt, only_in, sent}
use Rattle.cluster.specs.TermsFirst.{Before}
use Rattle.sums.proofs.Tests.{both}
use Rattle.examples.specs.TermsExamples.{Expected, no-layout, planned, Comes, Example, Holds, table, EveryHolds, Table}
use Rattle.examples.specs.TermsCeilings.{ceiling_table, CeilingTable}
use Rattle.examples.specs.ModelExamples.{every, implies, choices, before, layouts_of, candidates, row_test, node_test, valid_test, accepted_test, former_row_test, former_test, same_row, same_layout, row_before_test, before_test, nearest, agrees, outcome_test, passes}
use Rattle.examples.proofs.Listing.{candidate}
use Rattle.examples.proofs.Testing.{test_valid, valid_test_lem, valid_below, test_accepted, test_former, test_before}

-- ---- tests

-- A test that fails does not hold.
fails : (b : Bool) → not b ≡ true → b ≡ true → ⊥
fails b h e = false≢true (sym (not-true b h) ∙ e)

-- The second test holds where the first does.
then : (a b : Bool) → implies a b ≡ true → a ≡ true → b ≡ true
unfolding implies
then true b h e = h
then false b h e = absurd (false≢true e)

-- ---- one layout

-- What passes as nearest is valid and sends as many copies as named,
nearest_valid : (t : Topology) (F : Layout) (s d : ℕ) (L : Layout) → nearest t F s d L ≡ true → ValidAt t L s × (sent t L F ≡ d)
unfolding nearest
nearest_valid t F s d L h =
    let a = both (valid_test t L s) (eqb (sent t L F) d) h in (test_valid t L s a.0, eqb-true (sent t L F) d a.1)

-- and the other way.
valid_nearest : (t : Topology) (F : Layout) (s d : ℕ) (L : Layout) → ValidAt t L s → sent t L F ≡ d → nearest t F s d L ≡ true
unfolding nearest
valid_nearest t F s d L v e = ap₂ ◌&&◌ (valid_test_lem t L s v) (eq-eqb (sent t L F) d e)

-- What a layout that agrees is held to.
agreed : (t : Topology) (F : Layout) (s d : ℕ) (M L : Layout) → agrees t F s d M L ≡ true
    → (not (valid_test t L (suc s)) ≡ true)
    × (implies (valid_test t L s) (leb d (sent t L F)) ≡ true)
    × (implies (nearest t F s d L) (same_layout M L || before_test M L) ≡ true)
unfolding agrees
agreed t F s d M L h =
    let a = both (not (valid_test t L (suc s))) _ h in
    let b = both (implies (valid_test t L s) (leb d (sent t L F))) (implies (nearest t F s d L) (same_layout M L || before_test M L)) a.1 in
    (a.0, b.0, b.1)

-- ---- the outcome

-- Where all candidates agree, every valid layout does: the ids of the cluster rise, so it is a candidate.
module _ (t : Topology) (F : Layout) (s d : ℕ) (M : Layout) (u : rising (ids_of t.nodes) ≡ true)
    (h : every (agrees t F s d M) (candidates t) ≡ true) where
  all_agree : (L : Layout) (s' : ℕ) → ValidAt t L s' → agrees t F s d M L ≡ true
  all_agree L s' v = candidate t L s' u v (agrees t F s d M) h

  -- A layout valid at a larger size is valid at s + 1, where none is.
  none_larger : (L : Layout) (s' : ℕ) → ValidAt t L s' → s' ≤ s
  none_larger L s' v =
      ⊎_elim
      (λ l. absurd (fails (valid_test t L (suc s)) (agreed t F s d M L (all_agree L s' v)).0
      (valid_test_lem t L (suc s) (valid_below t L (suc s) s' (omega arith) (omega arith) v))))
      (λ l. l) (lt_or_ge s s')

  none-nearer : (L : Layout) → ValidAt t L s → d ≤ sent t L F
  none-nearer L v =
      leb-true d (sent t L F)
      (then (valid_test t L s) (leb d (sent t L F)) (agreed t F s d M L (all_agree L s v)).1 (valid_test_lem t L s v))

  none_before : (L : Layout) → ValidAt t L s → sent t L F ≡ d → (M ≡ L) ⊎ Before M L
  none_before L v e =
      test_before M L
      (then (nearest t F s d L) (same_layout M L || before_test M L) (agreed t F s d M L (all_agree L s v)).2 (valid_nearest t F s d L v e))

-- The outcome that passes comes about.
pub test_comes : (t : Topology) (F : Layout) (o : Expected) → rising (ids_of t.nodes) ≡ true → outcome_test t F o ≡ true → Comes t F o
unfolding outcome_test
test_comes t F no-layout u h = λ L v. fails (valid_test t L 1) (candidate t L 1 u v (λ M. not (valid_test t M 1)) h) (valid_test_lem t L 1 v)
test_comes t F (planned s d M) u h =
    let a = both (nearest t F s d M) (every (agrees t F s d M) (candidates t)) h in
    let v = nearest_valid t F s d M a.0 in
    record {
      size = record { reached = (M, v.0); largest = none_larger t F s d M u a.1 };
      sends = v.1;
      first = record {
        valid = v.0;
        nearest = λ L w. omega (arith, v.1, none-nearer t F s d M u a.1 L w);
        first = λ L w e. none_before t F s d M u a.1 L w (e ∙ v.1);
      };
    }

-- ---- the table

-- An example that passes holds.
pub passes-holds : (e : Example) → passes e ≡ true → Holds e
unfolding passes
passes-holds e h =
    let a = both (accepted_test e.topology) _ h in
    let b = both (former_test e.topology e.former) (outcome_test e.topology e.former e.outcome) a.1 in
    let t = test_accepted e.topology a.0 in
    record {
      accepted = t;
      is_former = test_former e.topology e.former b.0;
      comes = test_comes e.topology e.former e.outcome t.ids b.1;
    }

-- Examples that all pass all hold.
pub all_hold_lem : (l : List Example) → every passes l ≡ true → EveryHolds l
unfolding every
all_hold_lem [] h = tt
all_hold_lem (e ∷ es) h = let a = both (passes e) (every passes es) h in (passes-holds e a.0, all_hold_lem es a.1)

-- The tests of both tables, by computing.
pub tables_pass : (every passes table ≡ true) × (every passes ceiling_table ≡ true)
unfolding
    every implies choices before layouts_of candidates row_test node_test valid_test accepted_test former_row_test former_test same_row same_layout
    row_before_test before_test nearest agrees outcome_test passes sum_to one_if ids_of mem rising_from different zones_named copies_in usable takes only_in sent
tables_pass = (refl, refl)

-- The paper's table: every starred example holds, of the terms.
pub table-holds : Table
table-holds = all_hold_lem table tables_pass.0

-- Request 2026-05: every example with a ceiling holds, of the terms.
pub ceilings_hold : CeilingTable
ceilings_hold = all_hold_lem ceiling_table tables_pass.1
