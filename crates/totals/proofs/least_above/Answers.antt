-- `totals::least_above` meets its contract: the least of those that are above `last`, taken from the first on, is what the terms find.
-- Assumes nothing.
use Rattle.std.proofs.Common.{rules, tests}
use native.Mathlib.Omega.{arith}
use Prim.Native.Nat.{ℕ, ◌<◌, min}
use mathlib.Core.Path.{◌≡◌, refl, sym, ap, ◌∙◌}
use mathlib.Core.List.{List, [], ◌∷◌}
use mathlib.Core.Bool.{Bool, cond}
use mathlib.Core.Logic.{⊎_elim}
use lib.Dec.{ltb}
use lib.ListN.{take}
use borrow.Author.Tests.{lt-ltb, le-ltb}
use Rattle.std.specs.Prelude.{Option, unwrap_or}
use Rattle.std.specs.List.{filter, fold, reduce}
use Rattle.std.proofs.lemmas.Iterator.{YieldsList-from_slice}
use Rattle.std.proofs.lemmas.Iterator.Adapters.{option_map_id}
use Rattle.std.proofs.lemmas.Iterator.Consumers.{YieldsList-from_copied, YieldsList-from_filter, min_from_yields_List}
use Rattle.sums.proofs.Sum.{lt_or_ge}
use Rattle.totals.specs.ModelTotals.{nearer_of, least_from, least_above}
use Rattle.totals.proofs.Named.{near-low, near_first, near-less, near-more}
use Rattle.totals.proofs.least_above.Goals as goal

-- Of two numbers above `last` the nearer is the least.
near-min : (last acc x : ℕ) → last < x → (acc ≡ 0 → ⊥) → min acc x ≡ nearer_of last acc x
near-min last acc x h some =
    ⊎_elim (λ k. omega (arith, near-less last acc x h some k)) (λ k. omega (arith, near-more last acc x h some k)) (lt_or_ge x acc)

-- The least of a number and of those above `last`,
least_of_more : (last acc : ℕ) (l : List ℕ) → (acc ≡ 0 → ⊥) → fold min acc (filter (ltb last) l) ≡ least_from last acc l
unfolding least_from
least_of_more last acc [] some = refl
least_of_more last acc (x ∷ xs) some =
    ⊎_elim
    (λ k. ap (λ (t : Bool). fold min acc (cond t (x ∷ filter (ltb last) xs) (filter (ltb last) xs))) (lt-ltb last x k)
    ∙ (least_of_more last (min acc x) xs (λ e. omega arith) ∙ ap (λ (m : ℕ). least_from last m xs) (near-min last acc x k some)))
    (λ k. ap (λ (t : Bool). fold min acc (cond t (x ∷ filter (ltb last) xs) (filter (ltb last) xs))) (le-ltb last x k)
    ∙ (least_of_more last acc xs some ∙ ap (λ (m : ℕ). least_from last m xs) (sym (near-low last acc x k))))
    (lt_or_ge last x)

-- and the least of these alone, 0 where there is none.
least-filtered : (last : ℕ) (l : List ℕ) → unwrap_or (reduce min (filter (ltb last) l)) 0 ≡ least_from last 0 l
unfolding least_from
least-filtered last [] = refl
least-filtered last (x ∷ xs) =
    ⊎_elim
    (λ k. ap (λ (t : Bool). unwrap_or (reduce min (cond t (x ∷ filter (ltb last) xs) (filter (ltb last) xs))) 0) (lt-ltb last x k)
    ∙ (least_of_more last x xs (λ e. omega arith) ∙ ap (λ (m : ℕ). least_from last m xs) (sym (near_first last 0 x k refl))))
    (λ k. ap (λ (t : Bool). unwrap_or (reduce min (cond t (x ∷ filter (ltb last) xs) (filter (ltb last) xs))) 0) (le-ltb last x k)
    ∙ (least-filtered last xs ∙ ap (λ (m : ℕ). least_from last m xs) (sym (near-low last 0 x k))))
    (lt_or_ge last x)

pub returns : goal.returns
unfolding least_above
returns c =
    let a = c.args in
    let ids : List ℕ = take a.count a.ids.now in
    let least : c.min.result ≡ reduce min (filter (ltb a.last) ids) =
    sym (option_map_id c.min.result) ∙ min_from_yields_List _ _ c.min.ensures.ran
    (YieldsList-from_filter _ (ltb a.last) (YieldsList-from_copied (YieldsList-from_slice ids cc)) c.filter.ensures.closure (λ x b q k. search (rules, tests))) in
    c.unwrap_or.ensures ∙ (ap (λ (o : Option ℕ). unwrap_or o 0) least ∙ least-filtered a.last ids)
