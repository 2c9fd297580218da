-- `masks::rows_formed` meets its contract.
use Rattle.std.proofs.Common.{rules, tests}
use Prim.Native.Nat.{ℕ, zero, suc}
use native.Mathlib.Omega.{arith}
use native.Mathlib.Numerals.{add-one}
use mathlib.Core.Path.{◌≡◌, refl, sym, ap, ap₂, ◌∙◌}
use mathlib.Core.Bool.{Bool, ◌&&◌, and-true}
use mathlib.Core.List.{List, [], ◌∷◌, map}
use lib.Dec.{ltb}
use borrow.Author.Tests.{le-leb, lt-leb}
use Rattle.std.specs.List.{list_all, range_with_len}
use Rattle.std.proofs.lemmas.List.Folds.{list_all-append}
use Rattle.std.proofs.lemmas.List.FromFn.{map-range_with_len_more}
use Rattle.std.proofs.lemmas.Iterator.{YieldsList-from_range}
use Rattle.std.proofs.lemmas.Iterator.Search.{all_from_yields_List}
use Rattle.cluster.specs.Terms.{buffer_rows}
use Rattle.cell_rows.specs.ModelRows.{ill_formed, row_ids}
use Rattle.cell_rows.proofs.RowScans.{some-told}
use Rattle.masks.specs.ModelMasks.{rows_formed}
use Rattle.sums.specs.TermsSums.{every_to}
use Rattle.masks.proofs.rows_formed.Goals as goal

-- What holds of all of a range holds of every number below its end.
all-map : (f : ℕ → Bool) (l : List ℕ) → list_all f l ≡ list_all (λ t. t) (map f l)
all-map f [] = refl
all-map f (x ∷ xs) = ap (λ t. f x && t) (all-map f xs)

all-every : (f : ℕ → Bool) (n : ℕ) → list_all f (range_with_len 0 n) ≡ every_to n f
unfolding every_to
all-every f zero = refl
all-every f (suc n) =
    all-map f (range_with_len 0 (suc n))
    ∙ (ap (λ k. list_all (λ t. t) (map f (range_with_len 0 k))) (sym (add-one n))
    ∙ (ap (list_all (λ t. t)) (map-range_with_len_more f 0 n n (omega arith))
    ∙ (list_all-append (λ t. t) (map f (range_with_len 0 n)) (f n ∷ [])
    ∙ ap₂ ◌&&◌ (sym (all-map f (range_with_len 0 n)) ∙ all-every f n) (and-true (f n)))))

pub returns-then-partitions-gt-PARTITIONS : goal.returns-then-partitions-gt-PARTITIONS
unfolding rows_formed
returns-then-partitions-gt-PARTITIONS c = simp (lt-leb c.args.partitions buffer_rows c.if-partitions-gt-PARTITIONS.true)

pub returns : goal.returns
unfolding rows_formed
returns c =
    let a = c.args in
    simp (le-leb a.partitions buffer_rows (search rules))
    (all_from_yields_List (λ p. ltb (row_ids a.cells.now p) ill_formed) _ _ c.all.result c.all.ensures.ran
    (YieldsList-from_range 0 a.partitions a.partitions refl (omega arith)) (λ x b q k. search (rules, tests, some-told))
    ∙ all-every (λ p. ltb (row_ids a.cells.now p) ill_formed) a.partitions)
