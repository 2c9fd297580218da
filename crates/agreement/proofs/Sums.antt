-- What the sum of shared pairs and the copies that are sent rest on, over plain lists and numbers.
-- Assumes nothing.
use Prim.Native.Nat.{ℕ, ◌+◌, ◌*◌, ◌^◌, ◌≤◌, ◌<◌}
use mathlib.Core.Path.{◌≡◌, sym, ap, ap₂, ◌∙◌, subst}
use mathlib.Core.List.{List}
use native.Mathlib.Omega.{arith}
use native.Mathlib.Numerals.{add-one}
use native.Mathlib.Nat.{mul-le-mul}
use lib.ListN.{length, get_or}
use borrow.Author.Tests.{le-ltb}
use Rattle.sums.specs.TermsSums.{sum_to}
use Rattle.sets.specs.ModelBits.{mask_bits, count_of, meet_of}
use Rattle.sets.proofs.Laws.{count_le, meet_lt}
use Rattle.cluster.specs.Terms.{buffer_rows, layout_cells, most_copies}
use Rattle.agreement.specs.ModelAgreement.{agreement_in, shared_in}

pub few_shared : (x m a b : ℕ) → x ≡ count_of m → m ≡ meet_of a b → x ≤ mask_bits
few_shared x m a b e f = omega (arith, e, count_le mask_bits m (omega arith) (subst (λ (y : ℕ). y < 2 ^ mask_bits) (sym f) (meet_lt a b)))

pub agreement-more : (rows former : List ℕ) (p sum x m : ℕ) → sum ≡ agreement_in rows former p → x ≡ count_of m
    → m ≡ meet_of (get_or rows p 0) (get_or former p 0) → sum + x ≡ agreement_in rows former (p + 1)
unfolding agreement_in sum_to
agreement-more rows former p sum x m e f g =
    ap₂ ◌+◌ e (f ∙ ap count_of g) ∙ ap (λ (n : ℕ). sum_to n (λ q. count_of (meet_of (get_or rows q 0) (get_or former q 0)))) (sym (add-one p))

-- Copies of all partitions.
pub copies_few : (r p : ℕ) → r ≤ most_copies → p ≤ buffer_rows → r * p ≤ layout_cells
copies_few r p a b = omega (arith, mul-le-mul a b)

-- The pairs that code counts are those of the definition.
pub shared-is : (rows before : List ℕ) (P x : ℕ) → P ≤ buffer_rows → P ≤ length rows → P ≤ length before → x ≡ shared_in rows before P → x ≡ agreement_in rows before P
unfolding shared_in
shared-is rows before P x a b c e = e ∙ simp (le-ltb buffer_rows P a, le-ltb (length rows) P b, le-ltb (length before) P c)
