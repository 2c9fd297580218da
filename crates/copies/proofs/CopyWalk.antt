-- The walk over the nodes of a row, the lowest first: each is met once and has one copy more.
-- Assumes nothing.
use Prim.Native.Nat.{ℕ, ◌+◌, ◌^◌, ◌<◌}
use mathlib.Core.Path.{◌≡◌, sym, ap, ap₂, ◌∙◌}
use mathlib.Core.List.{List}
use mathlib.Core.Logic.{⊎_elim}
use native.Mathlib.Omega.{arith}
use lib.ListN.{length, get_or, set}
use lib.Seq.{get_or-set_same, get_or-set_other}
use Rattle.sums.proofs.Sum.{is_cases}
use Rattle.sets.specs.ModelBits.{mask_bits, bit, without_of, least_of}
use Rattle.sets.proofs.Laws.{bit_zero, bit-without, least-some, least_at}
use Rattle.cluster.specs.Terms.{most_nodes, Topology}
use Rattle.copies.specs.TermsCounts.{counts_after}
use Rattle.copies.specs.ModelCopies.{row_nodes}
use Rattle.copies.proofs.RowNodes.{bit-nodes}
use Rattle.copies.proofs.Counted.{row-counted}

-- The count that node b comes to: what it has, and one copy more where it is left to be met.
unfoldable pub comes_to : List ℕ → ℕ → ℕ → ℕ
comes_to counts left b = get_or counts b 0 + bit left b

-- The lowest node that is left is met: what any node comes to stays.
pub meets : (counts : List ℕ) (left : ℕ) → length counts ≡ most_nodes → left < 2 ^ mask_bits → (left ≡ 0 → ⊥) → (b : ℕ) → b < most_nodes
    → comes_to (set counts (least_of left) (get_or counts (least_of left) 0 + 1)) (without_of left (least_of left)) b ≡ comes_to counts left b
unfolding comes_to
meets counts left long word some b h =
    let u = least_of left in
    let v = get_or counts u 0 + 1 in
    let low : u < mask_bits = least-some left word some in
    ⊎_elim
    (λ w. omega (
      arith,
      ap (λ (x : ℕ). get_or (set counts u v) x 0) w.0,
      get_or-set_same counts u v 0 (omega (arith, low, long)),
      ap (λ (x : ℕ). get_or counts x 0) w.0,
      bit-without left u b h,
      w.1,
      least_at left low,
      ap (bit left) w.0,
    ))
    (λ w. omega (arith, get_or-set_other counts u b v 0 (λ e. w.0 (sym e)), bit-without left u b h, w.1))
    (is_cases u b)

-- None is left: the counts are those of one row more.
pub all_met : (t : Topology) (cells counts₀ counts : List ℕ) (p nodes left : ℕ) → counts₀ ≡ counts_after t cells p → nodes ≡ row_nodes t cells p
    → length counts ≡ most_nodes → left ≡ 0 → ((b : ℕ) → b < most_nodes → comes_to counts left b ≡ comes_to counts₀ nodes b)
    → counts ≡ counts_after t cells (p + 1)
unfolding comes_to
all_met t cells counts₀ counts p nodes left before row long none same =
    row-counted t cells p counts long
    (λ b h. let e : get_or counts b 0 ≡ get_or counts₀ b 0 + bit nodes b = omega (arith, same b h, ap (λ (x : ℕ). bit x b) none, bit_zero b) in
    e ∙ ap₂ ◌+◌ (ap (λ (l : List ℕ). get_or l b 0) before) (ap (λ (x : ℕ). bit x b) row ∙ bit-nodes t cells p b))
