-- The sets of the nodes that stand at a distance or below.
-- Assumes nothing.
use Prim.Native.Nat.{ℕ, ◌≤◌, ◌<◌}
use mathlib.Core.Path.{◌≡◌, sym, ap, ◌∙◌}
use mathlib.Core.List.{List}
use mathlib.Core.Logic.{⊎_elim}
use native.Mathlib.Omega.{arith}
use lib.Dec.{leb}
use lib.ListN.{get_or, replicate, get_or-replicate}
use borrow.Author.Tests.{le-leb, lt-leb, lt-ltb, le-ltb}
use Rattle.cluster.specs.Terms.{most_nodes}
use Rattle.sums.specs.TermsSums.{one_if}
use Rattle.sums.proofs.Sum.{lt_or_ge}
use Rattle.sets.specs.ModelBits.{bit, below_of}
use Rattle.sets.proofs.Laws.{bit_zero}
use Rattle.levels.specs.ModelTurns.{AtMost, stand_of}

-- A node that stands at b or below is one of them.
pub one_in : (a b : ℕ) → a ≤ b → one_if (leb a b) ≡ 1
unfolding one_if
one_in a b l = ap one_if (le-leb a b l)

-- A node above it is not.
pub one_out : (a b : ℕ) → b < a → one_if (leb a b) ≡ 0
unfolding one_if
one_out a b l = ap one_if (lt-leb a b l)

-- What is one of them stands at b or below.
pub in_one : (a b : ℕ) → one_if (leb a b) ≡ 1 → a ≤ b
in_one a b e = ⊎_elim (λ g. absurd (omega (arith, one_out a b g))) (λ g. g) (lt_or_ge b a)

-- What is none of them stands above it.
pub out_one : (a b : ℕ) → one_if (leb a b) ≡ 0 → b < a
out_one a b e = ⊎_elim (λ g. g) (λ g. absurd (omega (arith, one_in a b g))) (lt_or_ge b a)

-- Below n, the set of a distance is its cell; from n on, it has all nodes.
pub stand_in : (atmost : List ℕ) (n c : ℕ) → c < n → stand_of atmost n c ≡ get_or atmost c 0
unfolding stand_of
stand_in atmost n c l = rw (lt-ltb c n l)

pub stand-out : (atmost : List ℕ) (n c : ℕ) → n ≤ c → stand_of atmost n c ≡ below_of n
unfolding stand_of
stand-out atmost n c l = rw (le-ltb c n l)

-- Where all nodes stand at top, the sets below it are empty.
pub stand-start : (top : ℕ) → top ≤ most_nodes → AtMost top (replicate most_nodes top) (replicate most_nodes 0)
stand-start top s v c l t =
    ap (λ (i : ℕ). bit i v) (get_or-replicate most_nodes c 0 0 (omega arith))
    ∙ (bit_zero v ∙ sym (one_out (get_or (replicate most_nodes top) v 0) c (omega (arith, get_or-replicate most_nodes v top 0 l))))
