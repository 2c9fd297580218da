-- The turns of the bisection.
-- Assumes nothing.
use Prim.Native.Nat.{ℕ, suc, ◌+◌, ◌-◌, ◌^◌, ◌<◌}
use mathlib.Core.Path.{◌≡◌, refl, sym, ap, ◌∙◌}
use mathlib.Core.Bool.{Bool, cond}
use native.Mathlib.Nat.{two-pow-succ}
use native.Mathlib.Omega.{arith}
use Rattle.cluster.specs.Terms.{Topology, partitions}
use Rattle.incidence.specs.ModelIncidence.{zone_index, cap_at}
use Rattle.dealing.specs.ModelDeal.{has_room}
use Rattle.dealing.specs.ModelBisect.{bisect, bisect_from}
use Rattle.dealing.specs.ModelSize.{best_size}
use Rattle.tallies.specs.ModelTallies.{size_bits}
use Rattle.sizing.specs.ModelSizing.{nodes_of, size_of}

-- The test of a size.
abbrev pub passing : Topology → ℕ → Bool
passing t s = has_room (partitions t) (nodes_of t) t.replication t.redundancy (zone_index t) (cap_at t s)

-- The bisection begins with no bit decided.
pub size_begins : (t : Topology) → size_of t ≡ bisect_from size_bits (passing t) 0
unfolding size_of best_size bisect
size_begins t = refl

-- A power of two is twice the one before.
pub power_half : (i : ℕ) → 0 < i → 2 ^ i ≡ 2 ^ (i - 1) + 2 ^ (i - 1)
power_half i l = let q : i ≡ suc (i - 1) = omega arith in ap (λ (k : ℕ). 2 ^ k) q ∙ omega (arith, two-pow-succ (i - 1))

-- A turn of the bisection: the next bit w is kept or dropped by the test.
pub next_bit : (test : ℕ → Bool) (i s w size : ℕ) (r b : Bool) → 0 < i → w ≡ 2 ^ (i - 1) → r ≡ test (s + w) → r ≡ b
    → size ≡ bisect_from i test s → size ≡ bisect_from (i - 1) test (cond b (s + w) s)
unfolding bisect_from
next_bit test i s w size r b l p e d h =
    let q : i ≡ suc (i - 1) = omega arith in
    h
    ∙ (ap (λ (k : ℕ). bisect_from k test s) q
    ∙ (ap (λ (x : ℕ). bisect_from (i - 1) test (cond (test (s + x)) (s + x) s)) (sym p)
    ∙ ap (λ (x : Bool). bisect_from (i - 1) test (cond x (s + w) s)) (sym e ∙ d)))
