-- What a row has that suits an exchange.
-- Assumes nothing.
use Prim.Native.Nat.{ℕ, ◌+◌}
use mathlib.Core.Path.{◌≡◌}
use mathlib.Core.Bool.{true, ◌&&◌, not, and-eq-true_iff}
use mathlib.Core.List.{List}
use lib.Dec.{eqb}
use borrow.Author.Tests.{eqb-true, eq-eqb, not-true}
use Rattle.sets.specs.ModelBits.{bit, member_of}
use Rattle.sets.proofs.Laws.{member-true, member-false, bit-true, bit-false}
use Rattle.swaps.specs.ModelSwaps.{targets_of}
use Rattle.walks.specs.ModelWalks.{suits_of}

module _ (mates : List ℕ) (all z row old w u v : ℕ) where
  -- What a partition that suits has.
  pub suits_has : suits_of mates all z row old w u v ≡ true
      → (bit row u ≡ 1) × (bit row v ≡ 0) × (1 + bit old u ≡ w + bit old v) × (member_of (targets_of mates all z row u) v ≡ true)
  unfolding suits_of
  suits_has e =
      let last = (and-eq-true_iff (member_of row u && not (member_of row v) && eqb (1 + bit old u) (w + bit old v)) (member_of (targets_of mates all z row u) v)).0 e in
      let third = (and-eq-true_iff (member_of row u && not (member_of row v)) (eqb (1 + bit old u) (w + bit old v))).0 last.0 in
      let both = (and-eq-true_iff (member_of row u) (not (member_of row v))).0 third.0 in (
        member-true row u both.0,
        member-false row v (not-true (member_of row v) both.1),
        eqb-true (1 + bit old u) (w + bit old v) third.1,
        last.1,
      )

  -- A partition that has it suits.
  pub has_suits : bit row u ≡ 1 → bit row v ≡ 0 → 1 + bit old u ≡ w + bit old v → member_of (targets_of mates all z row u) v ≡ true
      → suits_of mates all z row old w u v ≡ true
  unfolding suits_of
  has_suits a b c d = rw (bit-true row u a, bit-false row v b, eq-eqb (1 + bit old u) (w + bit old v) c, d)
