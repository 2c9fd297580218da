-- A layout within given caps exists exactly where the caps fit, and the dealt layout is one.
-- Assumes nothing.
use Prim.Native.Nat.{ℕ, ◌*◌, ◌≤◌, ◌<◌, min}
use mathlib.Core.Path.{◌≡◌, ap, ◌∙◌}
use mathlib.Core.Bool.{true}
use native.Mathlib.Nat.{mul_comm, mul-one}
use native.Mathlib.Omega.{arith}
use lib.Dec.{leb}
use borrow.Author.Tests.{leb-true, le-leb}
use Rattle.sums.proofs.Tests.{both}
use Rattle.sums.specs.TermsSums.{sum_to}
use Rattle.sums.specs.ModelSums.{is}
use Rattle.sums.proofs.Sum.{sum_cong, sum_le, sum_const, sum_scale, sum-swap}
use Rattle.exchange.specs.ModelRow.{zone_count, cover, Within, copies}
use Rattle.dealing.specs.ModelDeal.{in_zone, Fits, has_room, given, start, dealt}
use Rattle.dealing.proofs.Climb.{in_zone_le}
use Rattle.dealing.proofs.Turns.{turns, turns_whole}
use Rattle.dealing.proofs.Line.{among_le, zone_count-in_zone, line, line-copies, line_row, line-cover}
use Rattle.dealing.proofs.Given.{given_le, given-sum, given-zones}

-- ---- the test

-- Where the caps fit, the test passes.
pub fits-true : (P N R Z : ℕ) (zone cap : ℕ → ℕ) → Fits P N R Z zone cap → has_room P N R Z zone cap ≡ true
unfolding has_room
fits-true P N R Z zone cap h = simp (le-leb _ _ h.0, le-leb _ _ h.1)

-- Where the test passes, the caps fit.
pub true-fits : (P N R Z : ℕ) (zone cap : ℕ → ℕ) → has_room P N R Z zone cap ≡ true → Fits P N R Z zone cap
unfolding has_room
true-fits P N R Z zone cap e =
    let b = both (leb (R * P) (sum_to N cap)) (leb (Z * P) (sum_to N (λ z. min P (in_zone zone cap z N)))) e in
    (leb-true _ _ b.0, leb-true _ _ b.1)

-- Larger caps fit too.
pub fits-rising : (P N R Z : ℕ) (zone cap cap' : ℕ → ℕ) → ((b : ℕ) → b < N → cap b ≤ cap' b)
    → Fits P N R Z zone cap → Fits P N R Z zone cap'
fits-rising P N R Z zone cap cap' up h = (
  omega (arith, h.0, sum_le N cap cap' up),
  omega (arith, h.1, sum_le N (λ z. min P (in_zone zone cap z N)) (λ z. min P (in_zone zone cap' z N)) (λ z l. omega (arith, in_zone_le zone cap cap' z N up))),
)

-- ---- needed

module _ (P N : ℕ) (zone : ℕ → ℕ) (S : ℕ → ℕ → ℕ) where
  -- In how many partitions the layout touches zone z.
  unfoldable touched : ℕ → ℕ
  touched z = sum_to P (λ p. min 1 (zone_count N zone (S p) z))

  touched_le : (cap : ℕ → ℕ) (z : ℕ) → ((b : ℕ) → b < N → copies P S b ≤ cap b) → touched z ≤ min P (in_zone zone cap z N)
  unfolding touched in_zone copies
  touched_le cap z h =
      let once = sum_le P (λ p. min 1 (zone_count N zone (S p) z)) (λ p. 1) (λ p l. omega arith) in
      let held = sum_le P (λ p. min 1 (zone_count N zone (S p) z)) (λ p. in_zone zone (S p) z N) (λ p l. omega (arith, zone_count-in_zone N zone (S p) z)) in
      let swapped = sum-swap P N (λ p x. is (zone x) z * S p x)
      ∙ sum_cong N (λ x. sum_to P (λ p. is (zone x) z * S p x)) (λ x. is (zone x) z * copies P S x) (λ x l. sum_scale P (is (zone x) z) (λ p. S p x)) in
      omega (arith, once, sum_const P 1, mul-one P, held, swapped, in_zone_le zone (copies P S) cap z N h)

-- Where there is a layout within the caps, they fit.
pub needed : (P N R Z : ℕ) (zone cap : ℕ → ℕ) (S : ℕ → ℕ → ℕ) → Within P N R Z zone cap S → Fits P N R Z zone cap
unfolding touched cover copies
needed P N R Z zone cap S w =
    let held = sum-swap N P (λ b p. S p b) ∙ (sum_cong P (λ p. sum_to N (S p)) (λ p. R) (λ p l. (w.rows p l).size) ∙ sum_const P R) in
    let wide = sum_le P (λ p. Z) (λ p. cover N zone (S p)) (λ p l. (w.rows p l).wide) in (
      omega (arith, held, mul_comm P R, sum_le N (copies P S) cap w.caps),
      omega (
        arith,
        wide,
        sum_const P Z,
        mul_comm P Z,
        sum-swap N P (λ z p. min 1 (zone_count N zone (S p) z)),
        sum_le N (touched P N zone S) (λ z. min P (in_zone zone cap z N)) (λ z l. touched_le P N zone S cap z w.caps),
      ),
    )

-- ---- enough

-- Where the caps fit, the dealt layout is within them.
pub enough : (P N R Z : ℕ) (zone cap : ℕ → ℕ) → 1 ≤ P → ((x : ℕ) → x < N → zone x < N) → ((b : ℕ) → b < N → cap b ≤ P) → Z ≤ R
    → Fits P N R Z zone cap → Within P N R Z zone cap (dealt P N R zone cap)
unfolding dealt line
enough P N R Z zone cap some zones caps le h =
    let n = given P N R zone cap in
    let few : (x : ℕ) → x < N → n x ≤ P = λ x l. omega (arith, given_le P N R zone cap x, caps x l) in
    let all : sum_to N n ≡ R * P = omega (arith, given-sum P N R zone cap, h.0) in
    record {
      rows = λ p l. record {
        bits = λ x m. among_le P (start P N zone n x) (n x) p;
        size = line_row P N zone n some zones few p l ∙ (ap (turns P p) all ∙ turns_whole P some p R);
        wide = line-cover P N zone n some zones few p l Z (given-zones P N R zone cap Z zones le h.1);
      };
      caps = λ b l. omega (arith, line-copies P N zone n some zones few b l, given_le P N R zone cap b);
    }

-- The dealt layout has 0 or 1 at each pair.
pub dealt_le : (P N R : ℕ) (zone cap : ℕ → ℕ) (p b : ℕ) → dealt P N R zone cap p b ≤ 1
unfolding dealt
dealt_le P N R zone cap p b = among_le P (start P N zone (given P N R zone cap) b) (given P N R zone cap b) p
