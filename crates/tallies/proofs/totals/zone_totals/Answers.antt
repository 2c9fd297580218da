-- `tallies::totals::zone_totals` meets its contract. The loop's invariant: each zone has the sum so far.
use borrow.Author.Rules.{rules}
use native.Mathlib.Omega.{arith}
use Prim.Native.Nat.{ℕ, ◌<◌}
use mathlib.Core.Path.{◌≡◌, ap, ◌∙◌}
use lib.ListN.{get_or-replicate}
use Rattle.cluster.specs.Terms.{buffer_rows, most_nodes}
use Rattle.sums.specs.TermsSums.{sum_to}
use Rattle.dealing.specs.ModelDeal.{in_zone}
use Rattle.incidence.specs.ModelIncidence.{cell}
use Rattle.incidence.proofs.Columns.{column-cells}
use Rattle.tallies.proofs.Adding.{zone_bound, zones-next}
use Rattle.tallies.proofs.totals.zone_totals.Goals as goal

pub loop-b-init : goal.loop-b-init
unfolding in_zone sum_to
loop-b-init c = (search rules, λ z l. get_or-replicate {A = ℕ} most_nodes z 0 0 l)

pub overflow_cast-z : goal.overflow_cast-z
overflow_cast-z c = omega (arith, c.requires.1 c.loop-b.b (omega arith))

pub offset_bounds-sums-z : goal.offset_bounds-sums-z
offset_bounds-sums-z c = omega (arith, c.requires.1 c.loop-b.b (omega arith))

pub bounds-sums-z : goal.bounds-sums-z
bounds-sums-z c = omega (arith, c.requires.1 c.loop-b.b (omega arith))

pub overflow_add-sums : goal.overflow_add-sums
overflow_add-sums c =
    let a = c.args in
    let z = cell a.zones.now c.loop-b.b in
    let low : z < most_nodes = omega (arith, c.requires.1 c.loop-b.b (omega arith)) in
    omega (
      arith,
      c.loop-b.invariant.1 z low,
      zone_bound (cell a.zones.now) (cell a.numbers.now) c.loop-b.b z buffer_rows (λ i l. c.requires.2 i (omega arith)),
      c.requires.2 c.loop-b.b (omega arith),
    )

pub bounds-sums-z-in-loop-b : goal.bounds-sums-z-in-loop-b
bounds-sums-z-in-loop-b c = omega (arith, c.requires.1 c.loop-b.b (omega arith))

pub loop-b-preserved : goal.loop-b-preserved
loop-b-preserved c =
    let a = c.args in
    (search rules, zones-next (cell a.zones.now) (cell a.numbers.now) c.loop-b.b c.loop-b.sums (search rules) (omega (arith, c.requires.1 c.loop-b.b (omega arith))) c.loop-b.invariant.1)

pub returns : goal.returns
returns c =
    let a = c.args in
    let e : c.loop-b.b ≡ a.n = omega arith in
    column-cells (λ z. in_zone (cell a.zones.now) (cell a.numbers.now) z a.n) c.loop-b.sums (search rules)
    (λ z l. c.loop-b.invariant.1 z l ∙ ap (in_zone (cell a.zones.now) (cell a.numbers.now) z) e)
