-- `line::zone_begins` meets its contract.
-- Assumes nothing.
use borrow.Author.Rules.{rules}
use Prim.Native.Nat.{◌+◌, ◌-◌}
use mathlib.Core.Path.{◌≡◌, sym, ap₂, ◌∙◌}
use native.Mathlib.Omega.{arith}
use Rattle.incidence.specs.ModelIncidence.{cell}
use Rattle.line.proofs.Lining.{begins_heavy}
use Rattle.tallies.proofs.Adding.{sum_bound, sum_whole}
use Rattle.tallies.specs.ModelTallies.{most_in_zone}
use Rattle.dealing.proofs.Line.{light_zone, lights_heavies}
use Rattle.sums.specs.TermsSums.{sum_to}
use Rattle.line.proofs.zone_begins.Goals as goal

pub returns-then-sums-z : goal.returns-then-sums-z
returns-then-sums-z c =
    let a = c.args in
    c.light-before.ensures ∙ sym (light_zone a.partitions a.n (cell a.sums.now) a.z c.if-sums-z.true).begins

pub overflow_sub-result : goal.overflow_sub-result
overflow_sub-result c =
    -- No zone has more than the most, so that all copies are counted.
    let whole : c.total.result ≡ sum_to c.args.z (cell c.args.sums.now) =
    c.total.ensures ∙ sum_whole (cell c.args.sums.now) c.args.z most_in_zone (λ x l. c.requires.2 x (omega arith)) in
    let a = c.args in
    omega (arith, c.light-before.ensures, whole, lights_heavies a.partitions (cell a.sums.now) a.z)

pub overflow_add-result : goal.overflow_add-result
overflow_add-result c =
    let whole : c.total.result ≡ sum_to c.args.z (cell c.args.sums.now) =
    c.total.ensures ∙ sum_whole (cell c.args.sums.now) c.args.z most_in_zone (λ x l. c.requires.2 x (omega arith)) in
    let t = cell c.args.sums.now in
    omega (
      arith,
      c.light.ensures,
      whole,
      lights_heavies c.args.partitions t c.args.n,
      sum_bound t c.args.n most_in_zone (λ x l. c.requires.2 x (omega arith)),
      sum_bound t c.args.z most_in_zone (λ x l. c.requires.2 x (omega arith)),
    )

pub returns : goal.returns
returns c =
    let whole : c.total.result ≡ sum_to c.args.z (cell c.args.sums.now) =
    c.total.ensures ∙ sum_whole (cell c.args.sums.now) c.args.z most_in_zone (λ x l. c.requires.2 x (omega arith)) in
    let a = c.args in
    ap₂ ◌+◌ c.light.ensures (ap₂ ◌-◌ whole c.light-before.ensures)
    ∙ begins_heavy a.partitions (cell a.sums.now) a.n a.z (search rules)
