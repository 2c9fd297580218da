-- `sizing::bisected` meets its contract. The loop's invariant: the bits from i on are decided, and the bisection goes on from there.
use borrow.Author.Rules.{rules}
use native.Mathlib.Omega.{arith}
use Prim.Native.Nat.{ℕ, ◌-◌}
use mathlib.Core.Path.{◌≡◌, sym, ap, ◌∙◌}
use mathlib.Core.Bool.{true, false}
use lib.Pow.{pow_pos}
use Rattle.sets.proofs.Words.{word-one}
use Rattle.cluster.specs.Terms.{topology}
use Rattle.dealing.specs.ModelBisect.{bisect_from}
use Rattle.sizing.specs.ModelSizing.{size_of}
use Rattle.sizing.proofs.Bisecting.{passing, size_begins, power_half, next_bit}
use Rattle.sizing.proofs.bisected.Goals as goal

pub loop-i-init : goal.loop-i-init
loop-i-init c = (search rules, size_begins (topology c.args.c))

pub overflow_add-larger : goal.overflow_add-larger
overflow_add-larger c =
    let k = c.loop-i in
    omega (arith, word-one (k.i - 1) (omega arith), power_half k.i (omega arith), pow_pos (k.i - 1))

pub passes-requires : goal.passes-requires
passes-requires c = (c.requires, c.zones-zones.ensures, c.greatest-most.ensures)

pub loop-i-preserved-then-passes : goal.loop-i-preserved-then-passes
loop-i-preserved-then-passes c =
    let k = c.loop-i in
    let t = topology c.args.c in
    let w = word-one (k.i - 1) (omega arith) in (
      omega (arith, w, power_half k.i (omega arith)),
      next_bit (passing t) k.i k.size _ (size_of t) c.passes.result true (omega arith) w c.passes.ensures c.if-passes.true k.invariant.1,
    )

pub loop-i-preserved : goal.loop-i-preserved
loop-i-preserved c =
    let k = c.loop-i in
    let t = topology c.args.c in
    let w = word-one (k.i - 1) (omega arith) in (
      omega (arith, power_half k.i (omega arith)),
      next_bit (passing t) k.i k.size _ (size_of t) c.passes.result false (omega arith) w c.passes.ensures c.if-passes.false k.invariant.1,
    )

pub returns : goal.returns
unfolding bisect_from
returns c =
    let k = c.loop-i in
    let e : k.i ≡ 0 = omega arith in
    sym (k.invariant.1 ∙ ap (λ (x : ℕ). bisect_from x (passing (topology c.args.c)) k.size) e)
