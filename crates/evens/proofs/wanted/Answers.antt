-- `evens::wanted` meets its contract. The nodes that are left want those that are not found yet.
use Prim.Native.Nat.{ℕ}
use mathlib.Core.Path.{sym, ap, ◌∙◌}
use native.Mathlib.Omega.{arith}
use Rattle.sets.specs.ModelBits.{union_of, without_of}
use Rattle.sets.proofs.Laws.{union_lt}
use Rattle.waves.specs.ModelWaves.{spread_of}
use Rattle.waves.proofs.Waving.{spread-start, spread-turn, spread_end}
use Rattle.evens.specs.ModelEvens.{earlier_of}
use Rattle.evens.proofs.Turns.{earlier-is, wanted-is}
use Rattle.evens.proofs.wanted.Goals as goal

pub loop-a-init : goal.loop-a-init
loop-a-init c =
    let a = c.args in
    rw (c.into_iter-a-iterator.ensures.into_iter_gives, c.iter-a-items.ensures)
    (record { word = omega arith; all = spread-start (earlier_of a.even.now a.former) a.row })

pub loop-a-preserved : goal.loop-a-preserved
loop-a-preserved c =
    let a = c.args in
    let L = c.loop-a in
    let comes = c.in-Some.ensures.steps in
    let came =
    c.union-found.ensures
    ∙ ap (union_of L.found)
    (earlier-is a.even.now a.former c.in-Some.a c.even_of.result c.below.result c.meet-earlier.result comes.below c.even_of.ensures c.below.ensures c.meet-earlier.ensures) in
    record {
      word = rw c.union-found.ensures (union_lt L.found _);
      all = spread-turn (earlier_of a.even.now a.former) L.found L.a-iterator.left c.in-Some.a c.union-found.result c.next.new.self.left comes.word comes.some comes.least came
          (comes.rest ∙ ap (without_of L.a-iterator.left) (sym comes.least))
          ∙ L.invariant.all;
    }

pub returns : goal.returns
returns c =
    let a = c.args in
    let w = earlier_of a.even.now a.former in
    let L = c.loop-a in
    wanted-is a.even.now a.row a.former L.found
    (sym (spread_end w L.found L.invariant.word) ∙ (ap (λ (x : ℕ). union_of L.found (spread_of w x)) (sym c.in-None.ensures.steps.0) ∙ L.invariant.all))
