-- `waves::waves` meets its contract. Assumes nothing.
use Prim.Native.Nat.{suc, ◌≤◌, ◌<◌}
use mathlib.Core.Path.{refl, sym, ◌∙◌}
use lib.ListN.{length, set, length-set}
use native.Mathlib.Omega.{arith}
use native.Mathlib.Numerals.{add-one}
use Rattle.sets.specs.ModelBits.{count_of}
use Rattle.cluster.specs.Terms.{most_nodes}
use Rattle.waves.specs.ModelWaves.{wave_cells}
use Rattle.waves.proofs.Waving.{Going, going_starts, going_room, going_on, going_shut, going_met}
use Rattle.waves.proofs.waves.Goals as goal

pub loop-wave-init : goal.loop-wave-init
loop-wave-init c =
    let a = c.args in
    let l : wave_cells ≤ length a.waves.now = omega arith in
    let s : a.b < most_nodes = omega arith in
    (omega arith, refl, simp length-set l, s, going_starts a.leads.now a.b s a.goal c.with-wave.result a.waves.now l c.with-wave.ensures)

pub spread-requires : goal.spread-requires
spread-requires c = c.loop-wave.invariant.0

pub shape_of-waves-then-wave-eq0 : goal.shape_of-waves-then-wave-eq0
shape_of-waves-then-wave-eq0 c = c.loop-wave.invariant.1 ∙ simp length-set

pub returns-then-wave-eq0 : goal.returns-then-wave-eq0
returns-then-wave-eq0 c =
    let a = c.args in (
      going_shut a.leads.now a.b c.loop-wave.invariant.3 a.goal c.loop-wave.k c.loop-wave.wave c.loop-wave.seen c.loop-wave.waves c.loop-wave.invariant.4
          c.difference-wave.result c.spread.result c.spread.ensures c.difference-wave.ensures (sym c.meet.ensures ∙ c.loop-wave-test.true) c.if-wave-eq0.true c.loop-wave.waves,
      tt,
      c.loop-wave.invariant.1 ∙ simp length-set,
    )

pub overflow_add-k : goal.overflow_add-k
overflow_add-k c =
    -- Within a turn whose wave is not empty, there is room for it.
    let more : suc (suc c.loop-wave.k) ≤ most_nodes = (let a = c.args in
    going_room a.leads.now a.b c.loop-wave.invariant.3 a.goal c.loop-wave.k c.loop-wave.wave c.loop-wave.seen c.loop-wave.waves c.loop-wave.invariant.4
    c.difference-wave.result c.spread.result c.spread.ensures c.difference-wave.ensures
    (sym c.meet.ensures ∙ c.loop-wave-test.true) c.if-wave-eq0.false) in
    omega (arith, more)

pub bounds-waves-k : goal.bounds-waves-k
bounds-waves-k c =
    let more : suc (suc c.loop-wave.k) ≤ most_nodes = (let a = c.args in
    going_room a.leads.now a.b c.loop-wave.invariant.3 a.goal c.loop-wave.k c.loop-wave.wave c.loop-wave.seen c.loop-wave.waves c.loop-wave.invariant.4
    c.difference-wave.result c.spread.result c.spread.ensures c.difference-wave.ensures
    (sym c.meet.ensures ∙ c.loop-wave-test.true) c.if-wave-eq0.false) in
    omega (arith, more, c.loop-wave.invariant.2)

pub loop-wave-smaller : goal.loop-wave-smaller
loop-wave-smaller c =
    let on : let a = c.args in
    Going a.leads.now a.b c.loop-wave.invariant.3 a.goal (suc c.loop-wave.k) c.difference-wave.result c.union-seen.result
    (set c.loop-wave.waves (suc c.loop-wave.k) c.difference-wave.result)
    × (suc (count_of c.loop-wave.seen) ≤ count_of c.union-seen.result) = (let a = c.args in
    going_on a.leads.now a.b c.loop-wave.invariant.3 a.goal c.loop-wave.k c.loop-wave.wave c.loop-wave.seen c.loop-wave.waves c.loop-wave.invariant.4
    c.difference-wave.result c.spread.result c.spread.ensures c.difference-wave.ensures
    (sym c.meet.ensures ∙ c.loop-wave-test.true) c.if-wave-eq0.false c.loop-wave.invariant.2 c.union-seen.result c.union-seen.ensures) in
    omega (arith, on.1, on.0.few, c.loop-wave.invariant.4.few)

pub loop-wave-preserved : goal.loop-wave-preserved
loop-wave-preserved c =
    let on : let a = c.args in
    Going a.leads.now a.b c.loop-wave.invariant.3 a.goal (suc c.loop-wave.k) c.difference-wave.result c.union-seen.result
    (set c.loop-wave.waves (suc c.loop-wave.k) c.difference-wave.result)
    × (suc (count_of c.loop-wave.seen) ≤ count_of c.union-seen.result) = (let a = c.args in
    going_on a.leads.now a.b c.loop-wave.invariant.3 a.goal c.loop-wave.k c.loop-wave.wave c.loop-wave.seen c.loop-wave.waves c.loop-wave.invariant.4
    c.difference-wave.result c.spread.result c.spread.ensures c.difference-wave.ensures
    (sym c.meet.ensures ∙ c.loop-wave-test.true) c.if-wave-eq0.false c.loop-wave.invariant.2 c.union-seen.result c.union-seen.ensures) in
    let i = c.loop-wave.invariant in
    let a = c.args in
    let w = c.difference-wave.result in (
      i.0,
      simp length-set (i.1 ∙ simp length-set),
      simp length-set i.2,
      i.3,
      rw add-one on.0,
    )

pub shape_of-waves : goal.shape_of-waves
shape_of-waves c = c.loop-wave.invariant.1 ∙ simp length-set

pub returns : goal.returns
returns c =
    let a = c.args in (
      going_met a.leads.now a.b c.loop-wave.invariant.3 a.goal c.loop-wave.k c.loop-wave.wave c.loop-wave.seen c.loop-wave.waves c.loop-wave.invariant.4
          (λ z. c.loop-wave-test.false (c.meet.ensures ∙ z)),
      omega (arith, c.loop-wave.invariant.4.many, c.loop-wave.invariant.4.few),
      c.loop-wave.invariant.1 ∙ simp length-set,
    )
