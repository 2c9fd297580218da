-- `deciding::decide` meets its contract. While the pair is to be tried again, the rows are those of the start. Assumes nothing.
use native.Mathlib.Omega.{arith}
use Prim.Native.Nat.{ℕ, suc}
use mathlib.Core.Path.{◌≡◌, refl, sym, ap, ◌∙◌}
use mathlib.Core.Bool.{not, cond}
use mathlib.Core.List.{List}
use lib.Dec.{eqb}
use lib.ListN.{get_or}
use Rattle.sets.specs.ModelBits.{bits_at}
use Rattle.sets.proofs.Laws.{member-true, member-false}
use Rattle.evens.specs.ModelEvens.{givers_of}
use Rattle.attempts.proofs.Ends.{goal_told, again_same, in_keeps, begin_keeps, again_keeps, end_keeps, left_less}
use borrow.Author.Tests.{eqb-true, not-false}
use borrow.Author.Rules.{rules}
use Rattle.deciding.proofs.decide.Goals as goal

pub returns-then-member : goal.returns-then-member
returns-then-member c =
    let a = c.args in (
      refl,
      c.requires.4,
      c.requires.6,
      in_keeps a.given.now.partitions a.given.now.former.now a.given.now.mates.now a.given.now.caps.now a.all a.given.now.z a.even.now a.p a.b a.rows.now a.leads.now c.requires.1
          (member-true (get_or a.rows.now a.p 0) a.b (sym c.member.ensures ∙ c.if-member.true)),
    )

pub givers-goal-requires : goal.givers-goal-requires
givers-goal-requires c =
    (search rules, omega (arith, c.requires.5), c.requires.6.tight.here c.args.p c.requires.1)

pub loop-again-init : goal.loop-again-init
loop-again-init c =
    -- The row lacks b.
    let out : (let a = c.args in bits_at a.rows.now a.p a.b ≡ 0) = (let a = c.args in
    member-false (get_or a.rows.now a.p 0) a.b (sym c.member.ensures ∙ c.if-member.false)) in
    -- The goal is the set of those that could give way.
    let is-goal : (let a = c.args in c.givers-goal.result ≡ givers_of a.given.now.mates.now a.all a.given.now.z a.even.now (get_or a.rows.now a.p 0) (get_or a.given.now.former.now a.p 0) a.b) = (let a = c.args in
    goal_told a.given.now.mates.now a.all a.given.now.z a.even.now (get_or a.rows.now a.p 0) c.cell.result (get_or a.given.now.former.now a.p 0) a.b c.givers-goal.result
    c.givers-goal.ensures c.cell.ensures) in
    let a = c.args in (
      refl,
      refl,
      refl,
      c.requires.4,
      c.requires.6.tight,
      c.requires.6.held,
      λ e. refl,
      begin_keeps a.given.now.partitions a.given.now.former.now a.given.now.mates.now a.given.now.caps.now a.all a.given.now.z a.even.now a.p a.b c.givers-goal.result a.rows.now a.leads.now c.requires.1 is-goal out (not (eqb c.givers-goal.result 0)) (λ e. eqb-true c.givers-goal.result 0 (not-false (eqb c.givers-goal.result 0) e)),
    )

pub attempt-again-requires : goal.attempt-again-requires
attempt-again-requires c =
    let is-goal : (let a = c.args in c.givers-goal.result ≡ givers_of a.given.now.mates.now a.all a.given.now.z a.even.now (get_or a.rows.now a.p 0) (get_or a.given.now.former.now a.p 0) a.b) = (let a = c.args in
    goal_told a.given.now.mates.now a.all a.given.now.z a.even.now (get_or a.rows.now a.p 0) c.cell.result (get_or a.given.now.former.now a.p 0) a.b c.givers-goal.result
    c.givers-goal.ensures c.cell.ensures) in
    let a = c.args in
    let i = c.loop-again.invariant in (
      c.requires.0,
      c.requires.1,
      c.requires.2,
      omega (arith, i.0, c.requires.3),
      i.3,
      c.requires.5,
      is-goal
          ∙ ap (λ (x : List ℕ). givers_of a.given.now.mates.now a.all a.given.now.z a.even.now (get_or x a.p 0) (get_or a.given.now.former.now a.p 0) a.b) (sym (i.6 c.loop-again-test.true)),
      record { tight = i.4; held = i.5 },
      c.requires.7,
    )

pub loop-again-smaller : goal.loop-again-smaller
loop-again-smaller c =
    left_less c.loop-again.again c.attempt-again.result c.loop-again.leads c.attempt-again.new.leads c.loop-again-test.true (λ e. (c.attempt-again.ensures.3 e).1)

pub loop-again-preserved : goal.loop-again-preserved
loop-again-preserved c =
    let out : (let a = c.args in bits_at a.rows.now a.p a.b ≡ 0) = (let a = c.args in
    member-false (get_or a.rows.now a.p 0) a.b (sym c.member.ensures ∙ c.if-member.false)) in
    let a = c.args in
    let i = c.loop-again.invariant in
    let on = c.loop-again-test.true in
    let same = i.6 on in (
      omega (arith, c.attempt-again.ensures.0, i.0),
      omega (arith, c.attempt-again.auto.tight, i.1),
      omega (arith, c.attempt-again.auto.held, i.2),
      c.attempt-again.ensures.1,
      c.attempt-again.ensures.2.tight,
      c.attempt-again.ensures.2.held,
      λ e. again_same a.rows.now c.loop-again.rows c.attempt-again.new.rows same (c.attempt-again.ensures.3 e).0,
      again_keeps a.given.now.partitions a.given.now.former.now a.given.now.mates.now a.given.now.caps.now a.all a.given.now.z a.even.now a.p a.b a.rows.now a.leads.now c.loop-again.rows c.loop-again.leads c.attempt-again.new.rows c.attempt-again.new.leads c.loop-again.again (cond c.attempt-again.result a.b (suc a.b)) on same
          out i.7 c.attempt-again.ensures.4,
    )

pub returns : goal.returns
returns c =
    let a = c.args in
    let i = c.loop-again.invariant in (
      i.0,
      i.3,
      record { tight = i.4; held = i.5 },
      end_keeps a.given.now.partitions a.given.now.former.now a.given.now.mates.now a.given.now.caps.now a.all a.given.now.z a.even.now a.p a.b a.rows.now a.leads.now c.loop-again.rows c.loop-again.leads c.loop-again.again c.loop-again-test.false i.7,
    )
