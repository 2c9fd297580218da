-- `leads::even` meets its contract. The cells of the nodes before a have the sets of the levels about theirs. Assumes nothing.
use Prim.Native.Nat.{ℕ}
use mathlib.Core.Path.{◌≡◌, subst}
use native.Mathlib.Omega.{arith}
use borrow.Author.Rules.{rules}
use lib.ListN.{length-set}
use Rattle.leads.proofs.Standing.{Sided, sided_more, sided_levelled}
use Rattle.leads.proofs.even.Goals as goal

pub loop-a-init : goal.loop-a-init
loop-a-init c = (search rules, λ h a k l. absurd (omega arith))

pub bounds-at-c : goal.bounds-at-c
bounds-at-c c = omega (arith, c.requires.2 c.loop-a.a c.loop-a-test.true)

pub loop-a-preserved : goal.loop-a-preserved
loop-a-preserved c =
    let i = c.loop-a.invariant in
    (simp length-set i.0, sided_more c.args.levels.now c.stands-at.result c.loop-a.a c.loop-a.even (omega arith) i.0 i.1)

pub returns : goal.returns
returns c =
    let l = c.args.levels.now in
    let i = c.loop-a.invariant in
    let e : c.loop-a.a ≡ c.args.n = omega arith in
    sided_levelled l c.stands-at.result c.args.n c.loop-a.even c.requires.0 c.requires.2 c.stands-at.ensures.1 i.0
    (subst (λ (a : ℕ). Sided l c.stands-at.result a c.loop-a.even) e i.1)
