-- `graph::renew` meets its contract. The loop's invariant: the leaves of the branch that are not left are right.
use borrow.Author.Rules.{rules}
use native.Mathlib.Omega.{arith}
use Prim.Native.Nat.{ℕ, ◌^◌, ◌<◌}
use mathlib.Core.Path.{refl, ap, ◌∙◌}
use mathlib.Core.Logic.{⊎_elim}
use Rattle.sums.proofs.Sum.{lt_or_ge}
use Rattle.sets.specs.ModelBits.{bit, least_of}
use Rattle.sets.specs.ModelMembers.{Comes}
use Rattle.sets.proofs.Laws.{bit_zero, bit_high, least_at}
use Rattle.sets.proofs.Scan.{Left, left_all, least-word, left_less}
use Rattle.unions.specs.ModelUnions.{parts}
use Rattle.graph.proofs.Keeping.{filling_more, renewed}
use Rattle.graph.proofs.renew.Goals as goal

-- A leaf that comes is one of the branch.
inside : (s left b next : ℕ) → s < 2 ^ parts → Left s left → Comes left b next → b < parts
inside s left b next h L C =
    let x = least_of left in
    let w = least-word s left L C.some in
    ⊎_elim (λ l. omega (arith, l, C.least)) (λ g. absurd (omega (arith, least_at left w, L.part x w, bit_high parts s x h g))) (lt_or_ge x parts)

-- A branch without stale leaves is right as it is.
pub returns-then-stale-eq0 : goal.returns-then-stale-eq0
returns-then-stale-eq0 c =
    let z = c.if-stale-eq0.true in
    record { long = refl; leaves = λ b l. c.requires.5 b l (ap (λ (x : ℕ). bit x b) z ∙ bit_zero b); own = c.requires.6 z; others = λ x n m. refl }

pub loop-b-init : goal.loop-b-init
loop-b-init c =
    rw (c.into_iter-b-iterator.ensures.into_iter_gives, c.iter-b-items.ensures)
    (record { left = left_all c.args.stale (search rules); done = record { long = refl; done = c.requires.5; others = λ x n. refl } })

pub overflow_add-leaf : goal.overflow_add-leaf
overflow_add-leaf c = omega (arith, inside _ _ _ _ c.requires.2 c.loop-b.invariant.left c.in-Some.ensures.steps)

pub fill-requires : goal.fill-requires
fill-requires c =
    let L = c.loop-b in
    (search rules, omega (arith, inside _ _ _ _ c.requires.2 L.invariant.left c.in-Some.ensures.steps), L.invariant.done.long ∙ c.requires.3, c.requires.4)

pub loop-b-preserved : goal.loop-b-preserved
loop-b-preserved c =
    let L = c.loop-b in
    let comes = c.in-Some.ensures.steps in
    record {
      left = rw comes.rest (left_less _ _ L.invariant.left comes.some);
      done = filling_more _ _ _ _ _ _ _ _ _ _ _ _ _ (inside _ _ _ _ c.requires.2 L.invariant.left comes) comes c.fill.ensures L.invariant.done;
    }

pub merge-requires : goal.merge-requires
merge-requires c = (search rules, c.loop-b.invariant.done.long ∙ c.requires.3)

pub returns : goal.returns
returns c = renewed _ _ _ _ _ _ _ _ _ _ _ c.requires.1 c.in-None.ensures.steps.0 c.loop-b.invariant.done c.merge.ensures
