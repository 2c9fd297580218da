-- `evens::givers` meets its contract. Of the nodes that are no more left those that may give way are found.
use mathlib.Core.Path.{◌≡◌, refl, sym, ◌∙◌}
use mathlib.Core.Logic.{inl, inr}
use borrow.Author.Rules.{rules}
use Rattle.sets.specs.ModelBits.{meet_of}
use Rattle.sets.proofs.Laws.{member-true, member-false}
use Rattle.sets.proofs.Scan.{left_all, left_less}
use Rattle.swaps.proofs.Steps.{targets_are}
use Rattle.evens.proofs.Turns.{found_none, found_turn, found_all}
use Rattle.evens.proofs.givers.Goals as goal

pub loop-a-init : goal.loop-a-init
loop-a-init c =
    let a = c.args in
    let s = c.into_iter-a-iterator.result.left in
    record { left = left_all s (search rules); done = found_none a.mates.now a.all a.z a.row a.b s }

pub loop-a-preserved-then-member : goal.loop-a-preserved-then-member
loop-a-preserved-then-member c =
    let a = c.args in
    let L = c.loop-a in
    let comes = c.in-Some.ensures.steps in
    let to = targets_are a.mates.now a.all a.z a.row c.in-Some.a a.tight c.cell-mate.result c.targets_in.result c.requires.2 c.cell-mate.ensures c.targets_in.ensures in
    record {
      left = rw comes.rest (left_less _ _ L.invariant.left comes.some);
      done = found_turn _ _ _ _ _ _ _ _ _ _ _ _ L.invariant.left comes to
          (inl (member-true c.targets_in.result a.b (sym c.member.ensures ∙ c.if-member.true), c.with-found.ensures)) L.invariant.done;
    }

pub loop-a-preserved : goal.loop-a-preserved
loop-a-preserved c =
    let a = c.args in
    let L = c.loop-a in
    let comes = c.in-Some.ensures.steps in
    let to = targets_are a.mates.now a.all a.z a.row c.in-Some.a a.tight c.cell-mate.result c.targets_in.result c.requires.2 c.cell-mate.ensures c.targets_in.ensures in
    record {
      left = rw comes.rest (left_less _ _ L.invariant.left comes.some);
      done = found_turn _ _ _ _ _ _ _ _ _ _ _ _ L.invariant.left comes to
          (inr (member-false c.targets_in.result a.b (sym c.member.ensures ∙ c.if-member.false), refl)) L.invariant.done;
    }

pub returns : goal.returns
returns c =
    let s : c.into_iter-a-iterator.result.left ≡ meet_of c.difference-later.result c.even_of-evenly.result =
    rw (c.into_iter-a-iterator.ensures.into_iter_gives, c.iter-a-items.ensures) c.meet.ensures in
    found_all _ _ _ _ _ _ _ _ _ _ _ _ _ c.below.ensures c.difference-later.ensures c.even_of-evenly.ensures s c.in-None.ensures.steps.0 c.loop-a.invariant.done
