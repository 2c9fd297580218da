use native.Mathlib.Omega.{arith}
use mathlib.Core.Path.{◌≡◌, refl, sym}
use Prim.Native.Nat.{ℕ, ◌≤◌}
use mathlib.Core.List.{List}
use lib.ListN.{length, take, drop, length-append, length-drop}
use lib.Seq.{length-take-le}
use Rattle.cluster.specs.Terms.{scratch_cells}
use Rattle.cluster.specs.declared.Cluster.{Cluster}
use Rattle.unions.specs.ModelUnions.{kept_cells}
use Rattle.planner.specs.TermsPlan.{unusable, planned_as}
use Rattle.std.specs.Prelude.{Ok, Err}
use Rattle.std.proofs.lemmas.Result.{err_from_is_err_and}
use Rattle.cluster.specs.TermsRefusal.{number_of}
use Rattle.cluster.specs.declared.refusal.Refusal.TheVariants.{NoLayout}
use Rattle.sizing.proofs.Reading.{number-some}
use Rattle.planner.proofs.Refusals.{Usable, usable-has}
use Rattle.planner.proofs.Planning.{refused_ends, none_ends, planned_ends, settle_asks}
use Rattle.planner.proofs.plan.Goals as goal

pub returns-in_err-unusable : goal.returns-in_err-unusable
returns-in_err-unusable c =
    let g = c.args in
    let p = err_from_is_err_and c.from_residual.result c.from_residual.ensures.1 in
    let r = c.in_err-unusable.field-0.0 in
    rw (p.1, p.2) (refused_ends g.c g.former.now g.allowance g.assignment.now g.scratch.now (number_of r) c.in_err-unusable.ensures (number-some r) _ refl)

-- Past the first test nothing but the lack of a layout can be refused.
usable : (c : Cluster) (former : List ℕ) (a s : ℕ) → 0 ≡ unusable c former a s → Usable c former a s
usable c former a s e = usable-has c former a s (sym e)

-- The part of the scratch that is lent.
lent : (scratch : List ℕ) → scratch_cells ≤ length scratch → length (take kept_cells scratch) ≡ kept_cells
lent scratch h = length-take-le kept_cells scratch (omega arith)

pub clear-requires : goal.clear-requires
clear-requires c = (usable _ _ _ _ c.in_ok-unusable.ensures).scratch_long

pub returns-then-size-eq0 : goal.returns-then-size-eq0
returns-then-size-eq0 c =
    let g = c.args in
    none_ends g.c g.former.now g.allowance g.assignment.now g.scratch.now (sym c.in_ok-unusable.ensures) c.size-size.result
    c.size-size.ensures c.if-size-eq0.true _ c.clear.ensures (planned_as (Err NoLayout)) refl

pub slice_bounds-settle-end : goal.slice_bounds-settle-end
slice_bounds-settle-end c = let u = usable _ _ _ _ c.in_ok-unusable.ensures in
    omega (arith, u.scratch_long)

pub slice_bounds-settle-end-2 : goal.slice_bounds-settle-end-2
slice_bounds-settle-end-2 c = let u = usable _ _ _ _ c.in_ok-unusable.ensures in
    sym (lent c.args.scratch.now u.scratch_long)

pub settle-plan-requires : goal.settle-plan-requires
settle-plan-requires c =
    let u = usable _ _ _ _ c.in_ok-unusable.ensures in
    let g = c.args in
    let z = c.size-size in (
      u.faultless,
      u.assignment_long,
      u.rows-formed,
      settle_asks g.c g.former.now g.allowance g.assignment.now g.scratch.now (sym c.in_ok-unusable.ensures) z.result z.ensures,
      omega arith,
      lent g.scratch.now u.scratch_long,
    )

pub clear-requires-2 : goal.clear-requires-2
clear-requires-2 c =
    let u = usable _ _ _ _ c.in_ok-unusable.ensures in
    let s = c.args.scratch.now in
    let h = u.scratch_long in
    omega (arith, h, lent s h, length-append c.settle-plan.new.kept (drop kept_cells s), length-drop kept_cells s)

pub returns : goal.returns
returns c =
    let u = usable _ _ _ _ c.in_ok-unusable.ensures in
    let g = c.args in
    let t = c.settle-plan in
    -- The part comes back as long as it was.
    let came-back : length t.new.kept ≡ kept_cells = omega (arith, lent g.scratch.now u.scratch_long) in
    planned_ends g.c g.former.now g.allowance g.assignment.now g.scratch.now (sym c.in_ok-unusable.ensures) c.size-size.result
    c.size-size.ensures c.if-size-eq0.false t.new.kept came-back _ c.clear-2.ensures (planned_as (Ok t.result)) t.ensures.0 _ t.ensures.1 t.ensures.2
