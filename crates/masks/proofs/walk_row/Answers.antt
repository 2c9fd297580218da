-- `masks::walk_row` meets its contract.
use borrow.Author.Rules.{rules}
use native.Mathlib.Omega.{arith}
use Prim.Native.Nat.{ℕ, ◌+◌, ◌*◌, ◌^◌}
use mathlib.Core.Path.{◌≡◌, refl, sym, ap, ◌∙◌}
use mathlib.Core.Logic.{◌⊎◌, inl, inr}
use lib.ListN.{get_or}
use Rattle.sets.specs.ModelBits.{with_of}
use Rattle.masks.proofs.Where.{ids-many, id-cell}
use Rattle.masks.proofs.Named.{left_all, left_end, left_past, left_zero, left_skip, left_node, node_done, walked}
use Rattle.masks.proofs.walk_row.Goals.{then-id-own-2, else-id-own-2}
use Rattle.masks.proofs.walk_row.Goals as goal

pub loop-i-init : goal.loop-i-init
loop-i-init c = (search rules, search rules, λ ns e. left_all ns _ _ _)

pub returns-then-id-eq0 : goal.returns-then-id-eq0
returns-then-id-eq0 c =
    let a = c.args in
    λ ns e. walked _ _ c.loop-i.b _ (c.loop-i.invariant.2 ns e)
    (left_zero ns c.loop-i.b a.cells.now a.to c.loop-i.i (search rules) (search rules) c.if-id-eq0.true)

pub loop-b-init : goal.loop-b-init
loop-b-init c = (search rules, search rules, c.loop-i.invariant.2)

pub returns-then-ids-b : goal.returns-then-ids-b
returns-then-ids-b c =
    λ ns e. walked _ _ c.loop-b.b _ (c.loop-b.invariant.2 ns e) (left_past ns c.loop-b.b _ _ _ (omega (arith, ids-many ns _ e)))

pub loop-b-preserved : goal.loop-b-preserved
loop-b-preserved c =
    let a = c.args in
    let id = get_or a.cells.now c.loop-i.i 0 in
    let v = get_or a.ids.now c.loop-b.b 0 in
    let took : ((id ≡ v) × (c.if-id-own-2.mask ≡ with_of c.loop-b.mask c.loop-b.b)) ⊎ ((id ≡ v → ⊥) × (c.if-id-own-2.mask ≡ c.loop-b.mask)) =
    elim c.if-id-own-2.branch [
      | then-id-own-2 w ↦ inl (w.if-id-own-2.true, w.mask-is ∙ w.with-mask.ensures)
      | else-id-own-2 w ↦ inr (w.if-id-own-2.false, w.mask-is)
    ] in (
      search rules,
      (node_done _ c.loop-b.mask c.loop-b.b id v 0 c.if-id-own-2.mask (omega arith) c.loop-b.invariant.1 refl took).0,
      λ ns e. (node_done _ c.loop-b.mask c.loop-b.b id v _ c.if-id-own-2.mask (omega arith) c.loop-b.invariant.1
          (c.loop-b.invariant.2 ns e
          ∙ ap (λ (n : ℕ). c.loop-b.mask + 2 ^ c.loop-b.b * n)
          (left_node ns c.loop-b.b a.cells.now a.to c.loop-i.i (omega arith) (omega arith) v (omega (arith, ids-many ns _ e))
          (sym (id-cell ns a.ids.now c.loop-b.b e)) c.if-id-eq0.false (omega arith)))
          took).1,
    )

pub loop-i-preserved : goal.loop-i-preserved
loop-i-preserved c =
    let a = c.args in (
      search rules,
      search rules,
      λ ns e. c.loop-b.invariant.2 ns e
          ∙ ap (λ (n : ℕ). c.loop-b.mask + 2 ^ c.loop-b.b * n)
          (left_skip ns c.loop-b.b a.cells.now a.to c.loop-i.i (search rules) (search rules)
          _ (omega (arith, ids-many ns _ e)) (sym (id-cell ns a.ids.now c.loop-b.b e)) c.if-id-eq0.false (omega arith)),
    )

pub returns : goal.returns
returns c =
    λ ns e. walked _ _ c.loop-i.b _ (c.loop-i.invariant.2 ns e) (left_end ns c.loop-i.b _ _ _ (omega arith))
