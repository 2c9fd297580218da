-- `mask_cells::write_row` meets its contract.
use native.Mathlib.Omega.{arith}
use Prim.Native.Nat.{ℕ, ◌≤◌, ◌+◌}
use mathlib.Core.Path.{◌≡◌, sym, ap, ap₂, ◌∙◌}
use mathlib.Core.List.{List}
use lib.ListN.{length, get_or, set}
use Rattle.sets.specs.ModelBits.{bit}
use Rattle.cells.proofs.Cells.{put-none, put-more}
use Rattle.cluster.specs.Terms.{most_nodes, no_node}
use Rattle.incidence.specs.ModelIncidence.{ids_where}
use Rattle.masks.proofs.Where.{ids-many, past-id, id-cell, where_next, where_others, where_end}
use Rattle.mask_cells.proofs.Written.{blank-written}
use Rattle.mask_cells.proofs.write_row.Goals.{then-b-ids, else-b-ids}
use Rattle.mask_cells.proofs.write_row.Goals as goal

pub loop-j-init : goal.loop-j-init
loop-j-init c = λ ns e. (put-none _ _ _, ap (λ (s : ℕ). ids_where ns (bit s)) (sym c.iter-nodes.ensures))

pub returns-in_default : goal.returns-in_default
returns-in_default c =
    let a = c.args in
    λ ns e.
    let inv = c.loop-j.invariant ns e in
    blank-written (λ i. get_or (ids_where ns (bit a.mask)) i 0) a.from c.loop-j.j a.cells.now _ c.loop-j.cells (omega arith) (omega arith)
    c.blank_row.ensures inv.0
    (λ i h l. where_end ns (ids_where ns (bit a.mask)) c.loop-j.j c.loop-j.nodes.left (omega (arith, ids-many ns _ e)) inv.1 c.in_default.ensures.steps.0 i h)

pub loop-j-preserved : goal.loop-j-preserved
loop-j-preserved c =
    let a = c.args in
    let came = c.in-Some.ensures.steps in
    λ ns e.
    let few : length ns ≤ most_nodes = omega (arith, ids-many ns _ e) in
    let id : c.if-b-ids.id ≡ (get_or ns c.in-Some.node no_node).id =
    elim c.if-b-ids.branch [
      | then-b-ids w ↦ w.id-is ∙ id-cell ns a.ids.now c.in-Some.node e
      | else-b-ids w ↦ w.id-is ∙ sym (past-id ns c.in-Some.node (omega (arith, ids-many ns _ e)))
    ] in
    let inv = c.loop-j.invariant ns e in (
      ap₂ (λ (l : List ℕ) (v : ℕ). set l (a.from + c.loop-j.j) v) inv.0
          (id ∙ (ap (λ (b : ℕ). (get_or ns b no_node).id) came.least
          ∙ where_next ns (ids_where ns (bit a.mask)) c.loop-j.j c.loop-j.nodes.left few inv.1))
          ∙ put-more a.from (λ i. get_or (ids_where ns (bit a.mask)) i 0) c.loop-j.j _,
      where_others ns (ids_where ns (bit a.mask)) c.loop-j.j c.loop-j.nodes.left few inv.1
          ∙ ap (λ (s : ℕ). ids_where ns (bit s)) (sym came.rest),
    )

pub returns : goal.returns
returns c =
    let a = c.args in
    λ ns e.
    blank-written (λ i. get_or (ids_where ns (bit a.mask)) i 0) a.from c.loop-j.j a.cells.now _ c.loop-j.cells (omega arith) (omega arith)
    c.blank_row.ensures (c.loop-j.invariant ns e).0 (λ i h l. absurd (omega arith))
