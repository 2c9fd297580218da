-- `layouts::rows::row_fault` meets its contract.
-- Assumes nothing.
use native.Mathlib.Omega.{arith}
use Prim.Native.Nat.{ℕ, ◌^◌, ◌≤◌, ◌<◌, min}
use mathlib.Core.Path.{◌≡◌, sym, ap, ◌∙◌}
use mathlib.Core.Bool.{Bool, true, false, cond}
use mathlib.Core.List.{List}
use lib.ListN.{length}
use Rattle.cluster.specs.Terms.{most_bits, buffer_rows, layout_cells, partitions, topology, fault_of}
use Rattle.cluster.specs.declared.Cluster.{Cluster}
use Rattle.cluster.proofs.Accepting.{partitions_in_range, accepted}
use Rattle.cell_rows.specs.ModelRows.{row_is_blank}
use Rattle.layouts.specs.TermsCheck.{row_fault}
use Rattle.layouts.proofs.RowFaults.{fault_beyond}
use Rattle.layouts.proofs.rows.row_fault.Goals as goal

module _ (c : Cluster) (n : ℕ) (e : fault_of c ≡ 0) (all : n ≡ 2 ^ min c.bits most_bits) where
  -- The number of partitions of a cluster without fault.
  rows : n ≡ partitions (topology c)
  rows = all ∙ partitions_in_range c.bits (accepted c e).bits

  -- The fault of a row from P on.
  beyond : (cells : List ℕ) (p : ℕ) (b : Bool) → layout_cells ≤ length cells → p < buffer_rows → n ≤ p → row_is_blank cells p ≡ b
      → cond b 0 10 ≡ row_fault (topology c) cells p
  beyond cells p b whole inside h q =
      sym (fault_beyond (topology c) cells p (accepted c e) whole inside (omega (arith, rows)) ∙ ap (λ (b : Bool). cond b 0 10) q)

pub own_row_fault-requires : goal.own_row_fault-requires
own_row_fault-requires c =
    let q = c.requires in
    (q.0, q.1, omega (arith, rows c.args.c c.partitions.result q.0 c.partitions.ensures.0), q.3)

pub returns-then-row_is_blank : goal.returns-then-row_is_blank
returns-then-row_is_blank c =
    let a = c.args in
    let q = c.requires in
    beyond a.c c.partitions.result q.0 c.partitions.ensures.0 a.cells.now a.p true q.3 q.2 (omega arith) (sym c.row_is_blank.ensures ∙ c.if-row_is_blank.true)

pub returns-else-row_is_blank : goal.returns-else-row_is_blank
returns-else-row_is_blank c =
    let a = c.args in
    let q = c.requires in
    beyond a.c c.partitions.result q.0 c.partitions.ensures.0 a.cells.now a.p false q.3 q.2 (omega arith) (sym c.row_is_blank.ensures ∙ c.if-row_is_blank.false)
