-- `layouts::rows::own_row_fault` meets its contract.
-- Assumes nothing.
use native.Mathlib.Omega.{arith}
use Prim.Native.Nat.{ℕ, ◌<◌}
use mathlib.Core.Path.{◌≡◌, refl, sym, ap, ap₂, ◌∙◌}
use mathlib.Core.List.{List}
use mathlib.Core.Bool.{Bool, true, false, not}
use lib.Dec.{eqb}
use borrow.Author.Tests.{eqb-true, eq-eqb}
use Rattle.std.specs.Prelude.{Option, Some, unwrap_or}
use Rattle.std.specs.Option.{option_eq}
use Rattle.sets.specs.ModelBits.{count_of}
use Rattle.cluster.specs.Terms.{buffer_rows, topology}
use Rattle.cluster.specs.TermsReading.{Accepted}
use Rattle.cell_rows.specs.ModelRows.{ill_formed, row_ids}
use Rattle.cell_rows.proofs.RowScans.{same-told}
use Rattle.incidence.specs.ModelIncidence.{zone_cells}
use Rattle.cluster.proofs.Accepting.{few_partitions, accepted}
use Rattle.masks.specs.ModelMasks.{row_mask}
use Rattle.layouts.specs.ModelScans.{zones_in}
use Rattle.layouts.proofs.RowFaults.{fault-ids, fault-nodes, fault-zones, fault-none}
use Rattle.layouts.proofs.rows.own_row_fault.Goals as goal

-- Where the answer is that of k ids, the number that is told is k,
told : (answer : Option ℕ) (n k : ℕ) → unwrap_or answer ill_formed ≡ n → k < ill_formed → false ≡ not (option_eq eqb answer (Some k)) → n ≡ k
told answer n k e h t = eqb-true n k (sym (same-told answer n k e h) ∙ affirmed (option_eq eqb answer (Some k)) t)
  where
    affirmed : (b : Bool) → false ≡ not b → b ≡ true
    affirmed true q = refl
    affirmed false q = cc

-- and where it is not, the number is another.
not-told : (answer : Option ℕ) (n k : ℕ) → unwrap_or answer ill_formed ≡ n → k < ill_formed → true ≡ not (option_eq eqb answer (Some k)) → n ≡ k → ⊥
not-told answer n k e h t q = let f : true ≡ false = t ∙ ap not (same-told answer n k e h ∙ eq-eqb n k q) in cc

pub returns-then-ne : goal.returns-then-ne
returns-then-ne c =
    let sound : Accepted (topology c.args.c) = accepted c.args.c c.requires.0 in
    -- The row is one of the buffer's.
    let inside : c.args.p < buffer_rows = omega (arith, c.requires.2, few_partitions c.args.c.bits sound.bits) in
    sym (fault-ids (topology c.args.c) c.args.cells.now c.args.p sound c.requires.3 inside c.requires.2
    (not-told _ _ c.args.c.replication c.row_ids.ensures.0 (omega (arith, sound.replication.1)) (sym c.if-ne.true ∙ c.ne.ensures)))

pub returns-then-count-c : goal.returns-then-count-c
returns-then-count-c c =
    let sound : Accepted (topology c.args.c) = accepted c.args.c c.requires.0 in
    let inside : c.args.p < buffer_rows = omega (arith, c.requires.2, few_partitions c.args.c.bits sound.bits) in
    -- The row has as many ids as there are copies.
    let ids : row_ids c.args.cells.now c.args.p ≡ c.args.c.replication = told _ _ c.args.c.replication c.row_ids.ensures.0 (omega (arith, sound.replication.1)) (sym c.if-ne.false ∙ c.ne.ensures) in
    sym (fault-nodes (topology c.args.c) c.args.cells.now c.args.p sound c.requires.3 inside c.requires.2 ids
    (λ e. c.if-count-c.true (c.count.ensures ∙ (ap count_of c.row_mask-nodes.ensures ∙ e))))

pub returns-then-count-c-2 : goal.returns-then-count-c-2
returns-then-count-c-2 c =
    let sound : Accepted (topology c.args.c) = accepted c.args.c c.requires.0 in
    let inside : c.args.p < buffer_rows = omega (arith, c.requires.2, few_partitions c.args.c.bits sound.bits) in
    let ids : row_ids c.args.cells.now c.args.p ≡ c.args.c.replication = told _ _ c.args.c.replication c.row_ids.ensures.0 (omega (arith, sound.replication.1)) (sym c.if-ne.false ∙ c.ne.ensures) in
    -- The row names as many nodes as there are copies.
    let nodes : count_of (row_mask (topology c.args.c).nodes c.args.cells.now c.args.p)
    ≡ c.args.c.replication = sym (c.count.ensures ∙ ap count_of c.row_mask-nodes.ensures) ∙ c.if-count-c.false in
    let e : c.count-2.result ≡ count_of (zones_in (zone_cells (topology c.args.c)) (row_mask (topology c.args.c).nodes c.args.cells.now c.args.p))
    = c.count-2.ensures ∙ (ap count_of c.zones_in.ensures ∙ ap₂ (λ (l : List ℕ) (m : ℕ). count_of (zones_in l m)) c.requires.1 c.row_mask-nodes.ensures) in
    sym (fault-zones (topology c.args.c) c.args.cells.now c.args.p sound c.requires.3 inside c.requires.2 ids nodes (omega arith))

pub returns : goal.returns
returns c =
    let sound : Accepted (topology c.args.c) = accepted c.args.c c.requires.0 in
    let inside : c.args.p < buffer_rows = omega (arith, c.requires.2, few_partitions c.args.c.bits sound.bits) in
    let ids : row_ids c.args.cells.now c.args.p ≡ c.args.c.replication = told _ _ c.args.c.replication c.row_ids.ensures.0 (omega (arith, sound.replication.1)) (sym c.if-ne.false ∙ c.ne.ensures) in
    let nodes : count_of (row_mask (topology c.args.c).nodes c.args.cells.now c.args.p)
    ≡ c.args.c.replication = sym (c.count.ensures ∙ ap count_of c.row_mask-nodes.ensures) ∙ c.if-count-c.false in
    let e : c.count-2.result ≡ count_of (zones_in (zone_cells (topology c.args.c)) (row_mask (topology c.args.c).nodes c.args.cells.now c.args.p))
    = c.count-2.ensures ∙ (ap count_of c.zones_in.ensures ∙ ap₂ (λ (l : List ℕ) (m : ℕ). count_of (zones_in l m)) c.requires.1 c.row_mask-nodes.ensures) in
    sym (fault-none (topology c.args.c) c.args.cells.now c.args.p sound c.requires.3 inside c.requires.2 ids nodes (omega arith))
