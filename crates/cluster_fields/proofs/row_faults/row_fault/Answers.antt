-- `cluster_fields::row_faults::row_fault` meets its contract: ids that rise have no 0 among them, so of those the order is all that is left.
-- Assumes nothing.
use Prim.Native.Nat.{◌+◌, ◌-◌, ◌/◌, ◌^◌, ◌≤◌, ◌<◌}
use mathlib.Core.Path.{◌≡◌, sym, ◌∙◌}
use mathlib.Core.Bool.{true, false, or-true}
use borrow.Author.Tests.{le-leb, lt-leb, lt-ltb, le-ltb}
use Rattle.cluster.specs.Terms.{mem, rising}
use Rattle.cluster.proofs.Lists.{rising_fresh}
use Rattle.fields.specs.RecordField.{number_at, ids_at}
use Rattle.cluster.proofs.Accepting.{partitions_in_range}
use native.Mathlib.Omega.{arith}
use Rattle.cluster_fields.proofs.row_faults.row_fault.Goals as goal

pub returns-then-partitions-partition : goal.returns-then-partitions-partition
returns-then-partitions-partition c =
    -- What the first test says of the partition.
    let above : let a = c.args in 2 ^ a.bits ≤ number_at a.bytes.now a.start 2 =
    omega (arith, c.pair_at-partition.ensures, c.partitions.ensures, partitions_in_range c.args.bits c.requires.0) in
    let a = c.args in
    simp (le-leb (2 ^ a.bits) (number_at a.bytes.now a.start 2) above)

pub returns-then-partition-next : goal.returns-then-partition-next
returns-then-partition-next c =
    let below : let a = c.args in number_at a.bytes.now a.start 2 < 2 ^ a.bits =
    omega (arith, c.pair_at-partition.ensures, c.partitions.ensures, partitions_in_range c.args.bits c.requires.0) in
    -- Where the ids rise none of them is 0.
    let rise : let a = c.args in
    (mem 0 (ids_at a.bytes.now (a.start + 2) ((a.len - 2) / 4)) ≡ false) × (rising (ids_at a.bytes.now (a.start + 2) ((a.len - 2) / 4)) ≡ true) = (let a = c.args in
    let e = sym c.ids_rise.ensures ∙ c.if-ids_rise.true in
    (rising_fresh 0 0 (ids_at a.bytes.now (a.start + 2) ((a.len - 2) / 4)) e (omega arith), e)) in
    let a = c.args in
    let p = number_at a.bytes.now a.start 2 in
    simp (
      lt-leb (2 ^ a.bits) p below,
      rise.0,
      lt-ltb p a.next (omega (arith, c.pair_at-partition.ensures, c.if-partition-next.true)),
    )

pub returns-then-ids_rise : goal.returns-then-ids_rise
returns-then-ids_rise c =
    let below : let a = c.args in number_at a.bytes.now a.start 2 < 2 ^ a.bits =
    omega (arith, c.pair_at-partition.ensures, c.partitions.ensures, partitions_in_range c.args.bits c.requires.0) in
    let rise : let a = c.args in
    (mem 0 (ids_at a.bytes.now (a.start + 2) ((a.len - 2) / 4)) ≡ false) × (rising (ids_at a.bytes.now (a.start + 2) ((a.len - 2) / 4)) ≡ true) = (let a = c.args in
    let e = sym c.ids_rise.ensures ∙ c.if-ids_rise.true in
    (rising_fresh 0 0 (ids_at a.bytes.now (a.start + 2) ((a.len - 2) / 4)) e (omega arith), e)) in
    let a = c.args in
    let p = number_at a.bytes.now a.start 2 in
    simp (
      lt-leb (2 ^ a.bits) p below,
      rise.0,
      le-ltb p a.next (omega (arith, c.pair_at-partition.ensures, c.if-partition-next.false)),
      rise.1,
    )

pub returns-then-has_zero : goal.returns-then-has_zero
returns-then-has_zero c =
    let below : let a = c.args in number_at a.bytes.now a.start 2 < 2 ^ a.bits =
    omega (arith, c.pair_at-partition.ensures, c.partitions.ensures, partitions_in_range c.args.bits c.requires.0) in
    let a = c.args in
    simp (lt-leb (2 ^ a.bits) (number_at a.bytes.now a.start 2) below, sym c.has_zero.ensures ∙ c.if-has_zero.true)

pub returns : goal.returns
returns c =
    let below : let a = c.args in number_at a.bytes.now a.start 2 < 2 ^ a.bits =
    omega (arith, c.pair_at-partition.ensures, c.partitions.ensures, partitions_in_range c.args.bits c.requires.0) in
    let a = c.args in
    simp (
      lt-leb (2 ^ a.bits) (number_at a.bytes.now a.start 2) below,
      sym c.has_zero.ensures ∙ c.if-has_zero.false,
      sym c.ids_rise.ensures ∙ c.if-ids_rise.false,
      or-true,
    )
