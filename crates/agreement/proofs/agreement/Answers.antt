use native.Mathlib.Omega.{arith}
use Prim.Native.Nat.{◌≤◌}
use mathlib.Core.Path.{◌∙◌}
use lib.ListN.{length}
use borrow.Author.Tests.{lt-ltb, le-ltb}
use Rattle.cluster.specs.Terms.{buffer_rows}
use Rattle.agreement.specs.ModelAgreement.{shared_in}
use Rattle.agreement.proofs.agreement.Goals as goal

pub returns-then-partitions-gt-PARTITIONS : goal.returns-then-partitions-gt-PARTITIONS
unfolding shared_in
returns-then-partitions-gt-PARTITIONS c = simp (lt-ltb _ _ c.if-partitions-gt-PARTITIONS.true)

pub returns-then-rows-partitions : goal.returns-then-rows-partitions
unfolding shared_in
returns-then-rows-partitions c = let p : c.args.partitions ≤ buffer_rows = omega arith in simp (le-ltb _ _ p, lt-ltb _ _ c.if-rows-partitions.true)

pub returns-then-former-partitions : goal.returns-then-former-partitions
unfolding shared_in
returns-then-former-partitions c =
    let a = c.args in
    let p : a.partitions ≤ buffer_rows = omega arith in
    let q : a.partitions ≤ length a.rows.now = omega arith in
    simp (le-ltb _ _ p, le-ltb _ _ q, lt-ltb _ _ c.if-former-partitions.true)

pub returns : goal.returns
unfolding shared_in
returns c =
    let a = c.args in
    let p : a.partitions ≤ buffer_rows = omega arith in
    let q : a.partitions ≤ length a.rows.now = omega arith in
    let r : a.partitions ≤ length a.former.now = omega arith in
    c.agreement_of.ensures ∙ simp (le-ltb _ _ p, le-ltb _ _ q, le-ltb _ _ r)
