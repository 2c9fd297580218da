use borrow.Author.Rules.{rules}
use borrow.Author.Tests.{lt-ltb, le-ltb, eq-eqb, ne_eqb}
use Rattle.cluster.specs.Terms.{most_bits, most_copies, out_of_range}
use Rattle.cluster.proofs.faults.out_of_range.Goals as goal

pub returns-then-c-gt-BITS : goal.returns-then-c-gt-BITS
unfolding out_of_range
returns-then-c-gt-BITS c =
    let k = c.args.c in
    simp (lt-ltb most_bits k.bits (search rules))

pub returns-then-c-eq0 : goal.returns-then-c-eq0
unfolding out_of_range
returns-then-c-eq0 c =
    let k = c.args.c in
    simp (le-ltb most_bits k.bits (search rules), eq-eqb k.replication 0 (search rules))

pub returns-then-c-gt-REPLICATION : goal.returns-then-c-gt-REPLICATION
unfolding out_of_range
returns-then-c-gt-REPLICATION c =
    let k = c.args.c in
    simp (le-ltb most_bits k.bits (search rules), ne_eqb k.replication 0 (search rules), lt-ltb most_copies k.replication (search rules))

pub returns-then-c-eq0-2 : goal.returns-then-c-eq0-2
unfolding out_of_range
returns-then-c-eq0-2 c =
    let k = c.args.c in
    simp (le-ltb most_bits k.bits (search rules), ne_eqb k.replication 0 (search rules), le-ltb most_copies k.replication (search rules), eq-eqb k.redundancy 0 (search rules))

pub returns-then-c : goal.returns-then-c
unfolding out_of_range
returns-then-c c =
    let k = c.args.c in
    simp (le-ltb most_bits k.bits (search rules), ne_eqb k.replication 0 (search rules), le-ltb most_copies k.replication (search rules), ne_eqb k.redundancy 0 (search rules), lt-ltb k.replication k.redundancy (search rules))

pub returns : goal.returns
unfolding out_of_range
returns c =
    let k = c.args.c in
    simp (le-ltb most_bits k.bits (search rules), ne_eqb k.replication 0 (search rules), le-ltb most_copies k.replication (search rules), ne_eqb k.redundancy 0 (search rules), le-ltb k.replication k.redundancy (search rules)) c.some_out_of_range.ensures
