-- `sizing::deal` meets its contract.
-- Assumes nothing.
use native.Mathlib.Omega.{arith}
use mathlib.Core.Path.{◌≡◌, sym, ap, ap₂, ◌∙◌}
use mathlib.Core.Bool.{Bool, ◌&&◌, cond}
use lib.Dec.{leb}
use lib.ListN.{length}
use borrow.Author.Tests.{eq-eqb, ne_eqb, le-leb, lt-leb}
use Rattle.cluster.specs.Terms.{topology, partitions, fault_of}
use Rattle.cluster.proofs.Accepting.{accepted}
use Rattle.sizing.specs.ModelSizing.{dealt_rows, dealt_in}
use Rattle.sizing.proofs.Arrays.{partitions_known}
use Rattle.sizing.proofs.Reading.{number-some}
use Rattle.sizing.proofs.deal.Goals as goal

pub begin-requires : goal.begin-requires
begin-requires c =
    let known : (fault_of c.args.c ≡ 0) × (c.partitions.result ≡ partitions (topology c.args.c)) = (let e : fault_of c.args.c ≡ 0 = sym c.in-Ok.ensures in
    (e, (partitions_known (topology c.args.c) (accepted c.args.c e) c.partitions.result c.partitions.ensures.0).0)) in
    let o = known in
    (o.0, omega (arith, o.1))

pub returns-then-partitions-rows : goal.returns-then-partitions-rows
unfolding dealt_in
returns-then-partitions-rows c =
    let known : (fault_of c.args.c ≡ 0) × (c.partitions.result ≡ partitions (topology c.args.c)) = (let e : fault_of c.args.c ≡ 0 = sym c.in-Ok.ensures in
    (e, (partitions_known (topology c.args.c) (accepted c.args.c e) c.partitions.result c.partitions.ensures.0).0)) in
    let a = c.args in
    let o = known in
    c.begin.ensures
    ∙ ap (λ (b : Bool). cond b (dealt_rows (topology a.c) a.size a.rows.now) a.rows.now)
    (sym (ap₂ ◌&&◌ (eq-eqb (fault_of a.c) 0 o.0) (le-leb (partitions (topology a.c)) (length a.rows.now) (omega (arith, o.1)))))

pub returns-else-partitions-rows : goal.returns-else-partitions-rows
unfolding dealt_in
returns-else-partitions-rows c =
    let known : (fault_of c.args.c ≡ 0) × (c.partitions.result ≡ partitions (topology c.args.c)) = (let e : fault_of c.args.c ≡ 0 = sym c.in-Ok.ensures in
    (e, (partitions_known (topology c.args.c) (accepted c.args.c e) c.partitions.result c.partitions.ensures.0).0)) in
    let a = c.args in
    let o = known in
    ap (λ (b : Bool). cond b (dealt_rows (topology a.c) a.size a.rows.now) a.rows.now)
    (sym (ap₂ ◌&&◌ (eq-eqb (fault_of a.c) 0 o.0) (lt-leb (partitions (topology a.c)) (length a.rows.now) (omega (arith, o.1)))))

pub returns-in_default : goal.returns-in_default
unfolding dealt_in
returns-in_default c =
    let a = c.args in
    ap (λ (b : Bool). cond (b && leb (partitions (topology a.c)) (length a.rows.now)) (dealt_rows (topology a.c) a.size a.rows.now) a.rows.now)
    (sym (ne_eqb (fault_of a.c) 0 (λ e. number-some c.in_default.field-0 (c.in_default.ensures ∙ e))))
