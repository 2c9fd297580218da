-- `sizing::passes` meets its contract.
-- Assumes nothing.
use borrow.Author.Rules.{rules}
use native.Mathlib.Omega.{arith}
use mathlib.Core.Path.{◌≡◌, ◌∙◌}
use Rattle.sizing.specs.ModelSizing.{cap_cells}
use Rattle.sizing.proofs.Reading.{caps_in_lem}
use Rattle.cluster.specs.Terms.{topology}
use Rattle.cluster.specs.TermsReading.{Accepted}
use Rattle.cluster.proofs.Accepting.{accepted}
use Rattle.sizing.proofs.Arrays.{partitions_known, zones-most, caps-most, arrays_fit, none_above}
use Rattle.sizing.proofs.passes.Goals as goal

pub returns-then-most-size : goal.returns-then-most-size
returns-then-most-size c =
    let t = topology c.args.c in
    none_above t c.args.most c.args.size (accepted c.args.c c.requires.0) c.requires.2 c.if-most-size.true

pub fit-requires : goal.fit-requires
fit-requires c =
    -- The caps are those of the cluster.
    let caps-told : c.caps-caps.result ≡ cap_cells (topology c.args.c) c.args.size = c.caps-caps.ensures.0 ∙ caps_in_lem c.args.c c.args.size (accepted c.args.c c.requires.0).bits in
    let t = topology c.args.c in
    let n = c.used-n in
    let a : Accepted t = accepted c.args.c c.requires.0 in
    let p = partitions_known t a c.partitions.result c.partitions.ensures.0 in (
      search rules,
      search rules,
      omega (arith, a.replication),
      omega (arith, a.redundancy, a.replication),
      λ b l. zones-most t a.few c.args.zones.now c.requires.1 b (omega (arith, n.ensures)),
      λ b l. omega (arith, p, caps-most t a.few c.args.size c.caps-caps.result caps-told b (omega (arith, n.ensures))),
    )

pub returns : goal.returns
returns c =
    let caps-told : c.caps-caps.result ≡ cap_cells (topology c.args.c) c.args.size = c.caps-caps.ensures.0 ∙ caps_in_lem c.args.c c.args.size (accepted c.args.c c.requires.0).bits in
    let t = topology c.args.c in
    let n = c.used-n in
    let q = c.partitions in
    let a : Accepted t = accepted c.args.c c.requires.0 in
    arrays_fit t a.few c.args.size n.result q.result c.args.zones.now c.caps-caps.result c.fit.result
    n.ensures.0 (partitions_known t a q.result q.ensures.0).0 c.requires.1 caps-told c.fit.ensures
