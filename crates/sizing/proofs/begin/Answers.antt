-- `sizing::begin` meets its contract.
-- Assumes nothing.
use borrow.Author.Rules.{rules}
use native.Mathlib.Omega.{arith}
use Prim.Native.Nat.{ℕ, ◌≤◌, ◌<◌}
use mathlib.Core.Path.{◌∙◌, ◌≡◌}
use Rattle.sizing.specs.ModelSizing.{cap_cells}
use Rattle.sizing.proofs.Reading.{caps_in_lem}
use Rattle.cluster.specs.Terms.{buffer_rows, topology, partitions}
use Rattle.cluster.specs.TermsReading.{Accepted}
use Rattle.cluster.proofs.Accepting.{accepted}
use Rattle.dealing.specs.ModelDeal.{start}
use Rattle.incidence.specs.ModelIncidence.{cell}
use Rattle.sizing.proofs.Arrays.{partitions_known, zones-most, caps-most}
use Rattle.sizing.proofs.Dealt.{copies-most, starts-low, arrays_deal}
use Rattle.sizing.proofs.begin.Goals as goal

pub given-copies-requires : goal.given-copies-requires
given-copies-requires c =
    let ok : Accepted (topology c.args.c) × (c.partitions-most.result ≡ partitions (topology c.args.c)) × (1 ≤ c.partitions-most.result) × (c.partitions-most.result ≤ buffer_rows) = (let a : Accepted (topology c.args.c) = accepted c.args.c c.requires.0 in
    let p = partitions_known (topology c.args.c) a c.partitions-most.result c.partitions-most.ensures.0 in
    (a, p.0, p.1, search rules)) in
    -- The caps are those of the cluster.
    let caps-told : c.caps-caps.result ≡ cap_cells (topology c.args.c) c.args.size = c.caps-caps.ensures.0 ∙ caps_in_lem c.args.c c.args.size ok.0.bits in
    let few : (b : ℕ) → b < c.used-n.result → cell c.caps-caps.result b ≤ buffer_rows = λ b l. (let o = ok in
    let m = caps-most (topology c.args.c) o.0.few c.args.size c.caps-caps.result caps-told b (omega (arith, c.used-n.ensures)) in
    omega (arith, m, o.1, o.3)) in
    let o = ok in
    (search rules, o.3, omega (arith, o.0.replication), few)

pub starts-starts-requires : goal.starts-starts-requires
starts-starts-requires c =
    let ok : Accepted (topology c.args.c) × (c.partitions-most.result ≡ partitions (topology c.args.c)) × (1 ≤ c.partitions-most.result) × (c.partitions-most.result ≤ buffer_rows) = (let a : Accepted (topology c.args.c) = accepted c.args.c c.requires.0 in
    let p = partitions_known (topology c.args.c) a c.partitions-most.result c.partitions-most.ensures.0 in
    (a, p.0, p.1, search rules)) in
    let caps-told : c.caps-caps.result ≡ cap_cells (topology c.args.c) c.args.size = c.caps-caps.ensures.0 ∙ caps_in_lem c.args.c c.args.size ok.0.bits in
    let few : (b : ℕ) → b < c.used-n.result → cell c.caps-caps.result b ≤ buffer_rows = λ b l. (let o = ok in
    let m = caps-most (topology c.args.c) o.0.few c.args.size c.caps-caps.result caps-told b (omega (arith, c.used-n.ensures)) in
    omega (arith, m, o.1, o.3)) in
    let o = ok in
    let n = c.used-n in
    let z = c.zones-zones in (
      search rules,
      o.2,
      λ b l. zones-most (topology c.args.c) o.0.few z.result z.ensures b (omega (arith, n.ensures)),
      copies-most c.partitions-most.result n.result c.args.c.replication (cell z.result) (cell c.caps-caps.result) c.given-copies.result (search rules) c.given-copies.ensures buffer_rows few,
    )

pub deal-requires : goal.deal-requires
deal-requires c =
    let ok : Accepted (topology c.args.c) × (c.partitions-most.result ≡ partitions (topology c.args.c)) × (1 ≤ c.partitions-most.result) × (c.partitions-most.result ≤ buffer_rows) = (let a : Accepted (topology c.args.c) = accepted c.args.c c.requires.0 in
    let p = partitions_known (topology c.args.c) a c.partitions-most.result c.partitions-most.ensures.0 in
    (a, p.0, p.1, search rules)) in
    let o = ok in
    let n = c.used-n in (
      search rules,
      o.3,
      omega (arith, o.1, c.requires.1),
      starts-low c.partitions-most.result n.result (start c.partitions-most.result n.result (cell c.zones-zones.result) (cell c.given-copies.result)) c.starts-starts.result (search rules) o.2 c.starts-starts.ensures,
    )

pub returns : goal.returns
returns c =
    let ok : Accepted (topology c.args.c) × (c.partitions-most.result ≡ partitions (topology c.args.c)) × (1 ≤ c.partitions-most.result) × (c.partitions-most.result ≤ buffer_rows) = (let a : Accepted (topology c.args.c) = accepted c.args.c c.requires.0 in
    let p = partitions_known (topology c.args.c) a c.partitions-most.result c.partitions-most.ensures.0 in
    (a, p.0, p.1, search rules)) in
    let caps-told : c.caps-caps.result ≡ cap_cells (topology c.args.c) c.args.size = c.caps-caps.ensures.0 ∙ caps_in_lem c.args.c c.args.size ok.0.bits in
    let o = ok in
    let n = c.used-n in
    arrays_deal (topology c.args.c) c.args.size n.result c.partitions-most.result c.zones-zones.result c.caps-caps.result c.given-copies.result c.starts-starts.result c.args.rows.now
    _ o.0.few n.ensures.0 o.1 c.zones-zones.ensures caps-told c.given-copies.ensures c.starts-starts.ensures c.deal.ensures
