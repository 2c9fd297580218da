-- `attempts::attempt` meets its contract: no wave meets the goal, or a way back is traced whole and turned, or an arc of it is nowhere.
-- Assumes nothing.
use native.Mathlib.Omega.{arith}
use Prim.Native.Nat.{◌+◌, ◌<◌}
use mathlib.Core.Path.{◌≡◌, refl, ap, ◌∙◌}
use mathlib.Core.Bool.{false≢true}
use lib.ListN.{length, get_or, set, length-set}
use Rattle.cluster.specs.Terms.{most_nodes}
use Rattle.waves.specs.ModelWaves.{wave_cells}
use Rattle.attempts.proofs.Ends.{walked_long, shut_goes, stale-node, stale_goes, turned_goes}
use borrow.Author.Rules.{rules}
use Rattle.attempts.proofs.attempt.Goals as goal

pub returns-in_default : goal.returns-in_default
returns-in_default c =
    let a = c.args in (
      refl,
      c.requires.4,
      c.requires.7,
      λ e. absurd (false≢true e),
      shut_goes a.given.now.partitions a.given.now.former.now a.given.now.mates.now a.given.now.caps.now a.all a.given.now.z a.even.now a.p a.b a.goal a.rows.now a.leads.now c.requires.1 c.requires.6
          wave_cells c.waves.new.waves c.in_default.ensures.0 (omega arith),
    )

pub trace-traced-requires : goal.trace-traced-requires
trace-traced-requires c = (
  search rules,
  search rules,
  search rules,
  search rules,
  omega (arith, c.requires.4),
  omega (arith, c.in-Some.ensures.2),
  omega (arith, c.requires.5),
  search rules,
  search rules,
  c.in-Some.ensures.0,
  c.requires.7,
  c.requires.8,
)

pub overflow_cast-u : goal.overflow_cast-u
overflow_cast-u c =
    -- Where an arc was nowhere, its nodes are nodes of the lists.
    let nodes : (get_or c.trace-traced.new.y (c.trace-traced.result + 1) 0 < most_nodes)
    × (length c.args.leads.now ≡ most_nodes) = (let a = c.args in
    let n =
    stale-node a.given.now.partitions a.given.now.former.now a.given.now.mates.now a.given.now.caps.now a.all a.given.now.z a.even.now a.p a.b a.goal a.rows.now a.leads.now c.requires.1 c.requires.6
    c.in-Some.k c.trace-traced.result c.trace-traced.new.y c.trace-traced.new.q c.trace-traced.ensures.2 c.if-traced-k.true in
    (n.0, c.requires.4)) in
    omega (arith, nodes)

pub offset_bounds-leads-u : goal.offset_bounds-leads-u
offset_bounds-leads-u c =
    let nodes : (get_or c.trace-traced.new.y (c.trace-traced.result + 1) 0 < most_nodes)
    × (length c.args.leads.now ≡ most_nodes) = (let a = c.args in
    let n =
    stale-node a.given.now.partitions a.given.now.former.now a.given.now.mates.now a.given.now.caps.now a.all a.given.now.z a.even.now a.p a.b a.goal a.rows.now a.leads.now c.requires.1 c.requires.6
    c.in-Some.k c.trace-traced.result c.trace-traced.new.y c.trace-traced.new.q c.trace-traced.ensures.2 c.if-traced-k.true in
    (n.0, c.requires.4)) in
    omega (arith, nodes)

pub bounds-leads-u : goal.bounds-leads-u
bounds-leads-u c =
    let nodes : (get_or c.trace-traced.new.y (c.trace-traced.result + 1) 0 < most_nodes)
    × (length c.args.leads.now ≡ most_nodes) = (let a = c.args in
    let n =
    stale-node a.given.now.partitions a.given.now.former.now a.given.now.mates.now a.given.now.caps.now a.all a.given.now.z a.even.now a.p a.b a.goal a.rows.now a.leads.now c.requires.1 c.requires.6
    c.in-Some.k c.trace-traced.result c.trace-traced.new.y c.trace-traced.new.q c.trace-traced.ensures.2 c.if-traced-k.true in
    (n.0, c.requires.4)) in
    omega (arith, nodes)

pub offset_bounds-leads-u-then-traced-k : goal.offset_bounds-leads-u-then-traced-k
offset_bounds-leads-u-then-traced-k c =
    let nodes : (get_or c.trace-traced.new.y (c.trace-traced.result + 1) 0 < most_nodes)
    × (length c.args.leads.now ≡ most_nodes) = (let a = c.args in
    let n =
    stale-node a.given.now.partitions a.given.now.former.now a.given.now.mates.now a.given.now.caps.now a.all a.given.now.z a.even.now a.p a.b a.goal a.rows.now a.leads.now c.requires.1 c.requires.6
    c.in-Some.k c.trace-traced.result c.trace-traced.new.y c.trace-traced.new.q c.trace-traced.ensures.2 c.if-traced-k.true in
    (n.0, c.requires.4)) in
    omega (arith, nodes)

pub bounds-leads-u-then-traced-k : goal.bounds-leads-u-then-traced-k
bounds-leads-u-then-traced-k c =
    let nodes : (get_or c.trace-traced.new.y (c.trace-traced.result + 1) 0 < most_nodes)
    × (length c.args.leads.now ≡ most_nodes) = (let a = c.args in
    let n =
    stale-node a.given.now.partitions a.given.now.former.now a.given.now.mates.now a.given.now.caps.now a.all a.given.now.z a.even.now a.p a.b a.goal a.rows.now a.leads.now c.requires.1 c.requires.6
    c.in-Some.k c.trace-traced.result c.trace-traced.new.y c.trace-traced.new.q c.trace-traced.ensures.2 c.if-traced-k.true in
    (n.0, c.requires.4)) in
    omega (arith, nodes)

pub returns-then-traced-k : goal.returns-then-traced-k
returns-then-traced-k c =
    let a = c.args in
    let y = c.trace-traced.new.y in
    let q = c.trace-traced.new.q in
    let u = get_or y (c.trace-traced.result + 1) 0 in
    let new = set a.leads.now u c.without.result in
    let g =
    stale_goes a.given.now.partitions a.given.now.former.now a.given.now.mates.now a.given.now.caps.now a.all a.given.now.z a.even.now a.p a.b a.goal a.rows.now a.leads.now c.requires.1 c.requires.6
    c.in-Some.k c.trace-traced.result y q c.trace-traced.ensures.2 c.if-traced-k.true c.requires.4 new (ap (set a.leads.now u) c.without.ensures) in (
      refl,
      length-set a.leads.now u c.without.result ∙ c.requires.4,
      c.requires.7,
      λ e. (refl, g.1),
      g.0,
    )

pub make-requires : goal.make-requires
make-requires c = (
  omega (arith, c.trace-traced.ensures.0, c.in-Some.ensures.1),
  omega (arith, c.trace-traced.ensures.1, c.in-Some.ensures.1),
  search rules,
  search rules,
  c.requires.7,
)

pub refresh-requires : goal.refresh-requires
refresh-requires c =
    let met = c.in-Some.ensures.1 in (
      c.requires.4,
      c.requires.5,
      omega (arith, c.trace-traced.ensures.0, met),
      omega (arith, c.trace-traced.ensures.1, met),
      c.make.ensures.2.tight,
    )

pub returns : goal.returns
returns c =
    let a = c.args in
    let y = c.trace-traced.new.y in
    let q = c.trace-traced.new.q in (
      walked_long a.given.now.partitions (c.in-Some.k + 1) y q a.rows.now c.make.new.rows c.make.ensures.0,
      omega (arith, c.refresh.ensures.long, c.requires.4),
      c.make.ensures.2,
      λ e. absurd (false≢true e),
      turned_goes a.given.now.partitions a.given.now.former.now a.given.now.mates.now a.given.now.caps.now a.all a.given.now.z a.even.now a.p a.b a.goal a.rows.now a.leads.now c.requires.1 c.requires.6
          c.in-Some.k c.trace-traced.result y q c.trace-traced.ensures.2 c.waves.new.waves c.in-Some.ensures.0 c.in-Some.ensures.1 (omega (arith, c.if-traced-k.false)) c.make.new.rows
          c.refresh.new.leads c.make.ensures.0 c.refresh.ensures,
    )
