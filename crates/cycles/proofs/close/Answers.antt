-- `cycles::close` meets its contract. The nodes that are not left close no cycle, and the nodes behind them are written.
use Prim.Native.Nat.{ℕ, ◌<◌}
use mathlib.Core.Path.{◌≡◌, sym, ◌∙◌}
use mathlib.Core.Bool.{true}
use mathlib.Core.List.{List}
use native.Mathlib.Omega.{arith}
use borrow.Author.Rules.{rules}
use lib.ListN.{get_or}
use Rattle.cluster.specs.Terms.{most_nodes}
use Rattle.sets.specs.ModelBits.{member_of}
use Rattle.sets.specs.ModelMembers.{Comes}
use Rattle.levels.specs.ModelTurns.{Nodes}
use Rattle.sets.proofs.Laws.{bit-true}
use Rattle.sets.proofs.Scan.{Left, left_all}
use Rattle.cycles.specs.ModelTrails.{behind}
use Rattle.levels.proofs.Visits.{visit_member, visit_below, visit_rest, settled-start, settled-more, settled_end}
use Rattle.cycles.proofs.Parts.{open_start, open_more, closer_hit, closer-none, behind-with}
use Rattle.cycles.proofs.close.Goals as goal

pub loop-v-init : goal.loop-v-init
loop-v-init c =
    let a = c.args in
    let e : c.into_iter-v-iterator.result.left ≡ a.fell = cc in
    rw e (left_all a.fell (search rules), open_start a.fell a.row.now a.way.now, settled-start a.fell (behind a.row.now a.way.now) a.grown.now)

-- Where one that fell came from is a node.
from-node : {fell left v rest : ℕ} → Left fell left → Comes left v rest → (n : ℕ) (row : List ℕ) → Nodes n fell → ((v : ℕ) → v < n → member_of fell v ≡ true → get_or row v 0 < most_nodes)
    → get_or row v 0 < most_nodes
from-node {fell} {left} {v} {rest} L m n row k h = h v (visit_below L m n k) (bit-true fell v (visit_member L m))

pub bounds-row-i : goal.bounds-row-i
bounds-row-i c = omega (arith, c.in-Some.ensures.steps.below)

pub bounds-way-from : goal.bounds-way-from
bounds-way-from c =
    omega (arith, from-node c.loop-v.invariant.0 c.in-Some.ensures.steps c.args.n c.args.row.now c.requires.4 c.requires.5)

pub returns-then-member : goal.returns-then-member
returns-then-member c =
    let m = c.in-Some.ensures.steps in
    let a = c.args in
    let i = c.loop-v.invariant in
    let e = behind-with a.row.now a.way.now c.in-Some.v c.with-w.result c.with-w.ensures in
    record {
      first = (closer_hit a.fell a.row.now a.way.now i.0 m c.with-w.result e i.1 a.n c.requires.4 (sym c.member.ensures ∙ c.if-member.true), visit_below i.0 m a.n c.requires.4);
      grows = λ e. absurd (cc (e));
    }

pub bounds-grown-i : goal.bounds-grown-i
bounds-grown-i c = omega (arith, c.in-Some.ensures.steps.below)

pub loop-v-preserved : goal.loop-v-preserved
loop-v-preserved c =
    let m = c.in-Some.ensures.steps in
    let a = c.args in
    let i = c.loop-v.invariant in
    let e = behind-with a.row.now a.way.now c.in-Some.v c.with-w.result c.with-w.ensures in (
      visit_rest i.0 m,
      open_more a.fell a.row.now a.way.now i.0 m c.with-w.result e i.1 (sym c.member.ensures ∙ c.if-member.false),
      settled-more i.0 m (behind a.row.now a.way.now) c.with-w.result a.grown.now c.loop-v.grown (omega arith) e i.2,
    )

pub returns : goal.returns
returns c =
    let a = c.args in
    let z = c.in-None.ensures.steps.0 in
    record {
      first = (closer-none a.fell a.row.now a.way.now a.n c.loop-v.v-iterator.left c.requires.0 z c.loop-v.invariant.1, tt);
      grows = λ _. settled_end _ _ _ _ _ z c.loop-v.invariant.2;
    }
