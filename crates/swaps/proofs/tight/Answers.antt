-- `swaps::tight` meets its contract. The loop's invariant: the zones of the row are those counted, z at most, and those of the nodes that are left.
use Prim.Native.Nat.{ℕ, ◌+◌, ◌-◌, ◌≤◌}
use mathlib.Core.Path.{◌≡◌, sym, refl, ap, ap₂, ◌∙◌}
use borrow.Author.Rules.{rules}
use mathlib.Core.List.{List}
use native.Mathlib.Omega.{arith}
use Rattle.sets.specs.ModelBits.{mask_bits, count_of}
use Rattle.sets.proofs.Laws.{count_le}
use Rattle.swaps.specs.ModelSwaps.{rest_of, tight_of, cover_of, covered_of, cover_in, covered_in}
use Rattle.swaps.proofs.Steps.{fuel, cover-more, cover_done, covered_more, covered_done, cover-past, tight-spare, tight-all, some-count, rest-count, rest-is, nodes_are}
use Rattle.swaps.proofs.tight.Goals as goal

pub loop-count-init : goal.loop-count-init
unfolding cover_of covered_of
loop-count-init c = (search rules, omega (arith, count_le mask_bits c.args.row (omega arith) (search rules)), refl, refl)

pub loop-count-preserved : goal.loop-count-preserved
loop-count-preserved c =
    let m = c.args.mates.now in
    let n = c.loop-count._count in
    let left = c.loop-count.left in
    let i = c.loop-count.invariant in
    let f = c.if-left-eq0.false in
    -- What the turn leaves, which counts less.
    let rest : c.difference-left.result ≡ rest_of m left = rest-is m left c.least.result c.cell-mate.result c.rest.result c.difference-left.result
    c.least.ensures c.cell-mate.ensures c.rest.ensures c.difference-left.ensures in
    let fewer : count_of c.difference-left.result + 1 ≤ count_of left = omega (arith, rest-count m left i.0 f, ap count_of rest) in
    let l = fuel n (omega (arith, fewer)) in
    let u = nodes_are m left c.loop-count.nodes c.least.result c.cell-mate.result c.union-nodes.result c.least.ensures c.cell-mate.ensures c.union-nodes.ensures in (
      c.difference-left.type_inv,
      omega (arith, fewer),
      i.2
          ∙ (cover-more (mask_bits - n) (mask_bits - (n + 1)) m left n l f
          ∙ ap (λ (x : ℕ). cover_in (mask_bits - (n + 1)) m x (n + 1)) (sym rest)),
      i.3
          ∙ (covered_more (mask_bits - n) (mask_bits - (n + 1)) m left c.loop-count.nodes l f
          ∙ ap₂ (λ (x y : ℕ). covered_in (mask_bits - (n + 1)) m x y) (sym rest) u),
    )

-- Where no node is left after n zones, z at most, the nodes of these zones are the row's.
all-left : (m : List ℕ) (z row left n nodes : ℕ) → left ≡ 0 → n ≤ z → cover_of m row ≡ cover_in (mask_bits - n) m left n
    → covered_of m row ≡ covered_in (mask_bits - n) m left nodes → nodes ≡ tight_of m z row
all-left m z row left n nodes e l p q =
    let d = cover_done (mask_bits - n) m left n e in
    sym (tight-all m z row (omega (arith, p, d)) ∙ (q ∙ covered_done (mask_bits - n) m left nodes e))

pub returns-then-left-eq0 : goal.returns-then-left-eq0
returns-then-left-eq0 c =
    let i = c.loop-count.invariant in
    all-left c.args.mates.now c.args.z c.args.row c.loop-count.left c.loop-count._count c.loop-count.nodes c.if-left-eq0.true (omega arith) i.2 i.3

pub returns-then-left-eq0-2 : goal.returns-then-left-eq0-2
returns-then-left-eq0-2 c =
    let i = c.loop-count.invariant in
    all-left c.args.mates.now c.args.z c.args.row c.loop-count.left c.loop-count._count c.loop-count.nodes c.if-left-eq0-2.true (omega arith) i.2 i.3

pub returns-else-left-eq0-2 : goal.returns-else-left-eq0-2
returns-else-left-eq0-2 c =
    let a = c.args in
    let left = c.loop-count.left in
    let i = c.loop-count.invariant in
    let f = c.if-left-eq0-2.false in
    let e : c.loop-count._count ≡ a.z = omega arith in
    let p = i.2 ∙ ap (λ (x : ℕ). cover_in (mask_bits - x) a.mates.now left x) e in
    sym (tight-spare a.mates.now a.z a.row (cover-past a.mates.now a.row left a.z p (omega (arith, some-count left i.0 f)) f))
