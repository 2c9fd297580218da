-- `unions::united` meets its contract. The loop's invariant: the cells have what the parts passed hold together. Assumes nothing.
use native.Mathlib.Omega.{arith}
use borrow.Author.Rules.{rules}
use Prim.Native.Nat.{ℕ, ◌+◌}
use mathlib.Core.Path.{◌≡◌, ap, ◌∙◌}
use lib.ListN.{get_or-replicate}
use Rattle.cluster.specs.Terms.{most_nodes}
use Rattle.unions.specs.ModelUnions.{parts, union_to}
use Rattle.unions.proofs.Unions.{union-none, unite-turn}
use Rattle.unions.proofs.united.Goals as goal

pub loop-b-init : goal.loop-b-init
loop-b-init c =
    let a = c.args in
    record { long = search rules; done = λ t h. get_or-replicate {A = ℕ} most_nodes t 0 0 h ∙ union-none a.kept.now a.k (a.j + t) }

pub loop-b-preserved : goal.loop-b-preserved
loop-b-preserved c =
    let a = c.args in
    record { long = search rules; done = unite-turn a.kept.now a.k c.loop-b.b a.j c.loop-b.held c.unite.new.held c.loop-b.invariant.long c.loop-b.invariant.done c.unite.ensures }

pub returns : goal.returns
returns c =
    let a = c.args in
    let e : c.loop-b.b ≡ parts = omega arith in
    (c.loop-b.invariant.long, λ t h. c.loop-b.invariant.done t h ∙ ap (λ (n : ℕ). union_to a.kept.now a.k n (a.j + t)) e)
