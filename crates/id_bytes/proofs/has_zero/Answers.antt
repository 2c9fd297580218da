-- `id_bytes::has_zero` meets its contract.
use mathlib.Core.Path.{sym, ap, ◌∙◌}
use native.Mathlib.Omega.{arith}
use Rattle.cluster.specs.Terms.{mem}
use Rattle.id_bytes.proofs.IdBytes.{zero_missing, zero_found, zero_passed, ids-none}
use borrow.Author.Rules.{rules}
use Rattle.id_bytes.proofs.has_zero.Goals as goal

pub returns-then-ids_in-count : goal.returns-then-ids_in-count
returns-then-ids_in-count c =
    let a = c.args in
    sym (zero_missing a.bytes.now a.from a.count (omega (arith, c.ids_in.ensures)))

pub returns-then-word_in-eq0 : goal.returns-then-word_in-eq0
returns-then-word_in-eq0 c =
    sym (c.loop-j.invariant ∙ zero_found c.args.bytes.now _ _ c.loop-j.j (search rules) (sym c.word_in.ensures.0 ∙ c.if-word_in-eq0.true))

pub loop-j-preserved : goal.loop-j-preserved
loop-j-preserved c =
    c.loop-j.invariant ∙ zero_passed c.args.bytes.now _ _ c.loop-j.j (search rules) (λ e. c.if-word_in-eq0.false (c.word_in.ensures.0 ∙ e))

pub returns : goal.returns
unfolding mem
returns c = sym (c.loop-j.invariant ∙ ap (mem 0) (ids-none c.args.bytes.now _ _ (omega arith)))
