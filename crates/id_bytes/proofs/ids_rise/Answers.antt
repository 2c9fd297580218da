-- `id_bytes::ids_rise` meets its contract.
use Prim.Native.Nat.{ℕ, ◌+◌, ◌-◌, ◌*◌}
use mathlib.Core.Path.{sym, ap, ◌∙◌}
use native.Mathlib.Omega.{arith}
use Rattle.cluster.specs.Terms.{rising_from}
use Rattle.id_bytes.specs.RecordIds.{ids_at}
use Rattle.id_bytes.proofs.IdBytes.{fall-missing, fall-found, rise_passed, ids-none}
use borrow.Author.Rules.{rules}
use Rattle.id_bytes.proofs.ids_rise.Goals as goal

pub returns-then-ids_in-count : goal.returns-then-ids_in-count
returns-then-ids_in-count c =
    let a = c.args in
    sym (fall-missing a.bytes.now a.from a.count (omega (arith, c.ids_in.ensures)))

pub returns-then-id-last : goal.returns-then-id-last
returns-then-id-last c =
    sym (c.loop-j.invariant ∙ fall-found c.args.bytes.now _ _ c.loop-j.j (search rules) c.loop-j.last (omega (arith, c.word_in-id.ensures.0)))

pub loop-j-preserved : goal.loop-j-preserved
loop-j-preserved c =
    let a = c.args in
    c.loop-j.invariant
    ∙ (rise_passed a.bytes.now _ _ c.loop-j.j (search rules) c.loop-j.last (omega (arith, c.word_in-id.ensures.0))
    ∙ ap (λ (x : ℕ). rising_from x (ids_at a.bytes.now (a.from + 4 * (c.loop-j.j + 1)) (a.count - (c.loop-j.j + 1)))) (sym c.word_in-id.ensures.0))

pub returns : goal.returns
unfolding rising_from
returns c = sym (c.loop-j.invariant ∙ ap (rising_from c.loop-j.last) (ids-none c.args.bytes.now _ _ (omega arith)))
