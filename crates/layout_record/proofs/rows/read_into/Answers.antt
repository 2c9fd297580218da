-- `layout_record::rows::read_into` meets its contract: the head, and then the rows.
-- Assumes nothing.
use native.Mathlib.Omega.{arith}
use mathlib.Core.Path.{sym, ap, ◌∙◌}
use Rattle.cluster.specs.Terms.{cells_of}
use Rattle.fields.specs.RecordField.{Bytes}
use Rattle.std.proofs.lemmas.Result.{err_from_is_err_and}
use Rattle.layout_rows.specs.RecordLayoutFaults.{LayoutRead}
use Rattle.layout_record.specs.RecordLayoutAnswer.{layout_answer}
use Rattle.layout_record.proofs.CellsMore.{cells-none}
use Rattle.layout_head.proofs.NumberFields.{few_bits, few_copies}
use Rattle.layout_head.proofs.HeadExact.{head_back}
use Rattle.layout_record.proofs.RowSteps.{read-halted, read-on}
use Rattle.layout_record.proofs.rows.read_into.Goals as goal

pub read_rows-requires : goal.read_rows-requires
read_rows-requires c =
    -- The bytes are bytes.
    let bytes : Bytes c.args.bytes.now = λ i. omega (arith, c.type_inv.bytes i) in
    let h = (head_back c.args.bytes.now _ _ bytes (sym c.in_ok-numbers.ensures)).1 in
    let r = few_copies _ h in
    (few_bits _ h, r.0, r.1, c.requires ∙ sym cells-none)

pub returns : goal.returns
returns c =
    let r = c.read_rows in
    let on = read-on c.args.bytes.now _ _ (sym c.in_ok-numbers.ensures) in
    (r.ensures.0 ∙ sym (ap layout_answer on), λ z. r.ensures.1 z ∙ sym (ap (λ (o : LayoutRead). cells_of o.layout) on))

pub returns-in_err-numbers : goal.returns-in_err-numbers
unfolding layout_answer
returns-in_err-numbers c =
    let p = err_from_is_err_and c.from_residual.result c.from_residual.ensures.1 in
    rw (p.1, p.2) (sym (ap layout_answer (read-halted c.args.bytes.now _ _ (sym c.in_err-numbers.ensures))), λ none. cc)
