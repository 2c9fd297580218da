-- `head_writing::put_numbers` meets its contract. The loop's invariant: with the fields from here on the fields before the rows are written.
use native.Mathlib.Omega.{arith}
use Prim.Native.Nat.{ℕ, ◌+◌}
use mathlib.Core.Path.{◌≡◌, refl, sym, ap, ◌∙◌}
use mathlib.Core.List.{List}
use lib.ListN.{length, drop}
use Rattle.fields.specs.RecordField.{written}
use Rattle.layout_head.specs.RecordHead.{head_table, number_fields}
use Rattle.layout_head.proofs.NumberFields.{lawful_at, length-step, put_step, fields_end, length_head}
use Rattle.numbers.proofs.Written.{written_none}
use Rattle.head_writing.proofs.put_numbers.Goals as goal

pub loop-i-init : goal.loop-i-init
loop-i-init c =
    let long = ap (λ (l : List ℕ). length (number_fields head_table l)) c.numbers_in-values.ensures ∙ length_head c.args.n in
    (omega (arith, long), refl)

pub put_number-requires : goal.put_number-requires
put_number-requires c =
    -- What is left to put, before the number at hand and after it.
    let step : let values = c.numbers_in-values.result in
    length (number_fields (drop c.loop-i.i head_table) (drop c.loop-i.i values))
    ≡ 3 + c.at-entry.result.width + length (number_fields (drop (c.loop-i.i + 1) head_table) (drop (c.loop-i.i + 1) values)) = (let n = c.numbers_in-values in
    length-step c.loop-i.i (omega arith) c.at-entry.result c.at-entry.ensures n.result (ap length n.ensures)) in
    let l = lawful_at c.loop-i.i (omega arith) c.at-entry.result c.at-entry.ensures in
    (omega (arith, step, c.loop-i.invariant.0), omega (arith, l.small), l.narrow)

pub overflow_add-at : goal.overflow_add-at
overflow_add-at c =
    let step : let values = c.numbers_in-values.result in
    length (number_fields (drop c.loop-i.i head_table) (drop c.loop-i.i values))
    ≡ 3 + c.at-entry.result.width + length (number_fields (drop (c.loop-i.i + 1) head_table) (drop (c.loop-i.i + 1) values)) = (let n = c.numbers_in-values in
    length-step c.loop-i.i (omega arith) c.at-entry.result c.at-entry.ensures n.result (ap length n.ensures)) in
    omega (arith, step)

pub overflow_add-at-in-loop-i : goal.overflow_add-at-in-loop-i
overflow_add-at-in-loop-i c =
    let step : let values = c.numbers_in-values.result in
    length (number_fields (drop c.loop-i.i head_table) (drop c.loop-i.i values))
    ≡ 3 + c.at-entry.result.width + length (number_fields (drop (c.loop-i.i + 1) head_table) (drop (c.loop-i.i + 1) values)) = (let n = c.numbers_in-values in
    length-step c.loop-i.i (omega arith) c.at-entry.result c.at-entry.ensures n.result (ap length n.ensures)) in
    omega (arith, step)

pub loop-i-preserved : goal.loop-i-preserved
loop-i-preserved c =
    let step : let values = c.numbers_in-values.result in
    length (number_fields (drop c.loop-i.i head_table) (drop c.loop-i.i values))
    ≡ 3 + c.at-entry.result.width + length (number_fields (drop (c.loop-i.i + 1) head_table) (drop (c.loop-i.i + 1) values)) = (let n = c.numbers_in-values in
    length-step c.loop-i.i (omega arith) c.at-entry.result c.at-entry.ensures n.result (ap length n.ensures)) in
    let n = c.numbers_in-values in (
      omega (arith, step, c.loop-i.invariant.0),
      put_step c.loop-i.i (omega arith) c.at-entry.result c.at-entry.ensures n.result (ap length n.ensures) c.loop-i.at c.loop-i.out _ (omega (arith, c.loop-i.invariant.0))
          c.put_number.ensures
          ∙ c.loop-i.invariant.1,
    )

pub returns : goal.returns
returns c =
    let n = c.numbers_in-values in
    written_none c.loop-i.out c.loop-i.at
    ∙ (ap (written c.loop-i.out c.loop-i.at) (sym (fields_end c.loop-i.i (omega arith) n.result))
    ∙ (c.loop-i.invariant.1 ∙ ap (λ (l : List ℕ). written c.args.out.now 0 (number_fields head_table l)) n.ensures))
