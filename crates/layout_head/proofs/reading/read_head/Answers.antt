-- `layout_head::reading::read_head` meets its contract: a field that is not whole or a number outside its range stops the reading;
-- any other number is one more (`HeadSteps.antt`).
-- Assumes nothing.
use Prim.Native.Nat.{ℕ}
use mathlib.Core.Path.{◌≡◌, sym, ap₂, ap, ◌∙◌, subst}
use native.Mathlib.Omega.{arith}
use mathlib.Core.List.{List, []}
use Rattle.std.specs.Prelude.{Err}
use Rattle.fields.specs.RecordField.{refusal_of, place_of}
use Rattle.layout_head.specs.ModelReading.{head_says}
use Rattle.layout_head.specs.RecordHead.{head_table}
use Rattle.layout_head.specs.RecordHeadFaults.{head_refused, head_ends, head_from}
use Rattle.layout_head.proofs.HeadSteps.{head_ended, head_body, head_stops, head_outside, head_further}
use Rattle.layout_head.proofs.reading.read_head.Goals as goal

pub returns-in_default : goal.returns-in_default
returns-in_default c =
    subst (λ (t : List ℕ). head_says (Err c.refused.result) ≡ head_from head_table t 0 []) c.loop-i.invariant.source
    (ap₂ head_refused (c.refused.ensures.0 ∙ ap refusal_of c.in_default.is) (c.refused.ensures.1 ∙ ap place_of c.in_default.is)
    ∙ sym (head_stops (omega arith) c.at-entry.ensures c.loop-i.invariant.read c.in_default.ensures.0))

pub number_at-value-requires : goal.number_at-value-requires
number_at-value-requires c = head_body (omega arith) c.at-entry.ensures c.in-Body.ensures.1

pub returns-then-not-holds : goal.returns-then-not-holds
returns-then-not-holds c =
    subst (λ (t : List ℕ). head_refused 4 c.loop-i.r.at ≡ head_from head_table t 0 []) c.loop-i.invariant.source
    (sym (head_outside (omega arith) c.at-entry.ensures c.loop-i.invariant.read c.in-Body.ensures.0 c.number_at-value.ensures
    (sym c.holds.ensures ∙ c.if-not-holds.true)))

pub loop-i-preserved : goal.loop-i-preserved
loop-i-preserved c = record {
  source = c.loop-i.invariant.source;
  read = head_further (omega arith) c.at-entry.ensures c.loop-i.invariant.read c.in-Body.ensures.0 c.number_at-value.ensures
      (sym c.holds.ensures ∙ c.if-not-holds.false) c.with-numbers.ensures;
}

pub returns : goal.returns
returns c =
    subst (λ (t : List ℕ). head_ends c.loop-i.numbers c.loop-i.r.at ≡ head_from head_table t 0 []) c.loop-i.invariant.source
    (head_ended c.loop-i.invariant.read (omega arith))
