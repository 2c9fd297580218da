-- `totals::reading::read_totals` meets its contract: the reading ends at a row and at the record's end; a field that is not whole or a total
-- with a fault stops it; any other total is one more (`Walk.antt`).
-- Assumes nothing.
use Prim.Native.Nat.{ℕ, ◌+◌}
use mathlib.Core.Path.{◌≡◌, refl, sym, ap, ap₂, ◌∙◌, subst}
use mathlib.Core.List.{List, []}
use lib.ListN.{length}
use native.Mathlib.Omega.{arith}
use Rattle.std.specs.Prelude.{Result, Ok, Err}
use Rattle.cluster.specs.TermsRefusal.{refusal_of as refusal_number}
use Rattle.fields.specs.declared.Refused.{Refused}
use Rattle.fields.proofs.RecordField.{refusal-some}
use Rattle.fields.specs.RecordField.{refusal_of, place_of}
use Rattle.totals.specs.RecordTotalsFaults.{totals_refused, totals_from}
use Rattle.totals.specs.ModelTotalsRead.{totals_say, Ends, EndsIn}
use Rattle.totals.proofs.Walk.{To, to_start, to_end, to_row, to_halt, to-fault, to-next, total-width}
use Rattle.totals.proofs.reading.read_totals.Goals as goal

-- What the reading has to say.
abbrev Say : ℕ → Result ℕ Refused → List ℕ → Type 0
Say from t s = (totals_say s from t ≡ totals_from (length s) s from 0 []) × EndsIn (length s) from t

ends_of : {s : List ℕ} {from last at : ℕ} → To s from last at → Ends (length s) from at
ends_of k = record { after = k.after; even = k.even; inside = k.inside }

pub loop-r-init : goal.loop-r-init
loop-r-init c = record { source = refl; read = to_start c.args.bytes.now c.args.from }

pub returns-then-row_begins : goal.returns-then-row_begins
returns-then-row_begins c =
    let k = c.loop-r.invariant.read in
    subst (Say c.args.from (Ok c.loop-r.r.at)) c.loop-r.invariant.source
    (to_row k c.loop-r-test.true (sym c.row_begins.ensures ∙ c.if-row_begins.true), ends_of k)

pub returns-in_default : goal.returns-in_default
returns-in_default c =
    subst (Say c.args.from (Err c.refused.result)) c.loop-r.invariant.source (
      ap₂ totals_refused (c.refused.ensures.0 ∙ ap refusal_of c.in_default.is) (c.refused.ensures.1 ∙ ap place_of c.in_default.is)
          ∙ to_halt c.loop-r.invariant.read c.loop-r-test.true (sym c.row_begins.ensures ∙ c.if-row_begins.false) c.in_default.ensures.0,
      tt,
    )

pub total_fault-requires : goal.total_fault-requires
total_fault-requires c = (total-width c.in-Body.ensures.1).2

pub returns-in-Err : goal.returns-in-Err
returns-in-Err c =
    let e = c.in-Err.ensures in
    subst (Say c.args.from (Err (record { refusal = c.in-Err.refusal; at = c.loop-r.r.at }))) c.loop-r.invariant.source (
      ap (λ (n : ℕ). totals_refused n c.loop-r.r.at) e
          ∙ to-fault c.loop-r.invariant.read c.loop-r-test.true (sym c.row_begins.ensures ∙ c.if-row_begins.false) c.in-Body.ensures.0
          (λ z. absurd (omega (arith, refusal-some c.in-Err.refusal, e, z))),
      tt,
    )

pub loop-r-preserved : goal.loop-r-preserved
loop-r-preserved c =
    let s : List ℕ = c.loop-r.r.src.now in
    let wide = total-width c.in-Body.ensures.1 in
    let next = to-next c.loop-r.invariant.read c.loop-r-test.true (sym c.row_begins.ensures ∙ c.if-row_begins.false) c.in-Body.ensures.0
    (sym c.total_fault.ensures ∙ ap refusal_number c.in_default-total_fault.is) wide.0 wide.1 wide.2 in
    record {
      source = c.loop-r.invariant.source;
      read = subst (λ (n : ℕ). To s c.args.from n (c.in-Body.start + c.in-Body.len)) (sym c.word_at-last.ensures.0) next;
    }

pub returns : goal.returns
returns c =
    let k = c.loop-r.invariant.read in
    subst (Say c.args.from (Ok c.loop-r.r.at)) c.loop-r.invariant.source (to_end k c.loop-r-test.false, ends_of k)
