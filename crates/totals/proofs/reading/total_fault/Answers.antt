use native.Mathlib.Omega.{arith}
use mathlib.Core.Path.{sym, ◌∙◌}
use Rattle.totals.specs.RecordTotalsFaults.{total_at}
use Rattle.totals.proofs.Walk.{fault-id, fault-none, fault-many, fault_rises, fault_falls}
use Rattle.totals.proofs.reading.total_fault.Goals as goal
use Rattle.totals.proofs.reading.total_fault.Goals.{then-id-eq0-via-then-id-eq0, then-id-eq0-via-else-id-eq0+then-copies-eq0, then-id-eq0-via-else-id-eq0+else-copies-eq0+then-copies-gt-MOST}

pub returns-then-id-eq0 : goal.returns-then-id-eq0
returns-then-id-eq0 c =
    let a = c.args in
    let t = total_at a.bytes.now a.start in
    let i = c.word_at-id.ensures.0 in
    let n = c.pair_at-copies.ensures.0 in
    elim c.then-id-eq0.branch [
      | then-id-eq0-via-then-id-eq0 w ↦ sym (fault-id a.last t (sym i ∙ w.if-id-eq0.true))
      | then-id-eq0-via-else-id-eq0+then-copies-eq0 w ↦ sym (fault-none a.last t (λ z. w.if-id-eq0.false (i ∙ z)) (sym n ∙ w.if-copies-eq0.true))
      | then-id-eq0-via-else-id-eq0+else-copies-eq0+then-copies-gt-MOST w ↦
          sym (fault-many a.last t (λ z. w.if-id-eq0.false (i ∙ z)) (λ z. w.if-copies-eq0.false (n ∙ z)) (omega (arith, n, w.if-copies-gt-MOST.true)))
    ]

pub returns-then-id-last : goal.returns-then-id-last
returns-then-id-last c =
    let a = c.args in
    let t = total_at a.bytes.now a.start in
    let i = c.word_at-id.ensures.0 in
    let n = c.pair_at-copies.ensures.0 in
    sym (fault_falls a.last t (λ z. c.if-id-eq0.false (i ∙ z)) (λ z. c.if-copies-eq0.false (n ∙ z)) (omega (arith, n, c.if-copies-gt-MOST.false)) (omega (arith, i, c.if-id-last.true)))

pub returns : goal.returns
returns c =
    let a = c.args in
    let t = total_at a.bytes.now a.start in
    let i = c.word_at-id.ensures.0 in
    let n = c.pair_at-copies.ensures.0 in
    sym (fault_rises a.last t (λ z. c.if-id-eq0.false (i ∙ z)) (λ z. c.if-copies-eq0.false (n ∙ z)) (omega (arith, n, c.if-copies-gt-MOST.false)) (omega (arith, i, c.if-id-last.false)))
