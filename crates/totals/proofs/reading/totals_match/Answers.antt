use borrow.Author.Rules.{rules}
use native.Mathlib.Omega.{arith}
use Prim.Native.Nat.{ℕ, ◌+◌, ◌*◌}
use mathlib.Core.Path.{◌≡◌, sym, ap, ◌∙◌}
use lib.ListN.{take}
use Rattle.cluster.specs.Terms.{row_cells}
use Rattle.totals.specs.ModelTotals.{least_above}
use Rattle.totals.proofs.Next.{least_same}
use Rattle.totals.proofs.Match.{from-to, match-start, match-over, match-id, match-copies, match-on, match_end}
use Rattle.totals.proofs.reading.totals_match.Goals as goal
use Rattle.totals.proofs.reading.totals_match.Goals.{else-loop-at-test, then-loop-at-test+else-id-eq0+else-word_at-id+else-pair_at-copies+else-end-at-gt9}

pub loop-at-init : goal.loop-at-init
loop-at-init c = let a = c.args in (search rules, search rules, λ shape. match-start a.bytes.now a.cells.now a.partitions shape (from-to a.bytes.now a.from a.end), search rules, c.gather-count.ensures.2)

-- src/lib.rt:93:13
pub returns-then-id-eq0 : goal.returns-then-id-eq0
returns-then-id-eq0 c =
    -- The least id that is answered is that of the rows.
    let told : c.least_above-id.result ≡ least_above c.loop-at.last (take (c.args.partitions * row_cells) c.args.cells.now) = c.least_above-id.ensures ∙ least_same (take c.gather-count.result c.gather-count.new.ids) (take (c.args.partitions * row_cells) c.args.cells.now) c.loop-at.invariant.4 c.loop-at.last in
    let a = c.args in
    let shape = c.requires.5 in
    let same = c.loop-at.invariant.2 shape in
    sym (same ∙ match-over a.bytes.now a.cells.now a.partitions shape c.loop-at.at a.end (search rules) c.loop-at.invariant.1 c.loop-at.last c.least_above-id.result told c.if-id-eq0.true)

-- src/lib.rt:97:13
pub returns-then-word_at-id : goal.returns-then-word_at-id
returns-then-word_at-id c =
    let told : c.least_above-id.result ≡ least_above c.loop-at.last (take (c.args.partitions * row_cells) c.args.cells.now) = c.least_above-id.ensures ∙ least_same (take c.gather-count.result c.gather-count.new.ids) (take (c.args.partitions * row_cells) c.args.cells.now) c.loop-at.invariant.4 c.loop-at.last in
    let a = c.args in
    let shape = c.requires.5 in
    let same = c.loop-at.invariant.2 shape in
    sym (same ∙ match-id a.bytes.now a.cells.now a.partitions shape c.loop-at.at a.end (search rules) c.loop-at.invariant.1 c.loop-at.last c.least_above-id.result told
    c.if-id-eq0.false (λ q. c.if-word_at-id.true (c.word_at.ensures.0 ∙ q)))

-- src/lib.rt:100:13
pub returns-then-pair_at-copies : goal.returns-then-pair_at-copies
returns-then-pair_at-copies c =
    let told : c.least_above-id.result ≡ least_above c.loop-at.last (take (c.args.partitions * row_cells) c.args.cells.now) = c.least_above-id.ensures ∙ least_same (take c.gather-count.result c.gather-count.new.ids) (take (c.args.partitions * row_cells) c.args.cells.now) c.loop-at.invariant.4 c.loop-at.last in
    let a = c.args in
    let shape = c.requires.5 in
    let same = c.loop-at.invariant.2 shape in
    sym (same ∙ match-copies a.bytes.now a.cells.now a.partitions shape c.loop-at.at a.end (search rules) c.loop-at.invariant.1 c.loop-at.last c.least_above-id.result told
    c.if-id-eq0.false (sym c.word_at.ensures.0 ∙ c.if-word_at-id.false) (λ q. c.if-pair_at-copies.true (c.pair_at.ensures.0 ∙ (q ∙ sym c.copies_of-copies.ensures))))

-- src/lib.rt:90:5
pub loop-at-preserved : goal.loop-at-preserved
loop-at-preserved c =
    let told : c.least_above-id.result ≡ least_above c.loop-at.last (take (c.args.partitions * row_cells) c.args.cells.now) = c.least_above-id.ensures ∙ least_same (take c.gather-count.result c.gather-count.new.ids) (take (c.args.partitions * row_cells) c.args.cells.now) c.loop-at.invariant.4 c.loop-at.last in
    let a = c.args in (
      search rules,
      omega arith,
      λ shape. c.loop-at.invariant.2 shape
          ∙ match-on a.bytes.now a.cells.now a.partitions shape c.loop-at.at a.end (search rules) c.loop-at.invariant.1 c.loop-at.last c.least_above-id.result told
          c.if-id-eq0.false (sym c.word_at.ensures.0 ∙ c.if-word_at-id.false) (sym c.pair_at.ensures.0 ∙ (c.if-pair_at-copies.false ∙ c.copies_of-copies.ensures)),
      c.loop-at.invariant.3,
      c.loop-at.invariant.4,
    )

-- src/lib.rt:83:1
pub returns : goal.returns
returns c =
    let a = c.args in
    let l = take (a.partitions * row_cells) a.cells.now in
    let shape = c.requires.5 in
    let same = c.loop-at.invariant.2 shape in
    -- The least id that is left, after the last that was met.
    let left : (k : ℕ) → c.loop-at-test.last ≡ k → c.least_above.result ≡ least_above k l = λ k e. c.least_above.ensures ∙ (least_same (take c.gather-count.result c.gather-count.new.ids) l c.loop-at.invariant.4 c.loop-at-test.last ∙ ap (λ (x : ℕ). least_above x l) e) in
    elim c.loop-at-test.branch [
      | else-loop-at-test w ↦
          sym (same ∙ match_end a.bytes.now a.cells.now a.partitions shape c.loop-at.at a.end c.loop-at.last c.least_above.result (omega arith) (left c.loop-at.last w.last-is))
      | then-loop-at-test+else-id-eq0+else-word_at-id+else-pair_at-copies+else-end-at-gt9 w ↦
          let told : w.least_above-id.result ≡ least_above c.loop-at.last l = w.least_above-id.ensures ∙ least_same (take c.gather-count.result c.gather-count.new.ids) l c.loop-at.invariant.4 c.loop-at.last in
          sym (same
          ∙ (match-on a.bytes.now a.cells.now a.partitions shape c.loop-at.at a.end (omega arith) c.loop-at.invariant.1 c.loop-at.last w.least_above-id.result told
          w.if-id-eq0.false (sym w.word_at.ensures.0 ∙ w.if-word_at-id.false) (sym w.pair_at.ensures.0 ∙ (w.if-pair_at-copies.false ∙ w.copies_of-copies.ensures))
          ∙ match_end a.bytes.now a.cells.now a.partitions shape (c.loop-at.at + 9) a.end w.least_above-id.result c.least_above.result (omega arith) (left w.least_above-id.result w.last-is)))
    ]
