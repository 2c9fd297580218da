-- `layout_head::reading::read_head` meets its contract: before each field, the numbers before it are read (`HeadSteps.antt`).
-- Assumes nothing.
use mathlib.Core.Path.{◌≡◌}
use Rattle.layout_head.proofs.HeadSteps.{HeadTo}
use Rattle.layout_head.proofs.reading.read_head.Given as goal

abbrev pub invariant-loop-i : goal.invariant-loop-i
invariant-loop-i l = record {
  source : l.r.src.now ≡ l.bytes;
  read : HeadTo l.r.src.now l.numbers l.i l.r.at;
}
