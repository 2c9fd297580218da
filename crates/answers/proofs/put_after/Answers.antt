-- `answers::put_after` meets its contract.
-- Assumes nothing.
use native.Mathlib.Omega.{arith}
use Prim.Native.Nat.{ℕ, ◌+◌}
use mathlib.Core.Path.{ap, ◌∙◌}
use mathlib.Core.List.{List, ◌∷◌, ◌++◌}
use lib.ListN.{length, drop}
use Rattle.cells.proofs.Puts.{copy-front}
use Rattle.answers.proofs.put_after.Goals as goal

pub returns : goal.returns
returns c =
    let n = c.args.numbers.now in
    let lent = c.args.cells.now in
    let rest = drop (2 + length n) lent in
    c.put-2.ensures
    ∙ (ap (λ (k : List ℕ). c.high.result ∷ c.low.result ∷ drop 2 k) c.put.ensures
    ∙ (copy-front c.high.result c.low.result n rest lent (omega arith)
    ∙ (λ i. c.high.ensures i ∷ c.low.ensures i ∷ (n ++ rest))))
