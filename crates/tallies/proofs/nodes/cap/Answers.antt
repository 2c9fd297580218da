-- `tallies::nodes::cap` meets its contract.
-- Assumes nothing.
use native.Mathlib.Omega.{arith}
use Prim.Native.Nat.{ℕ, ◌/◌}
use mathlib.Core.Path.{ap}
use native.Mathlib.Nat.{div-zero}
use Rattle.tallies.proofs.nodes.cap.Goals as goal

pub returns-then-size-eq0 : goal.returns-then-size-eq0
returns-then-size-eq0 c =
    let a = c.args in
    omega (arith, ap (λ (s : ℕ). a.usable / s) c.if-size-eq0.true, div-zero a.usable)
