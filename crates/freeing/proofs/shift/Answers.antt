-- `freeing::shift` meets its contract. Assumes nothing.
use Prim.Native.Nat.{◌+◌, ◌-◌}
use native.Mathlib.Omega.{arith}
use Rattle.freeing.proofs.Freeing.{shift-copied}
use Rattle.freeing.proofs.shift.Goals as goal

pub returns : goal.returns
returns c =
    let a = c.args in
    let copied = c.copy_within.ensures.by_index in
    shift-copied a.cells.now c.copy_within.new.self a.start a.k a.n (a.start + a.k + a.n - (a.start + a.k)) (omega arith) c.requires c.copy_within.ensures.len
    copied.0 copied.1 copied.2
