-- `walks::renewed` meets its contract. Assumes nothing.
use native.Mathlib.Omega.{arith}
use lib.Dec.{ltb}
use Prim.Native.Nat.{ℕ, ◌-◌}
use mathlib.Core.Path.{◌≡◌, sym, ap, ◌∙◌}
use Rattle.std.specs.Prelude.{unwrap_or}
use Rattle.sums.specs.ModelSums.{first_from}
use Rattle.walks.specs.ModelWalks.{suits_at}
use Rattle.walks.proofs.Renewing.{found_some, next_from, renewed-row, renewed-store, stands-row, stands-store}
use Rattle.walks.proofs.renewed.Goals as goal

pub returns-then-room : goal.returns-then-room
returns-then-room c = let a = c.args in (
  sym c.if-room.true ∙ c.room.ensures
      ∙ sym (stands-store a.rows.now a.given.now.former.now a.given.now.partitions a.given.now.mates.now a.all a.given.now.z a.given.now.caps.now a.q a.u a.v (omega arith)),
  sym (renewed-store a.rows.now a.given.now.former.now a.given.now.partitions a.given.now.mates.now a.all a.given.now.z a.q a.u a.v (omega arith)),
  omega arith,
)

pub returns-else-room : goal.returns-else-room
returns-else-room c = let a = c.args in (
  sym c.if-room.false ∙ c.room.ensures
      ∙ sym (stands-store a.rows.now a.given.now.former.now a.given.now.partitions a.given.now.mates.now a.all a.given.now.z a.given.now.caps.now a.q a.u a.v (omega arith)),
  sym (renewed-store a.rows.now a.given.now.former.now a.given.now.partitions a.given.now.mates.now a.all a.given.now.z a.q a.u a.v (omega arith)),
  tt,
)

pub returns : goal.returns
returns c = let a = c.args in
    let e : unwrap_or c.first.result a.given.now.partitions ≡ next_from a.rows.now a.given.now.former.now a.given.now.partitions a.given.now.mates.now a.all a.given.now.z a.q a.u a.v =
    c.first.ensures.0
    ∙ ap (λ (w : ℕ). first_from (suits_at a.rows.now a.given.now.former.now a.given.now.mates.now a.all a.given.now.z w a.u a.v) (a.given.now.partitions - a.q) a.q)
    c.arc_cost-w.ensures.0 in
    let f = found_some c.first.result a.given.now.partitions c.first.ensures.1 in (
      f.0 ∙ ap (λ (r : ℕ). ltb r a.given.now.partitions) e
          ∙ sym (stands-row a.rows.now a.given.now.former.now a.given.now.partitions a.given.now.mates.now a.all a.given.now.z a.given.now.caps.now a.q a.u a.v (omega arith)),
      e ∙ sym (renewed-row a.rows.now a.given.now.former.now a.given.now.partitions a.given.now.mates.now a.all a.given.now.z a.q a.u a.v (omega arith)),
      f.1,
    )
