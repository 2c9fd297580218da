-- `exchanging::swap` meets its contract. Assumes nothing.
use Prim.Native.Nat.{ℕ}
use mathlib.Core.Path.{◌≡◌, sym, ap, ◌∙◌, subst}
use native.Mathlib.Omega.{arith}
use lib.ListN.{get_or, set}
use Rattle.sets.specs.ModelBits.{with_of, without_of}
use Rattle.swaps.proofs.Tightening.{tight-set}
use Rattle.holders.specs.ModelHolders.{Held}
use Rattle.exchanging.proofs.swap.Goals as goal

pub returns : goal.returns
returns c =
    let a = c.args in
    let e : c.with-row.result ≡ with_of (without_of (get_or a.rows.now a.p 0) a.u) a.v =
    c.with-row.ensures ∙ ap (λ (y : ℕ). with_of y a.v) c.without.ensures in (
      ap (set a.rows.now a.p) e,
      record {
        tight = tight-set a.given.now.mates.now a.given.now.z a.rows.now a.given.now.partitions a.tight.now a.p c.with-row.result c.tight.result c.requires.3.tight (omega arith) (omega arith) c.tight.ensures;
        held = subst (λ (y : ℕ). Held (set a.rows.now a.p y) a.given.now.partitions c.exchange.new.held) (sym e)
            (c.exchange.ensures a.rows.now a.given.now.partitions (omega arith) (omega arith) (omega arith) c.requires.3.held);
      },
    )
