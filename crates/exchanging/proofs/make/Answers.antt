-- `exchanging::make` meets its contract. The loop has made the exchanges of the arcs that it passed. Assumes nothing.
use native.Mathlib.Omega.{arith}
use Rattle.exchanging.proofs.Making.{exchanged-row, exchanged-store, changed-none, changed_row}
use Rattle.exchanging.specs.ModelExchanged.{exchanged}
use Rattle.sets.specs.ModelBits.{with_of, without_of}
use Rattle.swaps.specs.ModelLeaves.{ChangedIn}
use Rattle.swaps.specs.ModelSwaps.{Tight}
use Rattle.holders.specs.ModelHolders.{Held}
use lib.ListN.{get_or, set}
use mathlib.Core.List.{List}
use mathlib.Core.Path.{◌≡◌, refl, sym, ap, ◌∙◌, subst}
use Prim.Native.Nat.{ℕ, ◌+◌}
use Rattle.exchanging.proofs.make.Goals.{then-p-given, else-p-given}
use Rattle.exchanging.proofs.make.Goals as goal

pub loop-i-init : goal.loop-i-init
unfolding exchanged
loop-i-init c =
    (refl, changed-none 0 c.args.rows.now, c.requires.4.tight, c.requires.4.held)

pub loop-i-preserved : goal.loop-i-preserved
loop-i-preserved c =
    let a = c.args in
    let y : ℕ → ℕ = λ t. get_or a.y.now t 0 in
    let q : ℕ → ℕ = λ t. get_or a.q.now t 0 in
    let v : ℕ = with_of (without_of (get_or c.loop-i.rows (q c.loop-i.i) 0) (y (c.loop-i.i + 1))) (y c.loop-i.i) in
    elim c.if-p-given.branch [
      | then-p-given w ↦
          let e : c.if-p-given.rows ≡ set c.loop-i.rows (q c.loop-i.i) v = w.rows-is ∙ w.swap.ensures.0 in (
            e ∙ exchanged-row a.given.now.partitions y q a.rows.now c.loop-i.i c.loop-i.rows c.loop-i.invariant.0 w.if-p-given.true,
            subst (λ (x : List ℕ). ChangedIn c.if-p-given.changed a.rows.now x) (sym e)
                (subst (λ (x : ℕ). ChangedIn x a.rows.now (set c.loop-i.rows (q c.loop-i.i) v)) (sym w.changed-is)
                (changed_row c.loop-i.changed w.mark-changed.result (q c.loop-i.i) v a.rows.now c.loop-i.rows w.mark-changed.ensures c.loop-i.invariant.1)),
            subst (λ (x : List ℕ). Tight a.given.now.mates.now a.given.now.z x a.given.now.partitions c.if-p-given.tight) (sym w.rows-is)
                (subst (Tight a.given.now.mates.now a.given.now.z w.swap.new.rows a.given.now.partitions) (sym w.tight-is) w.swap.ensures.1.tight),
            subst (λ (x : List ℕ). Held x a.given.now.partitions c.if-p-given.held) (sym w.rows-is)
                (subst (Held w.swap.new.rows a.given.now.partitions) (sym w.held-is) w.swap.ensures.1.held),
          )
      | else-p-given w ↦ (
        w.rows-is ∙ exchanged-store a.given.now.partitions y q a.rows.now c.loop-i.i c.loop-i.rows c.loop-i.invariant.0 w.if-p-given.false,
        subst (λ (x : List ℕ). ChangedIn c.if-p-given.changed a.rows.now x) (sym w.rows-is)
            (subst (λ (x : ℕ). ChangedIn x a.rows.now c.loop-i.rows) (sym w.changed-is) c.loop-i.invariant.1),
        subst (λ (x : List ℕ). Tight a.given.now.mates.now a.given.now.z x a.given.now.partitions c.if-p-given.tight) (sym w.rows-is)
            (subst (Tight a.given.now.mates.now a.given.now.z c.loop-i.rows a.given.now.partitions) (sym w.tight-is) c.loop-i.invariant.2),
        subst (λ (x : List ℕ). Held x a.given.now.partitions c.if-p-given.held) (sym w.rows-is)
            (subst (Held c.loop-i.rows a.given.now.partitions) (sym w.held-is) c.loop-i.invariant.3),
      )
    ]

pub returns : goal.returns
returns c =
    let a = c.args in
    let e : c.loop-i.i ≡ a.m = omega arith in (
      c.loop-i.invariant.0 ∙ ap (λ (n : ℕ). exchanged a.given.now.partitions (λ t. get_or a.y.now t 0) (λ t. get_or a.q.now t 0) n a.rows.now) e,
      c.loop-i.invariant.1,
      record { tight = c.loop-i.invariant.2; held = c.loop-i.invariant.3 },
    )
