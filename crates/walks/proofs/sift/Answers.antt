-- `walks::sift` meets its contract. No number of the word that is left no more is one of its row. Assumes nothing.
use Prim.Native.Nat.{ℕ}
use mathlib.Core.Path.{◌≡◌, sym, ap, ◌∙◌}
use native.Mathlib.Omega.{arith}
use Rattle.sets.specs.ModelBits.{bit, without_of, least_of}
use borrow.Author.Rules.{rules}
use Rattle.walks.specs.ModelWalks.{sifted_of}
use Rattle.sets.proofs.Laws.{bit_le, bit-without, least_at, least-some}
use Rattle.walks.proofs.Finding.{sift_hit, sift_miss, sift-none}
use Rattle.walks.proofs.sift.Goals as goal

pub loop-j-init : goal.loop-j-init
loop-j-init c =
    let word : c.into_iter-j-iterator.result.left ≡ c.args.word = search rules in (
      λ j h e. c.requires.1 j h (ap (λ (m : ℕ). bit m j) (sym word) ∙ e),
      let a = c.args in
          let g = a.given.now in ap (sifted_of a.rows.now g.mates.now a.all g.z a.u a.v a.base) (sym word),
    )

pub overflow_add-p : goal.overflow_add-p
overflow_add-p c = record { fits = omega (arith, c.in-Some.ensures.steps.below) }

pub allows-requires : goal.allows-requires
allows-requires c =
    let s = c.in-Some.ensures.steps in
    let w = least-some c.loop-j.j-iterator.left s.word s.some in
    (omega (arith, s.least, c.loop-j.invariant.0 (least_of c.loop-j.j-iterator.left) w (least_at c.loop-j.j-iterator.left w)), c.requires.2)

pub returns-then-allows : goal.returns-then-allows
returns-then-allows c =
    let a = c.args in
    let g = a.given.now in
    let s = c.in-Some.ensures.steps in
    let h =
    sift_hit a.rows.now g.mates.now a.all g.z a.u a.v a.base c.loop-j.j-iterator.left s.word s.some
    c.in-Some.j s.least c.allows.result c.allows.ensures c.if-allows.true in
    (sym (c.loop-j.invariant.1 ∙ h), s.below)

pub loop-j-preserved : goal.loop-j-preserved
loop-j-preserved c =
    let a = c.args in
    let g = a.given.now in
    let s = c.in-Some.ensures.steps in
    let left = c.loop-j.j-iterator.left in (
      λ j h e. c.loop-j.invariant.0 j h (omega (arith, e, bit_le left j, ap (λ (x : ℕ). bit x j) s.rest, bit-without left (least_of left) j h)),
      c.loop-j.invariant.1
          ∙ sift_miss a.rows.now g.mates.now a.all g.z a.u a.v a.base left s.word s.some c.in-Some.j s.least c.allows.result c.allows.ensures c.if-allows.false c.next.new.self.left
          (s.rest ∙ ap (without_of left) (sym s.least)),
    )

pub returns : goal.returns
returns c =
    let a = c.args in
    let g = a.given.now in
    (sym (c.loop-j.invariant.1 ∙ sift-none a.rows.now g.mates.now a.all g.z a.u a.v a.base c.loop-j.j-iterator.left c.in-None.ensures.steps.0), tt)
