-- `walks::first` meets its contract. No partition before p suits. Assumes nothing.
use Prim.Native.Nat.{ℕ, ◌*◌, ◌/◌, ◌%◌}
use mathlib.Core.Path.{◌≡◌, sym, ap, ◌∙◌}
use native.Mathlib.Omega.{arith}
use Rattle.sets.specs.ModelBits.{mask_bits, bit, difference_of, below_of}
use Rattle.walks.specs.ModelWalks.{sifted_of}
use Rattle.walks.proofs.Finding.{no_source, no_target, first-none, inside, word_none, word-found}
use borrow.Author.Rules.{rules}
use Rattle.walks.proofs.first.Goals as goal

pub returns-then-u-ge-NODES : goal.returns-then-u-ge-NODES
returns-then-u-ge-NODES c = let a = c.args in (
  first-none a.rows.now a.given.now.former.now a.given.now.mates.now a.all a.given.now.z a.w a.u a.v a.given.now.partitions a.start a.given.now.partitions (omega arith) (omega arith)
      (λ q f g d. no_source a.rows.now a.given.now.former.now a.given.now.mates.now a.all a.given.now.z a.w a.u a.v (λ p. omega (arith, c.type_inv.rows p)) (omega arith) q),
  tt,
)

pub returns-then-v-ge-NODES : goal.returns-then-v-ge-NODES
returns-then-v-ge-NODES c = let a = c.args in (
  first-none a.rows.now a.given.now.former.now a.given.now.mates.now a.all a.given.now.z a.w a.u a.v a.given.now.partitions a.start a.given.now.partitions (omega arith) (omega arith) (λ q f g d. no_target a.rows.now a.given.now.former.now a.given.now.mates.now a.all a.given.now.z a.w a.u a.v (omega arith) q),
  tt,
)

pub loop-p-init : goal.loop-p-init
loop-p-init c = (search rules, search rules, search rules, λ q a b d. absurd (omega arith))

pub sift-requires : goal.sift-requires
sift-requires c =
    let a = c.args in
    let e = c.difference-left.ensures ∙ ap (difference_of c.candidates-word.result) c.below.ensures in (
      omega arith,
      λ j l b. inside a.rows.now a.given.now.former.now a.given.now.mates.now a.all a.given.now.z a.w a.u a.v a.given.now.partitions a.held.now a.given.now.had.now (omega arith) (search rules) (search rules) (omega arith) (omega arith) c.loop-p.p (omega arith)
          c.candidates-word.result c.candidates-word.ensures j l (sym (ap (λ (x : ℕ). bit x j) e) ∙ b),
      c.requires.3.tight,
    )

pub returns-in-Some : goal.returns-in-Some
returns-in-Some c =
    let a = c.args in
    -- What is found is sifted from the candidates from p on.
    let found : c.in-Some.j ≡ sifted_of a.rows.now a.given.now.mates.now a.all a.given.now.z a.u a.v (mask_bits * (c.loop-p.p / mask_bits))
    (difference_of c.candidates-word.result (below_of (c.loop-p.p % mask_bits))) =
    c.in-Some.ensures.0
    ∙ ap (sifted_of a.rows.now a.given.now.mates.now a.all a.given.now.z a.u a.v (mask_bits * (c.loop-p.p / mask_bits)))
    (c.difference-left.ensures ∙ ap (difference_of c.candidates-word.result) c.below.ensures) in
    word-found a.rows.now a.given.now.former.now a.given.now.mates.now a.all a.given.now.z a.w a.u a.v a.given.now.partitions a.held.now a.given.now.had.now (omega arith) (search rules) (search rules) (omega arith) (omega arith) c.loop-p.p (omega arith)
    c.candidates-word.result c.candidates-word.ensures c.in-Some.j found
    a.start (omega arith) c.in-Some.ensures.1 c.loop-p.invariant.3

pub loop-p-preserved : goal.loop-p-preserved
loop-p-preserved c =
    let a = c.args in
    let none : mask_bits ≡ sifted_of a.rows.now a.given.now.mates.now a.all a.given.now.z a.u a.v (mask_bits * (c.loop-p.p / mask_bits))
    (difference_of c.candidates-word.result (below_of (c.loop-p.p % mask_bits))) =
    c.in_default.ensures.0
    ∙ ap (sifted_of a.rows.now a.given.now.mates.now a.all a.given.now.z a.u a.v (mask_bits * (c.loop-p.p / mask_bits)))
    (c.difference-left.ensures ∙ ap (difference_of c.candidates-word.result) c.below.ensures) in (
      omega arith,
      search rules,
      search rules,
      word_none a.rows.now a.given.now.former.now a.given.now.mates.now a.all a.given.now.z a.w a.u a.v a.given.now.partitions a.held.now a.given.now.had.now (omega arith) (search rules) (search rules) (omega arith) (omega arith) c.loop-p.p (omega arith)
          c.candidates-word.result c.candidates-word.ensures mask_bits none
          a.start (omega arith) c.loop-p.invariant.3,
    )

pub returns : goal.returns
returns c = let a = c.args in
    (first-none a.rows.now a.given.now.former.now a.given.now.mates.now a.all a.given.now.z a.w a.u a.v a.given.now.partitions a.start c.loop-p.p (omega arith) (omega arith) c.loop-p.invariant.3, tt)
