-- `deciding::consider` meets its contract. Assumes nothing.
use Prim.Native.Nat.{ℕ}
use lib.ListN.{get_or}
use Rattle.sets.proofs.Laws.{member-false}
use mathlib.Core.Path.{refl, sym, ap, ◌∙◌}
use Rattle.evens.specs.ModelEvens.{wanted_of}
use Rattle.attempts.proofs.Ends.{unwanted_keeps}
use Rattle.deciding.proofs.consider.Goals as goal

pub returns-then-not-member : goal.returns-then-not-member
returns-then-not-member c =
    let a = c.args in (
      refl,
      c.requires.4,
      c.requires.7,
      unwanted_keeps a.given.now.partitions a.given.now.former.now a.given.now.mates.now a.given.now.caps.now a.all a.given.now.z a.even.now a.p a.b a.rows.now a.leads.now a.wanted c.requires.1
          c.requires.6 (member-false a.wanted a.b (sym c.member.ensures ∙ c.if-not-member.true)),
      c.requires.6,
    )

pub returns-then-new-row : goal.returns-then-new-row
returns-then-new-row c =
    let a = c.args in (
      c.decide.ensures.0,
      c.decide.ensures.1,
      c.decide.ensures.2,
      c.decide.ensures.3,
      c.requires.6 ∙ ap (λ (r : ℕ). wanted_of a.even.now r (get_or a.given.now.former.now a.p 0)) (sym c.if-new-row.true),
    )

pub returns : goal.returns
returns c =
    let a = c.args in (
      c.decide.ensures.0,
      c.decide.ensures.1,
      c.decide.ensures.2,
      c.decide.ensures.3,
      c.wanted.ensures ∙ ap (wanted_of a.even.now (get_or c.decide.new.rows a.p 0)) c.cell.ensures,
    )
