-- `next` of `sets::members::Members` meets its contract: the least member is one below the width, and fewer are left without it. Assumes nothing.
use borrow.Author.Rules.{rules}
use native.Mathlib.Omega.{arith}
use Prim.Native.Nat.{◌<◌, ◌^◌}
use mathlib.Core.Path.{refl}
use Rattle.sets.specs.ModelBits.{mask_bits, count_of}
use Rattle.sets.proofs.Laws.{least-some}
use Rattle.sets.proofs.Scan.{fewer}
use Rattle.sets.proofs.members.MembersIterator.next.Goals as goal

pub returns-clause-steps : goal.returns-clause-steps
returns-clause-steps c =
    let left = c.args.self.now.left in
    let word : left < 2 ^ mask_bits = omega arith in record {
      word = word;
      some = c.if-self-eq0.false;
      least = c.least-least.ensures;
      below = omega (arith, c.least-least.ensures, least-some left word c.if-self-eq0.false);
      rest = c.rest-self.ensures;
    }

pub returns-clause-goes : goal.returns-clause-goes
returns-clause-goes c =
    let left = c.args.self.now.left in
    let less : count_of c.rest-self.result < count_of left = fewer left _ _ (omega arith) c.if-self-eq0.false refl c.rest-self.ensures in
    search (rules, less)
