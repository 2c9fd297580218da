-- `head_writing::put_number` meets its contract: the head, and then the number in its bytes.
-- Assumes nothing.
use native.Mathlib.Omega.{arith}
use mathlib.Core.Path.{◌≡◌}
use mathlib.Core.Logic.{⊎_elim}
use Rattle.fields.proofs.Puts.{put_value}
use Rattle.head_writing.proofs.put_number.Goals as goal

pub put_head-requires : goal.put_head-requires
put_head-requires c = (omega arith, ⊎_elim (λ e. omega arith) (⊎_elim (λ e. omega arith) (λ e. omega arith)) c.requires.2)

pub returns-then-width-eq1 : goal.returns-then-width-eq1
returns-then-width-eq1 c =
    let a = c.args in
    put_value a.out.now _ _ a.at a.tag a.width 1 a.value c.put_head.ensures c.put_byte.ensures c.if-width-eq1.true (omega arith) (omega arith)

pub returns-then-width-eq2 : goal.returns-then-width-eq2
returns-then-width-eq2 c =
    let a = c.args in
    put_value a.out.now _ _ a.at a.tag a.width 2 a.value c.put_head.ensures c.put_pair.ensures c.if-width-eq2.true (omega arith) (omega arith)

pub returns : goal.returns
returns c =
    let a = c.args in
    let four : a.width ≡ 4 = ⊎_elim (λ q. absurd (c.if-width-eq1.false q)) (⊎_elim (λ q. absurd (c.if-width-eq2.false q)) (λ q. q)) c.requires.2 in
    put_value a.out.now _ _ a.at a.tag a.width 4 a.value c.put_head.ensures c.put_word.ensures four (omega arith) (omega arith)
