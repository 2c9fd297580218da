use Rattle.totals.proofs.Puts.{put-parts}
use borrow.Author.Rules.{rules}
use Rattle.totals.proofs.writing.put_total.Goals as goal

-- src/writing.rt:29:1
pub returns : goal.returns
returns c =
    let a = c.args in
    put-parts a.out.now _ _ _ a.at a.id a.copies (search rules) c.put_head.ensures c.put_word.ensures c.put_pair.ensures
