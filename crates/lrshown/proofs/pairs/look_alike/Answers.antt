-- the words are those of both trees
use Rattle.lrshown.proofs.SameTexts.{same_texts}
use Rattle.lrshown.proofs.pairs.look_alike.Goals as goal

pub returns : goal.returns
returns c = λ ts us h k.
    let one = c.in_ok-words.ensures ts h in
    let other = c.in_ok-others.ensures us k in
    rw (c.eq.ensures, ← one, ← other) (same_texts c.in_ok-words.words.items c.in_ok-others.others.items)
