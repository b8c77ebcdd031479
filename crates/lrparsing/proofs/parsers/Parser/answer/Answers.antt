use Rattle.lrparsing.proofs.parsers.Parser.answer.Goals as goal

pub answer_tokens-requires : goal.answer_tokens-requires
answer_tokens-requires c =
    let p = c.args.self.now in
    let named = rw c.in-Ok.is at (c.in_ok-tokens.ensures.named p.machine.grammar (rw c.as_slice.ensures.value p.spelled)) in
    rw c.as_slice-in-Ok.ensures.value named
