use Rattle.std.proofs.Common.{refl}
use Rattle.std.specs.String.{string_bytes}
use Rattle.lrreasons.proofs.ConflictLines.{shift_line, reduce_line}
use Rattle.lrreasons.proofs.texts.conflict_line.Goals as goal

pub returns-in-None : goal.returns-in-None
returns-in-None c =
    let e = c.args.conflict.now in
    shift_line string_bytes c.args.grm.now e.token.0 e.production.0 e.state.0 _ _ _ _ c.format.result (rw c.in-None.is refl)
    c.from-state.ensures c.token_name-token.ensures c.in_ok-production.ensures c.format.ensures.ok

pub returns : goal.returns
returns c =
    let e = c.args.conflict.now in
    reduce_line string_bytes c.args.grm.now e.token.0 e.production.0 e.state.0 _ _ _ _ c.format-in-Some.result c.in-Some.other.0 _ (rw c.in-Some.is refl)
    c.from-state.ensures c.token_name-token.ensures c.in_ok-production.ensures c.in_ok-other-in-Some.ensures c.format-in-Some.ensures.ok
