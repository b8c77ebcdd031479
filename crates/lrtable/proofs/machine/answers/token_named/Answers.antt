use Rattle.std.proofs.Common.{sym}
use Rattle.lrtable.proofs.NamedTokens.{no_text_at, looked_up}
use Rattle.lrtable.proofs.machine.answers.token_named.Goals as goal

pub returns-in-Ok : goal.returns-in-Ok
returns-in-Ok g c =
    let names = c.args.grm.now.token_names in
    let found = looked_up names c.in-Ok.name.now (λ t. g.T.IndexStorage.number t.0) c.token_idx.result c.token_idx.ensures.place c.token_idx.ensures.missing c.token_idx.ensures.apart in
    rw c.in-Ok.ensures.cases.0 at found

pub returns-in-Err : goal.returns-in-Err
returns-in-Err g c = sym (no_text_at c.args.grm.now.token_names c.args.word.now c.requires c.in-Err.ensures.cases.0)
