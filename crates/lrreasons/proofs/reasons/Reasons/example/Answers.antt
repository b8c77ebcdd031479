use Rattle.std.specs.Option.{option_map}
use Rattle.lrconflicts.proofs.EntryTokens.{one_is}
use Rattle.lrreasons.proofs.reasons.Reasons.example.Goals as goal

pub returns-clause-one : goal.returns-clause-one
returns-clause-one c =
    let k = c.args.conflict in
    rw (one_is k.token.0 k.production.0 k.state.0 (option_map (λ q. q.0) k.other), ← c.self.view_is)
    (rw (c.as_slice-2.ensures.value, c.as_ref-read.ensures.value) at c.in_ok-one.ensures)
