use Rattle.std.proofs.Common.{inr, refl}
use Rattle.std.specs.Option.{option_map}
use Rattle.lrconflicts.proofs.EntryTokens.{token_is}
use Rattle.lrreasons.proofs.reasons.Reasons.reason.Goals as goal

pub returns-in-Ok-clause-reason : goal.returns-in-Ok-clause-reason
returns-in-Ok-clause-reason c =
    let k = c.args.conflict in
    let token = token_is k.token.0 k.production.0 k.state.0 (option_map (λ q. q.0) k.other) in
    let told = c.in-Ok.ensures in
    record {
      ambiguity = c.in_ok-ambiguity.ensures.proof;
      example = record {
        real = told.real;
        own = rw token told.own;
        least = rw token told.least;
        input = told.input;
        one = told.one;
        other = told.other;
      };
      some = inr refl;
    }
