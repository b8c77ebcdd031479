use Rattle.std.proofs.Common.{◌∙◌, ap, false, length}
use Rattle.std.proofs.lemmas.List.{length-replicate}
use Rattle.lrspec.specs.grammars.Grammar.{token_count}
use Rattle.lrclosing.proofs.LeadsOfRule.{lead_made}
use Rattle.lrclosing.proofs.closer.lead_of.Goals as goal

pub returns : goal.returns
returns g c = λ a h.
    let number = g.T.IndexStorage.number in
    rw c.from.ensures
    (lead_made c.args.grm.now (number c.args.pidx.0) a (number c.args.rule.0) _ c.in_ok-begins.begins c.put_firsts-begun.new.row c.put_firsts-begun.result.is_nullable
    c.requires.of.shape c.requires.first h c.in_ok-begins.ensures c.put_firsts-begun.ensures.put c.put_firsts-begun.ensures.nullable)

pub put_firsts-begun-requires-clause-len : goal.put_firsts-begun-requires-clause-len
put_firsts-begun-requires-clause-len g c = ap length c.in_ok-begins.ensures ∙ length-replicate (token_count c.args.grm.now) false
