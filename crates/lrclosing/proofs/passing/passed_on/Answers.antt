use Rattle.std.proofs.Common.{◌∙◌, ap, length}
use Rattle.std.proofs.lemmas.List.{length-replicate}
use Rattle.lrspec.specs.grammars.Grammar.{token_count, rest}
use Rattle.lrclosing.proofs.PassedOn.{made_grown}
use Rattle.std.specs.Option.{option_copied}
use Rattle.lrclosing.proofs.VisitedItems.{passed_to_none}
use Rattle.lrclosing.proofs.passing.passed_on.Goals as goal

pub returns-in_ok-made-in-None-clause-changed : goal.returns-in_ok-made-in-None-clause-changed
returns-in_ok-made-in-None-clause-changed g c = rw c.in-None.is (made_grown (token_count c.args.grm.now) c.pass_on.new.row c.pass_on.ensures.passed.len)

pub pass_on-changed-requires-clause-len : goal.pass_on-changed-requires-clause-len
pass_on-changed-requires-clause-len g c = rw c.in-Some.is at c.requires.len

pub returns-in-Some-clause-passed : goal.returns-in-Some-clause-passed
returns-in-Some-clause-passed g c = rw c.in-Some.is c.pass_on-changed.ensures.passed

pub returns-in-Some-clause-changed : goal.returns-in-Some-clause-changed
returns-in-Some-clause-changed g c = rw c.in-Some.is c.pass_on-changed.ensures.changed

pub returns-in_ok-made-in-None-clause-passed : goal.returns-in_ok-made-in-None-clause-passed
returns-in_ok-made-in-None-clause-passed g c =
    rw c.in-None.is (passed_to_none c.args.grm.now (rest c.args.grm.now (g.T.IndexStorage.number c.args.pidx.0) c.args.from) (option_copied c.args.ctx) _ c.in_ok-made-in-None.made c.pass_on.new.row
    c.in_ok-made-in-None.ensures.bits c.pass_on.ensures.passed)

pub pass_on-requires-clause-len : goal.pass_on-requires-clause-len
pass_on-requires-clause-len g c =
    ap length c.in_ok-made-in-None.ensures.bits ∙ length-replicate c.from.result _ ∙ c.from.ensures ∙ c.tokens_len.ensures.value
