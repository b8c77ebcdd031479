use Rattle.std.proofs.Common.{◌∙◌, ap}
use Rattle.lryacc.specs.DeclarationsRead.{is_of_names}
use Rattle.lryacc.proofs.DeclarationsRead.{alias-stated, listed-again, names-codes}
use Rattle.lryacc.proofs.NamesOfOne.{ok-then}
use Rattle.lryacc.proofs.reader.Reader.code_and_alias.Goals as goal

pub code-requires-clause-codes : goal.code-requires-clause-codes
code-requires-clause-codes c = names-codes _ c.requires.names

pub take_alias-requires : goal.take_alias-requires
take_alias-requires c = ap is_of_names c.in_ok-code.ensures.listed.form ∙ c.requires.names

pub returns-in-Some-clause-listed : goal.returns-in-Some-clause-listed
returns-in-Some-clause-listed c =
    ok-then c.state.result
    (λ stated. listed-again c.in_ok-code.ensures.listed (alias-stated c.args.symbol c.in-Some.text c.in_ok-code.ensures.behind c.in-Some.ensures.taken c.state.ensures.stays stated))
    c.state.ensures.stated

pub returns-in-None-clause-listed : goal.returns-in-None-clause-listed
returns-in-None-clause-listed c = listed-again c.in_ok-code.ensures.listed c.in-None.ensures.taken
