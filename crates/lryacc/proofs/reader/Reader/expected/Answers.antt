use Rattle.std.proofs.Common.{◌∙◌, ap}
use Rattle.lryacc.specs.DeclarationsRead.{all_stated}
use Rattle.lryacc.proofs.DeclarationsRead.{number-expected, states}
use Rattle.lryacc.proofs.reader.Reader.expected.Goals as goal

pub returns-clause-said : goal.returns-clause-said
returns-clause-said c = λ none.
    number-expected c.state.new.self c.args.is_of_shifts c.requires c.in_ok-number.ensures.taken c.want.ensures.statements
    (states c.expectation.result c.state.ensures.stays c.in_ok-state.ensures.stated ∙ ap (all_stated c.want.new.self) c.expectation.ensures)
    none
