use Rattle.lryacc.proofs.AllBodiesRead.{on_ok}
use Rattle.lryacc.specs.DeclarationsRead.{symbol_here}
use Rattle.std.proofs.Common.{◌≡◌, Some, ◌∙◌}
use Rattle.lryacc.proofs.DeclarationsRead.{behind-here, code-stated, here-stays, number-here, stays-listed}
use Rattle.lryacc.proofs.NamesOfOne.{ok-then}
use Rattle.lryacc.proofs.reader.Reader.code.Goals as goal

pub returns-in-Some-clause-listed : goal.returns-in-Some-clause-listed
returns-in-Some-clause-listed c =
    ok-then c.state.result
    (λ stated. code-stated c.args.symbol c.requires.codes (behind-here c.args.self.now c.args.symbol c.requires.behind) c.in-Some.ensures.taken c.take.ensures.statements c.state.ensures.stays stated)
    c.state.ensures.stated

pub returns-in-None-clause-listed : goal.returns-in-None-clause-listed
returns-in-None-clause-listed c = stays-listed c.in-None.ensures.taken c.take.ensures.statements

pub returns-in-Some-clause-behind : goal.returns-in-Some-clause-behind
returns-in-Some-clause-behind c =
    on_ok c.state.result (symbol_here c.state.new.self ≡ Some c.args.symbol)
    (here-stays c.state.ensures.stays ∙ number-here c.args.symbol c.requires.behind c.in-Some.ensures.taken)

pub returns-in-None-clause-behind : goal.returns-in-None-clause-behind
returns-in-None-clause-behind c = here-stays c.in-None.ensures.taken ∙ behind-here c.args.self.now c.args.symbol c.requires.behind
