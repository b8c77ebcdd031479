use Rattle.std.proofs.Common.{◌∙◌}
use Rattle.lryacc.proofs.BodiesRead.{ReadsOn-stays}
use Rattle.lryacc.proofs.DeclarationsRead.{stated-same}
use Rattle.lryacc.proofs.reader.Reader.grmtools_action.Goals as goal

pub returns-in_ok-tell-clause-read : goal.returns-in_ok-tell-clause-read
returns-in_ok-tell-clause-read c = ReadsOn-stays c.in_ok-action_part.ensures.read c.tell.ensures.stays

pub returns-in_ok-tell-clause-kept : goal.returns-in_ok-tell-clause-kept
returns-in_ok-tell-clause-kept c = stated-same c.action_part.new.self c.tell.new.self c.tell.ensures.statements ∙ c.in_ok-action_part.ensures.kept
