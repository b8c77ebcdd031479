use Rattle.std.proofs.Common.{ap}
use Rattle.lryacc.specs.Bodies.{is_aside}
use Rattle.lryacc.proofs.BodiesRead.{GoesOn-equals, ReadsOn-passes}
use Rattle.std.proofs.Common.{◌≡◌}
use Rattle.lryacc.specs.DeclarationsRead.{stated}
use Rattle.lryacc.proofs.AllBodiesRead.{on_ok}
use Rattle.lryacc.proofs.DeclarationsRead.{stated-same}
use Rattle.lryacc.proofs.reader.Reader.bison_part.Goals as goal

pub returns-else-not-matches-clause-read : goal.returns-else-not-matches-clause-read
returns-else-not-matches-clause-read c =
    ReadsOn-passes c.args.body.now c.args.lexeme (c.pass.ensures.passes c.requires.small) c.requires.here (ap is_aside c.in-Tag.is)

pub returns-in-Equals-clause-read : goal.returns-in-Equals-clause-read
returns-in-Equals-clause-read c =
    GoesOn-equals _ _ c.args.body.now c.args.lexeme c.old_equals.result c.requires.here c.in-Equals.is c.old_equals.ensures.passes

pub returns-else-not-matches-clause-kept : goal.returns-else-not-matches-clause-kept
returns-else-not-matches-clause-kept c = stated-same c.args.self.now c.pass.new.self c.pass.ensures.statements

pub returns-in-Equals-clause-kept : goal.returns-in-Equals-clause-kept
returns-in-Equals-clause-kept c = on_ok c.old_equals.result (stated c.old_equals.new.self ≡ stated c.args.self.now) (stated-same c.args.self.now c.old_equals.new.self c.old_equals.ensures.statements)
