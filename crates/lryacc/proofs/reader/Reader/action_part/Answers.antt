use Rattle.std.proofs.Common.{◌∙◌, arith, sym}
use Rattle.lryacc.proofs.BodyReach.{action-no_aside, reach-one}
use Rattle.lryacc.proofs.BodiesRead.{IsBody-action, ReadsOn-takes}
use Rattle.lryacc.proofs.DeclarationsRead.{stated-same}
use Rattle.lryacc.proofs.reader.Reader.action_part.Goals as goal

pub returns-clause-read : goal.returns-clause-read
returns-clause-read c =
    let passes = c.pass.ensures.passes c.requires.small in
    ReadsOn-takes
    record {
      file = passes.file;
      on = omega (arith, passes.at);
      parts = λ from so_far.
          IsBody-action _ _ _ _ _ _ _ _ _ c.args.lexeme c.take-name.result passes.at c.in_ok-add.ensures.parts c.in_ok-add.ensures.precedence c.requires.here c.requires.is so_far;
      reach =
          c.in_ok-add.ensures.span
          ∙ sym (reach-one _ _ _ _ c.args.lexeme passes.at c.requires.here (action-no_aside c.args.lexeme.kind c.requires.is));
    }
    c.take-name.result c.take-name.ensures.taken

pub returns-clause-kept : goal.returns-clause-kept
returns-clause-kept c = stated-same c.args.self.now c.take-name.new.self (c.take-name.ensures.statements ∙ c.pass.ensures.statements)
