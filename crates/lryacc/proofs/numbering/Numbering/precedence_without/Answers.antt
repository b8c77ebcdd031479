use Rattle.std.proofs.Common.{subst}
use Rattle.lryacc.specs.BodyPrecedences.{IsLastToken}
use Rattle.lryacc.specs.BodyPrecedences.IsPrecedenceWithout.{last, no_level, no_token}
use Rattle.lryacc.specs.Numbered.{names_of}
use Rattle.lryacc.proofs.numbering.Numbering.precedence_without.Goals as goal

pub returns-in_ok-below_of-in-Some : goal.returns-in_ok-below_of-in-Some
returns-in_ok-below_of-in-Some c =
    last c.if-self.true
    (subst (IsLastToken (names_of c.args.self.now) c.args.alternative.now.parts.items) c.in-Some.is c.in_ok-last.ensures)
    c.in_ok-below_of-in-Some.ensures

pub returns-in-None : goal.returns-in-None
returns-in-None c =
    no_token c.if-self.true
    (subst (IsLastToken (names_of c.args.self.now) c.args.alternative.now.parts.items) c.in-None.is c.in_ok-last.ensures)

pub returns-in-Some-without_level : goal.returns-in-Some-without_level
returns-in-Some-without_level c =
    no_level c.if-self.false
    (c.requires.levelled.of_without c.in-Some-without_level.token c.in-Some-without_level.is)
