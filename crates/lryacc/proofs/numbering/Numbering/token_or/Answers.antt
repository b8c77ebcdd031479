use Rattle.std.proofs.Common.{◌++◌, ◌∷◌, [], Some, subst, sym}
use Rattle.lryacc.specs.declared.contents.BodyPart.{BodyPart}
use Rattle.lryacc.specs.BodyPrecedences.{IsLastToken}
use Rattle.lryacc.specs.BodyPrecedences.IsLastToken.{action, rule, token}
use Rattle.lryacc.specs.NamedSymbols.{IsNamed}
use Rattle.lryacc.specs.Numbered.{names_of}
use Rattle.lryacc.proofs.numbering.Numbering.token_or.Goals as goal

pub returns-in_default : goal.returns-in_default
returns-in_default c = λ parts so_far.
    subst (λ (more : BodyPart). IsLastToken (names_of c.args.self.now) (parts ++ more ∷ []) c.args.last) (sym c.in_default.is)
    (action c.in_default.field-0 c.in_default.field-1 so_far)

pub returns-in-Some-Token : goal.returns-in-Some-Token
returns-in-Some-Token c = λ parts so_far.
    let named = subst (IsNamed (names_of c.args.self.now) c.in-Symbol.lexeme) c.in-Some-Token.field-0-is (c.in-Some-Token.ensures c.requires) in
    subst (λ (more : BodyPart). IsLastToken (names_of c.args.self.now) (parts ++ more ∷ []) (Some c.in-Symbol.lexeme)) (sym c.in-Symbol.is)
    (token c.in-Symbol.lexeme so_far named)

pub returns-in-Some-Rule : goal.returns-in-Some-Rule
returns-in-Some-Rule c = λ parts so_far.
    let named = subst (IsNamed (names_of c.args.self.now) c.in-Symbol.lexeme) c.in-Some-Rule.field-0-is (c.in-Some-Rule.ensures c.requires) in
    subst (λ (more : BodyPart). IsLastToken (names_of c.args.self.now) (parts ++ more ∷ []) c.args.last) (sym c.in-Symbol.is)
    (rule c.in-Symbol.lexeme so_far named)
