use Rattle.std.proofs.Common.{ℕ, Option, Some, subst, sym}
use Rattle.lryacc.specs.declared.lexemes.Lexeme.{Lexeme}
use Rattle.lryacc.specs.BodyPrecedences.{IsBelowOf, IsPrecedence}
use Rattle.lryacc.specs.BodyPrecedences.IsPrecedenceBy.{below, itself}
use Rattle.lryacc.specs.Numbered.{names_of}
use Rattle.lryacc.proofs.numbering.Numbering.named_precedence.Goals as goal

pub returns-in-Some-default : goal.returns-in-Some-default
returns-in-Some-default c =
    let names = names_of c.args.self.now in
    let parts = c.args.alternative.now.parts.items in
    let is = below (subst (λ (found : Option ℕ). IsBelowOf names c.in-Some.name found) c.in-Some-default.is-0 c.in_ok-below.ensures) in
    subst (λ (precedence : Option Lexeme). IsPrecedence names precedence parts (Some c.in-Some-default.below)) (sym c.in-Some.is) is

pub returns-in-None-Some : goal.returns-in-None-Some
returns-in-None-Some c =
    let names = names_of c.args.self.now in
    let parts = c.args.alternative.now.parts.items in
    let is = itself (c.in-None-Some.ensures c.requires.numbered)
    (subst (λ (found : Option ℕ). IsBelowOf names c.in-Some.name found) c.in-None-Some.is-0 c.in_ok-below.ensures) in
    subst (λ (precedence : Option Lexeme). IsPrecedence names precedence parts (Some c.in-None-Some.token)) (sym c.in-Some.is) is
