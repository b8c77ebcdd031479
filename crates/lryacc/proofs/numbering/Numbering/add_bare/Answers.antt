use Rattle.std.proofs.Common.{◌≡◌, Contains, subst}
use Rattle.lryacc.specs.declared.lexemes.Lexeme.{Lexeme}
use Rattle.lryacc.specs.NamedSymbols.IsRule.{declared, start}
use Rattle.lryacc.specs.Numbered.{HasRule}
use Rattle.lryacc.proofs.NamesOfOne.{ok-then}
use Rattle.lryacc.proofs.numbering.Numbering.add_bare.Goals as goal

pub add_rule_of-requires : goal.add_rule_of-requires
add_rule_of-requires c = λ number e.
    declared c.in-Rule.name (subst (Contains c.args.self.now.contents.now.statements.items) c.in-Rule.is c.requires) e

pub add_rule_of-requires-in-Some-named : goal.add_rule_of-requires-in-Some-named
add_rule_of-requires-in-Some-named c = λ number e.
    start c.in-Start.name (subst (Contains c.args.self.now.contents.now.statements.items) c.in-Start.is c.requires) e

pub returns-after-named-clause-has : goal.returns-after-named-clause-has
returns-after-named-clause-has c =
    ok-then c.add_rule_of.result
    (λ has lexeme is.
    let same : c.in-Rule.name ≡ lexeme = cc in
    subst (λ (l : Lexeme). HasRule c.add_rule_of.new.self l) same has)
    c.add_rule_of.ensures.has

pub returns-in-Some-named-clause-has : goal.returns-in-Some-named-clause-has
returns-in-Some-named-clause-has c =
    ok-then c.add_rule_of-in-Some-named.result (λ _ lexeme is. absurd (cc)) c.add_rule_of-in-Some-named.ensures.added
