use Rattle.lryacc.proofs.useful.Selection.parted.Goals as goal

pub returns-clause-all : goal.returns-clause-all
returns-clause-all c = λ no_rule no_production.
    c.in_ok-productions.ensures.all (c.in_ok-useless_rules.ensures no_rule) no_production
