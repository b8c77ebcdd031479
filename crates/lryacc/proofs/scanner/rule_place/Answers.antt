use Rattle.std.proofs.Common.{arith, sym, ◌∙◌}
use Rattle.lryacc.proofs.RuleNames.{at_last, before_last, none_before, none_between}
use Rattle.lryacc.proofs.scanner.rule_place.Goals as goal
use Rattle.lryacc.proofs.scanner.rule_place.Goals.{else-is_name-2-via-then-is_name-2+else-may_stand_between, else-is_name-2-via-else-is_name-2}

pub returns-then-is_name-clause-named : goal.returns-then-is_name-clause-named
returns-then-is_name-clause-named c = λ other.
    at_last c.args.lexemes.now c.in_ok-last.last _ other (omega arith) (sym c.is_name.ensures ∙ c.if-is_name.true)

pub returns-then-may_stand_between-clause-named : goal.returns-then-may_stand_between-clause-named
returns-then-may_stand_between-clause-named c = λ other.
    before_last c.args.lexemes.now c.in_ok-one.one c.in_ok-last.last _ _ other (omega arith) (omega arith)
    (sym c.is_name-2.ensures ∙ c.if-is_name-2.true)
    (sym c.may_stand_between.ensures ∙ c.if-may_stand_between.true)

pub returns-clause-named : goal.returns-clause-named
returns-clause-named c =
    elim c.else-is_name-2.branch [
      | else-is_name-2-via-then-is_name-2+else-may_stand_between w ↦
          none_between c.args.lexemes.now c.in_ok-one.one c.in_ok-last.last _ _ (omega arith) (omega arith)
          (sym c.is_name.ensures ∙ c.if-is_name.false)
          (sym w.may_stand_between.ensures ∙ w.if-may_stand_between.false)
      | else-is_name-2-via-else-is_name-2 w ↦
          none_before c.args.lexemes.now c.in_ok-one.one c.in_ok-last.last _ _ (omega arith) (omega arith)
          (sym c.is_name.ensures ∙ c.if-is_name.false)
          (sym c.is_name-2.ensures ∙ w.if-is_name-2.false)
    ]
