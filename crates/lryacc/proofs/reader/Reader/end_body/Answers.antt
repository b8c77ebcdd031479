use Rattle.std.proofs.Common.{◌∙◌}
use Rattle.lryacc.proofs.reader.Reader.end_body.Goals as goal

pub returns-in_ok-tell-clause-ended : goal.returns-in_ok-tell-clause-ended
returns-in_ok-tell-clause-ended c =
    let told = c.tell.ensures.stays in
    record {
      text = told.file.text;
      lexemes = told.file.lexemes;
      dialect = told.file.dialect;
      at = told.at;
      body = c.alternative-alternative.result;
      rule_is = c.alternative-alternative.ensures.rule;
      parts_are = c.alternative-alternative.ensures.parts;
      precedence_is = c.alternative-alternative.ensures.precedence;
      place = c.alternative-alternative.ensures.span;
      bodies = told.file.bodies ∙ c.in_ok-push.ensures.items;
    }
