use Rattle.std.proofs.Common.{◌∙◌}
use Rattle.lrreport.proofs.KeptGraph.{is_some_referred}
use Rattle.lrreport.proofs.ToldTexts.{lines_tell}
use Rattle.lrreport.proofs.outputs.text_on_findings.Goals as goal

pub returns-in-Json : goal.returns-in-Json
returns-in-Json c = record {
  told =
      rw (
        c.in-Json.is,
        ← c.told_of.ensures.source,
        ← c.told_of.ensures.shown,
        ← c.told_of.ensures.evidence,
        ← c.told_of.ensures.exact,
        ← is_some_referred c.args.known.now.decided c.as_ref-decided.result c.as_ref-decided.ensures.value,
      ) c.json_of_findings.ensures;
}

pub returns-in-Summary : goal.returns-in-Summary
returns-in-Summary c =
    let told = c.told_of.ensures in
    record {
      told =
          rw (
            ← told.source,
            ← told.shown,
            ← told.exact,
            ← told.evidence,
            ← told.steps,
            ← told.hint,
            ← is_some_referred c.args.known.now.decided c.as_ref-decided.result c.as_ref-decided.ensures.value,
            ← c.in_ok-line.ensures,
            ← c.as_str.ensures.value,
            c.in-Summary.is,
          ) c.summary.ensures;
    }

pub returns : goal.returns
returns c =
    let told = c.told_of.ensures in
    record {
      told =
          rw (
            ← told.source,
            ← told.shown,
            ← told.exact,
            ← told.evidence,
            ← told.steps,
            ← told.hint,
            ← is_some_referred c.args.known.now.decided c.as_ref-decided.result c.as_ref-decided.ensures.value,
            ← c.in_ok-line.ensures,
            ← c.as_str-in_default.ensures.value,
          )
          (lines_tell c.lines.result c.args.options.output c.args.options.lines.columns _ _ c.in_default.not-Summary c.in_default.not-Json
          (λ unfolded. c.lines.ensures (told.columns ∙ unfolded)));
    }

pub line-requires-clause-yet_unambiguous : goal.line-requires-clause-yet_unambiguous
line-requires-clause-yet_unambiguous c = rw c.told_of.ensures.shown c.requires.yet_unambiguous

pub line-requires-clause-exact : goal.line-requires-clause-exact
line-requires-clause-exact c = rw c.told_of.ensures.exact c.requires.exact

pub json_of_findings-requires-clause-yet_unambiguous : goal.json_of_findings-requires-clause-yet_unambiguous
json_of_findings-requires-clause-yet_unambiguous c = rw c.told_of.ensures.shown c.requires.yet_unambiguous

pub json_of_findings-requires-clause-exact : goal.json_of_findings-requires-clause-exact
json_of_findings-requires-clause-exact c = rw c.told_of.ensures.exact c.requires.exact

pub json_of_findings-requires-clause-kept : goal.json_of_findings-requires-clause-kept
json_of_findings-requires-clause-kept c = rw c.told_of.ensures.kept c.requires.kept

pub lines-requires-clause-kept : goal.lines-requires-clause-kept
lines-requires-clause-kept c = rw c.told_of.ensures.kept c.requires.kept
