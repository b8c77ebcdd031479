use Rattle.lrtext.specs.StoredParts.{parts_of}
use Rattle.lrtext.specs.StoredContents.{plain_contents}
use Rattle.lrtext.specs.declared.parts.GrammarParts.{GrammarParts}
use Rattle.lrtext.specs.MeantParts.{AreMeant, IsCauseIn}
use Rattle.lrspec.specs.texts.Meaning.{Means}
use Rattle.lrtext.specs.ReadErrors.{IsReadError}
use Rattle.lrspec.proofs.texts.ResultsPassedOn.{error_passed, ok_passed, err_passed}
use Rattle.lrtext.proofs.TextCauses.{read_cause, contents_cause, contents_mean}
use Rattle.lrtext.proofs.reader.read_parts.Goals as goal

-- the text is no document
pub returns-in_err-contents-clause-err : goal.returns-in_err-contents-clause-err
returns-in_err-contents-clause-err c =
    let text = c.args.text.now in
    let e = c.in_err-contents.field-0.0 in
    error_passed (IsReadError text) _ e c.from_residual.ensures.1 (read_cause text e c.in_err-contents.ensures.err)

-- what the document means is what its text means
pub returns-clause-ok : goal.returns-clause-ok
returns-clause-ok c =
    let text = c.args.text.now in
    let s = plain_contents c.in_ok-contents.contents in
    ok_passed (λ (p : GrammarParts). AreMeant s (parts_of p)) (λ p. Means text (parts_of p)) _ (λ p. contents_mean text s (parts_of p) c.in_ok-contents.ensures.ok) c.grammar_parts.ensures.ok

-- a name is unknown or repeated
pub returns-clause-err : goal.returns-clause-err
returns-clause-err c =
    let text = c.args.text.now in
    let s = plain_contents c.in_ok-contents.contents in
    err_passed (IsCauseIn s) (IsReadError text) _ (λ e. contents_cause text s e c.in_ok-contents.ensures.ok) c.grammar_parts.ensures.err
