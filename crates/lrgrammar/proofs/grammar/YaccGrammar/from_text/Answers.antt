use Rattle.lrtext.specs.StoredParts.{parts_of}
use Rattle.lrparts.specs.TextErrors.{read_refusal_of, text_error_of, IsTextError}
use Rattle.lrspec.proofs.texts.ResultsPassedOn.{error_passed}
use Rattle.lrparts.proofs.TextRefusals.{read_cause, parts_cause}
use Rattle.lrgrammar.proofs.grammar.YaccGrammar.from_text.Goals as goal

-- the text means no parts
pub returns-in_err-parts-clause-err : goal.returns-in_err-parts-clause-err
returns-in_err-parts-clause-err g c =
    let most = g.T.IndexStorage.MAX in
    let text = c.args.text.now in
    let e = c.in_err-parts.field-0.0 in
    error_passed (IsTextError most text) _ (read_refusal_of e) c.from_residual.ensures.1 (read_cause most text e c.in_err-parts.ensures.err)

-- the parts are refused
pub returns-in_err-from_parts-clause-err : goal.returns-in_err-from_parts-clause-err
returns-in_err-from_parts-clause-err g c =
    let most = g.T.IndexStorage.MAX in
    let text = c.args.text.now in
    let parts = parts_of c.in_ok-parts.parts in
    let e = c.in_err-from_parts.field-0.0 in
    error_passed (IsTextError most text) _ (text_error_of e) c.from_residual-in_err-from_parts.ensures.1 (parts_cause most text parts e c.in_ok-parts.ensures.ok c.in_err-from_parts.ensures.refused)

-- nothing stands against the parts
pub returns-clause-ok : goal.returns-clause-ok
returns-clause-ok g c =
    record {
      parts = parts_of c.in_ok-parts.parts;
      means = c.in_ok-parts.ensures.ok;
      free = c.in_ok-from_parts.ensures.free;
      grammar = c.in_ok-from_parts.ensures.made;
    }
