use Rattle.std.proofs.Common.{◌≡◌, ◌∙◌, ap, sym, subst, map, List, ℕ}
use Rattle.std.specs.Prelude.{IsTrue}
use Rattle.std.proofs.lemmas.Result.{IfOk-from_err}
use Rattle.lrspec.specs.texts.Names.{has_no_repeats}
use Rattle.lrspec.proofs.texts.ResultsPassedOn.{error_passed, ok_passed, err_passed}
use Rattle.lrtext.specs.declared.parts.GrammarParts.{GrammarParts}
use Rattle.lrtext.specs.declared.reader.ReadError.{ReadError}
use Rattle.lrtext.specs.declared.reader.ReadError.TheVariants as read_error
use Rattle.lrtext.specs.StoredParts.{parts_of}
use Rattle.lrtext.specs.StoredContents.{plain_contents}
use Rattle.lrtext.specs.StoredLevels.{leveled_of, leveled_names, IsRepeat}
use Rattle.lrtext.specs.MeantParts.{numbered_parts, AreMeant, IsCauseIn}
use Rattle.lrtext.proofs.NumberedContents.{levels_are, meant, repeat_is_cause, memory_is_cause}
use Rattle.lrtext.proofs.meaning.grammar_parts.Goals as goal

-- the first name that comes again
pub returns-in_err-numbers-clause-err : goal.returns-in_err-numbers-clause-err
returns-in_err-numbers-clause-err c =
    let d = c.args.contents.now in
    let e = c.in_err-numbers.field-0.0 in
    let same = ap leveled_names c.as_slice.ensures.value ∙ levels_are d c.in_ok-leveled.leveled.items c.in_ok-leveled.ensures in
    let repeat = subst (λ (ws : List (List ℕ)). IsRepeat ws e) same c.in_err-numbers.ensures.err in
    error_passed (IsCauseIn (plain_contents d)) _ e c.from_residual-in_err-numbers.ensures.1 (repeat_is_cause (plain_contents d) e c.in_ok-refuse_unknown.ensures.ok repeat)

-- the parts that are meant
pub returns-clause-ok : goal.returns-clause-ok
returns-clause-ok c =
    let d = c.args.contents.now in
    let s = plain_contents d in
    let rules = c.in_ok-rules.rules in
    let tokens = c.in_ok-tokens.tokens in
    let levels = map leveled_of c.in_ok-leveled.leveled.items in
    let same = ap leveled_names c.as_slice.ensures.value ∙ levels_are d c.in_ok-leveled.leveled.items c.in_ok-leveled.ensures in
    let once = subst (λ (ws : List (List ℕ)). IsTrue (has_no_repeats ws)) same c.in_ok-numbers.ensures.once in
    let made : (p : GrammarParts) → parts_of p ≡ numbered_parts s rules tokens (map leveled_of c.as_slice-2.result.now) → AreMeant s (parts_of p) = λ p h. meant s rules tokens levels (parts_of p) c.in_ok-rules.ensures c.in_ok-tokens.ensures c.in_ok-leveled.ensures c.in_ok-refuse_unknown.ensures.ok once (h ∙ ap (λ ls. numbered_parts s rules tokens (map leveled_of ls)) c.as_slice-2.ensures.value) in
    ok_passed _ _ c.numbered_parts.result made c.numbered_parts.ensures.ok

-- memory was refused for the parts
pub returns-clause-err : goal.returns-clause-err
returns-clause-err c =
    let cause : (e : ReadError) → e ≡ read_error.Memory → IsCauseIn (plain_contents c.args.contents.now) e = λ e h. rw h tt in
    err_passed _ _ c.numbered_parts.result cause c.numbered_parts.ensures.err

-- what the calls require
pub refuse_unknown-requires : goal.refuse_unknown-requires
refuse_unknown-requires c = c.in_ok-rules.ensures

pub tokens-requires : goal.tokens-requires
tokens-requires c = c.in_ok-rules.ensures

pub numbered_parts-requires : goal.numbered_parts-requires
numbered_parts-requires c = c.in_ok-numbers.ensures.numbered ∙ ap leveled_names (c.as_slice.ensures.value ∙ sym c.as_slice-2.ensures.value)

-- memory was refused, or a name is unknown or comes again

pub returns-in_err-rules-clause-ok : goal.returns-in_err-rules-clause-ok
returns-in_err-rules-clause-ok c = IfOk-from_err _ _ c.from_residual.ensures.0

pub returns-in_err-rules-clause-err : goal.returns-in_err-rules-clause-err
returns-in_err-rules-clause-err c = memory_is_cause (plain_contents c.args.contents.now) _ c.from_residual.ensures.1

pub returns-in_err-refuse_unknown-clause-ok : goal.returns-in_err-refuse_unknown-clause-ok
returns-in_err-refuse_unknown-clause-ok c = IfOk-from_err _ _ c.from_residual-in_err-refuse_unknown.ensures.0

pub returns-in_err-refuse_unknown-clause-err : goal.returns-in_err-refuse_unknown-clause-err
returns-in_err-refuse_unknown-clause-err c = error_passed (IsCauseIn (plain_contents c.args.contents.now)) _ _ c.from_residual-in_err-refuse_unknown.ensures.1 c.in_err-refuse_unknown.ensures.err

pub returns-in_err-leveled-clause-ok : goal.returns-in_err-leveled-clause-ok
returns-in_err-leveled-clause-ok c = IfOk-from_err _ _ c.from_residual-in_err-leveled.ensures.0

pub returns-in_err-leveled-clause-err : goal.returns-in_err-leveled-clause-err
returns-in_err-leveled-clause-err c = memory_is_cause (plain_contents c.args.contents.now) _ c.from_residual-in_err-leveled.ensures.1

pub returns-in_err-numbers-clause-ok : goal.returns-in_err-numbers-clause-ok
returns-in_err-numbers-clause-ok c = IfOk-from_err _ _ c.from_residual-in_err-numbers.ensures.0

pub returns-in_err-tokens-clause-ok : goal.returns-in_err-tokens-clause-ok
returns-in_err-tokens-clause-ok c = IfOk-from_err _ _ c.from_residual-in_err-tokens.ensures.0

pub returns-in_err-tokens-clause-err : goal.returns-in_err-tokens-clause-err
returns-in_err-tokens-clause-err c = memory_is_cause (plain_contents c.args.contents.now) _ c.from_residual-in_err-tokens.ensures.1
