use Rattle.std.proofs.Common.{◌≡◌, ◌∙◌, ap, map, refl}
use Rattle.std.proofs.lemmas.Result.{IfOk-from_err}
use Rattle.lrspec.specs.texts.Meaning.{token_in, production_in}
use Rattle.lrspec.proofs.texts.ResultsPassedOn.{error_passed}
use Rattle.lrtext.specs.declared.reader.ReadError.TheVariants as read_error
use Rattle.lrtext.specs.StoredContents.{alternative_of}
use Rattle.lrtext.specs.StoredParts.{token_of, part_production_of}
use Rattle.lrtext.specs.StoredLevels.{leveled_of}
use Rattle.lrtext.proofs.meaning.numbered_parts.Goals as goal

-- the parts in turn
pub returns-clause-ok : goal.returns-clause-ok
returns-clause-ok c =
    let rules = c.args.rules.now in
    let tokens = c.args.tokens.now in
    let levels = map leveled_of c.args.leveled.now in
    let named = c.in_ok-own_names.ensures ∙ c.names.ensures in
    let given = c.in_ok-part_tokens.ensures ∙ ap (map (token_in levels)) c.names-2.ensures in
    let made = c.in_ok-prods.ensures ∙ ap (λ xs. map (production_in rules tokens) (map alternative_of xs)) c.as_slice.ensures.value in
    ap (λ ns. record { rules = ns; tokens = map token_of c.in_ok-part_tokens.field-0.items; prods = map part_production_of c.in_ok-prods.field-0.items; start = c.start.result }) named
    ∙ ap (λ ts. record { rules = rules; tokens = ts; prods = map part_production_of c.in_ok-prods.field-0.items; start = c.start.result }) given
    ∙ ap (λ ps. record { rules = rules; tokens = map (token_in levels) tokens; prods = ps; start = c.start.result }) made
    ∙ ap (λ s. record { rules = rules; tokens = map (token_in levels) tokens; prods = map (production_in rules tokens) (map alternative_of c.args.contents.now.alternatives.items); start = s }) c.start.ensures

-- memory was refused

pub returns-in_err-own_names-clause-ok : goal.returns-in_err-own_names-clause-ok
returns-in_err-own_names-clause-ok c = IfOk-from_err _ _ c.from_residual.ensures.0

pub returns-in_err-own_names-clause-err : goal.returns-in_err-own_names-clause-err
returns-in_err-own_names-clause-err c = error_passed (λ e. e ≡ read_error.Memory) _ _ c.from_residual.ensures.1 refl

pub returns-in_err-part_tokens-clause-ok : goal.returns-in_err-part_tokens-clause-ok
returns-in_err-part_tokens-clause-ok c = IfOk-from_err _ _ c.from_residual-in_err-part_tokens.ensures.0

pub returns-in_err-part_tokens-clause-err : goal.returns-in_err-part_tokens-clause-err
returns-in_err-part_tokens-clause-err c = error_passed (λ e. e ≡ read_error.Memory) _ _ c.from_residual-in_err-part_tokens.ensures.1 refl

pub returns-in_err-prods-clause-ok : goal.returns-in_err-prods-clause-ok
returns-in_err-prods-clause-ok c = IfOk-from_err _ _ c.from_residual-in_err-prods.ensures.0

pub returns-in_err-prods-clause-err : goal.returns-in_err-prods-clause-err
returns-in_err-prods-clause-err c = error_passed (λ e. e ≡ read_error.Memory) _ _ c.from_residual-in_err-prods.ensures.1 refl
