use Rattle.std.proofs.Common.{◌∙◌, ap, sym, List, ℕ, Some}
use Rattle.std.specs.Option.{option_map}
use denote.Ref.{Bor}
use Rattle.std.proofs.lemmas.Result.{IfOk-from_err}
use Rattle.lrtext.specs.StoredContents.{plain_contents}
use Rattle.lrtext.proofs.BodySteps.{empty_by_first}
use Rattle.lrtext.proofs.NumberedContents.{memory_is_cause}
use Rattle.lrtext.proofs.meaning.refuse_unknown.Goals as goal

-- the first unknown name
pub returns-in-Some-clause-err : goal.returns-in-Some-clause-err
returns-in-Some-clause-err c = sym c.first_unknown.ensures ∙ ap (option_map (λ (w : Bor (List ℕ)). w.now)) c.in-Some.is ∙ ap (λ w. Some w) (sym c.in_ok-from_str-in-Some.ensures.ok)

-- no name is unknown
pub returns-clause-ok : goal.returns-clause-ok
returns-clause-ok c = empty_by_first _ (sym c.first_unknown.ensures ∙ ap (option_map (λ (w : Bor (List ℕ)). w.now)) c.in-None.is)

-- what the call requires
pub first_unknown-requires : goal.first_unknown-requires
first_unknown-requires c = record { rules = c.requires; declared = c.in_ok-declared.ensures }

-- memory was refused

pub returns-in_err-declared-clause-ok : goal.returns-in_err-declared-clause-ok
returns-in_err-declared-clause-ok c = IfOk-from_err _ _ c.from_residual.ensures.0

pub returns-in_err-declared-clause-err : goal.returns-in_err-declared-clause-err
returns-in_err-declared-clause-err c = memory_is_cause (plain_contents c.args.contents.now) _ c.from_residual.ensures.1

pub returns-in_err-from_str-in-Some-clause-ok : goal.returns-in_err-from_str-in-Some-clause-ok
returns-in_err-from_str-in-Some-clause-ok c = IfOk-from_err _ _ c.from_residual-in_err-from_str-in-Some.ensures.0

pub returns-in_err-from_str-in-Some-clause-err : goal.returns-in_err-from_str-in-Some-clause-err
returns-in_err-from_str-in-Some-clause-err c = memory_is_cause (plain_contents c.args.contents.now) _ c.from_residual-in_err-from_str-in-Some.ensures.1
