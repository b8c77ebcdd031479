use Rattle.std.proofs.Common.{◌≡◌, ◌∙◌, ℕ, List, [], ◌∷◌, IfOk, OnOk, Ok, Err, Result, Some, ap, refl, string_bytes, subst, sym}
use Rattle.std.specs.Prelude.{slice_get}
use Rattle.lryacc.specs.declared.lexemes.Lexeme.{Lexeme}
use Rattle.lryacc.specs.declared.meaning.Meaning.{Meaning}
use Rattle.lryacc.specs.declared.numbering.Numbering.{Numbering}
use Rattle.lryacc.specs.BodyProductions.{IsMarkName, IsMarkOf}
use Rattle.lryacc.specs.NamedSymbols.{name_of}
use Rattle.lryacc.specs.Numbered.{AddsNumbers, names_of}
use Rattle.lryacc.proofs.NamesOfOne.{ok-then}
use Rattle.lryacc.proofs.Numbered.{adds_none, has-more}
use Rattle.lryacc.proofs.numbering.Numbering.mark.Goals as goal

-- a token that is added by the name of a mark is the mark
mark-added : {E : Type 0} (r : Result ℕ E) (old new : Numbering) (start : Lexeme) (text : List ℕ) → OnOk r (AddsNumbers old new) → IfOk r (λ number. slice_get (names_of new).tokens number ≡ Some text) → IsMarkName (name_of (names_of old).text (names_of old).dialect start) text → IfOk r (IsMarkOf (names_of new) start)
mark-added (Ok number) old new start text adds here is = record {
  text = text;
  here = here;
  is = subst (λ (m : Meaning). IsMarkName (name_of m.symbols.text.now m.symbols.dialect start) text) (sym adds.meaning) is;
}
mark-added (Err error) old new start text adds here is = tt

pub returns-in-Some-clause-added : goal.returns-in-Some-clause-added
returns-in-Some-clause-added c = adds_none refl

pub returns-in-Some-clause-kept : goal.returns-in-Some-clause-kept
returns-in-Some-clause-kept c = λ _ _ h. h

pub returns-in-Some-clause-mark : goal.returns-in-Some-clause-mark
returns-in-Some-clause-mark c = record {
  text = string_bytes c.in_ok-name.name;
  here = c.in-Some.ensures ∙ ap Some c.as_str.ensures.value;
  is = c.in_ok-name.ensures;
}

pub returns-in-None-clause-added : goal.returns-in-None-clause-added
returns-in-None-clause-added c = c.add_token.ensures.added

pub returns-in-None-clause-kept : goal.returns-in-None-clause-kept
returns-in-None-clause-kept c =
    let tokens = (names_of c.args.self.now).tokens in
    ok-then c.add_token.result
    (λ more n x h. subst (λ (xs : List (List ℕ)). slice_get xs n ≡ Some x) (sym more) (has-more tokens (string_bytes c.in_ok-name.name ∷ []) n x h))
    c.add_token.ensures.tokens

pub returns-in-None-clause-mark : goal.returns-in-None-clause-mark
returns-in-None-clause-mark c =
    mark-added c.add_token.result c.args.self.now c.add_token.new.self c.args.start (string_bytes c.in_ok-name.name) c.add_token.ensures.added c.add_token.ensures.number c.in_ok-name.ensures
