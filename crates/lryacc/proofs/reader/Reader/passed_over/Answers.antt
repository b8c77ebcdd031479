use Rattle.std.proofs.Common.{◌≡◌, ◌∙◌, [], ap, refl}
use Rattle.lryacc.specs.declared.directives.Form.{Form}
use Rattle.lryacc.specs.declared.lexemes.LexemeKind.TheVariants as kind
use Rattle.lryacc.specs.Bodies.{SkipsKind}
use Rattle.lryacc.specs.Declarations.{directive_declares}
use Rattle.lryacc.specs.DeclarationsRead.{StatesDeclared}
use Rattle.lryacc.specs.Directives.{counted}
use Rattle.lryacc.proofs.AllBodiesRead.{on_ok, on_ok_map}
use Rattle.lryacc.proofs.DeclarationsRead.{nothing-skipped, nothing-skips, tail-declared}
use Rattle.lryacc.proofs.reader.Reader.passed_over.Goals as goal

pub skip_value-requires : goal.skip_value-requires
skip_value-requires c =
    let none = c.requires ∙ ap counted c.in-Definition.is in
    (nothing-skipped kind.Name refl none c.in_ok-pass_wanted-in-Definition.ensures.taken c.pass_wanted.ensures.statements).form ∙ none

pub returns-in_ok-pass_wanted-in-Definition-clause-said : goal.returns-in_ok-pass_wanted-in-Definition-clause-said
returns-in_ok-pass_wanted-in-Definition-clause-said c =
    let none = c.requires ∙ ap counted c.in-Definition.is in
    c.skip_value.ensures.said ∙ (nothing-skipped kind.Name refl none c.in_ok-pass_wanted-in-Definition.ensures.taken c.pass_wanted.ensures.statements).declared

pub returns-in_ok-pass_wanted-in-Definition-clause-none : goal.returns-in_ok-pass_wanted-in-Definition-clause-none
returns-in_ok-pass_wanted-in-Definition-clause-none c = ap (λ (f : Form). directive_declares (counted f)) c.in-Definition.is

pub returns-in-NamedCode-clause-said : goal.returns-in-NamedCode-clause-said
returns-in-NamedCode-clause-said c =
    tail-declared c.args.self.now c.skip.new.self c.codes.new.self c.codes.result
    (nothing-skips kind.Name refl (c.requires ∙ ap counted c.in-NamedCode.is) c.skip.result c.skip.ensures.skipped c.skip.ensures.statements).declared
    c.codes.ensures.said

pub returns-in-OptionalText-clause-said : goal.returns-in-OptionalText-clause-said
returns-in-OptionalText-clause-said c =
    let none = c.requires ∙ ap counted c.in-OptionalText.is in
    (nothing-skips kind.Text refl none c.skip-in-OptionalText.result c.skip-in-OptionalText.ensures.skipped c.skip-in-OptionalText.ensures.statements).declared

pub returns-in-Text-clause-said : goal.returns-in-Text-clause-said
returns-in-Text-clause-said c =
    let none = c.requires ∙ ap counted c.in-Text.is in
    let one = nothing-skips kind.Equals refl none c.skip-in-Text.result c.skip-in-Text.ensures.skipped c.skip-in-Text.ensures.statements in
    on_ok_map c.pass_wanted-in-Text.result (SkipsKind c.skip-in-Text.new.self c.pass_wanted-in-Text.new.self kind.Text) (StatesDeclared c.args.self.now c.pass_wanted-in-Text.new.self)
    (λ skips. (nothing-skipped kind.Text refl (one.form ∙ none) skips c.pass_wanted-in-Text.ensures.statements).declared ∙ one.declared)
    c.pass_wanted-in-Text.ensures.taken

pub returns-in-CodeForSymbols-clause-none : goal.returns-in-CodeForSymbols-clause-none
returns-in-CodeForSymbols-clause-none c =
    on_ok c.code_for_symbols.result (directive_declares (counted c.args.form) ≡ []) (ap (λ (f : Form). directive_declares (counted f)) c.in-CodeForSymbols.is)

pub returns-in-NamedCode-clause-none : goal.returns-in-NamedCode-clause-none
returns-in-NamedCode-clause-none c =
    on_ok c.codes.result (directive_declares (counted c.args.form) ≡ []) (ap (λ (f : Form). directive_declares (counted f)) c.in-NamedCode.is)

pub returns-in-Code-clause-none : goal.returns-in-Code-clause-none
returns-in-Code-clause-none c =
    on_ok c.codes-in-Code.result (directive_declares (counted c.args.form) ≡ []) (ap (λ (f : Form). directive_declares (counted f)) c.in-Code.is)

pub returns-in-Codes-clause-none : goal.returns-in-Codes-clause-none
returns-in-Codes-clause-none c =
    on_ok c.codes-in-Codes.result (directive_declares (counted c.args.form) ≡ []) (ap (λ (f : Form). directive_declares (counted f)) c.in-Codes.is)

pub returns-in-Text-clause-none : goal.returns-in-Text-clause-none
returns-in-Text-clause-none c =
    on_ok c.pass_wanted-in-Text.result (directive_declares (counted c.args.form) ≡ []) (ap (λ (f : Form). directive_declares (counted f)) c.in-Text.is)

pub returns-in-OptionalText-clause-none : goal.returns-in-OptionalText-clause-none
returns-in-OptionalText-clause-none c = ap (λ (f : Form). directive_declares (counted f)) c.in-OptionalText.is
