use Rattle.std.proofs.Common.{◌∙◌, ap, inl, inr, refl}
use Rattle.lryacc.specs.declared.contents.Statement.TheVariants as says
use Rattle.lryacc.specs.declared.declarations.Said.TheVariants as said
use Rattle.lryacc.specs.DeclarationsRead.{all_stated, form_here, is_of_codes, is_of_names}
use Rattle.lryacc.proofs.DeclarationsRead.{behind-stays, form-stays, listed-none, said-as, said-still, states, tail-other}
use Rattle.lryacc.proofs.NamesOfOne.{ok-then}
use Rattle.lryacc.proofs.reader.Reader.say.Goals as goal

pub code_and_alias-requires-clause-names : goal.code_and_alias-requires-clause-names
code_and_alias-requires-clause-names c =
    let is = said-still c.args.said (form-stays c.state.ensures.stays) c.requires.by in
    elim c.in-DeclaredToken.is [
      | inl e ↦ ap is_of_names (said-as said.DeclaredToken (form_here c.state.new.self) e is)
      | inr e ↦ ap is_of_names (said-as said.DeclaredRule (form_here c.state.new.self) e is)
    ]

pub code_and_alias-requires-clause-behind : goal.code_and_alias-requires-clause-behind
code_and_alias-requires-clause-behind c = behind-stays c.state.ensures.stays ∙ c.requires.behind

pub code-requires-clause-codes : goal.code-requires-clause-codes
code-requires-clause-codes c =
    let is = said-still c.args.said (form-stays c.state.ensures.stays) c.requires.by in
    ap is_of_codes (said-as said.Operator (form_here c.state.new.self) c.in-Operator.is is).1

pub code-requires-clause-behind : goal.code-requires-clause-behind
code-requires-clause-behind c = behind-stays c.state.ensures.stays ∙ c.requires.behind

pub returns-in-DeclaredToken-clause-said : goal.returns-in-DeclaredToken-clause-said
returns-in-DeclaredToken-clause-said c =
    let first = states c.of.result c.state.ensures.stays c.in_ok-state.ensures.stated ∙ ap (all_stated c.args.self.now) c.of.ensures in
    ok-then c.code_and_alias.result (λ listed. listed.declared ∙ first) c.code_and_alias.ensures.listed

pub returns-in-DeclaredToken-clause-form : goal.returns-in-DeclaredToken-clause-form
returns-in-DeclaredToken-clause-form c = ok-then c.code_and_alias.result (λ listed. listed.form ∙ form-stays c.state.ensures.stays) c.code_and_alias.ensures.listed

pub returns-in-Operator-clause-said : goal.returns-in-Operator-clause-said
returns-in-Operator-clause-said c =
    let first = states c.of.result c.state.ensures.stays c.in_ok-state.ensures.stated ∙ ap (all_stated c.args.self.now) c.of.ensures in
    ok-then c.code.result (λ listed. listed.declared ∙ first) c.code.ensures.listed

pub returns-in-Operator-clause-form : goal.returns-in-Operator-clause-form
returns-in-Operator-clause-form c = ok-then c.code.result (λ listed. listed.form ∙ form-stays c.state.ensures.stays) c.code.ensures.listed

pub returns-in-PassedOver-clause-said : goal.returns-in-PassedOver-clause-said
returns-in-PassedOver-clause-said c =
    let first = states c.of.result c.state.ensures.stays c.in_ok-state.ensures.stated ∙ ap (all_stated c.args.self.now) c.of.ensures in
    let last = c.state-in-PassedOver in
    ok-then last.result (λ listed. listed.declared ∙ first)
    (tail-other last.result (says.NotInRules c.args.symbol) refl last.ensures.stays last.ensures.stated (listed-none c.state.new.self))

pub returns-in-PassedOver-clause-form : goal.returns-in-PassedOver-clause-form
returns-in-PassedOver-clause-form c =
    let last = c.state-in-PassedOver in
    ok-then last.result (λ listed. listed.form ∙ form-stays c.state.ensures.stays)
    (tail-other last.result (says.NotInRules c.args.symbol) refl last.ensures.stays last.ensures.stated (listed-none c.state.new.self))

pub returns-in_default-clause-said : goal.returns-in_default-clause-said
returns-in_default-clause-said c =
    states c.of.result c.state.ensures.stays c.in_ok-state.ensures.stated ∙ ap (all_stated c.args.self.now) c.of.ensures

pub returns-in_default-clause-form : goal.returns-in_default-clause-form
returns-in_default-clause-form c = form-stays c.state.ensures.stays

pub returns-in_default-2-clause-said : goal.returns-in_default-2-clause-said
returns-in_default-2-clause-said c =
    states c.of.result c.state.ensures.stays c.in_ok-state.ensures.stated ∙ ap (all_stated c.args.self.now) c.of.ensures
