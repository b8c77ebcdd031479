use Rattle.std.proofs.Common.{◌≡◌, ◌∙◌, [], ◌∷◌, Some, ap, sym}
use Rattle.lryacc.specs.declared.contents.Statement.TheVariants as says
use Rattle.lryacc.specs.declared.directives.Form.{Form}
use Rattle.lryacc.specs.declared.directives.Form.TheVariants as form
use Rattle.lryacc.specs.Bodies.{delimiters_read}
use Rattle.lryacc.specs.DeclarationsRead.{StatesDeclared}
use Rattle.lryacc.proofs.DeclarationsRead.{count-directive, directive-some, form-stays, on-ok-always, states, stays-stated, tail-declared, tail-directive, tail-stated, tail-when, takes-kind}
use Rattle.lryacc.specs.Declarations.{symbol_declares}
use Rattle.lryacc.specs.DeclarationsRead.{all_stated}
use Rattle.lryacc.specs.declared.lexemes.LexemeKind.TheVariants as kind
use Rattle.lryacc.proofs.reader.Reader.grmtools_declaration.Goals as goal

pub said-requires-clause-by : goal.said-requires-clause-by
said-requires-clause-by c = (directive-some c.form.result form.TokenNames (c.in-Some-TokenNames.is ∙ ap (λ (f : Form). Some f) c.in-Some-TokenNames.field-0-is) c.form.ensures c.in-Some.ensures.taken c.take.ensures.statements).1

pub returns-in-Some-TokenNames-clause-said : goal.returns-in-Some-TokenNames-clause-said
returns-in-Some-TokenNames-clause-said c =
    on-ok-always c.said.result (StatesDeclared c.args.self.now c.said.new.self) (delimiters_read c.args.self.now ≡ 0)
    (tail-declared c.args.self.now c.take.new.self c.said.new.self c.said.result (directive-some c.form.result form.TokenNames (c.in-Some-TokenNames.is ∙ ap (λ (f : Form). Some f) c.in-Some-TokenNames.field-0-is) c.form.ensures c.in-Some.ensures.taken c.take.ensures.statements).0 c.said.ensures.said)

pub said-requires-in-Some-PassedOver-clause-by : goal.said-requires-in-Some-PassedOver-clause-by
said-requires-in-Some-PassedOver-clause-by c = (directive-some c.form.result form.PassedOver (c.in-Some-PassedOver.is ∙ ap (λ (f : Form). Some f) c.in-Some-PassedOver.field-0-is) c.form.ensures c.in-Some.ensures.taken c.take.ensures.statements).1

pub returns-in-Some-PassedOver-clause-said : goal.returns-in-Some-PassedOver-clause-said
returns-in-Some-PassedOver-clause-said c =
    on-ok-always c.said-in-Some-PassedOver.result (StatesDeclared c.args.self.now c.said-in-Some-PassedOver.new.self) (delimiters_read c.args.self.now ≡ 0)
    (tail-declared c.args.self.now c.take.new.self c.said-in-Some-PassedOver.new.self c.said-in-Some-PassedOver.result (directive-some c.form.result form.PassedOver (c.in-Some-PassedOver.is ∙ ap (λ (f : Form). Some f) c.in-Some-PassedOver.field-0-is) c.form.ensures c.in-Some.ensures.taken c.take.ensures.statements).0 c.said-in-Some-PassedOver.ensures.said)

pub said-requires-in-Some-NotInRules-clause-by : goal.said-requires-in-Some-NotInRules-clause-by
said-requires-in-Some-NotInRules-clause-by c = (directive-some c.form.result form.NotInRules (c.in-Some-NotInRules.is ∙ ap (λ (f : Form). Some f) c.in-Some-NotInRules.field-0-is) c.form.ensures c.in-Some.ensures.taken c.take.ensures.statements).1

pub returns-in-Some-NotInRules-clause-said : goal.returns-in-Some-NotInRules-clause-said
returns-in-Some-NotInRules-clause-said c =
    on-ok-always c.said-in-Some-NotInRules.result (StatesDeclared c.args.self.now c.said-in-Some-NotInRules.new.self) (delimiters_read c.args.self.now ≡ 0)
    (tail-declared c.args.self.now c.take.new.self c.said-in-Some-NotInRules.new.self c.said-in-Some-NotInRules.result (directive-some c.form.result form.NotInRules (c.in-Some-NotInRules.is ∙ ap (λ (f : Form). Some f) c.in-Some-NotInRules.field-0-is) c.form.ensures c.in-Some.ensures.taken c.take.ensures.statements).0 c.said-in-Some-NotInRules.ensures.said)

pub shown_text-requires : goal.shown_text-requires
shown_text-requires c = (directive-some c.form.result form.ShownText (c.in-Some-ShownText.is ∙ ap (λ (f : Form). Some f) c.in-Some-ShownText.field-0-is) c.form.ensures c.in-Some.ensures.taken c.take.ensures.statements).1

pub returns-in-Some-ShownText-clause-said : goal.returns-in-Some-ShownText-clause-said
returns-in-Some-ShownText-clause-said c =
    on-ok-always c.shown_text.result (StatesDeclared c.args.self.now c.shown_text.new.self) (delimiters_read c.args.self.now ≡ 0)
    (tail-declared c.args.self.now c.take.new.self c.shown_text.new.self c.shown_text.result (directive-some c.form.result form.ShownText (c.in-Some-ShownText.is ∙ ap (λ (f : Form). Some f) c.in-Some-ShownText.field-0-is) c.form.ensures c.in-Some.ensures.taken c.take.ensures.statements).0 c.shown_text.ensures.said)

pub said-requires-in-Some-Level-clause-by : goal.said-requires-in-Some-Level-clause-by
said-requires-in-Some-Level-clause-by c = (c.in-Some-Level.kind, form-stays c.state.ensures.stays ∙ (directive-some c.form.result (form.Level c.in-Some-Level.kind) (c.in-Some-Level.is ∙ ap (λ (f : Form). Some f) c.in-Some-Level.field-0-is) c.form.ensures c.in-Some.ensures.taken c.take.ensures.statements).1)

pub returns-in_ok-state-in-Some-Level-clause-said : goal.returns-in_ok-state-in-Some-Level-clause-said
returns-in_ok-state-in-Some-Level-clause-said c =
    let level = says.Level c.in-Some-Level.kind in
    let new = c.said-in-Some-Level.new.self in
    on-ok-always c.said-in-Some-Level.result (StatesDeclared c.args.self.now new) (delimiters_read c.args.self.now ≡ 0)
    (tail-directive c.args.self.now c.take.new.self new c.said-in-Some-Level.result (level ∷ []) (directive-some c.form.result (form.Level c.in-Some-Level.kind) (c.in-Some-Level.is ∙ ap (λ (f : Form). Some f) c.in-Some-Level.field-0-is) c.form.ensures c.in-Some.ensures.taken c.take.ensures.statements).0
    (tail-stated c.take.new.self c.state.new.self new c.said-in-Some-Level.result (level ∷ []) (states level c.state.ensures.stays c.in_ok-state-in-Some-Level.ensures.stated) c.said-in-Some-Level.ensures.said))

pub returns-in_ok-state-in-Some-Starts-clause-said : goal.returns-in_ok-state-in-Some-Starts-clause-said
returns-in_ok-state-in-Some-Starts-clause-said c = λ none.
    let name = c.in_ok-name-in-Some-Starts.name in
    let directive = (directive-some c.form.result form.Starts (c.in-Some-Starts.is ∙ ap (λ (f : Form). Some f) c.in-Some-Starts.field-0-is) c.form.ensures c.in-Some.ensures.taken c.take.ensures.statements) in
    let form = form-stays c.once.ensures.stays ∙ directive.1 in
    let taken = takes-kind kind.Name c.in_ok-name-in-Some-Starts.ensures.taken c.want.ensures.statements ∙ ap (λ (f : Form). all_stated c.want.new.self (symbol_declares f name)) form in
    states (says.Start name) c.state-in-Some-Starts.ensures.stays c.in_ok-state-in-Some-Starts.ensures.stated
    ∙ (sym taken ∙ (stays-stated [] c.once.ensures.stays c.once.ensures.statements ∙ directive.0))

pub expected-requires : goal.expected-requires
expected-requires c = form-stays c.once-in-Some-ShiftReduce.ensures.stays ∙ (directive-some c.form.result form.ShiftReduce (c.in-Some-ShiftReduce.is ∙ ap (λ (f : Form). Some f) c.in-Some-ShiftReduce.field-0-is) c.form.ensures c.in-Some.ensures.taken c.take.ensures.statements).1

pub returns-in_ok-once-in-Some-ShiftReduce-clause-said : goal.returns-in_ok-once-in-Some-ShiftReduce-clause-said
returns-in_ok-once-in-Some-ShiftReduce-clause-said c =
    tail-when c.args.self.now c.once-in-Some-ShiftReduce.new.self c.expected.new.self c.expected.result (delimiters_read c.once-in-Some-ShiftReduce.new.self ≡ 0) (delimiters_read c.args.self.now ≡ 0)
    (λ none. c.once-in-Some-ShiftReduce.ensures.stays.count ∙ count-directive c.in-Some.ensures.taken none)
    (stays-stated [] c.once-in-Some-ShiftReduce.ensures.stays c.once-in-Some-ShiftReduce.ensures.statements ∙ (directive-some c.form.result form.ShiftReduce (c.in-Some-ShiftReduce.is ∙ ap (λ (f : Form). Some f) c.in-Some-ShiftReduce.field-0-is) c.form.ensures c.in-Some.ensures.taken c.take.ensures.statements).0) c.expected.ensures.said

pub expected-requires-in-Some-ReduceReduce : goal.expected-requires-in-Some-ReduceReduce
expected-requires-in-Some-ReduceReduce c = form-stays c.once-in-Some-ReduceReduce.ensures.stays ∙ (directive-some c.form.result form.ReduceReduce (c.in-Some-ReduceReduce.is ∙ ap (λ (f : Form). Some f) c.in-Some-ReduceReduce.field-0-is) c.form.ensures c.in-Some.ensures.taken c.take.ensures.statements).1

pub returns-in_ok-once-in-Some-ReduceReduce-clause-said : goal.returns-in_ok-once-in-Some-ReduceReduce-clause-said
returns-in_ok-once-in-Some-ReduceReduce-clause-said c =
    tail-when c.args.self.now c.once-in-Some-ReduceReduce.new.self c.expected-in-Some-ReduceReduce.new.self c.expected-in-Some-ReduceReduce.result (delimiters_read c.once-in-Some-ReduceReduce.new.self ≡ 0) (delimiters_read c.args.self.now ≡ 0)
    (λ none. c.once-in-Some-ReduceReduce.ensures.stays.count ∙ count-directive c.in-Some.ensures.taken none)
    (stays-stated [] c.once-in-Some-ReduceReduce.ensures.stays c.once-in-Some-ReduceReduce.ensures.statements ∙ (directive-some c.form.result form.ReduceReduce (c.in-Some-ReduceReduce.is ∙ ap (λ (f : Form). Some f) c.in-Some-ReduceReduce.field-0-is) c.form.ensures c.in-Some.ensures.taken c.take.ensures.statements).0) c.expected-in-Some-ReduceReduce.ensures.said
